use Rattle.std.proofs.Common.{sym}
use Rattle.uni_base.specs.RankOrder.{doc_cmp}
use Rattle.uni_base.proofs.RankedLemmas.{doc_total}
use Rattle.layer_base.proofs.Sorted.{parted}
use Rattle.layer_stack.proofs.Held.{key_held, key_missed, keys_rise}
use Rattle.layer_stack.proofs.part.holds.Goals as goal

pub returns-in-Ok : goal.returns-in-Ok
returns-in-Ok c =
    let found = c.in-Ok.ensures {u = tt} in
    sym (key_held c.args.keys.now c.args.key.now c.in-Ok.field-0 c.args.key.now found.bound (found.ok c.args.key.now))

pub returns-in-Err : goal.returns-in-Err
returns-in-Err c =
    let missed = c.in-Err.ensures {u = tt} in
    let key = c.args.key.now in let keys = c.args.keys.now in
    sym (key_missed keys key (parted doc_cmp doc_total (λ x. x) key keys c.in-Err.field-0 (missed.position (keys_rise keys key c.requires))))
