use Rattle.std.proofs.Common.{rules, ◌≡◌, sym}
use Rattle.std.specs.declared.cmp.Ordering.{Ordering}
use Rattle.std.specs.declared.cmp.Ordering.TheVariants.{Less, Greater}
use Rattle.std.specs.List.Sorted.{IsPartitionPoint}
use Rattle.std.proofs.lemmas.Fn.{always_returns_same}
use Rattle.layer_base.proofs.Sorted.{find_at, find_none, parted, rises_about, sorted_at}
use Rattle.layer_base.proofs.log.look_up.Goals as goal

pub returns-in-Ok : goal.returns-in-Ok
returns-in-Ok g c =
    let R = g.K.Ord.cmp in
    let ord : g.row.K.Denot × g.row.V.Denot → Ordering = λ e. R e.0 c.args.key.now in
    let computes = always_returns_same _ (λ a r. r ≡ ord a.0.now) _ (λ a r f k. search rules) in
    let same = (c.in-Ok.ensures {u = tt}).position ord computes in
    sym (find_at R g.met.K.Ord.total c.args.key.now c.args.rows.now c.in-Ok.i c.index-rows-i.result c.requires.sorted (c.in-Ok.ensures {u = tt}).bound (same c.index-rows-i.result))

pub returns-in-Err : goal.returns-in-Err
returns-in-Err g c =
    let R = g.K.Ord.cmp in let q = c.args.key.now in
    let ord : g.row.K.Denot × g.row.V.Denot → Ordering = λ e. R e.0 q in
    let computes = always_returns_same _ (λ a r. r ≡ ord a.0.now) _ (λ a r f k. search rules) in
    let parts : IsPartitionPoint (λ e. ord e ≡ Less) (λ e. ord e ≡ Greater) c.args.rows.now c.in-Err.field-0 =
    (c.in-Err.ensures {u = tt}).position ord computes (rises_about R g.met.K.Ord.total (λ e. e.0) q c.args.rows.now (λ i j d less fits. sorted_at R c.args.rows.now i j d c.requires.sorted less fits)) in
    sym (find_none R g.met.K.Ord.total q c.args.rows.now (parted R g.met.K.Ord.total (λ e. e.0) q c.args.rows.now c.in-Err.field-0 parts))
