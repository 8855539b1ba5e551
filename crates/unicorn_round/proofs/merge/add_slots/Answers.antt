use Rattle.std.proofs.Common.{rules, ◌≡◌, ◌∷◌, [], length, option_to_list, sym, ◌∙◌, append-nil, append_assoc}
use Rattle.std.proofs.lemmas.List.{map-id}
use Rattle.std.proofs.lemmas.Iterator.Adapters.{YieldsList-from_vec}
use Rattle.std.proofs.lemmas.Iterator.Consumers.{YieldsList-end}
use Rattle.std.specs.Vec.{vec_len}
use Rattle.unicorn_round.specs.Queues.{answers_at, shown_by}
use Rattle.unicorn_round.specs.Weaving.{merged}
use Rattle.unicorn_round.proofs.Queues.{answers_more}
use Rattle.unicorn_round.proofs.merge.add_slots.Goals as goal

pub loop-slot-preserved : goal.loop-slot-preserved
loop-slot-preserved c = λ rest is.
    let queues = c.next-in-loop-slot.new.self in let old = c.loop-slot.queues in let shown = shown_by c.args.made c.args.stacks.now in
    answers_more c.loop-slot.told.items c.add.new.told.items (option_to_list c.in_ok-answer.answer)
    (merged shown rest queues.fed (answers_at queues.asked) queues.compacted) (merged shown (c.in-Some.slot ∷ rest) old.fed (answers_at old.asked) old.compacted)
    (c.in_ok-add.ensures {u = tt}) (c.in_ok-answer.ensures {u = tt} rest)
    ∙ c.loop-slot.invariant (c.in-Some.slot ∷ rest) (is ∙ append_assoc c.loop-slot.yielded (c.in-Some.slot ∷ []) rest)

pub returns : goal.returns
returns c =
    let long : vec_len c.args.slots ≡ length c.args.slots.items = search rules in
    let gives = c.into_iter-slot-iterator.ensures.into_iter_gives in
    let all = YieldsList-end (YieldsList-from_vec {s = c.into_iter-slot-iterator.result} c.args.slots.items gives.0 (gives.1 ∙ long)) c.loop-slot.yielded c.loop-slot.slot-iterator c.loop-slot.yielded_by _ c.next.new.self c.in-None.is c.next.ensures.steps in
    sym (append-nil c.loop-slot.told.items) ∙ c.loop-slot.invariant [] (sym (sym (map-id c.loop-slot.yielded) ∙ all.0) ∙ sym (append-nil c.loop-slot.yielded))
