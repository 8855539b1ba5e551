use Rattle.std.proofs.Common.{rules, ◌≡◌, ◌++◌, ◌∷◌, [], None, Some, ap, ◌∙◌, sym, length, append-nil}
use Rattle.std.proofs.lemmas.List.{map-id}
use Rattle.std.proofs.lemmas.Iterator.Adapters.{YieldsList-from_vec}
use Rattle.std.proofs.lemmas.Iterator.Consumers.{YieldsList-end}
use Rattle.std.specs.Vec.{vec_len}
use Rattle.layer_base.proofs.Changes.{kept, kept_first, kept-append, rows_left_are}
use Rattle.layer_base.proofs.log.rows_left.Goals as goal

pub loop-key-preserved-in-Continue-branch-2 : goal.loop-key-preserved-in-Continue-branch-2
loop-key-preserved-in-Continue-branch-2 g c =
    let pushed : c.push.new.self.items ≡ c.loop-key.rows.items ++ (c.in-Some.key, c.in-Some-word.value) ∷ [] = search rules in
    let is : c.in-Some.word ≡ Some c.in-Some-word.value = c.in-Some-word.is in
    pushed ∙ ap (λ rows. rows ++ (c.in-Some.key, c.in-Some-word.value) ∷ []) c.loop-key.invariant
    ∙ sym (kept-append c.loop-key.yielded ((c.in-Some.key, c.in-Some.word) ∷ []) ∙ ap (λ w. kept c.loop-key.yielded ++ kept_first c.in-Some.key w []) is)

pub loop-key-preserved : goal.loop-key-preserved
loop-key-preserved g c =
    let is : c.in-Some.word ≡ None = c.in_default.is in
    c.loop-key.invariant
    ∙ sym (kept-append c.loop-key.yielded ((c.in-Some.key, c.in-Some.word) ∷ []) ∙ ap (λ w. kept c.loop-key.yielded ++ kept_first c.in-Some.key w []) is ∙ append-nil (kept c.loop-key.yielded))

pub returns : goal.returns
returns g c =
    let words = c.in_ok-words.words in
    let long : vec_len words ≡ length words.items = search rules in
    let gives = c.into_iter-key-iterator.ensures.into_iter_gives in
    let all = YieldsList-end (YieldsList-from_vec {s = c.into_iter-key-iterator.result} words.items gives.0 (gives.1 ∙ long)) c.loop-key.yielded c.loop-key.key-iterator c.loop-key.yielded_by _ c.next.new.self c.in-None.is c.next.ensures.steps in
    c.loop-key.invariant ∙ ap kept (sym (map-id c.loop-key.yielded) ∙ all.0) ∙ rows_left_are g.met.K.Ord.total c.requires c.args.log.items words.items c.in_ok-words.ensures.last
