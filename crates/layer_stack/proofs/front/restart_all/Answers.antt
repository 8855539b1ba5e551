use Rattle.std.proofs.Common.{rules, arith, ◌≡◌, ◌+◌, ◌<◌, ◌≤◌, ◌++◌, ◌∷◌, [], List, length, take, set, All, refl, ap, ◌∙◌, sym, subst}
use Rattle.std.proofs.lemmas.List.{take_more_set, take_all}
use Rattle.std.proofs.lemmas.List.Elements.{All-push}
use Rattle.layer_stack.specs.Readers.{ReaderValue}
use Rattle.layer_stack.proofs.Passed.{layers_set}
use Rattle.layer_stack.proofs.front.restart_all.Goals as goal

pub loop-reader-init : goal.loop-reader-init
loop-reader-init c = record { same = refl; start = λ k d low. absurd (omega arith) }

pub loop-reader-preserved : goal.loop-reader-preserved
loop-reader-preserved c =
    let rs = c.loop-reader.readers in let i = c.loop-reader.reader-index in let old = c.reader-item.result in let new = c.restart.new.self in
    let fits : i < length rs = search (rules, arith) in
    let more : take (i + 1) (set rs i new) ≡ take i rs ++ new ∷ [] = take_more_set rs i new fits in
    record {
      same = layers_set rs i old new fits c.reader-item.is (ap (λ (r : ReaderValue). r.0) c.restart.ensures ∙ ap (λ (r : ReaderValue). r.0) (sym c.reader-item.is)) ∙ c.loop-reader.invariant.same;
      start = subst (λ (xs : List ReaderValue). All (λ r. r.1 ≡ []) xs) (sym more) (All-push (λ (r : ReaderValue). r.1 ≡ []) (take i rs) new c.loop-reader.invariant.start (ap (λ (r : ReaderValue). r.1) c.restart.ensures));
    }

pub returns-clause-start : goal.returns-clause-start
returns-clause-start c =
    let whole : length c.loop-reader.readers ≤ c.loop-reader.reader-index = omega (arith, c.loop-reader-test.false, c.loop-reader.auto.readers) in
    subst (λ (xs : List ReaderValue). All (λ r. r.1 ≡ []) xs) (take_all c.loop-reader.reader-index c.loop-reader.readers whole) c.loop-reader.invariant.start
