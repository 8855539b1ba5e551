use Rattle.std.proofs.Common.{◌≡◌, ◌++◌, ◌∷◌, [], ◌<◌, min, length, take, drop, Some, refl, sym, ap, subst, ◌∙◌, arith, rules}
use Rattle.uni_base.specs.Streams.{Reads}
use Rattle.bench_script.specs.Pieces.{joined_back, ArePieces}
use Rattle.bench_script.proofs.Pieces.{joined-push, pieces-first, none-left, reads-first}
use Rattle.bench_script.proofs.source.ScriptSourceSource.read.Goals as goal

pub returns-in_default-clause-told : goal.returns-in_default-clause-told
returns-in_default-clause-told c =
    let first = c.self.inside.first in let later = c.self.inside.later.items in let into = c.args.into.now in let count = c.in_ok-count.count in
    let zero : count ≡ 0 = omega (arith, c.if-count-gt0.false) in
    let is : count ≡ min (length first) (length into) = search rules in
    let empty : first ≡ [] = none-left first into c.read.new.into count is (λ h. omega (arith, h, zero)) c.in_ok-count.ensures.copied (sym (c.if-is_empty.ensures {u = tt})) in
    let last : later ≡ [] = search rules in
    let popped : c.pop.new.self.items ≡ [] = search rules in
    let left : c.read.new.self ≡ first = c.in_ok-count.ensures.after ∙ ap (λ n. drop n first) zero in (
      refl,
      ap Some ((λ i. left i ++ joined_back ((popped ∙ sym last) i)) ∙ c.self.view_is),
      λ n room. sym c.self.view_is ∙ (λ i. empty i ++ joined_back (last i)),
    )

pub returns-clause-told : goal.returns-clause-told
returns-clause-told c =
    let first = c.self.inside.first in let later = c.self.inside.later.items in let into = c.args.into.now in let count = c.in_ok-count.count in
    let zero : count ≡ 0 = omega (arith, c.if-count-gt0.false) in
    let is : count ≡ min (length first) (length into) = search rules in
    let empty : first ≡ [] = none-left first into c.read.new.into count is (λ h. omega (arith, h, zero)) c.in_ok-count.ensures.copied (sym (c.if-is_empty.ensures {u = tt})) in
    let piece = c.in-Some.piece in let rest = c.pop.new.self.items in
    let popped : later ≡ rest ++ piece ∷ [] = (c.in-Some.ensures {u = tt}).items in
    let some : 0 < length piece = pieces-first rest piece (subst ArePieces popped c.self.invariant) in
    let n = c.in_ok-count-2.count in
    let whole : piece ++ joined_back rest ≡ c.args.self.now =
    sym (joined-push rest piece) ∙ ap joined_back (sym popped) ∙ ap (λ f. f ++ joined_back later) (sym empty) ∙ c.self.view_is in
    let told : take n c.read-2.new.into ≡ take n piece = search rules in
    let passed : c.read-2.new.self ≡ drop n piece = search rules in
    let counted : n ≡ min (length piece) (length c.read.new.into) = search rules in
    let room : 0 < length c.read.new.into = search rules in
    subst (λ all. Reads (Some all) (Some (c.read-2.new.self ++ joined_back rest)) n c.read-2.new.into (length into)) whole
    (reads-first piece c.read-2.new.self (joined_back rest) c.read-2.new.into n (length into) told passed (omega (arith, counted)) (λ none r. absurd (omega (arith, none, counted, some, room))))
