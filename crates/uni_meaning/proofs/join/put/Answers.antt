use Rattle.std.proofs.Common.{◌≡◌, ◌==◌, Bool, true, false, Option, Some, cond, if◌then◌else◌, ℕ, arith, refl, ap, ◌∙◌}
use Rattle.std.specs.BTreeMap.{is_at}
use Rattle.std.specs.Map.{lookup}
use Rattle.std.specs.Option.{unwrap_or}
use Rattle.std.specs.Ordering.{nat_cmp, is_eq}
use Rattle.std.proofs.lemmas.Bool.Decides.{nat_tests}
use Rattle.uni_meaning.specs.Standings.{gathered_at}
use Rattle.uni_meaning.specs.declared.standing.Standing.{Standing}
use Rattle.uni_meaning.specs.declared.standing.Standing.TheVariants.{Missed}
use Rattle.uni_meaning.proofs.join.put.Goals as goal

put_or : (b : Bool) (s : Standing) (o : Option Standing) → unwrap_or (cond b (Some s) o) Missed ≡ (if b then s else unwrap_or o Missed)
put_or true s o = refl
put_or false s o = refl

same : (a b : ℕ) → is_eq (nat_cmp a b) ≡ (a == b)
same a b = grind (arith, nat_tests)

pub returns : goal.returns
returns c = λ other.
    ap (λ o. unwrap_or o Missed) (c.in_ok-insert.ensures.updates.0 other)
    ∙ put_or (is_eq (nat_cmp c.args.id other)) c.args.standing (lookup (is_at (nat_cmp other)) c.args.gathered.now.entries)
    ∙ ap (λ b. if b then c.args.standing else gathered_at c.args.gathered.now.entries other) (same c.args.id other)
