use Rattle.std.proofs.Common.{rules, ◌≡◌, [], ◌∷◌, sym, subst, Some}
use Rattle.atomic_table.specs.Table.{opening}
use Rattle.turn_lock.specs.Law.{Kept, opening_view}
use Rattle.turn_lock.proofs.Tokens.{opens}
use Rattle.turn_lock.proofs.lock.TurnLock.new.Goals as goal

pub new-requires : goal.new-requires
new-requires g c =
    let one : c.push.new.self.items ≡ Some c.args.value ∷ [] = search rules in
    subst (λ xs. Kept g.S.Recorded.stands_for (opening (0 ∷ 0 ∷ 0 ∷ []) xs opening_view)) (sym one) (opens g.S.Recorded.stands_for c.args.value c.requires)
