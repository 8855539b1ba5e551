use Rattle.std.proofs.Common.{rules, ◌≡◌, ◌++◌, ◌∷◌, [], List, map, ap, ◌∙◌, sym, subst, All}
use Rattle.posting_lists.specs.Audiences.{audience_of, IsStored}
use Rattle.posting_lists.specs.declared.circles.StoredAudience.{StoredAudience}
use Rattle.posting_lists.proofs.Stored.{audiences-extends, stored_more, all_stored_more}
use Rattle.posting_lists.proofs.audiences.AudienceColumn.push.Goals as goal

pub returns-in_err-push-clause-err : goal.returns-in_err-push-clause-err
returns-in_err-push-clause-err c =
    let old = c.self.inside.circles in let new = c.store.new.self in
    let kept : c.push.new.self.items ≡ c.self.inside.stored.items = search rules in
    let view : map (audience_of new) c.push.new.self.items ≡ c.args.self.now =
    ap (map (audience_of new)) kept ∙ audiences-extends old new c.store.ensures.extends c.self.inside.stored.items c.self.invariant ∙ c.self.view_is in
    search (rules, view)

pub invariant_of-self-2 : goal.invariant_of-self-2
invariant_of-self-2 c =
    let more : c.push.new.self.items ≡ c.self.inside.stored.items ++ c.in_ok-stored.stored ∷ [] = search rules in
    let stored : IsStored c.store.new.self c.in_ok-stored.stored = c.in_ok-stored.ensures.stored in
    subst (λ (xs : List StoredAudience). All (IsStored c.store.new.self) xs) (sym more) (all_stored_more c.self.inside.circles c.store.new.self c.store.ensures.extends c.self.inside.stored.items c.in_ok-stored.stored c.self.invariant stored)

pub returns-clause-ok : goal.returns-clause-ok
returns-clause-ok c =
    let more : c.push.new.self.items ≡ c.self.inside.stored.items ++ c.in_ok-stored.stored ∷ [] = search rules in
    ap (map (audience_of c.store.new.self)) more ∙ stored_more c.self.inside.circles c.store.new.self c.store.ensures.extends c.self.inside.stored.items c.in_ok-stored.stored c.args.audience c.self.invariant c.in_ok-stored.ensures.stands
    ∙ ap (λ xs. xs ++ c.args.audience ∷ []) (c.self.view_is)
