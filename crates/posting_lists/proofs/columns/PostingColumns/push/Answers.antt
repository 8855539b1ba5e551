use Rattle.std.proofs.Common.{rules, ◌≡◌, ◌++◌, ◌∷◌, [], ap, ◌∙◌}
use Rattle.posting_lists.specs.Postings.{joined}
use Rattle.posting_lists.proofs.Joined.{joined_more}
use Rattle.posting_lists.proofs.columns.PostingColumns.push.Goals as goal

pub returns-in_ok-push-3-clause-ok : goal.returns-in_ok-push-3-clause-ok
returns-in_ok-push-3-clause-ok c =
    let keys : c.push-2.new.self.items ≡ c.self.inside.keys.items ++ c.args.posting.key ∷ [] = search rules in
    let audiences : c.push.new.self ≡ c.self.inside.audiences ++ c.args.posting.audience ∷ [] = search rules in
    (λ i. joined (keys i) (audiences i)) ∙ joined_more c.self.inside.keys.items c.self.inside.audiences c.args.posting.key c.args.posting.audience c.self.invariant.0 ∙ ap (λ ps. ps ++ c.args.posting ∷ []) c.self.view_is

pub returns-else-len-eq0-clause-ok : goal.returns-else-len-eq0-clause-ok
returns-else-len-eq0-clause-ok c =
    let keys : c.push-2.new.self.items ≡ c.self.inside.keys.items ++ c.args.posting.key ∷ [] = search rules in
    let audiences : c.push.new.self ≡ c.self.inside.audiences ++ c.args.posting.audience ∷ [] = search rules in
    (λ i. joined (keys i) (audiences i)) ∙ joined_more c.self.inside.keys.items c.self.inside.audiences c.args.posting.key c.args.posting.audience c.self.invariant.0 ∙ ap (λ ps. ps ++ c.args.posting ∷ []) c.self.view_is
