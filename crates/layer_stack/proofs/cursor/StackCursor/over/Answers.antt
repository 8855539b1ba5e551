use Rattle.std.proofs.Common.{rules, ◌≡◌, [], ◌∷◌, length, Some, ap, ◌∙◌, sym}
use Rattle.std.proofs.lemmas.List.{nil_from_length}
use Rattle.layer_stack.specs.Stacks.{and_newest, remaining_of}
use Rattle.layer_stack.proofs.Terms.{one_part}
use Rattle.layer_stack.proofs.cursor.StackCursor.over.Goals as goal

pub returns-then-is_empty : goal.returns-then-is_empty
returns-then-is_empty c =
    let short : length c.parts.inside.older.items ≡ 0 = search rules in
    let none = nil_from_length c.parts.inside.older.items short in
    let newest : c.parts.inside.newest ≡ Some c.in-Some.newest = search rules in
    let one : c.args.parts ≡ c.in-Some.newest ∷ [] = sym c.parts.view_is ∙ (λ i. and_newest (none i) (newest i)) in
    c.into_list.ensures.list ∙ sym (ap remaining_of one ∙ one_part c.in-Some.newest c.into_list.ensures.ranked)
