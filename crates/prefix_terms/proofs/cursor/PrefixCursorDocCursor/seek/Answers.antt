use Rattle.std.proofs.Common.{map}
use Rattle.layer_base.specs.Layers.{stack_table}
use Rattle.posting_lists.specs.Postings.{keys_of}
use Rattle.prefix_terms.specs.PrefixCursors.{postings_left}
use Rattle.prefix_terms.proofs.KeysOfWords.{still_held}
use Rattle.prefix_terms.proofs.cursor.PrefixCursorDocCursor.seek.Goals as goal

pub invariant_of-self : goal.invariant_of-self
invariant_of-self c =
    let l = c.self.inside in
    still_held (postings_left l.type_no (stack_table l.stack.now.0) l.words l.postings) (map keys_of c.seek.new.self) c.self.invariant c.seek.ensures.operands
