-- Where a cursor of a stack reads.
use Rattle.std.specs.Prelude.{List}
use Rattle.posting_lists.specs.declared.posting.Posting.{Posting}
use Rattle.layer_stack.specs.declared.cursor.Source.{Source}
use Rattle.layer_stack.specs.declared.cursor.Source.TheVariants.{One, Several}

-- the postings that are still to be read there
abbrev pub postings_in : Source → List Posting
postings_in (One postings) = postings
postings_in (Several postings) = postings
