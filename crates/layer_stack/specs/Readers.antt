-- Layers that are read under one term after another.
use Rattle.std.specs.Prelude.{◌≡◌, List, map, All}
use Rattle.std.specs.declared.cmp.Ordering.TheVariants.{Less}
use Rattle.layer_stack.specs.declared.term_spans.TermSpans.{TermSpans}
use Rattle.layer_stack.specs.declared.place.TermKey.{TermKey}
use Rattle.layer_stack.specs.Places.{term_cmp}
use Rattle.layer_stack.specs.Postings.{PostingChanges}

-- entries whose terms all come before another term
abbrev pub AreBefore : TermKey → List (TermKey × TermSpans) → Type 0
AreBefore term = All (λ e. term_cmp e.0 term ≡ Less)

-- what the layer changes, and the entries of its directory that are passed
abbrev pub ReaderValue : Type 0
ReaderValue = PostingChanges × List (TermKey × TermSpans)

-- the layers that are read
abbrev pub layers_read : List ReaderValue → List PostingChanges
layers_read = map (λ r. r.0)

-- readers that have passed terms before one term alone
abbrev pub StandBefore : TermKey → List ReaderValue → Type 0
StandBefore term = All (λ r. AreBefore term r.1)
