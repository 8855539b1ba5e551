-- Runs: rows that came in one after another under one term, each told by its span.
use Rattle.std.specs.Prelude.{◌≡◌, ◌<◌, ◌≤◌, ◌+◌, ℕ, zero, suc, List, [], ◌∷◌, ◌++◌, length, All, ◌⊎◌}
use Rattle.std.specs.List.{flat_map}
use Rattle.std.specs.FinMap as finite
use Rattle.uni_base.specs.declared.edge.Audience.{Audience}
use Rattle.uni_base.specs.declared.edge.Audience.TheVariants.{Public}
use Rattle.uni_base.specs.declared.entity.DocKey.{DocKey}
use Rattle.uni_base.specs.Cursors.{IsRanked}
use Rattle.uni_base.specs.RankOrder.{doc_cmp}
use Rattle.posting_lists.specs.declared.posting.Posting.{Posting}
use Rattle.layer_base.specs.Layers.{from_log}
use Rattle.layer_stack.specs.declared.directory.Span.{Span}
use Rattle.layer_stack.specs.declared.place.Place.{Place}
use Rattle.layer_stack.specs.declared.place.TermKey.{TermKey}
use Rattle.layer_stack.specs.Places.{place_cmp}
use Rattle.layer_stack.specs.Postings.{place_of}
use Rattle.layer_stack.specs.Spans.{spanned, tagged, delete_rows, IsSpans}

abbrev pub span_at : ℕ → ℕ → Span
span_at from to = record { from = from; to = to }

-- runs that have gained the row at a place: the last one ends there and is of its term, or a run begins
abbrev pub Adds : List (TermKey × Span) → TermKey → ℕ → List (TermKey × Span) → Type 0
Adds old term at new = (new ≡ old ++ (term, span_at at (at + 1)) ∷ [])
    ⊎ ((rest : List (TermKey × Span)) × (from : ℕ) × (old ≡ rest ++ (term, span_at from at) ∷ []) × (new ≡ rest ++ (term, span_at from (at + 1)) ∷ []))

-- runs within so many rows, none of them empty
abbrev pub AreWithin : ℕ → List (TermKey × Span) → Type 0
AreWithin rows = All (λ e. (e.1.from < e.1.to) × (e.1.to ≤ rows))

-- runs that tell all rows in turn, with their keys in rank order
pub record AreInTurn (runs : List (TermKey × Span)) (keys : List DocKey) : Type 0 where
  pub ranked : All (λ e. IsRanked (spanned e.1 keys)) runs
  pub count : length (delete_rows runs keys) ≡ length keys

-- keys, each with its place among them from a number on
abbrev pub numbered_from : ℕ → List DocKey → List (DocKey × ℕ)
numbered_from n [] = []
numbered_from n (k ∷ keys) = (k, n) ∷ numbered_from (n + 1) keys

abbrev pub numbered : List DocKey → List (DocKey × ℕ)
numbered = numbered_from 0

-- the rows of numbered keys
abbrev pub number_rows : List (TermKey × Span) → List (DocKey × ℕ) → List (Place × ℕ)
number_rows = tagged (λ term e. (place_of term e.0, e.1))

-- the items that runs tell, one run after another
abbrev pub run_items : {X : Type 0} → List (TermKey × Span) → List X → List X
run_items runs xs = flat_map (λ e. spanned e.1 xs) runs

-- the last words of runs of one term on its keys, in rank order
abbrev pub left_of : List (TermKey × Span) → List DocKey → List (DocKey × ℕ)
left_of runs keys = finite.entries (from_log {R = doc_cmp} (run_items runs (numbered keys)))

-- the audience of the posting at a place
abbrev pub audience_at : List Posting → ℕ → Audience
audience_at [] i = Public
audience_at (p ∷ ps) zero = p.audience
audience_at (p ∷ ps) (suc i) = audience_at ps i

-- the posting at a key whose audience is that of the one at a number
abbrev pub posting_from : List Posting → DocKey × ℕ → Posting
posting_from ps e = record { key = e.0; audience = audience_at ps e.1 }

-- rows that are what a log says of each place, in the order of places, told by spans over as many items
pub record AreSettled {V : Type 0} (log rows : List (Place × V)) (spans : List (TermKey × Span)) (items : ℕ) : Type 0 where
  pub last : rows ≡ finite.entries (from_log {R = place_cmp} log)
  pub told : IsSpans items spans
  pub count : length rows ≡ items

-- the same of numbered keys, each of which is one of a list
pub record AreArranged (runs : List (TermKey × Span)) (keys : List DocKey) (spans : List (TermKey × Span)) (rows : List (DocKey × ℕ)) : Type 0 where
  pub settled : AreSettled (number_rows runs (numbered keys)) (number_rows spans rows) spans (length rows)
  pub within : All (λ e. e.1 < length keys) rows
