-- Where the rows of each term stand among rows in the order of places.
use Rattle.std.specs.Prelude.{◌≡◌, ◌<◌, ◌≤◌, ◌^◌, ℕ, List, [], length, map, All, Option, None, Some, T, Bool, true, false, cond, ◌==◌}
use Rattle.std.specs.List.{flat_map}
use Rattle.std.specs.Ordering.{is_lt, nat_cmp, match_ordering}
use Rattle.std.specs.Cmp.Lexicographic.{slice_cmp}
use Rattle.uni_base.specs.declared.edge.Key.{Key}
use Rattle.uni_base.specs.declared.edge.Key.TheVariants.{Id, Word}
use Rattle.std.specs.FinMap.{is_sorted, find}
use Rattle.posting_lists.specs.Postings.{section}
use Rattle.uni_base.specs.declared.edge.Audience.{Audience}
use Rattle.uni_base.specs.declared.entity.DocKey.{DocKey}
use Rattle.posting_lists.specs.declared.posting.Posting.{Posting}
use Rattle.layer_stack.specs.declared.directory.Span.{Span}
use Rattle.layer_stack.specs.declared.place.Place.{Place}
use Rattle.layer_stack.specs.declared.place.TermKey.{TermKey}
use Rattle.layer_stack.specs.Places.{term_cmp, place_cmp}
use Rattle.layer_stack.specs.Postings.{place_of}

-- the part of rows that a span tells
abbrev pub spanned : {X : Type 0} → Span → List X → List X
spanned span = section span.from span.to

-- the rows of all spans, each made by its term
abbrev pub tagged : {X Y : Type 0} → (TermKey → X → Y) → List (TermKey × Span) → List X → List Y
tagged tag spans xs = flat_map (λ e. map (tag e.0) (spanned e.1 xs)) spans

-- spans within so many rows, none of them empty, their terms in order
pub record IsSpans (rows : ℕ) (spans : List (TermKey × Span)) : Type 0 where
  pub sorted : T (is_sorted term_cmp spans)
  pub within : All (λ e. (e.1.from < e.1.to) × (e.1.to ≤ rows)) spans

-- the span of a term, if it has one
abbrev pub span_of : TermKey → List (TermKey × Span) → Option Span
span_of = find term_cmp

-- what a span tells of a list, if there is one
abbrev pub told : {X : Type 0} → Option Span → List X → List X
told None xs = []
told (Some s) xs = spanned s xs

-- the rows of postings and of deleted keys
abbrev pub put_rows : List (TermKey × Span) → List Posting → List (Place × Audience)
put_rows = tagged (λ term p. (place_of term p.key, p.audience))

abbrev pub delete_row : TermKey → DocKey → Place × Unit {0}
delete_row term key = (place_of term key, tt)

abbrev pub delete_rows : List (TermKey × Span) → List DocKey → List (Place × Unit {0})
delete_rows = tagged delete_row

-- rows in the order of places, told by spans over as many items
pub record AreLaid {V : Type 0} (rows : List (Place × V)) (spans : List (TermKey × Span)) (items : ℕ) : Type 0 where
  pub sorted : T (is_sorted place_cmp rows)
  pub told : IsSpans items spans
  pub count : length rows ≡ items
  pub few : items ≤ 2 ^ 61

-- whether a term comes before another, or also at it
abbrev pub is_passed : Bool → TermKey → TermKey → Bool
is_passed also from term = match_ordering (term_cmp term from) true also false

-- the word at which a key or a term of a type starts
abbrev pub word_of : Key → Option (List ℕ)
word_of (Id n) = None
word_of (Word w) = Some w

abbrev pub word_at : ℕ → TermKey → Option (List ℕ)
word_at type_no term = cond (term.type_no == type_no) (word_of term.key) None

-- the lesser of two words that may be missing
abbrev pub earlier : Option (List ℕ) → Option (List ℕ) → Option (List ℕ)
earlier None b = b
earlier (Some x) None = Some x
earlier (Some x) (Some y) = cond (is_lt (slice_cmp nat_cmp y x)) (Some y) (Some x)
