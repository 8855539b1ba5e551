-- The directory of a layer: the terms in order, each with where its puts and its deletes stand.
use Rattle.std.specs.Prelude.{◌≡◌, List, Bool, true, ◌||◌, All, Option, None, Some, T, cond, nat_lt, is_some, IfSome, filter_map, option_map}
use Rattle.std.specs.FinMap.{is_sorted}
use Rattle.std.specs.declared.cmp.Ordering.TheVariants.{Less}
use Rattle.layer_stack.specs.declared.directory.Span.{Span}
use Rattle.layer_stack.specs.declared.place.TermKey.{TermKey}
use Rattle.layer_stack.specs.declared.term_spans.NarrowSpan.{NarrowSpan}
use Rattle.layer_stack.specs.declared.term_spans.TermSpans.{TermSpans}
use Rattle.layer_stack.specs.Places.{term_cmp}
use Rattle.layer_stack.specs.Spans.{span_of}

-- a span in less memory, empty where there is none
abbrev pub narrowed : Option Span → NarrowSpan
narrowed None = record { from = 0; to = 0 }
narrowed (Some s) = record { from = s.from; to = s.to }

-- the span again, if it is not empty
abbrev pub widened : NarrowSpan → Option Span
widened s = cond (nat_lt s.from s.to) (Some (record { from = s.from; to = s.to })) None

-- where the puts of a term stand, if it was found and has puts
abbrev pub puts_in : Option TermSpans → Option Span
puts_in None = None
puts_in (Some s) = widened s.puts

-- where its deletes stand, if it was found and has deletes
abbrev pub deletes_in : Option TermSpans → Option Span
deletes_in None = None
deletes_in (Some s) = widened s.deletes

-- the spans of one kind, each at its term, of the terms that have one
abbrev pub spans_by : (Option TermSpans → Option Span) → List (TermKey × TermSpans) → List (TermKey × Span)
spans_by kind = filter_map (λ e. option_map (λ (s : Span). (e.0, s)) (kind (Some e.1)))

abbrev pub put_spans : List (TermKey × TermSpans) → List (TermKey × Span)
put_spans = spans_by puts_in

abbrev pub delete_spans : List (TermKey × TermSpans) → List (TermKey × Span)
delete_spans = spans_by deletes_in

-- whether a term deletes or puts
abbrev pub has_rows : TermSpans → Bool
has_rows s = is_some (deletes_in (Some s)) || is_some (puts_in (Some s))

-- whether a term is one that deletes or puts
abbrev pub has_spans : TermKey → List (TermKey × TermSpans) → Bool
has_spans term entries = is_some (span_of term (delete_spans entries)) || is_some (span_of term (put_spans entries))

-- terms in order, each of which deletes or puts
pub record IsDirectory (entries : List (TermKey × TermSpans)) : Type 0 where
  pub sorted : T (is_sorted term_cmp entries)
  pub each : All (λ e. has_rows e.1 ≡ true) entries

-- what a list has at a term, given what stands at its place: the span there, or nothing, and then a later term stands there, if any does
abbrev pub IsNext : TermKey → Option Span → Option (TermKey × Span) → Type 0
IsNext term (Some span) there = there ≡ Some (term, span)
IsNext term None there = IfSome there (λ e. term_cmp term e.0 ≡ Less)
