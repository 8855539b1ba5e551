-- Rows that are laid out by terms, as maps.
use Rattle.std.proofs.Common.{◌≡◌, ◌-◌, List, [], ◌∷◌, ◌++◌, map, take, drop, length, refl, ◌∙◌, ap}
use Rattle.std.specs.Prelude.{T}
use Rattle.std.specs.FinMap as finite
use Rattle.std.specs.FinMap.{is_sorted}
use Rattle.std.proofs.lemmas.List.{take-map, drop-map}
use Rattle.layer_stack.specs.declared.directory.Span.{Span}
use Rattle.layer_stack.specs.declared.place.Place.{Place}
use Rattle.layer_stack.specs.declared.place.TermKey.{TermKey}
use Rattle.layer_stack.specs.Places.{place_cmp}
use Rattle.layer_stack.specs.Spans.{spanned, tagged}

pub map-after : {X Y Z : Type 0} (g : Y → Z) (f : X → Y) (xs : List X) → map g (map f xs) ≡ map (λ x. g (f x)) xs
map-after g f [] = refl
map-after g f (x ∷ xs) = ap (λ ys. g (f x) ∷ ys) (map-after g f xs)

pub spanned-map : {X Y : Type 0} (f : X → Y) (s : Span) (xs : List X) → spanned s (map f xs) ≡ map f (spanned s xs)
spanned-map f s xs = ap (take (s.to - s.from)) (drop-map f s.from xs) ∙ take-map f (s.to - s.from) (drop s.from xs)

pub tagged-map : {X Y Z : Type 0} (tag : TermKey → Y → Z) (f : X → Y) (spans : List (TermKey × Span)) (xs : List X) → tagged tag spans (map f xs) ≡ tagged (λ t x. tag t (f x)) spans xs
tagged-map tag f [] xs = refl
tagged-map tag f (e ∷ spans) xs = λ i. (ap (map (tag e.0)) (spanned-map f e.1 xs) ∙ map-after (tag e.0) f (spanned e.1 xs)) i ++ tagged-map tag f spans xs i

pub len-from_sorted : {V : Type 0} (rows : List (Place × V)) → T (is_sorted place_cmp rows) → finite.len (finite.from_sorted {R = place_cmp} rows) ≡ length rows
len-from_sorted rows sorted = finite.len-entries (finite.from_sorted {R = place_cmp} rows) ∙ ap length (finite.entries-from_sorted place_cmp rows sorted)
