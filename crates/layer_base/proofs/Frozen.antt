-- Layers in blocks of 64, by their places.
use Rattle.std.proofs.Common.{◌≡◌, ℕ, zero, suc, ◌+◌, ◌-◌, ◌*◌, ◌<◌, ◌≤◌, List, [], ◌∷◌, ◌++◌, map, take, drop, length, slice_get, Some, refl, sym, ◌∙◌, ap, subst, arith, All, append_assoc, append-nil}
use Rattle.std.proofs.lemmas.List.{length-append, length-map, length-take-le, take-append-drop, drop-take, take-append-le}
use Rattle.std.proofs.lemmas.List.Elements.{All-head, All-tail}
use Rattle.std.proofs.lemmas.Grind.{flat_map-append}
use Rattle.std.specs.declared.sync.Arc.{Arc}
use Rattle.std.specs.declared.vec.Vec.{Vec}
use Rattle.std.specs.Global.{Global}
use Rattle.layer_base.specs.Shared.{values, layers_in}

pub slice_get-map : {X Y : Type 0} (f : X → Y) (xs : List X) (i : ℕ) (x : X) → slice_get xs i ≡ Some x → slice_get (map f xs) i ≡ Some (f x)
slice_get-map f [] i x e = cc
slice_get-map f (y ∷ xs) zero x e = let is : y ≡ x = cc in ap (λ z. Some (f z)) is
slice_get-map f (y ∷ xs) (suc i) x e = slice_get-map f xs i x e

slice_get_left : {X : Type 0} (xs ys : List X) (i : ℕ) → i < length xs → slice_get (xs ++ ys) i ≡ slice_get xs i
slice_get_left [] ys i fits = absurd (omega arith)
slice_get_left (x ∷ xs) ys zero fits = refl
slice_get_left (x ∷ xs) ys (suc i) fits = slice_get_left xs ys i (omega arith)

slice_get_right : {X : Type 0} (xs ys : List X) (i n : ℕ) → i ≡ length xs + n → slice_get (xs ++ ys) i ≡ slice_get ys n
slice_get_right [] ys i n e = let is : i ≡ n = omega arith in ap (slice_get ys) is
slice_get_right (x ∷ xs) ys zero n e = absurd (omega arith)
slice_get_right (x ∷ xs) ys (suc i) n e = slice_get_right xs ys i n (omega arith)

-- one part of a list after another
pub take-add : {X : Type 0} (n m : ℕ) (xs : List X) → n + m ≤ length xs → take (n + m) xs ≡ take n xs ++ take m (drop n xs)
take-add n m xs fits =
    sym (take-append-drop n (take (n + m) xs)) ∙ (λ i. front i ++ drop-take n m xs i)
  where
    front : take n (take (n + m) xs) ≡ take n xs
    front = sym (take-append-le n (take (n + m) xs) (drop (n + m) xs) (omega (arith, length-take-le (n + m) xs fits))) ∙ ap (take n) (take-append-drop (n + m) xs)

module _ {T : Type 0} where
  pub length-layers_in : (blocks : List (Vec (Arc T Global) Global)) → All (λ b. length b.items ≡ 64) blocks → length (layers_in blocks) ≡ 64 * length blocks
  length-layers_in [] each = omega arith
  length-layers_in (b ∷ blocks) each =
      let here : length b.items ≡ 64 = All-head (λ (v : Vec (Arc T Global) Global). length v.items ≡ 64) b blocks each in
      omega (
        arith,
        length-append (values b.items) (layers_in blocks),
        length-map b.items (λ (r : Arc T Global). r.value),
        here,
        length-layers_in blocks (All-tail (λ (v : Vec (Arc T Global) Global). length v.items ≡ 64) b blocks each),
      )

  pub in_block : (blocks : List (Vec (Arc T Global) Global)) (rest : List T) (n r i : ℕ) (b : Vec (Arc T Global) Global) → All (λ v. length v.items ≡ 64) blocks → slice_get blocks n ≡ Some b → r < 64 → i ≡ 64 * n + r
      → slice_get (layers_in blocks ++ rest) i ≡ slice_get (values b.items) r
  in_block [] rest n r i b each at small e = cc
  in_block (v ∷ blocks) rest zero r i b each at small e =
      let is : v ≡ b = cc in
      let long : length (values v.items) ≡ 64 = length-map v.items (λ (x : Arc T Global). x.value) ∙ All-head (λ (x : Vec (Arc T Global) Global). length x.items ≡ 64) v blocks each in
      let same : i ≡ r = omega arith in
      ap (λ xs. slice_get xs i) (append_assoc (values v.items) (layers_in blocks) rest) ∙ ap (slice_get (values v.items ++ (layers_in blocks ++ rest))) same
      ∙ slice_get_left (values v.items) (layers_in blocks ++ rest) r (omega (arith, long)) ∙ ap (λ (x : Vec (Arc T Global) Global). slice_get (values x.items) r) is
  in_block (v ∷ blocks) rest (suc n) r i b each at small e =
      let long : length (values v.items) ≡ 64 = length-map v.items (λ (x : Arc T Global). x.value) ∙ All-head (λ (x : Vec (Arc T Global) Global). length x.items ≡ 64) v blocks each in
      ap (λ xs. slice_get xs i) (append_assoc (values v.items) (layers_in blocks) rest)
      ∙ slice_get_right (values v.items) (layers_in blocks ++ rest) i (64 * n + r) (omega (arith, long))
      ∙ in_block blocks rest n r (64 * n + r) b (All-tail (λ (x : Vec (Arc T Global) Global). length x.items ≡ 64) v blocks each) at small refl

  pub past_blocks : (blocks : List (Vec (Arc T Global) Global)) (rest : List T) (i : ℕ) → All (λ v. length v.items ≡ 64) blocks → 64 * length blocks ≤ i
      → slice_get (layers_in blocks ++ rest) i ≡ slice_get rest (i - 64 * length blocks)
  past_blocks blocks rest i each le = slice_get_right (layers_in blocks) rest i (i - 64 * length blocks) (omega (arith, length-layers_in blocks each))

  pub length-layers_of : (blocks : List (Vec (Arc T Global) Global)) (recent : List (Arc T Global)) → All (λ v. length v.items ≡ 64) blocks
      → length (layers_in blocks ++ values recent) ≡ 64 * length blocks + length recent
  length-layers_of blocks recent each = omega (arith, length-append (layers_in blocks) (values recent), length-layers_in blocks each, length-map recent (λ (r : Arc T Global). r.value))

  -- one block more
  pub frozen_more : (old blocks : List (Vec (Arc T Global) Global)) (b : Vec (Arc T Global) Global) (recent : List (Arc T Global)) (n m : ℕ) → m ≡ 64 * n + 64 → m ≤ length recent
      → layers_in blocks ≡ layers_in old ++ take (64 * n) (values recent) → values b.items ≡ take 64 (drop (64 * n) (values recent))
      → layers_in (blocks ++ b ∷ []) ≡ layers_in old ++ take m (values recent)
  frozen_more old blocks b recent n m e fits so_far is =
      let part = take (64 * n) (values recent) in
      flat_map-append (λ (v : Vec (Arc T Global) Global). values v.items) blocks (b ∷ []) ∙ ap (λ xs. layers_in blocks ++ xs) (append-nil (values b.items)) ∙ (λ i. so_far i ++ is i)
      ∙ append_assoc (layers_in old) part (take 64 (drop (64 * n) (values recent)))
      ∙ ap (λ xs. layers_in old ++ xs) (sym (take-add (64 * n) 64 (values recent) (omega (arith, length-map recent (λ (r : Arc T Global). r.value)))) ∙ ap (λ k. take k (values recent)) (sym e))

  pub whole_at : (blocks : List (Vec (Arc T Global) Global)) (n : ℕ) (b : Vec (Arc T Global) Global) → All (λ v. length v.items ≡ 64) blocks → slice_get blocks n ≡ Some b → length b.items ≡ 64
  whole_at [] n b each at = cc
  whole_at (v ∷ blocks) zero b each at =
      let is : v ≡ b = cc in
      subst (λ (x : Vec (Arc T Global) Global). length x.items ≡ 64) is (All-head (λ (x : Vec (Arc T Global) Global). length x.items ≡ 64) v blocks each)
  whole_at (v ∷ blocks) (suc n) b each at = whole_at blocks n b (All-tail (λ (x : Vec (Arc T Global) Global). length x.items ≡ 64) v blocks each) at
