-- The layers of three stacks of the same length.
use Rattle.std.proofs.Common.{◌≡◌, ℕ, zero, suc, List, [], ◌∷◌, ◌++◌, map, length, Some, refl, ap, arith, slice_get}
use Rattle.layer_stack.specs.Postings.{PostingChanges}
use Rattle.forward_data.specs.Records.{Records}
use Rattle.shard_index.specs.Entities.{EntityChanges}
use Rattle.shard_index.specs.Rows.{layer_of}
use Rattle.shard_index.specs.Joined.{joined, AreAsLong}

later : (e : EntityChanges) (p : PostingChanges) (f : Records) (es : List EntityChanges) (ps : List PostingChanges) (fs : List Records) → AreAsLong (e ∷ es) (p ∷ ps) (f ∷ fs) → AreAsLong es ps fs
later e p f es ps fs long = record { postings = omega (arith, long.postings); records = omega (arith, long.records) }

pub length-joined : (es : List EntityChanges) (ps : List PostingChanges) (fs : List Records) → AreAsLong es ps fs → length (joined es ps fs) ≡ length es
length-joined [] ps fs long = refl
length-joined (e ∷ es) [] fs long = absurd (omega (arith, long.postings))
length-joined (e ∷ es) (p ∷ ps) [] long = absurd (omega (arith, long.records))
length-joined (e ∷ es) (p ∷ ps) (f ∷ fs) long = ap suc (length-joined es ps fs (later e p f es ps fs long))

-- each part is its stack
pub entities-joined : (es : List EntityChanges) (ps : List PostingChanges) (fs : List Records) → AreAsLong es ps fs → map (λ l. l.entities) (joined es ps fs) ≡ es
entities-joined [] ps fs long = refl
entities-joined (e ∷ es) [] fs long = absurd (omega (arith, long.postings))
entities-joined (e ∷ es) (p ∷ ps) [] long = absurd (omega (arith, long.records))
entities-joined (e ∷ es) (p ∷ ps) (f ∷ fs) long = ap (λ xs. e ∷ xs) (entities-joined es ps fs (later e p f es ps fs long))

pub postings-joined : (es : List EntityChanges) (ps : List PostingChanges) (fs : List Records) → AreAsLong es ps fs → map (λ l. l.postings) (joined es ps fs) ≡ ps
postings-joined [] [] fs long = refl
postings-joined [] (p ∷ ps) fs long = absurd (omega (arith, long.postings))
postings-joined (e ∷ es) [] fs long = absurd (omega (arith, long.postings))
postings-joined (e ∷ es) (p ∷ ps) [] long = absurd (omega (arith, long.records))
postings-joined (e ∷ es) (p ∷ ps) (f ∷ fs) long = ap (λ xs. p ∷ xs) (postings-joined es ps fs (later e p f es ps fs long))

pub records-joined : (es : List EntityChanges) (ps : List PostingChanges) (fs : List Records) → AreAsLong es ps fs → map (λ l. l.records) (joined es ps fs) ≡ fs
records-joined [] ps [] long = refl
records-joined [] ps (f ∷ fs) long = absurd (omega (arith, long.records))
records-joined (e ∷ es) [] fs long = absurd (omega (arith, long.postings))
records-joined (e ∷ es) (p ∷ ps) [] long = absurd (omega (arith, long.records))
records-joined (e ∷ es) (p ∷ ps) (f ∷ fs) long = ap (λ xs. f ∷ xs) (records-joined es ps fs (later e p f es ps fs long))

-- one layer more
pub joined-snoc : (es : List EntityChanges) (ps : List PostingChanges) (fs : List Records) (e : EntityChanges) (p : PostingChanges) (f : Records) → AreAsLong es ps fs
    → joined (es ++ e ∷ []) (ps ++ p ∷ []) (fs ++ f ∷ []) ≡ joined es ps fs ++ layer_of e p f ∷ []
joined-snoc [] [] [] x y z long = refl
joined-snoc [] (p ∷ ps) fs x y z long = absurd (omega (arith, long.postings))
joined-snoc [] [] (f ∷ fs) x y z long = absurd (omega (arith, long.records))
joined-snoc (e ∷ es) [] fs x y z long = absurd (omega (arith, long.postings))
joined-snoc (e ∷ es) (p ∷ ps) [] x y z long = absurd (omega (arith, long.records))
joined-snoc (e ∷ es) (p ∷ ps) (f ∷ fs) x y z long = ap (λ xs. layer_of e p f ∷ xs) (joined-snoc es ps fs x y z (later e p f es ps fs long))

-- the layer at a place
pub slice_get-joined : (es : List EntityChanges) (ps : List PostingChanges) (fs : List Records) (i : ℕ) (e : EntityChanges) (p : PostingChanges) (f : Records)
    → slice_get es i ≡ Some e → slice_get ps i ≡ Some p → slice_get fs i ≡ Some f → slice_get (joined es ps fs) i ≡ Some (layer_of e p f)
slice_get-joined [] ps fs i e p f a b c = cc
slice_get-joined (x ∷ es) [] fs i e p f a b c = cc
slice_get-joined (x ∷ es) (y ∷ ps) [] i e p f a b c = cc
slice_get-joined (x ∷ es) (y ∷ ps) (z ∷ fs) zero e p f a b c =
    let first : x ≡ e = cc in let second : y ≡ p = cc in let third : z ≡ f = cc in λ i. Some (layer_of (first i) (second i) (third i))
slice_get-joined (x ∷ es) (y ∷ ps) (z ∷ fs) (suc i) e p f a b c = slice_get-joined es ps fs i e p f a b c
