-- What each step tells: `m` is the holder before it, and `m'` the holder after it.
use Rattle.std.specs.Prelude.{◌≡◌, ℕ, [], ◌∷◌, ◌++◌, Option, Some}
use Rattle.atomic_table.specs.Table.{Me, Step}
use Rattle.twin_list.specs.declared.law.Part.TheVariants.{Spent, One, Both}
use Rattle.twin_list.specs.declared.law.View.{View}

module _ {E : Type 0} where
  -- one of the halves, where both are taken apart
  abbrev pub apart : View E → View E
  apart v = record { part = One; list = v.list; other = [] }

  -- both halves put together
  abbrev pub together : View E → View E → View E
  together v w = record { part = Both; list = v.list; other = w.list }

  -- what is left of the view that was taken in
  abbrev pub spent : View E
  spent = record { part = Spent; list = []; other = [] }

  -- both halves, with an entry more
  abbrev pub with_entry : View E → E → View E
  with_entry v e = record { part = Both; list = v.list ++ e ∷ []; other = v.list ++ e ∷ [] }

  -- both halves knew the same list
  abbrev pub Compares : Step ℕ → Me ℕ (View E) → ℕ → Me ℕ (View E) → Type 0
  Compares st m n m' = m.0.part ≡ Both → (m.0.other ≡ m.0.list) × (m' ≡ m)

  -- both halves knew the same list, and know it with the entry that was said
  abbrev pub Adds : Option E → Step ℕ → Me ℕ (View E) → ℕ → Me ℕ (View E) → Type 0
  Adds said st m n m' = (e : E) → m.0.part ≡ Both → said ≡ Some e → (m.0.other ≡ m.0.list) × (m' ≡ (with_entry m.0 e, m.1))
