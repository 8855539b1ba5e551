-- Items and entries, one by one.
use Rattle.std.proofs.Common.{◌≡◌, ◌<◌, ℕ, zero, suc, List, [], ◌∷◌, ◌++◌, length, get_or, refl, ap, arith}
use Rattle.script_rounds.specs.declared.item.Item.{Item}
use Rattle.script_rounds.specs.Entries.{Entry, IsItemOf, AreItemsOf}
use Rattle.script_rounds.specs.Fits.{ItemFits, ItemsFit}
use Rattle.script_rounds.specs.Terms.{Terms}

-- an item at a place fits as all do
pub item_fits_at : (terms : Terms) (items : List Item) (i : ℕ) (d : Item) → ItemsFit terms items → i < length items → ItemFits terms (get_or items i d)
item_fits_at terms [] i d fit below = absurd (omega (arith, below))
item_fits_at terms (item ∷ items) zero d fit below = fit.0
item_fits_at terms (item ∷ items) (suc i) d fit below = item_fits_at terms items i d fit.1 (omega (arith, below))

-- no items are those of no entries
pub no_entries : (entries : List Entry) → AreItemsOf entries [] → entries ≡ []
no_entries [] are = refl
no_entries (entry ∷ entries) are = absurd are

-- the entry of the last of some items
pub record Split (entries : List Entry) (items : List Item) (item : Item) : Type 0 where
  pub front : List Entry
  pub entry : Entry
  pub is : entries ≡ front ++ entry ∷ []
  pub are : AreItemsOf front items
  pub last : IsItemOf entry item

pub split_last : (entries : List Entry) (items : List Item) (item : Item) → AreItemsOf entries (items ++ item ∷ []) → Split entries items item
split_last [] [] item are = absurd are
split_last [] (x ∷ items) item are = absurd are
split_last (entry ∷ []) [] item are = record { front = []; entry = entry; is = refl; are = tt; last = are.0 }
split_last (entry ∷ e ∷ entries) [] item are = absurd are.1
split_last (entry ∷ entries) (x ∷ items) item are =
    let later = split_last entries items item are.1 in record {
      front = entry ∷ later.front;
      entry = later.entry;
      is = ap (λ es. entry ∷ es) later.is;
      are = (are.0, later.are);
      last = later.last;
    }
