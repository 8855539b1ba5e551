-- The items of a round, one by one.
use Rattle.std.proofs.Common.{◌≡◌, ◌<◌, ◌≤◌, ◌+◌, ℕ, zero, suc, List, [], ◌∷◌, ◌++◌, length, take, get_or, Option, None, Some, option_to_list, refl, ap, sym, subst, ◌∙◌, arith, length-append}
use Rattle.std.proofs.lemmas.List.{take_more}
use Rattle.std.proofs.lemmas.List.Elements.{filter_map-append}
use Rattle.std.specs.List.{AllByRecursion, cons_option, filter_map}
use mathlib.Core.List.{IsPrefix}
use Rattle.script_rounds.specs.Fits.{ItemFits, ItemsFit}
use Rattle.script_rounds.specs.Terms.{Terms}
use Rattle.script_rounds.specs.declared.item.Item.{Item}
use Rattle.script_rounds.specs.declared.item.Item.TheVariants.{Change, Publish, Ask, Compact, Stats, Refused, Fault, QueryFault, Memory}
use Rattle.round_feed.specs.Fits.{CompactFits, FeedFits}

fits_at : (Fits : Item → Type 0) (items : List Item) (i : ℕ) (d : Item) → AllByRecursion Fits items → i < length items → Fits (get_or items i d)
fits_at Fits [] i d fit below = absurd (omega (arith, below))
fits_at Fits (item ∷ items) zero d fit below = fit.0
fits_at Fits (item ∷ items) (suc i) d fit below = fits_at Fits items i d fit.1 (omega (arith, below))

-- an item of a slice that is the items fits as all do
pub item_fits : (Fits : Item → Type 0) (items slice : List Item) (i : ℕ) (item : Item) → slice ≡ items → AllByRecursion Fits items → i < length slice → item ≡ get_or slice i item
    → Fits item
item_fits Fits items slice i item same fit below is =
    subst Fits (sym is) (fits_at Fits slice i item (subst (AllByRecursion Fits) (sym same) fit) below)

-- items that are what their lines say fit for the feeder and for the compactor
feed_one : (terms : Terms) (item : Item) → ItemFits terms item → FeedFits terms item
feed_one terms (Change line command) fit = fit.0
feed_one terms (Publish line) fit = tt
feed_one terms (Ask line viewer session limit query) fit = tt
feed_one terms (Compact line vertical shard replica) fit = tt
feed_one terms (Stats line) fit = tt
feed_one terms (Refused line code) fit = tt
feed_one terms (Fault line code) fit = tt
feed_one terms (QueryFault line code column) fit = tt
feed_one terms (Memory line) fit = tt

compact_one : (terms : Terms) (item : Item) → ItemFits terms item → CompactFits terms item
compact_one terms (Compact line vertical shard replica) fit = fit
compact_one terms (Change line command) fit = tt
compact_one terms (Publish line) fit = tt
compact_one terms (Ask line viewer session limit query) fit = tt
compact_one terms (Stats line) fit = tt
compact_one terms (Refused line code) fit = tt
compact_one terms (Fault line code) fit = tt
compact_one terms (QueryFault line code column) fit = tt
compact_one terms (Memory line) fit = tt

pub fit_for_feed : (terms : Terms) (items : List Item) → ItemsFit terms items → AllByRecursion (FeedFits terms) items
fit_for_feed terms [] fit = tt
fit_for_feed terms (item ∷ items) fit = (feed_one terms item fit.0, fit_for_feed terms items fit.1)

pub fit_for_compactions : (terms : Terms) (items : List Item) → ItemsFit terms items → AllByRecursion (CompactFits terms) items
fit_for_compactions terms [] fit = tt
fit_for_compactions terms (item ∷ items) fit = (compact_one terms item fit.0, fit_for_compactions terms items fit.1)

-- the items before a place, and the one at it
pub items-more : (items slice : List Item) (i : ℕ) (item : Item) → slice ≡ items → i < length slice → item ≡ get_or slice i item → take (i + 1) items ≡ take i items ++ item ∷ []
items-more items slice i item same below is =
    subst (λ xs. take (i + 1) xs ≡ take i xs ++ item ∷ []) same (take_more slice i item below ∙ ap (λ x. take i slice ++ x ∷ []) (sym is))

-- a list is as long at least as one that it begins with
pub length_prefix : {X : Type 0} (xs ys : List X) → IsPrefix xs ys → length xs ≤ length ys
length_prefix xs ys begins = omega (arith, ap length begins.1, length-append xs begins.0)

-- what is taken of items, and of one item more
pub filter_map-more : {X Y : Type 0} (h : X → Option Y) (xs : List X) (x : X) → filter_map h (xs ++ x ∷ []) ≡ filter_map h xs ++ option_to_list (h x)
filter_map-more h xs x = filter_map-append h xs (x ∷ []) ∙ ap (λ ys. filter_map h xs ++ ys) (by (h x))
  where
    by : {Y : Type 0} (found : Option Y) → cons_option found [] ≡ option_to_list found
    by None = refl
    by (Some y) = refl
