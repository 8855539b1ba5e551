-- Histories of a catalogue, and what a value stands for as they grow.
use Rattle.std.proofs.Common.{◌≡◌, ℕ, suc, Bool, true, false, cond, List, [], ◌∷◌, ◌++◌, map, length, refl, sym, ◌∙◌, ap, subst, arith, nat_lt}
use Rattle.std.proofs.lemmas.Bool.Decides.{nat_tests}
use Rattle.std.proofs.lemmas.List.{length-map, map-append}
use mathlib.Core.List.{IsPrefix}
use Rattle.uni_table.specs.declared.command.Command.{Command}
use Rattle.turn_lock.specs.Steps.{longer}
use Rattle.version_catalog.specs.Journals.{batches, IsHistory}
use Rattle.version_catalog.specs.Settings.{SettingsState}
use Rattle.version_catalog.specs.States.{StateStands, IsTold, StandsFor}
use Rattle.version_catalog.specs.declared.entry.Entry.{Entry}
use Rattle.version_catalog.specs.declared.entry.Entry.TheVariants.{Opening, Published}
use Rattle.version_catalog.specs.declared.state.CatalogueState.{CatalogueState}

pub batches-append : (xs ys : List Entry) → batches (xs ++ ys) ≡ batches xs ++ batches ys
batches-append [] ys = refl
batches-append (Opening settings ∷ xs) ys = batches-append xs ys
batches-append (Published batch ∷ xs) ys = ap (λ bs. batch ∷ bs) (batches-append xs ys)

pub batches_prefix : (xs ys : List Entry) → IsPrefix xs ys → IsPrefix (batches xs) (batches ys)
batches_prefix xs ys p = (batches p.0, sym (batches-append xs p.0) ∙ ap batches p.1)

-- one batch more
pub batches-snoc : (entries : List Entry) (batch : List Command) → batches (entries ++ Published batch ∷ []) ≡ batches entries ++ batch ∷ []
batches-snoc entries batch = batches-append entries (Published batch ∷ [])

pub history-snoc : (settings : SettingsState) (entries : List Entry) (batch : List Command) → IsHistory settings entries → IsHistory settings (entries ++ Published batch ∷ [])
history-snoc settings entries batch is =
    ap (λ es. es ++ Published batch ∷ []) is
    ∙ ap (λ es. Opening settings ∷ es) (sym (map-append Published (batches entries) (batch ∷ [])) ∙ ap (map Published) (sym (batches-snoc entries batch)))

-- of two histories the longer has the longer journal
pub length_history : (settings : SettingsState) (entries : List Entry) → IsHistory settings entries → length entries ≡ suc (length (batches entries))
length_history settings entries is = ap length is ∙ ap suc (length-map (batches entries) Published)

later_tests : (m n a b : ℕ) → m ≡ suc a → n ≡ suc b → nat_lt m n ≡ nat_lt a b
later_tests m n a b e f = grind (arith, nat_tests)

of_tests : (xs ys : List Entry) (a b : Bool) → a ≡ b → batches (cond a ys xs) ≡ cond b (batches ys) (batches xs)
of_tests xs ys true true e = refl
of_tests xs ys true false e = absurd cc
of_tests xs ys false true e = absurd cc
of_tests xs ys false false e = refl

pub batches-longer : (settings : SettingsState) (xs ys : List Entry) → IsHistory settings xs → IsHistory settings ys → batches (longer xs ys) ≡ longer (batches xs) (batches ys)
batches-longer settings xs ys is as_well =
    of_tests xs ys (nat_lt (length xs) (length ys)) (nat_lt (length (batches xs)) (length (batches ys)))
    (later_tests (length xs) (length ys) (length (batches xs)) (length (batches ys)) (length_history settings xs is) (length_history settings ys as_well))

one_of : (settings : SettingsState) (xs ys : List Entry) (a : Bool) → IsHistory settings xs → IsHistory settings ys → IsHistory settings (cond a ys xs)
one_of settings xs ys true is as_well = as_well
one_of settings xs ys false is as_well = is

pub history_longer : (settings : SettingsState) (xs ys : List Entry) → IsHistory settings xs → IsHistory settings ys → IsHistory settings (longer xs ys)
history_longer settings xs ys is as_well = one_of settings xs ys (nat_lt (length xs) (length ys)) is as_well

-- a history that began earlier is one of the same settings
pub stands_after : (state : CatalogueState) (settings : SettingsState) (before after : List Entry) → IsHistory settings before → IsPrefix before after → StandsFor state after
    → IsHistory settings after × StateStands state settings (batches after) × IsTold state settings
stands_after state settings before [] is p stands = absurd (cc (is, p.1))
stands_after state settings before (Opening other ∷ rest) is p stands =
    let first : Opening settings ∷ (map Published (batches before) ++ p.0) ≡ Opening other ∷ rest = ap (λ es. es ++ p.0) (sym is) ∙ p.1 in
    let same : settings ≡ other = cc (first) in
    (rw same stands.0, rw same stands.1, rw same stands.2)
stands_after state settings before (Published batch ∷ rest) is p stands = absurd stands

pub stands_for : (state : CatalogueState) (settings : SettingsState) (entries : List Entry) → IsHistory settings entries → StateStands state settings (batches entries) → IsTold state settings → StandsFor state entries
stands_for state settings [] is stands told = tt
stands_for state settings (Opening other ∷ rest) is stands told =
    let same : settings ≡ other = cc (is) in
    (subst (λ s. IsHistory s (Opening other ∷ rest)) same is, subst (λ s. StateStands state s (batches rest)) same stands, subst (λ s. IsTold state s) same told)
stands_for state settings (Published batch ∷ rest) is stands told = absurd (cc (is))
