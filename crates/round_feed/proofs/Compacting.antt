-- Answers to compactions, as more lines are taken.
use Rattle.std.proofs.Common.{◌≡◌, ℕ, ◌+◌, ◌<◌, ◌≤◌, List, [], ◌∷◌, ◌++◌, length, take, get_or, Option, option_to_list, refl, ap, sym, subst, ◌∙◌, arith}
use Rattle.std.proofs.lemmas.List.{append_assoc}
use mathlib.Core.List.{IsPrefix}
use Rattle.uni_table.specs.declared.command.Command.{Command}
use Rattle.reply_text.specs.declared.answer.Answer.{Answer}
use Rattle.reply_text.specs.declared.answer.Answer.TheVariants.{Compacted, Memory}
use Rattle.script_rounds.specs.Entries.{Entry}
use Rattle.script_rounds.specs.declared.item.Item.{Item}
use Rattle.round_feed.specs.Compacted.{AreCompacted, compact_entries, compact_entry, install_at, installs_by}
use Rattle.version_catalog.specs.declared.install.Install.{Install}
use Rattle.round_feed.proofs.Items.{filter_map-more, items-more, length_prefix}

-- answers that are not below a number are not below a lower one
pub compacted_lower : (low mid high : ℕ) (entries : List Entry) (answers : List Answer) → low ≤ mid → AreCompacted mid high entries answers → AreCompacted low high entries answers
compacted_lower low mid high [] [] le are = are
compacted_lower low mid high [] (answer ∷ answers) le are = absurd are
compacted_lower low mid high (entry ∷ entries) [] le are = absurd are
compacted_lower low mid high (entry ∷ entries) (Compacted line number ∷ answers) le are = (are.0, omega (arith, are.1), are.2, are.3)
compacted_lower low mid high (entry ∷ entries) (Memory line ∷ answers) le are = (are.0, compacted_lower low mid high entries answers le are.1)
compacted_lower low mid high (entry ∷ entries) (answer ∷ answers) le are = absurd are

-- answers up to a number, and then answers from it on
pub compacted-append : (low mid high : ℕ) (entries more : List Entry) (answers others : List Answer) → low ≤ mid → mid ≤ high → AreCompacted low mid entries answers
    → AreCompacted mid high more others → AreCompacted low high (entries ++ more) (answers ++ others)
compacted-append low mid high [] more [] others from to are rest = compacted_lower low mid high more others from rest
compacted-append low mid high [] more (answer ∷ answers) others from to are rest = absurd are
compacted-append low mid high (entry ∷ entries) more [] others from to are rest = absurd are
compacted-append low mid high (entry ∷ entries) more (Compacted line number ∷ answers) others from to are rest =
    (are.0, are.1, omega (arith, are.2), compacted-append number mid high entries more answers others are.2 to are.3 rest)
compacted-append low mid high (entry ∷ entries) more (Memory line ∷ answers) others from to are rest =
    (are.0, compacted-append low mid high entries more answers others from to are.1 rest)
compacted-append low mid high (entry ∷ entries) more (answer ∷ answers) others from to are rest = absurd are

-- the lines before a place, and the one at it
pub compacted_next : (old now new : List (List Command)) (items slice : List Item) (i : ℕ) (item : Item) (answers more : List Answer) (answer : Option Answer)
    → slice ≡ items → i < length slice → item ≡ get_or slice i item → more ≡ answers ++ option_to_list answer → IsPrefix old now → IsPrefix now new
    → AreCompacted (length old) (length now) (compact_entries (take i items)) answers
    → AreCompacted (length now) (length new) (option_to_list (compact_entry item)) (option_to_list answer)
    → AreCompacted (length old) (length new) (compact_entries (take (i + 1) items)) more
compacted_next old now new items slice i item answers more answer same below is all before later are one =
    subst (λ es. AreCompacted (length old) (length new) es more) (sym (ap compact_entries (items-more items slice i item same below is) ∙ filter_map-more compact_entry (take i items) item))
    (subst (AreCompacted (length old) (length new) (compact_entries (take i items) ++ option_to_list (compact_entry item))) (sym all)
    (compacted-append (length old) (length now) (length new) (compact_entries (take i items)) (option_to_list (compact_entry item)) answers (option_to_list answer)
    (length_prefix old now before) (length_prefix now new later) are one))

-- the installs of entries, and of more behind them
pub installs-append : (low high : ℕ) (entries more : List Entry) (answers others : List Answer) → AreCompacted low high entries answers
    → installs_by (entries ++ more) (answers ++ others) ≡ installs_by entries answers ++ installs_by more others
installs-append low high [] more [] others are = refl
installs-append low high [] more (answer ∷ answers) others are = absurd are
installs-append low high (entry ∷ entries) more [] others are = absurd are
installs-append low high (entry ∷ entries) more (Compacted line number ∷ answers) others are =
    ap (λ is. install_at entry number ++ is) (installs-append number high entries more answers others are.3)
    ∙ sym (append_assoc (install_at entry number) (installs_by entries answers) (installs_by more others))
installs-append low high (entry ∷ entries) more (Memory line ∷ answers) others are = installs-append low high entries more answers others are.1
installs-append low high (entry ∷ entries) more (answer ∷ answers) others are = absurd are

-- those of the lines before a place, and of the one at it
pub installs_next : (low high : ℕ) (old now new : List Install) (items slice : List Item) (i : ℕ) (item : Item) (answers more : List Answer) (answer : Option Answer)
    → slice ≡ items → i < length slice → item ≡ get_or slice i item → more ≡ answers ++ option_to_list answer
    → AreCompacted low high (compact_entries (take i items)) answers
    → now ≡ old ++ installs_by (compact_entries (take i items)) answers → new ≡ now ++ installs_by (option_to_list (compact_entry item)) (option_to_list answer)
    → new ≡ old ++ installs_by (compact_entries (take (i + 1) items)) more
installs_next low high old now new items slice i item answers more answer same below is all are before one =
    let entries = compact_entries (take i items) in
    let last = option_to_list (compact_entry item) in
    let longer : compact_entries (take (i + 1) items) ≡ entries ++ last = ap compact_entries (items-more items slice i item same below is) ∙ filter_map-more compact_entry (take i items) item in
    one ∙ ap (λ is. is ++ installs_by last (option_to_list answer)) before
    ∙ append_assoc old (installs_by entries answers) (installs_by last (option_to_list answer))
    ∙ ap (λ is. old ++ is) (sym (installs-append low high entries last answers (option_to_list answer) are) ∙ (λ k. installs_by (sym longer k) (sym all k)))
