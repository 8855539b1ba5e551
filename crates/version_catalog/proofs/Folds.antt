-- Journals and batches, and one more command or batch.
use Rattle.std.proofs.Common.{◌≡◌, ℕ, zero, suc, ◌+◌, ◌-◌, ◌<◌, ◌≤◌, ◌==◌, ◌&&◌, Bool, true, false, not, cond, List, [], ◌∷◌, ◌++◌, map, filter, length, None, is_some, nat_le, refl, ap, ◌∙◌, arith}
use Rattle.std.proofs.Math.Seq.{take-length}
use Rattle.std.proofs.lemmas.Bool.Decides.{nat_tests}
use Rattle.std.proofs.lemmas.List.{take-append-le}
use Rattle.std.specs.List.{flat_map, range_with_len}
use Rattle.uni_base.specs.declared.edge.EdgeRef.{EdgeRef}
use Rattle.uni_base.specs.declared.limits.Limits.{Limits}
use Rattle.uni_schema.specs.Schema.{Declarations}
use Rattle.uni_table.specs.declared.command.Command.{Command}
use Rattle.uni_table.specs.declared.command.EdgeRow.{EdgeRow}
use Rattle.uni_table.specs.Commands.{next, refuses}
use Rattle.uni_table.specs.Contents.{Contents, empty, ended, has_ended}
use Rattle.uni_table.specs.Journals.{after_commands, after_batch, after_batches, fold_of, accepts_commands, accepts_batches, IsJournal}
use Rattle.uni_table.specs.Lists.{ending, ending_at}
use Rattle.version_catalog.specs.Settings.{SettingsState}
use Rattle.version_catalog.specs.Stacks.{table_at}
use Rattle.version_catalog.specs.Turns.{Accepts}

both : (a b : Bool) → (a && b) ≡ true → (a ≡ true) × (b ≡ true)
both true b is = (refl, is)
both false b is = absurd cc

-- ---- one command more

pub after_commands-snoc : (schema : Declarations) (table : Contents) (commands : List Command) (command : Command)
    → after_commands schema table (commands ++ command ∷ []) ≡ next schema (after_commands schema table commands) command
after_commands-snoc schema table [] command = refl
after_commands-snoc schema table (c ∷ commands) command = after_commands-snoc schema (next schema table c) commands command

pub accepts_commands-snoc : (schema : Declarations) (limits : Limits) (table : Contents) (commands : List Command) (command : Command)
    → accepts_commands schema limits table commands ≡ true → refuses schema limits (after_commands schema table commands) command ≡ None
    → accepts_commands schema limits table (commands ++ command ∷ []) ≡ true
accepts_commands-snoc schema limits table [] command all one = ap (λ r. not (is_some r) && true) one
accepts_commands-snoc schema limits table (c ∷ commands) command all one =
    let parts = both (not (is_some (refuses schema limits table c))) (accepts_commands schema limits (next schema table c) commands) all in
    ap (λ b. b && accepts_commands schema limits (next schema table c) (commands ++ command ∷ [])) parts.0
    ∙ accepts_commands-snoc schema limits (next schema table c) commands command parts.1 one

-- ---- one batch more

accepts_batches-snoc : (schema : Declarations) (limits : Limits) (table : Contents) (made : ℕ) (journal : List (List Command)) (batch : List Command)
    → accepts_batches schema limits table made journal ≡ true → accepts_commands schema limits (after_batches schema table made journal) batch ≡ true
    → accepts_batches schema limits table made (journal ++ batch ∷ []) ≡ true
accepts_batches-snoc schema limits table made [] batch all one = ap (λ b. b && true) one
accepts_batches-snoc schema limits table made (b ∷ journal) batch all one =
    let parts = both (accepts_commands schema limits table b) (accepts_batches schema limits (after_batch schema table (made + 1) b) (made + 1) journal) all in
    ap (λ c. c && accepts_batches schema limits (after_batch schema table (made + 1) b) (made + 1) (journal ++ batch ∷ [])) parts.0
    ∙ accepts_batches-snoc schema limits (after_batch schema table (made + 1) b) (made + 1) journal batch parts.1 one

pub is_journal-snoc : (settings : SettingsState) (journal : List (List Command)) (batch : List Command) → IsJournal settings.schema settings.limits journal → Accepts settings journal batch
    → IsJournal settings.schema settings.limits (journal ++ batch ∷ [])
is_journal-snoc settings journal batch is accepts = accepts_batches-snoc settings.schema settings.limits empty 0 journal batch is accepts

after_batches-snoc : (schema : Declarations) (table : Contents) (made : ℕ) (journal : List (List Command)) (batch : List Command)
    → after_batches schema table made (journal ++ batch ∷ []) ≡ after_batch schema (after_batches schema table made journal) (made + length journal + 1) batch
after_batches-snoc schema table made [] batch = ap (λ n. after_batch schema table n batch) (let same : made + 1 ≡ made + 0 + 1 = omega arith in same)
after_batches-snoc schema table made (b ∷ journal) batch =
    after_batches-snoc schema (after_batch schema table (made + 1) b) (made + 1) journal batch
    ∙ ap (λ n. after_batch schema (after_batches schema (after_batch schema table (made + 1) b) (made + 1) journal) n batch)
    (let same : made + 1 + length journal + 1 ≡ made + length (b ∷ journal) + 1 = omega arith in same)

pub fold_of-snoc : (schema : Declarations) (journal : List (List Command)) (batch : List Command)
    → fold_of schema (journal ++ batch ∷ []) ≡ after_batch schema (fold_of schema journal) (length journal + 1) batch
fold_of-snoc schema journal batch =
    after_batches-snoc schema empty 0 journal batch
    ∙ ap (λ n. after_batch schema (fold_of schema journal) n batch) (let same : 0 + length journal + 1 ≡ length journal + 1 = omega arith in same)

-- ---- the tables on the way

pub table_at_end : (schema : Declarations) (journal : List (List Command)) → table_at schema journal (length journal) ≡ fold_of schema journal
table_at_end schema journal = ap (fold_of schema) (take-length journal)

pub table_at-append : (schema : Declarations) (journal more : List (List Command)) (n : ℕ) → n ≤ length journal → table_at schema (journal ++ more) n ≡ table_at schema journal n
table_at-append schema journal more n within = ap (fold_of schema) (take-append-le n journal more within)

-- ---- a publish that ends no edge

none_of : {X : Type 0} (f : ℕ → List X) (a n k : ℕ) → flat_map f (range_with_len a n) ≡ [] → k < n → f (a + k) ≡ []
none_of f a zero k none below = absurd (omega arith)
none_of {X} f a (suc n) zero none below =
    let first : a + 0 ≡ a = omega arith in
    ap f first ∙ front (f a) (flat_map f (range_with_len (a + 1) n)) none
  where
    front : (xs ys : List X) → xs ++ ys ≡ [] → xs ≡ []
    front [] ys e = refl
    front (x ∷ xs) ys e = absurd (cc (e))
none_of {X} f a (suc n) (suc k) none below =
    let next_one : a + suc k ≡ a + 1 + k = omega arith in
    ap f next_one ∙ none_of f (a + 1) n k (back (f a) (flat_map f (range_with_len (a + 1) n)) none) (omega arith)
  where
    back : (xs ys : List X) → xs ++ ys ≡ [] → ys ≡ []
    back [] ys e = e
    back (x ∷ xs) ys e = absurd (cc (e))

-- an edge that has ended is in the list of its end
lists_it : (publish : ℕ) (edge : EdgeRef) (row : EdgeRow) → has_ended publish row ≡ true → (row.end ≡ 1 + (row.end - 1)) × (row.end - 1 < publish)
lists_it publish edge row is =
    let parts = both (not (row.end == 0)) (nat_le row.end publish) is in
    let some_end : (row.end == 0) ≡ false = not_true (row.end == 0) parts.0 in
    let within : row.end ≤ publish = grind (arith, nat_tests) in
    let over : 0 < row.end = grind (arith, nat_tests) in
    (omega (arith, over), omega (arith, over, within))
  where
    not_true : (b : Bool) → not b ≡ true → b ≡ false
    not_true true e = absurd cc
    not_true false e = refl

kept_all : (publish : ℕ) (edges : List (EdgeRef × EdgeRow)) → ((m : ℕ) → m < publish → map (λ (e : EdgeRef × EdgeRow). e.0) (filter (λ (e : EdgeRef × EdgeRow). e.1.end == 1 + m) edges) ≡ [])
    → filter (λ (e : EdgeRef × EdgeRow). not (has_ended publish e.1)) edges ≡ edges
kept_all publish [] none = refl
kept_all publish (e ∷ edges) none = by (has_ended publish e.1) refl (kept_all publish edges (λ m below. later (e.1.end == 1 + m) m (none m below)))
  where
    listed : ℕ → List EdgeRef
    listed m = map (λ (e : EdgeRef × EdgeRow). e.0) (filter (λ (e : EdgeRef × EdgeRow). e.1.end == 1 + m) edges)

    later : (b : Bool) (m : ℕ) → map (λ (e : EdgeRef × EdgeRow). e.0) (cond b (e ∷ filter (λ (e : EdgeRef × EdgeRow). e.1.end == 1 + m) edges) (filter (λ (e : EdgeRef × EdgeRow). e.1.end == 1 + m) edges)) ≡ []
        → map (λ (e : EdgeRef × EdgeRow). e.0) (filter (λ (e : EdgeRef × EdgeRow). e.1.end == 1 + m) edges) ≡ []
    later true m t = absurd (cc (t))
    later false m t = t

    at_own : (b : Bool) → b ≡ true → (m : ℕ) → map (λ (e : EdgeRef × EdgeRow). e.0) (cond b (e ∷ filter (λ (e : EdgeRef × EdgeRow). e.1.end == 1 + m) edges) (filter (λ (e : EdgeRef × EdgeRow). e.1.end == 1 + m) edges)) ≡ [] → ⊥
    at_own true is m t = absurd (cc (t))
    at_own false is m t = absurd (cc (is))

    own : (end m : ℕ) → end ≡ 1 + m → (end == 1 + m) ≡ true
    own end m same = grind (arith, nat_tests)

    by : (b : Bool) → has_ended publish e.1 ≡ b → filter (λ (e : EdgeRef × EdgeRow). not (has_ended publish e.1)) edges ≡ edges
        → cond (not (has_ended publish e.1)) (e ∷ filter (λ (e : EdgeRef × EdgeRow). not (has_ended publish e.1)) edges) (filter (λ (e : EdgeRef × EdgeRow). not (has_ended publish e.1)) edges) ≡ e ∷ edges
    by true is rest =
        let place = lists_it publish e.0 e.1 is in
        absurd (at_own (e.1.end == 1 + (e.1.end - 1)) (own e.1.end (e.1.end - 1) place.0) (e.1.end - 1) (none (e.1.end - 1) place.1))
    by false is rest = ap (λ b. cond (not b) (e ∷ filter (λ (e : EdgeRef × EdgeRow). not (has_ended publish e.1)) edges) (filter (λ (e : EdgeRef × EdgeRow). not (has_ended publish e.1)) edges)) is ∙ ap (λ es. e ∷ es) rest

pub ended_nothing : (table : Contents) (publish : ℕ) → ending table publish ≡ [] → ended table publish ≡ table
ended_nothing table publish none = λ i. record { entities = table.entities; edges = kept_all publish table.edges (λ m below. none_of (ending_at table) 1 publish m none below) i }
