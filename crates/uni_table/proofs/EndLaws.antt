-- Ends, publish by publish.
use Rattle.std.proofs.Common.{◌≡◌, ◌+◌, ◌++◌, ℕ, ◌==◌, ◌&&◌, Bool, true, false, not, List, [], ◌∷◌, Option, None, Some, cond, refl, sym, ◌∙◌, ap, subst, length, filter, nat_le, arith}
use Rattle.std.proofs.lemmas.Bool.{and_parts}
use Rattle.std.specs.declared.cmp.Ordering.{Ordering}
use Rattle.std.specs.declared.cmp.Ordering.TheVariants.{Less, Equal, Greater}
use Rattle.std.specs.List.{list_all}
use Rattle.std.specs.Option.{option_map_or}
use Rattle.std.specs.Ordering.{match_ordering}
use Rattle.std.specs.BTreeMap.{insert_entry, is_at}
use Rattle.uni_base.specs.declared.edge.Audience.{Audience}
use Rattle.uni_base.specs.declared.edge.EdgeRef.{EdgeRef}
use Rattle.uni_base.specs.EdgeOrder.{edge_cmp}
use Rattle.uni_schema.specs.Schema.{Declarations}
use Rattle.uni_table.specs.declared.command.Command.{Command}
use Rattle.uni_table.specs.declared.command.Command.TheVariants.{Entity, Gone, Edge, Cut}
use Rattle.uni_table.specs.declared.command.EdgeRow.{EdgeRow}
use Rattle.uni_table.specs.Commands.{next, next_edge, edge_of, audience_of}
use Rattle.uni_table.specs.Contents.{Contents, empty, has_ended, without_edge, ended, touches}
use Rattle.uni_table.specs.Journals.{after_commands, all_commands, after_batch, after_batches, fold_of}
use Rattle.uni_table.specs.Laws.{EndsPass, has_end}
use Rattle.uni_table.proofs.Entries.{list_all-remove_entry, list_all-left}

-- no edge has ended by a publish
abbrev none_ended : ℕ → Contents → Type 0
none_ended publish table = list_all (λ (e : EdgeRef × EdgeRow). not (has_ended publish e.1)) table.edges ≡ true

-- what a filter leaves passes it
all_left : {X : Type 0} (p : X → Bool) (xs : List X) → list_all p (filter p xs) ≡ true
all_left p [] = refl
all_left {X} p (x ∷ xs) = by (p x) refl (all_left p xs)
  where
    by : (b : Bool) → p x ≡ b → list_all p (filter p xs) ≡ true → list_all p (cond b (x ∷ filter p xs) (filter p xs)) ≡ true
    by true e later = rw e later
    by false e later = later

passed : (schema : Declarations) (table : Contents) (made : ℕ) (batches : List (List Command)) → none_ended made table → none_ended (made + length batches) (after_batches schema table made batches)
passed schema table made [] none = subst (λ n. none_ended n table) (sym (no_more made)) none
  where
    no_more : (n : ℕ) → n + 0 ≡ n
    no_more n = omega arith
passed schema table made (batch ∷ batches) none =
    subst (λ n. none_ended n (after_batches schema (after_batch schema table (made + 1) batch) (made + 1) batches)) (one_more made)
    (passed schema (after_batch schema table (made + 1) batch) (made + 1) batches (all_left (λ (e : EdgeRef × EdgeRow). not (has_ended (made + 1) e.1)) (after_commands schema table batch).edges))
  where
    one_more : (n : ℕ) → n + 1 + length batches ≡ n + length (batch ∷ batches)
    one_more n = omega arith

-- no edge has an end
abbrev without_ends : Contents → Type 0
without_ends table = list_all (λ (e : EdgeRef × EdgeRow). e.1.end == 0) table.edges ≡ true

put_without : (edge : EdgeRef) (row : EdgeRow) → (row.end == 0) ≡ true → (es : List (EdgeRef × EdgeRow)) → list_all (λ (e : EdgeRef × EdgeRow). e.1.end == 0) es ≡ true
    → list_all (λ (e : EdgeRef × EdgeRow). e.1.end == 0) (insert_entry edge_cmp es edge row) ≡ true
put_without edge row here [] all = rw here refl
put_without edge row here (e ∷ es) all =
    let parts = and_parts (e.1.end == 0) (list_all (λ (f : EdgeRef × EdgeRow). f.1.end == 0) es) all in
    by (edge_cmp edge e.0) parts.0 parts.1 (put_without edge row here es parts.1)
  where
    by : (o : Ordering) → (e.1.end == 0) ≡ true → list_all (λ (f : EdgeRef × EdgeRow). f.1.end == 0) es ≡ true → list_all (λ (f : EdgeRef × EdgeRow). f.1.end == 0) (insert_entry edge_cmp es edge row) ≡ true
        → list_all (λ (f : EdgeRef × EdgeRow). f.1.end == 0) (match_ordering o ((edge, row) ∷ e ∷ es) ((e.0, row) ∷ es) (e ∷ insert_entry edge_cmp es edge row)) ≡ true
    by Less first rest later = rw (here, first) rest
    by Equal first rest later = rw here rest
    by Greater first rest later = rw first later

unended_step : (schema : Declarations) (table : Contents) (command : Command) → not (has_end command) ≡ true → without_ends table → without_ends (next schema table command)
unended_step schema table (Entity vertical id rank) none all = all
unended_step schema table (Gone id) none all =
    list_all-left (λ (e : EdgeRef × EdgeRow). not (touches id e.0)) (λ (e : EdgeRef × EdgeRow). e.1.end == 0) (λ (e : EdgeRef × EdgeRow). e.1.end == 0) (λ e left here. here) table.edges all
unended_step schema table (Cut number key target) none all = by (edge_of schema number key target)
  where
    by : (o : Option EdgeRef) → without_ends (option_map_or (λ edge. without_edge table edge) o table)
    by None = all
    by (Some edge) = list_all-remove_entry (is_at (edge_cmp edge)) (λ (e : EdgeRef × EdgeRow). e.1.end == 0) table.edges all
unended_step schema table (Edge number key target audience until) none all = by (edge_of schema number key target) (audience_of schema audience)
  where
    zero_end : (b : Bool) → not (not b) ≡ true → b ≡ true
    zero_end true h = refl
    zero_end false h = cc

    by : (o : Option EdgeRef) (a : Option Audience) → without_ends (next_edge table until o a)
    by None a = all
    by (Some edge) None = all
    by (Some edge) (Some a) = put_without edge (record { audience = a; end = until }) (zero_end (until == 0) none) table.edges all

unended_commands : (schema : Declarations) (table : Contents) (commands : List Command) → list_all (λ command. not (has_end command)) commands ≡ true → without_ends table → without_ends (after_commands schema table commands)
unended_commands schema table [] none all = all
unended_commands schema table (command ∷ commands) none all =
    let parts = and_parts (not (has_end command)) (list_all (λ (c : Command). not (has_end c)) commands) none in
    unended_commands schema (next schema table command) commands parts.1 (unended_step schema table command parts.0 all)

-- so no publish ends any
nothing_ends : (table : Contents) (publish : ℕ) → without_ends table → ended table publish ≡ table
nothing_ends table publish all = λ i. record { entities = table.entities; edges = by table.edges all i }
  where
    still : (n : ℕ) → (n == 0) ≡ true → not (not (n == 0) && nat_le n publish) ≡ true
    still n e = rw e refl

    by : (es : List (EdgeRef × EdgeRow)) → list_all (λ (e : EdgeRef × EdgeRow). e.1.end == 0) es ≡ true → filter (λ (e : EdgeRef × EdgeRow). not (has_ended publish e.1)) es ≡ es
    by [] all = refl
    by (e ∷ es) all =
        let parts = and_parts (e.1.end == 0) (list_all (λ (f : EdgeRef × EdgeRow). f.1.end == 0) es) all in
        rw (still e.1.end parts.0) (ap (λ (fs : List (EdgeRef × EdgeRow)). e ∷ fs) (by es parts.1))

after_both : (schema : Declarations) (table : Contents) (first second : List Command) → after_commands schema table (first ++ second) ≡ after_commands schema (after_commands schema table first) second
after_both schema table [] second = refl
after_both schema table (command ∷ first) second = after_both schema (next schema table command) first second

unended_batches : (schema : Declarations) (table : Contents) (made : ℕ) (batches : List (List Command)) → list_all (list_all (λ command. not (has_end command))) batches ≡ true → without_ends table
    → after_batches schema table made batches ≡ after_commands schema table (all_commands batches)
unended_batches schema table made [] none all = refl
unended_batches schema table made (batch ∷ batches) none all =
    let parts = and_parts (list_all (λ (c : Command). not (has_end c)) batch) (list_all (list_all (λ (c : Command). not (has_end c))) batches) none in
    let without = unended_commands schema table batch parts.0 all in
    let same : after_batch schema table (made + 1) batch ≡ after_commands schema table batch = nothing_ends (after_commands schema table batch) (made + 1) without in
    ap (λ (t : Contents). after_batches schema t (made + 1) batches) same
    ∙ unended_batches schema (after_commands schema table batch) (made + 1) batches parts.1 without
    ∙ sym (after_both schema table batch (all_commands batches))

from_none : (n : ℕ) → 0 + n ≡ n
from_none n = omega arith

pub ends_pass : EndsPass
ends_pass = record {
  passed = λ schema journal. subst (λ n. none_ended n (fold_of schema journal)) (from_none (length journal)) (passed schema empty 0 journal refl);
  unended = λ schema journal none. unended_batches schema empty 0 journal none refl;
}
