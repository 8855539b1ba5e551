-- Changes to which later ones are added, run by run.
use Rattle.std.proofs.Common.{arith, ◌≡◌, ℕ, ◌+◌, ◌<◌, List, [], ◌∷◌, ◌++◌, map, take, length, reverse, refl, sym, ◌∙◌, ap, get_or}
use Rattle.std.proofs.lemmas.List.{reverse-append, take_more}
use Rattle.uni_base.specs.declared.edge.Audience.{Audience}
use Rattle.uni_base.specs.declared.entity.DocKey.{DocKey}
use Rattle.posting_lists.specs.declared.posting.Posting.{Posting}
use Rattle.layer_base.specs.Layers.{from_log, put_all}
use Rattle.layer_base.proofs.Tables.{from_log-append, put_all-append, put_all-log}
use Rattle.layer_stack.specs.declared.directory.Span.{Span}
use Rattle.layer_stack.specs.declared.place.Place.{Place}
use Rattle.layer_stack.specs.declared.place.TermKey.{TermKey}
use Rattle.layer_stack.specs.Places.{place_cmp}
use Rattle.layer_stack.specs.Postings.{PostingChanges, deleting_rows, putting_list, putting_rows}
use Rattle.layer_stack.specs.Spans.{delete_row, delete_rows, put_rows, spanned, tagged}
use Rattle.layer_stack.proofs.Combined.{list_deletes, list_puts, put_row}
use Rattle.layer_stack.proofs.Order.{place_total, place_apart}
use Rattle.layer_stack.proofs.Told.{tagged_push}

-- rows, and then others
pub deleting_rows-append : (xs ys : List (Place × Unit {0})) (c : PostingChanges) → deleting_rows (xs ++ ys) c ≡ deleting_rows ys (deleting_rows xs c)
deleting_rows-append xs ys c = ap (λ m. record { deletes = m; puts = c.puts }) (ap (λ rows. put_all rows c.deletes) (reverse-append xs ys) ∙ put_all-append (reverse ys) (reverse xs) c.deletes)

pub putting_rows-append : (xs ys : List (Place × Audience)) (c : PostingChanges) → putting_rows (xs ++ ys) c ≡ putting_rows ys (putting_rows xs c)
putting_rows-append xs ys c = ap (λ m. record { deletes = c.deletes; puts = m }) (ap (λ rows. put_all rows c.puts) (reverse-append xs ys) ∙ put_all-append (reverse ys) (reverse xs) c.puts)

-- a list that is put is its rows
pub list_rows : (t : TermKey) (ps : List Posting) (c : PostingChanges) → putting_list t ps c ≡ putting_rows (map (put_row t) ps) c
list_rows t ps c = λ i. record { deletes = list_deletes t ps c i; puts = list_puts t ps c i }

-- a log, and then rows
pub log_after : {V : Type 0} (xs ys : List (Place × V)) → from_log {R = place_cmp} (xs ++ ys) ≡ put_all (reverse ys) (from_log xs)
log_after xs ys = from_log-append place_total place_apart xs ys ∙ put_all-log place_total place_apart ys (from_log xs)

-- one run more
module _ (runs : List (TermKey × Span)) (n : ℕ) (run : TermKey × Span) (below : n < length runs) (at : run ≡ get_or runs n run) where
  pub one_run : {X Y : Type 0} (tag : TermKey → X → Y) (xs : List X) → tagged tag (take (n + 1) runs) xs ≡ tagged tag (take n runs) xs ++ map (tag run.0) (spanned run.1 xs)
  one_run tag xs = ap (λ rs. tagged tag rs xs) (take_more runs n run below ∙ ap (λ r. take n runs ++ r ∷ []) (sym at)) ∙ tagged_push tag (take n runs) run xs
