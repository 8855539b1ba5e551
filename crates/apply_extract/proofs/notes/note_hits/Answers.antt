use Rattle.std.proofs.Common.{◌≡◌, ◌+◌, ◌++◌, ◌∷◌, [], List, true, length, ap, sym, ◌∙◌, subst, append_assoc}
use Rattle.std.specs.Vec.Iter.{into_iter_items}
use Rattle.lineage_tree.specs.declared.lineage.RawHit.{RawHit}
use Rattle.lineage_tree.specs.Entries.{names_below}
use Rattle.lineage_tree.specs.Lists.{lists_of}
use Rattle.lineage_tree.specs.Tree.{tree_of}
use Rattle.apply_extract.specs.Hits.{Book, with_hits}
use Rattle.apply_extract.proofs.NotedHits.{names_at, names_later, numbered_more, with_count, with_more}
use Rattle.apply_extract.proofs.notes.note_hits.Goals as goal

pub push-requires-clause-names : goal.push-requires-clause-names
push-requires-clause-names c =
    let past = c.loop-hit.yielded in
    let hit = c.in-Some.hit in
    let rest = into_iter_items c.next.new.self in
    let whole : past ++ hit ∷ rest ≡ c.args.hits = ap (λ (hs : List RawHit). past ++ hs) (sym (c.in-Some.ensures {u = tt}).steps.0) ∙ c.loop-hit.invariant.all in
    subst (λ (b : Book). names_below (length b) (tree_of hit.lineage) ≡ true) (sym c.loop-hit.invariant.book)
    (names_later c.args.book.now past (tree_of hit.lineage) (names_at c.args.book.now past hit rest c.args.hits whole c.requires))

pub loop-hit-preserved : goal.loop-hit-preserved
loop-hit-preserved c =
    let past = c.loop-hit.yielded in
    let hit = c.in-Some.hit in
    let rest = into_iter_items c.next.new.self in
    let old = c.args.book.now in
    let whole : past ++ hit ∷ rest ≡ c.args.hits = ap (λ (hs : List RawHit). past ++ hs) (sym (c.in-Some.ensures {u = tt}).steps.0) ∙ c.loop-hit.invariant.all in
    let names = names_at old past hit rest c.args.hits whole c.requires in
    let entry : c.in_ok-entry.entry ≡ length old + length past = (c.in_ok-entry.ensures {u = tt}).ok.0 ∙ ap length c.loop-hit.invariant.book ∙ with_count old past in
    record {
      all = append_assoc past (hit ∷ []) rest ∙ whole;
      inner = (c.in_ok-push.ensures {u = tt}).items
          ∙ (λ i. c.loop-hit.invariant.inner i ++ record { key = hit.key; entry = entry i } ∷ [])
          ∙ sym (numbered_more (length old) past hit);
      book = (c.in_ok-entry.ensures {u = tt}).ok.1
          ∙ subst (λ (b : Book). b ++ lists_of b (tree_of hit.lineage) ∷ [] ≡ with_hits old (past ++ hit ∷ [])) (sym c.loop-hit.invariant.book) (with_more old past hit names);
    }
