use Rattle.std.proofs.Common.{◌≡◌, ◌+◌, ◌++◌, ◌∷◌, [], List, map, take, take-suc, suc, ap, sym, ◌∙◌, arith}
use Rattle.std.proofs.lemmas.List.{map-append}
use Rattle.layer_base.specs.Layers.{stack_table}
use Rattle.layer_stack.specs.Places.{term_of}
use Rattle.layer_stack.specs.Postings.{postings_of}
use Rattle.posting_lists.specs.Postings.{keys_of}
use Rattle.shard_eval.specs.declared.leaf.Leaf.{Leaf}
use Rattle.shard_eval.specs.Found.{found_keys, found_term}
use Rattle.shard_eval.proofs.PostingLists.{keys_of_term}
use Rattle.shard_eval.proofs.any.cursors_of.Goals as goal

pub loop-leaf-preserved : goal.loop-leaf-preserved
loop-leaf-preserved c =
    let table = stack_table c.args.stack.now.0 in
    let leaves = c.args.leaves.now in
    let i = c.loop-leaf.leaf-index in
    let leaf = c.leaf-item.result in
    let past = take i leaves in
    let more : take (i + 1) leaves ≡ past ++ leaf ∷ [] =
    ap (λ n. take n leaves) (let e : i + 1 ≡ suc i = omega arith in e) ∙ take-suc leaves i leaf c.loop-leaf-test.true ∙ ap (λ (l : Leaf). past ++ l ∷ []) (sym c.leaf-item.is) in
    let one : keys_of c.in_ok-cursor.field-0 ≡ found_keys (found_term table leaf) =
    ap keys_of (c.in_ok-cursor.ensures {u = tt} ∙ ap (λ term. postings_of term table) c.term.ensures) ∙ sym (keys_of_term leaf (postings_of (term_of leaf.type_no leaf.key) table)) in
    let whole : map keys_of c.loop-leaf.cursors.items ≡ map found_keys (map (found_term table) past) = c.loop-leaf.invariant in
    ap (map keys_of) (c.in_ok-push.ensures {u = tt}).items ∙ map-append keys_of c.loop-leaf.cursors.items (c.in_ok-cursor.field-0 ∷ [])
    ∙ (λ j. whole j ++ one j ∷ [])
    ∙ sym (ap (λ (ls : List Leaf). map found_keys (map (found_term table) ls)) more
    ∙ ap (map found_keys) (map-append (found_term table) past (leaf ∷ [])) ∙ map-append found_keys (map (found_term table) past) (found_term table leaf ∷ []))
