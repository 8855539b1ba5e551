use Rattle.std.proofs.Common.{◌≡◌, true, false, cond, None, Some, ap, sym, ◌∙◌}
use Rattle.lineage_tree.specs.Tree.{Tree}
use Rattle.shard_eval.specs.Found.{found_posting, is_at}
use Rattle.shard_eval.proofs.FoundLists.{same_place}
use Rattle.shard_eval.proofs.PostingLists.{first_posting, posted_at}
use Rattle.shard_eval.proofs.witness.Postings.tree_here.Goals as goal
use Rattle.shard_eval.proofs.witness.Postings.tree_here.Goals.{in_default-via-in-Some+else-eq, in_default-via-in_default}

pub returns-in_ok-tree-in-Some : goal.returns-in_ok-tree-in-Some
returns-in_ok-tree-in-Some c =
    let leaf = c.args.self.now.leaf in
    let here = first_posting leaf c.args.key.now c.args.self.now.cursor ∙ ap (posted_at leaf c.args.key.now) (sym c.posting.ensures ∙ c.in-Some.is) in
    let at : is_at c.args.key.now (found_posting leaf c.in-Some.posting) ≡ true = same_place c.in-Some.posting.key c.args.key.now ∙ sym c.eq.ensures ∙ c.if-eq.true in
    ap (λ (t : Tree). Some t) (c.in_ok-tree-in-Some.ensures {u = tt}) ∙ sym (here ∙ ap (λ b. cond b (Some (found_posting leaf c.in-Some.posting).tree) None) at)

pub returns-in_default : goal.returns-in_default
returns-in_default c =
    let leaf = c.args.self.now.leaf in
    let here = first_posting leaf c.args.key.now c.args.self.now.cursor ∙ ap (posted_at leaf c.args.key.now) (sym c.posting.ensures) in
    elim c.in_default.branch [
      | in_default-via-in-Some+else-eq w ↦
          let other : is_at c.args.key.now (found_posting leaf w.in-Some.posting) ≡ false = same_place w.in-Some.posting.key c.args.key.now ∙ sym w.eq.ensures ∙ w.if-eq.false in
          sym (here ∙ ap (posted_at leaf c.args.key.now) w.in-Some.is ∙ ap (λ b. cond b (Some (found_posting leaf w.in-Some.posting).tree) None) other)
      | in_default-via-in_default w ↦ sym (here ∙ ap (posted_at leaf c.args.key.now) w.in_default.is)
    ]
