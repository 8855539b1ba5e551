use Rattle.std.proofs.Common.{rules, ◌≡◌, sym, subst}
use Rattle.std.proofs.lemmas.Fn.{dedup_same}
use Rattle.std.proofs.lemmas.List.Sorted.{answers_always}
use Rattle.std.specs.List.{dedup}
use Rattle.std.specs.List.Sorted.{IsSortedByKey}
use Rattle.uni_base.specs.RankOrder.{doc_cmp}
use Rattle.posting_lists.specs.declared.posting.Posting.{Posting}
use Rattle.apply_extract.specs.Edges.{AreInOrder}
use Rattle.apply_extract.proofs.SortedPostings.{is_same, left_in_order}
use Rattle.apply_extract.proofs.edges.in_rank_order.Goals as goal

pub returns : goal.returns
returns c =
    let xs = c.args.postings.items in
    let ys = c.sort_unstable_by_key.new.self.items in
    let up : IsSortedByKey (λ (p : Posting). p.key) doc_cmp ys = c.sort_unstable_by_key.ensures.sorted (λ (p : Posting). p.key) (answers_always _ _ _ (λ f a r g k. search rules)) in
    let left : c.dedup_by.new.self.items ≡ dedup is_same ys = dedup_same _ is_same _ (λ x y b f' x' y' k. search rules) _ _ c.dedup_by.ensures.filtered in
    subst (AreInOrder xs) (sym left) (left_in_order xs ys c.sort_unstable_by_key.ensures.permutation up)
