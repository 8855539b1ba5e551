use Rattle.std.proofs.Common.{rules, ◌≡◌, Bool, ap, ◌∙◌, sym, subst, length, reverse, filter}
use Rattle.std.specs.Ordering.{is_lt}
use Rattle.std.specs.List.{dedup}
use Rattle.std.specs.List.Sorted.{IsSortedByKey, IsStableByKey, ties}
use Rattle.std.proofs.lemmas.List.Sorted.{answers_always, ranks_by}
use Rattle.std.proofs.lemmas.Fn.{dedup_same}
use Rattle.std.specs.Prelude.{T}
use Rattle.std.specs.FinMap.{is_sorted}
use Rattle.layer_base.proofs.Rising.{log_sorted}
use Rattle.layer_base.proofs.LastWords.{last_words_are}
use Rattle.layer_base.proofs.log.keep_last_words.Goals as goal

pub returns-clause-last : goal.returns-clause-last
returns-clause-last g c =
    let R = g.K.Ord.cmp in
    let turned : c.reverse.new.self.items ≡ reverse c.args.log.now.items = c.reverse.ensures.items in
    let ys = c.sort_by.new.self.items in
    let key : g.row.K.Denot × g.row.V.Denot → g.row.K.Denot = λ e. e.0 in
    let order : g.row.K.Denot × g.row.V.Denot → g.row.K.Denot × g.row.V.Denot → Bool = λ x y. is_lt (R x.0 y.0) in
    let ranks = ranks_by g.met.K.Ord.total key in
    let computes = answers_always _ (λ a r. is_lt r ≡ order a.0.now a.1.0.now) _ (λ f a r f' k. search rules) in
    let sorted : IsSortedByKey key R ys = c.in_ok-sort_by.ensures.sorted order ranks computes in
    let stable : IsStableByKey key R c.reverse.new.self.items ys = c.in_ok-sort_by.ensures.stable order ranks computes in
    let as_long : length ys ≡ length c.reverse.new.self.items = search rules in
    let kept = dedup_same _ (λ x y. g.K.PartialEq.eq x.0 y.0) _ (λ x y b f' x' y' k. search rules) _ _ c.dedup_by.ensures.filtered in
    kept ∙ (λ i. dedup (λ x y. g.met.K.Ord.matches_eq x.0 y.0 i) ys)
    ∙ last_words_are R g.met.K.Ord.total c.requires c.args.log.now.items ys (as_long ∙ ap length turned) sorted (λ x. stable x ∙ ap (filter (ties (λ a b. is_lt (R a.0 b.0)) x)) turned)

pub returns-then-rises-clause-last : goal.returns-then-rises-clause-last
returns-then-rises-clause-last g c =
    let R = g.K.Ord.cmp in
    let is : c.rises.result ≡ is_sorted R c.args.log.now.items = c.rises.ensures ∙ ap (is_sorted R) c.deref.ensures.value in
    log_sorted R g.met.K.Ord.total c.requires c.args.log.now.items (subst T (sym c.if-rises.true ∙ is) tt)
