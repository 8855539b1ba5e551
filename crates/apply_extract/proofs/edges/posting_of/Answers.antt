use Rattle.std.proofs.Common.{rules, ◌≡◌, None, Some, ap, sym, ◌∙◌}
use Rattle.std.specs.Option.{option_map}
use Rattle.uni_base.specs.declared.entity.Rank.{Rank}
use Rattle.apply_extract.proofs.edges.posting_of.Goals as goal

pub returns-in_err-rank : goal.returns-in_err-rank
returns-in_err-rank c limits table stands =
    let item = c.args.item.now in
    let none : c.rank_of.result ≡ None = search rules in
    let left : c.from_residual.result ≡ None = search rules in
    left ∙ ap (option_map (λ (rank : Rank). record { key = record { rank = rank; id = item.target }; audience = item.audience })) (sym none ∙ c.rank_of.ensures limits table stands)

pub returns : goal.returns
returns c limits table stands =
    let item = c.args.item.now in
    let some : c.rank_of.result ≡ Some c.in_ok-rank.rank = search rules in
    ap (option_map (λ (rank : Rank). record { key = record { rank = rank; id = item.target }; audience = item.audience })) (sym some ∙ c.rank_of.ensures limits table stands)
