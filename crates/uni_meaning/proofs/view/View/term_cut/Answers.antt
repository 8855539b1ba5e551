use Rattle.std.proofs.Common.{◌≡◌, List, Option, ap, ◌∙◌, length, min, take}
use Rattle.std.proofs.lemmas.List.{take_min}
use Rattle.std.proofs.lemmas.Result.{IfOk-weaker}
use Rattle.std.specs.List.{filter_map}
use Rattle.query_check.specs.Plan.{term_plan}
use Rattle.uni_base.specs.declared.edge.Held.{Held}
use Rattle.uni_table.specs.Ranked.{reached_of}
use Rattle.uni_meaning.specs.Hits.{cut}
use Rattle.uni_meaning.specs.Standings.{led_member, members_of}
use Rattle.uni_meaning.specs.Viewed.{Viewed}
use Rattle.uni_meaning.specs.declared.cut.Member.{Member}
use Rattle.uni_meaning.proofs.TermCuts.{term_cut_is}
use Rattle.uni_meaning.proofs.view.View.term_cut.Goals as goal

pub returns : goal.returns
returns c =
    let v = c.args.self.now in
    let number = c.args.type_no in
    let key = c.args.key.now in
    let led : Held → Option Member = λ held. led_member v number key held.edge.target in
    let held : c.as_slice.result.now ≡ c.in_ok-reached.reached = c.as_slice.ensures in
    let most : c.min-most.result ≡ min c.args.limit (length c.in_ok-reached.reached) = c.min-most.ensures ∙ ap (min c.args.limit) c.len.ensures in
    IfOk-weaker c.led_members.result (λ members. members.items ≡ filter_map led (take c.min-most.result c.as_slice.result.now)) (λ members. members.items ≡ members_of v (term_plan number key) (cut v.schema v.contents (term_plan number key) c.args.limit))
    (λ members is.
    is ∙ (λ i. filter_map led (take (most i) (held i))) ∙ ap (filter_map led) (take_min c.args.limit c.in_ok-reached.reached)
    ∙ ap (λ (hs : List Held). filter_map led (take c.args.limit hs)) (c.in_ok-reached.ensures ∙ ap (λ (w : Viewed). reached_of w.schema w.contents number key) c.self.view_is)
    ∙ term_cut_is v number key c.requires.view c.requires.typed c.args.limit)
    c.led_members.ensures
