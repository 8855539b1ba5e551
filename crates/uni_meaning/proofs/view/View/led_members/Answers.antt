use Rattle.std.proofs.Common.{◌≡◌, ◌++◌, ◌∷◌, [], ◌+◌, List, Option, suc, sym, ap, ◌∙◌, arith, append-nil, take, take-suc}
use Rattle.std.proofs.lemmas.List.Elements.{filter_map-append}
use Rattle.std.specs.List.{cons_option, filter_map}
use Rattle.uni_base.specs.declared.edge.Held.{Held}
use Rattle.uni_meaning.specs.Standings.{led_member}
use Rattle.uni_meaning.specs.declared.cut.Member.{Member}
use Rattle.uni_meaning.proofs.view.View.led_members.Goals.{in-Some+in_ok-push, in_default}
use Rattle.uni_meaning.proofs.view.View.led_members.Goals as goal

pub loop-held-preserved : goal.loop-held-preserved
loop-held-preserved c =
    let led : Held → Option Member = λ held. led_member c.args.self.now c.args.type_no c.args.key.now held.edge.target in
    let held = c.args.reached.now in
    let k = c.loop-held.held-index in
    let item = c.held-item.result in
    let next : filter_map led (take (k + 1) held) ≡ filter_map led (take k held) ++ cons_option (led item) [] =
    ap (λ n. filter_map led (take n held)) (let e : k + 1 ≡ suc k = omega arith in e)
    ∙ ap (filter_map led) (take-suc held k item c.loop-held-test.true ∙ ap (λ (h : Held). take k held ++ h ∷ []) (sym c.held-item.is))
    ∙ filter_map-append led (take k held) (item ∷ []) in
    let found : c.in_ok-member.field-0 ≡ led item = c.in_ok-member.ensures in
    elim c.match-branch-2.branch [
      | in-Some+in_ok-push w ↦
          (λ i. (w.members-is i).items) ∙ w.in_ok-push.ensures.items ∙ ap (λ (ms : List Member). ms ++ w.in-Some.member ∷ []) c.loop-held.invariant
          ∙ ap (λ (o : Option Member). filter_map led (take k held) ++ cons_option o []) (sym w.in-Some.is ∙ found) ∙ sym next
      | in_default w ↦
          (λ i. (w.members-is i).items) ∙ c.loop-held.invariant ∙ sym (next ∙ ap (λ (o : Option Member). filter_map led (take k held) ++ cons_option o []) (sym found ∙ w.in_default.is) ∙ append-nil _)
    ]
