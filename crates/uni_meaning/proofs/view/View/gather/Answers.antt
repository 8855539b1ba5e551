use Rattle.std.proofs.Common.{◌≡◌, ◌++◌, ◌∷◌, [], ◌+◌, ◌<◌, ◌==◌, List, length, map, suc, sym, ap, subst, ◌∙◌, arith, refl, take, take-suc, if◌then◌else◌}
use Rattle.std.proofs.lemmas.List.{map-append}
use Rattle.std.specs.List.{Contains}
use Rattle.uni_base.specs.declared.edge.EdgeRef.{EdgeRef}
use Rattle.uni_base.specs.declared.edge.Held.{Held}
use Rattle.uni_base.specs.declared.edge.Key.TheVariants.{Id}
use Rattle.uni_table.specs.Ranked.{reached_of}
use Rattle.uni_table.specs.TableState.{IsKept}
use Rattle.uni_meaning.specs.Standings.{arrival, either, first_of, gathered_at}
use Rattle.uni_meaning.specs.Viewed.{Viewed}
use Rattle.uni_meaning.specs.declared.standing.Standing.{Standing}
use Rattle.uni_meaning.proofs.Arrivals.{passed, reached_edge, taken}
use Rattle.uni_meaning.proofs.Combined.{either_assoc}
use Rattle.uni_meaning.proofs.FirstFound.{first_of-push}
use Rattle.uni_meaning.proofs.view.View.gather.Goals as goal
use Rattle.uni_meaning.proofs.view.View.gather.Goals.{then-not-is_shown+in_ok-standing+in_ok-put, else-not-is_shown}

pub by_member-requires : goal.by_member-requires
by_member-requires c =
    let v = c.args.self.now in
    let key = Id c.args.member.now.key.id in
    let held = c.held-item.result in
    let items : c.as_slice-held-items.result.now ≡ reached_of v.schema v.contents c.args.type_no key =
    c.as_slice-held-items.ensures ∙ c.in_ok-reached.ensures ∙ ap (λ (w : Viewed). reached_of w.schema w.contents c.args.type_no key) c.self.view_is in
    let kept : IsKept v.schema v.limits v.contents = subst (λ (w : Viewed). IsKept w.schema w.limits w.contents) c.self.view_is c.self.invariant.1 in
    let there : Contains (reached_of v.schema v.contents c.args.type_no key) held = subst (λ (hs : List Held). Contains hs held) items (c.loop-held.held-index, c.loop-held-test.true, sym c.held-item.is) in
    subst (λ (e : EdgeRef). e.type_no < length v.schema.types) (sym (reached_edge v v.limits kept c.args.type_no c.requires key held there).0) c.requires

pub loop-held-preserved : goal.loop-held-preserved
loop-held-preserved c = λ id.
    let v = c.args.self.now in
    let member = c.args.member.now in
    let items = c.as_slice-held-items.result.now in
    let k = c.loop-held.held-index in
    let held = c.held-item.result in
    let before = gathered_at c.loop-held.gathered.entries id in
    let at = gathered_at c.loop-held.gathered.entries held.edge.target in
    let old = gathered_at c.args.gathered.now.entries id in
    let more : first_of (map (arrival v member id) (take (k + 1) items)) ≡ either (first_of (map (arrival v member id) (take k items))) (arrival v member id held) =
    ap (λ n. first_of (map (arrival v member id) (take n items))) (let e : k + 1 ≡ suc k = omega arith in e)
    ∙ ap (λ (hs : List Held). first_of (map (arrival v member id) hs)) (take-suc items k held c.loop-held-test.true ∙ ap (λ (h : Held). take k items ++ h ∷ []) (sym c.held-item.is))
    ∙ ap first_of (map-append (arrival v member id) (take k items) (held ∷ []))
    ∙ first_of-push (map (arrival v member id) (take k items)) (arrival v member id held) in
    let now : gathered_at c.if-not-is_shown.gathered.entries id ≡ either before (arrival v member id held) = elim c.if-not-is_shown.branch [
      | then-not-is_shown+in_ok-standing+in_ok-put w ↦
          ap (λ g. gathered_at g.entries id) w.gathered-is ∙ w.in_ok-put.ensures id
          ∙ ap (λ (s : Standing). if held.edge.target == id then s else before) w.in_ok-standing.ensures
          ∙ taken v member held id before at before (sym c.is_shown.ensures ∙ w.if-not-is_shown.true) (λ e. ap (gathered_at c.loop-held.gathered.entries) e) refl
      | else-not-is_shown w ↦
          ap (λ g. gathered_at g.entries id) w.gathered-is
          ∙ passed v member held id before at (sym c.is_shown.ensures ∙ w.if-not-is_shown.false) (λ e. ap (gathered_at c.loop-held.gathered.entries) e)
    ] in
    now ∙ ap (λ (s : Standing). either s (arrival v member id held)) (c.loop-held.invariant id)
    ∙ sym (either_assoc old (first_of (map (arrival v member id) (take k items))) (arrival v member id held)) ∙ ap (either old) (sym more)
