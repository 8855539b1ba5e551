use Rattle.std.proofs.Common.{◌≡◌, ◌++◌, ◌∷◌, [], ◌+◌, List, map, suc, sym, ap, subst, ◌∙◌, arith, refl, take, take-suc, take_all, option_copied}
use Rattle.std.proofs.lemmas.List.{map-append}
use Rattle.std.specs.Option.{unwrap_or}
use Rattle.uni_base.specs.declared.edge.Key.TheVariants.{Id}
use Rattle.uni_table.specs.Ranked.{reached_of}
use Rattle.uni_table.specs.TableState.{IsKept}
use Rattle.uni_meaning.specs.Standings.{arrival, either, first_of, gathered_at, through, under_join}
use Rattle.uni_meaning.specs.Viewed.{Viewed}
use Rattle.uni_meaning.specs.declared.cut.Member.{Member}
use Rattle.uni_meaning.specs.declared.place.Place.{Place}
use Rattle.uni_meaning.specs.declared.standing.Standing.{Standing}
use Rattle.uni_meaning.specs.declared.standing.Standing.TheVariants.{Missed}
use Rattle.uni_meaning.proofs.Arrivals.{arrivals_are}
use Rattle.uni_meaning.proofs.FirstFound.{first_of-push}
use Rattle.uni_meaning.proofs.view.View.under_join.Goals as goal
use Rattle.uni_meaning.proofs.view.View.under_join.Goals.{in-Some+in_ok-standing-in-Some, in-None}

map_same : (f g : Member → Standing) → ((m : Member) → f m ≡ g m) → (ms : List Member) → map f ms ≡ map g ms
map_same f g same [] = refl
map_same f g same (m ∷ ms) = λ i. same m i ∷ map_same f g same ms i

pub loop-member-preserved : goal.loop-member-preserved
loop-member-preserved c = λ id.
    let v = c.args.self.now in
    let members = c.args.members.now in
    let k = c.loop-member.member-index in
    let member = c.member-item.result in
    let brought = λ (m : Member). first_of (map (arrival v m id) (reached_of v.schema v.contents c.args.type_no (Id m.key.id))) in
    c.in_ok-gather.ensures id
    ∙ ap (λ (s : Standing). either s (brought member)) (c.loop-member.invariant id)
    ∙ sym (ap (λ n. first_of (map brought (take n members))) (let e : k + 1 ≡ suc k = omega arith in e)
    ∙ ap (λ (ms : List Member). first_of (map brought ms)) (take-suc members k member c.loop-member-test.true ∙ ap (λ (m : Member). take k members ++ m ∷ []) (sym c.member-item.is))
    ∙ ap first_of (map-append brought (take k members) (member ∷ []))
    ∙ first_of-push (map brought (take k members)) (brought member))

pub loop-place-preserved : goal.loop-place-preserved
loop-place-preserved c =
    let v = c.args.self.now in
    let number = c.args.type_no in
    let members = c.args.members.now in
    let place = c.place-item.result in
    let id = place.doc.id in
    let k = c.loop-place.place-index in
    let kept : IsKept v.schema v.limits v.contents = subst (λ (w : Viewed). IsKept w.schema w.limits w.contents) c.self.view_is c.self.invariant.1 in
    let brought = λ (m : Member). first_of (map (arrival v m id) (reached_of v.schema v.contents number (Id m.key.id))) in
    let all : gathered_at c.loop-member.gathered.entries id ≡ under_join v number members place.doc =
    c.loop-member.invariant id ∙ ap (λ (ms : List Member). first_of (map brought ms)) (take_all c.loop-member.member-index members (omega (arith, c.loop-member-test.false)))
    ∙ ap first_of (map_same brought (through v number place.doc) (λ m. arrivals_are v v.limits kept number c.requires (Id m.key.id) m id) members) in
    let standing : c.match-get.standing ≡ gathered_at c.loop-member.gathered.entries id = elim c.match-get.branch [
      | in-Some+in_ok-standing-in-Some w ↦ w.standing-is ∙ w.in_ok-standing-in-Some.ensures ∙ sym (ap (λ o. unwrap_or o Missed) (sym c.get.ensures.value ∙ ap option_copied w.in-Some.is))
      | in-None w ↦ w.standing-is ∙ sym (ap (λ o. unwrap_or o Missed) (sym c.get.ensures.value ∙ ap option_copied w.in-None.is))
    ] in
    c.in_ok-push.ensures.items ∙ ap (λ (ss : List Standing). ss ++ c.match-get.standing ∷ []) c.loop-place.invariant
    ∙ ap (λ (s : Standing). map (λ (p : Place). under_join v number members p.doc) (take k c.args.places.now) ++ s ∷ []) (standing ∙ all)
    ∙ sym (ap (λ n. map (λ (p : Place). under_join v number members p.doc) (take n c.args.places.now)) (let e : k + 1 ≡ suc k = omega arith in e)
    ∙ ap (map (λ (p : Place). under_join v number members p.doc)) (take-suc c.args.places.now k place c.loop-place-test.true ∙ ap (λ (p : Place). take k c.args.places.now ++ p ∷ []) (sym c.place-item.is))
    ∙ map-append (λ (p : Place). under_join v number members p.doc) (take k c.args.places.now) (place ∷ []))
