use Rattle.std.proofs.Common.{◌≡◌, ◌++◌, ◌∷◌, [], ◌+◌, ◌≤◌, if◌then◌else◌, List, All, length, suc, sym, ap, subst, ◌∙◌, arith, drop, drop-cons, append_assoc}
use Rattle.uni_meaning.specs.Standings.{hit_by, row_at}
use Rattle.uni_meaning.specs.Walking.{IsPace, Paces, advanced, entered, fresh_counters, pace_keeps, pace_of, walk_standings}
use Rattle.uni_meaning.specs.declared.place.Place.{Place}
use Rattle.uni_meaning.specs.declared.standing.Standing.{Standing}
use Rattle.uni_meaning.specs.declared.standing.Standing.TheVariants.{Missed}
use Rattle.uni_meaning.proofs.Walked.{entering, going_by, walk_more}
use Rattle.uni_meaning.proofs.pace.under_walk.Goals as goal
use Rattle.uni_meaning.proofs.pace.under_walk.Goals.{then-takes+in_ok-standing, else-takes}

pub takes-requires-clause-owns : goal.takes-requires-clause-owns
takes-requires-clause-owns c =
    subst (λ (p : Paces). All (λ counter. counter.own ≤ p.kept) p.counters) (sym c.in_ok-enter.ensures.entered)
    (entering c.args.columns.now c.loop-i.i c.index-places-i.result.shard (pace_of c.loop-i.pace) c.loop-i.invariant.going).0.owns

pub loop-i-preserved : goal.loop-i-preserved
loop-i-preserved c =
    let columns = c.args.columns.now in
    let i = c.loop-i.i in
    let place = c.index-places-i.result in
    let row = row_at columns i in
    let now = entered (fresh_counters columns) place.shard (pace_of c.loop-i.pace) in
    let is : pace_of c.enter.new.self ≡ now = c.in_ok-enter.ensures.entered in
    let kept : pace_keeps c.args.kind now row ≡ c.takes.result = sym (c.takes.ensures.kept ∙ ap (λ (p : Paces). pace_keeps c.args.kind p row) is) in
    let next : pace_of c.takes.new.self ≡ (if c.takes.result then advanced row now else now) =
    c.takes.ensures.pace ∙ ap (λ (p : Paces). if c.takes.result then advanced row p else p) is in
    let standing : c.if-takes.standing ≡ (if c.takes.result then hit_by c.args.kind row else Missed) = elim c.if-takes.branch [
      | then-takes+in_ok-standing w ↦ w.standing-is ∙ w.in_ok-standing.ensures ∙ ap (λ b. if b then hit_by c.args.kind row else Missed) (sym w.if-takes.true)
      | else-takes w ↦ w.standing-is ∙ ap (λ b. if b then hit_by c.args.kind row else Missed) (sym w.if-takes.false)
    ] in
    let following : suc i ≡ i + 1 = omega arith in
    record {
      going =
          subst (λ (p : Paces). IsPace (length columns) (i + 1) p) (sym next)
          (going_by row (length columns) i now c.takes.result (entering columns i place.shard (pace_of c.loop-i.pace) c.loop-i.invariant.going).0);
      told =
          ap (λ (ss : List Standing). ss ++ walk_standings c.args.kind columns (pace_of c.takes.new.self) (i + 1) (drop (i + 1) c.args.places.now)) c.in_ok-push.ensures.items
          ∙ append_assoc c.loop-i.standings.items (c.if-takes.standing ∷ []) (walk_standings c.args.kind columns (pace_of c.takes.new.self) (i + 1) (drop (i + 1) c.args.places.now))
          ∙ ap (λ (ss : List Standing). c.loop-i.standings.items ++ ss) (sym (
          ap (walk_standings c.args.kind columns (pace_of c.loop-i.pace) i) (drop-cons c.args.places.now i place c.loop-i-test.true ∙ ap (λ (p : Place). p ∷ drop (suc i) c.args.places.now) (sym c.index-places-i.is) ∙ ap (λ n. place ∷ drop n c.args.places.now) following)
          ∙ walk_more c.args.kind columns (pace_of c.loop-i.pace) i place (drop (i + 1) c.args.places.now) c.takes.result c.if-takes.standing (pace_of c.takes.new.self) kept standing next))
          ∙ c.loop-i.invariant.told;
    }
