use Rattle.std.proofs.Common.{◌≡◌, ◌<◌, true, false, cond, None, Some, List, length, get_or, inl, inr, true≢false, arith, refl, ap, subst, sym, ◌∙◌}
use Rattle.std.proofs.lemmas.Bool.{cases_lt}
use Rattle.uni_base.specs.Cursors.{IsRanked}
use Rattle.lineage_tree.specs.declared.lineage.RawHit.{RawHit}
use Rattle.shard_eval.specs.Found.{first_at, found_all, found_of, is_at, KeepsLater}
use Rattle.shard_eval.proofs.FoundLists.{keeps_from, same_place, tree_here}
use Rattle.shard_eval.proofs.HitLists.{first_hit, keeps_rest, keys_all, no_hit}
use Rattle.shard_eval.proofs.witness.hit_at.Goals as goal
use Rattle.shard_eval.proofs.witness.hit_at.Goals.{in_default-via-in-Some+else-eq, in_default-via-in_default}

pub returns-in_ok-pop_front-in-Some-clause-tree : goal.returns-in_ok-pop_front-in-Some-clause-tree
returns-in_ok-pop_front-in-Some-clause-tree c =
    let olds = c.args.hits.now.items in
    let hit = c.in_ok-pop_front-in-Some.field-0 in
    let ranked = subst IsRanked (sym (keys_all olds)) c.requires in
    let front : c.in-Some.hit.now ≡ hit = (c.in-Some.ensures {u = tt}).lookup ∙ ap (λ (hs : List RawHit). get_or hs 0 c.in-Some.hit.now) (c.in_ok-pop_front-in-Some.ensures {u = tt}).items in
    let at : is_at c.args.key (found_of hit) ≡ true = subst (λ (h : RawHit). is_at c.args.key (found_of h) ≡ true) front (same_place c.in-Some.hit.now.key c.args.key ∙ sym c.eq.ensures ∙ c.if-eq.true) in
    let here = tree_here (found_all olds) c.args.key ranked
    ∙ ap (first_at c.args.key) (sym c.pass_before.ensures ∙ ap found_all (c.in_ok-pop_front-in-Some.ensures {u = tt}).items) in
    sym (here ∙ ap (λ b. cond b (Some (found_of hit).tree) None) at)

pub returns-in_ok-pop_front-in-Some-clause-rest : goal.returns-in_ok-pop_front-in-Some-clause-rest
returns-in_ok-pop_front-in-Some-clause-rest c =
    let olds = c.args.hits.now.items in
    let hit = c.in_ok-pop_front-in-Some.field-0 in
    let ranked = subst IsRanked (sym (keys_all olds)) c.requires in
    let front : c.in-Some.hit.now ≡ hit = (c.in-Some.ensures {u = tt}).lookup ∙ ap (λ (hs : List RawHit). get_or hs 0 c.in-Some.hit.now) (c.in_ok-pop_front-in-Some.ensures {u = tt}).items in
    let at : is_at c.args.key (found_of hit) ≡ true = subst (λ (h : RawHit). is_at c.args.key (found_of h) ≡ true) front (same_place c.in-Some.hit.now.key c.args.key ∙ sym c.eq.ensures ∙ c.if-eq.true) in
    keeps_rest c.args.key (found_all olds) (found_of hit) (found_all c.pop_front.new.self.items) ranked
    (sym c.pass_before.ensures ∙ ap found_all (c.in_ok-pop_front-in-Some.ensures {u = tt}).items) at

pub returns-in_default-clause-tree : goal.returns-in_default-clause-tree
returns-in_default-clause-tree c =
    let olds = c.args.hits.now.items in
    let left = c.pass_before.new.hits in
    let ranked = subst IsRanked (sym (keys_all olds)) c.requires in
    let here = tree_here (found_all olds) c.args.key ranked ∙ ap (first_at c.args.key) (sym c.pass_before.ensures) in
    elim c.in_default.branch [
      | in_default-via-in-Some+else-eq w ↦
          let other : is_at c.args.key (found_of w.in-Some.hit.now) ≡ false = same_place w.in-Some.hit.now.key c.args.key ∙ sym w.eq.ensures ∙ w.if-eq.false in
          let some : 0 < length left.items = omega (arith, (w.in-Some.ensures {u = tt}).variant.0 refl, left.ok.0) in
          sym (here ∙ first_hit left.items c.args.key w.in-Some.hit.now some (w.in-Some.ensures {u = tt}).lookup ∙ ap (λ b. cond b (Some (found_of w.in-Some.hit.now).tree) None) other)
      | in_default-via-in_default w ↦
          let none : length left.items ≡ 0 = elim (cases_lt 0 (length left.items)) [
            | inl some ↦ absurd (true≢false (sym ((w.in_default.ensures {u = tt}).variant.1 (omega (arith, some, left.ok.0)))))
            | inr none ↦ omega (arith, none)
          ] in
          sym (here ∙ no_hit left.items c.args.key none)
    ]

pub returns-in_default-clause-rest : goal.returns-in_default-clause-rest
returns-in_default-clause-rest c =
    let olds = c.args.hits.now.items in
    subst (KeepsLater c.args.key (found_all olds)) (sym c.pass_before.ensures) (keeps_from c.args.key (found_all olds) (subst IsRanked (sym (keys_all olds)) c.requires))
