use Rattle.std.proofs.Common.{◌≡◌, ◌+◌, ◌++◌, ◌∷◌, [], List, All, map, take, take-suc, suc, refl, ap, subst, sym, ◌∙◌, arith}
use Rattle.std.proofs.lemmas.List.{map-append}
use Rattle.std.proofs.lemmas.List.Elements.{All-append, All-cons, All-nil}
use Rattle.shard_eval.specs.declared.resolved.InnerHit.{InnerHit}
use Rattle.apply_extract.specs.declared.answered.Led.{Led}
use Rattle.apply_extract.specs.Answered.{AreListed, IsLedRanked}
use Rattle.shard_index.specs.Places.{shards_in}
use Rattle.apply_extract.proofs.JoinPlans.{led_at, led_more}
use Rattle.apply_extract.proofs.leads.led_from.Goals as goal

pub loop-hit-preserved : goal.loop-hit-preserved
loop-hit-preserved c =
    let items = c.args.inner.now in
    let i = c.loop-hit.hit-index in
    let item = c.hit-item.result in
    let schema = c.args.version.now.schema in
    let made : Led = record { hit = item; rows = c.in_ok-rows.rows } in
    let more : take (i + 1) items ≡ take i items ++ item ∷ [] =
    ap (λ n. take n items) (let e : i + 1 ≡ suc i = omega arith in e) ∙ take-suc items i item c.loop-hit-test.true ∙ ap (λ (h : InnerHit). take i items ++ h ∷ []) (sym c.hit-item.is) in
    let pushed = c.in_ok-push.ensures.items in
    record {
      hits = ap (map (λ (l : Led). l.hit)) pushed ∙ map-append (λ (l : Led). l.hit) c.loop-hit.led.items (made ∷ []) ∙ ap (λ (hs : List InnerHit). hs ++ item ∷ []) c.loop-hit.invariant.hits ∙ sym more;
      ranked = subst (All IsLedRanked) (sym pushed) (All-append IsLedRanked c.loop-hit.led.items (made ∷ []) c.loop-hit.invariant.ranked (All-cons IsLedRanked made [] c.in_ok-rows.ensures.ranked (All-nil IsLedRanked)));
      edges = λ type limits table stands.
          subst (λ (ls : List Led). AreListed schema c.args.type_no (shards_in schema c.args.target) ls table) (sym pushed)
          (led_more schema table c.args.type_no (shards_in schema c.args.target) c.loop-hit.led.items made (c.loop-hit.invariant.edges type limits table stands)
          (led_at schema table c.args.type_no c.args.source c.args.target type made (c.in_ok-rows.ensures.edges limits table stands type item.key refl)));
    }
