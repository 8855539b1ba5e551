use Rattle.std.proofs.Common.{◌≡◌, ◌<◌, ◌≤◌, ◌∙◌, sym, subst, length, map, get_or, arith}
use Rattle.std.proofs.lemmas.List.{length-map}
use Rattle.std.proofs.lemmas.List.{get_or-set_other, length-set}
use Rattle.std.proofs.lemmas.List.Elements.{All-set}
use Rattle.weak_strong.specs.declared.rule.Counter.{Counter}
use Rattle.weak_strong.proofs.Counting.{counted_more, counted_all, own_counted}
use Rattle.weak_strong.proofs.walking.count.Goals as goal

pub returns-clause-walked : goal.returns-clause-walked
returns-clause-walked g c = λ k first.
    counted_all k (map g.C.DocCursor.remaining c.args.candidates.now) c.args.counters.now.items c.loop-i.counters.items c.loop-i.i
    (c.requires.count ∙ sym (length-map c.args.candidates.now g.C.DocCursor.remaining)) first (c.loop-i.invariant.counted k first) (omega (arith, c.args.counters.now.ok.0))

pub loop-i-preserved : goal.loop-i-preserved
loop-i-preserved g c =
    let within : c.loop-i.i < length c.args.counters.now.items = omega (arith, c.args.counters.now.ok.0) in
    let is : c.index-counter.result.now ≡ get_or c.args.counters.now.items c.loop-i.i c.index-counter.result.now =
    c.index-counter.ensures ∙ c.loop-i.invariant.untouched c.loop-i.i c.index-counter.result.now (omega arith) in
    let below = c.requires.owns c.loop-i.i c.index-counter.result.now within in
    let own = own_counted c.index-counter.result.now c.count.result c.matches.result c.args.next c.count.ensures (subst (λ (counter : Counter). counter.own < c.args.next) (sym is) below) in
    record {
      count = length-set c.loop-i.counters.items c.loop-i.i c.count.result ∙ c.loop-i.invariant.count;
      untouched = λ j d after. get_or-set_other c.loop-i.counters.items c.loop-i.i j c.count.result d (omega arith) ∙ c.loop-i.invariant.untouched j d (omega arith);
      owns = All-set (λ (counter : Counter). counter.own ≤ c.args.next) c.loop-i.counters.items c.loop-i.i c.count.result own c.loop-i.invariant.owns;
      counted = λ k first.
          counted_more k (map g.C.DocCursor.remaining c.args.candidates.now) c.args.counters.now.items c.loop-i.counters.items c.loop-i.i
          (c.requires.count ∙ sym (length-map c.args.candidates.now g.C.DocCursor.remaining)) first (c.loop-i.invariant.counted k first)
          c.index-counter.result.now c.count.result c.matches.result within is c.matches.ensures.holds c.count.ensures;
    }
