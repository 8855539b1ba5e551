use Rattle.std.proofs.Common.{◌≡◌, ◌<◌, ◌∙◌, sym, ap, subst, length, arith, get_or}
use Rattle.std.proofs.lemmas.List.{get_or-map, get_or_default}
use Rattle.uni_meaning.specs.Standings.{is_found, row_at}
use Rattle.uni_meaning.specs.Walking.{counted, has_at}
use Rattle.uni_meaning.specs.declared.column.Column.{Column}
use Rattle.uni_meaning.specs.declared.standing.Standing.TheVariants.{Missed}
use Rattle.uni_meaning.specs.declared.pace.Counter.{Counter}
use Rattle.uni_meaning.proofs.Walked.{Counting, at_left, counted_more}
use Rattle.uni_meaning.proofs.pace.count.Goals as goal

pub counted-requires : goal.counted-requires
counted-requires c =
    let x = c.index-counter.result.now in
    let is : x ≡ get_or c.args.counters.now.items c.loop-j.j x =
    c.index-counter.ensures ∙ at_left (row_at c.args.columns.now c.args.i) c.args.counters.now.items c.loop-j.counters.items c.loop-j.j x c.loop-j.invariant.left in
    subst (λ (counter : Counter). counter.own < 9223372036854775808) (sym is) (c.requires.fits c.loop-j.j x (omega (arith, c.loop-j-test.true, c.len-j-end.ensures)))

pub loop-j-preserved : goal.loop-j-preserved
loop-j-preserved c =
    let row = row_at c.args.columns.now c.args.i in
    let x = c.index-counter.result.now in
    let within : c.loop-j.j < length c.args.counters.now.items = omega (arith, c.loop-j-test.true, c.len-j-end.ensures) in
    let so : Counting row c.args.counters.now.items c.loop-j.counters.items c.loop-j.j =
    record { count = c.loop-j.invariant.count; done = c.loop-j.invariant.done; left = c.loop-j.invariant.left } in
    let column = get_or c.args.columns.now c.loop-j.j c.index-columns-j.result in
    let inside : c.loop-j.j < length c.args.columns.now = omega (arith, within, c.requires.count) in
    let has : c.is_found.result ≡ has_at c.loop-j.j row =
    c.is_found.ensures
    ∙ ap is_found (c.index.ensures ∙ get_or_default column.standings.items c.args.i c.index.result.now Missed (c.requires.within c.loop-j.j c.index-columns-j.result inside)
    ∙ sym (get_or-map (λ (x : Column). get_or x.standings.items c.args.i Missed) c.args.columns.now c.loop-j.j c.index-columns-j.result Missed inside)) in
    let next = counted_more row c.args.counters.now.items c.loop-j.counters.items c.loop-j.j x c.counted.result so within (sym c.index-counter.ensures) (c.counted.ensures ∙ ap (λ b. counted b x) has) in
    record { count = next.count; done = next.done; left = next.left }
