use Rattle.std.proofs.Common.{rules, arith, ◌≡◌, ◌<◌, ◌+◌, ◌++◌, ◌∷◌, [], length, slice_get, Some, refl, ap, ◌∙◌, sym, append_assoc}
use Rattle.std.proofs.lemmas.Option.{slice_get_read}
use Rattle.posting_lists.specs.Postings.{section}
use Rattle.posting_lists.proofs.Sections.{section_more}
use Rattle.layer_stack.specs.Runs.{numbered}
use Rattle.layer_stack.proofs.Settled.{numbered_at}
use Rattle.layer_stack.proofs.arrange.add_numbers.Goals as goal

pub loop-i-preserved : goal.loop-i-preserved
loop-i-preserved c =
    let keys = c.args.keys.now in let i = c.loop-i.i in let key = c.index-keys-i.result in let from = c.args.span.from in
    let old = c.args.group.now.items in
    let fits : i < length keys = omega (arith, c.requires, c.loop-i-test.true) in
    let same : 0 + i ≡ i = omega arith in
    let at : slice_get (numbered keys) i ≡ Some (key, i) = numbered_at 0 keys i key (slice_get_read keys (length keys) i key refl fits c.index-keys-i.is) ∙ ap (λ n. Some (key, n)) same in
    let pushed : c.push.new.self.items ≡ c.loop-i.group.items ++ (key, i) ∷ [] = search rules in
    pushed ∙ ap (λ l. l ++ (key, i) ∷ []) c.loop-i.invariant ∙ append_assoc old (section from i (numbered keys)) ((key, i) ∷ [])
    ∙ ap (λ l. old ++ l) (sym (section_more from i (numbered keys) (key, i) c.loop-i.auto.i at))
