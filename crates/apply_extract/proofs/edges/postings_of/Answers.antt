use Rattle.std.proofs.Common.{◌≡◌, ap, sym, ◌∙◌, arith}
use Rattle.std.proofs.lemmas.List.{take_all}
use Rattle.std.specs.declared.vec.Vec.{Vec}
use Rattle.std.specs.Global.{Global}
use Rattle.std.specs.List.{filter_map}
use Rattle.posting_lists.specs.declared.posting.Posting.{Posting}
use Rattle.apply_extract.specs.Edges.{posting_in}
use Rattle.apply_extract.proofs.ReadVersions.{none_given, one_given}
use Rattle.apply_extract.proofs.edges.postings_of.Goals.{in-Some+in_ok-push, in_default}
use Rattle.apply_extract.proofs.edges.postings_of.Goals as goal

pub loop-item-preserved : goal.loop-item-preserved
loop-item-preserved c limits table stands =
    let f = posting_in c.args.version.now.schema table c.args.target in
    let items = c.args.items.now in let i = c.loop-item.item-index in let item = c.item-item.result in
    let so_far = c.loop-item.invariant limits table stands in
    let told : c.posting_of.result ≡ f item = c.posting_of.ensures limits table stands in
    elim c.match-posting_of.branch [
      | in-Some+in_ok-push w ↦
          ap (λ (v : Vec Posting Global). v.items) w.postings-is ∙ w.in_ok-push.ensures.items
          ∙ one_given f items i item c.loop-item-test.true c.item-item.is w.in-Some.posting c.loop-item.postings.items so_far (sym w.in-Some.is ∙ told)
      | in_default w ↦
          ap (λ (v : Vec Posting Global). v.items) w.postings-is
          ∙ none_given f items i item c.loop-item-test.true c.item-item.is c.loop-item.postings.items so_far (sym w.in_default.is ∙ told)
    ]

pub returns : goal.returns
returns c limits table stands =
    c.loop-item.invariant limits table stands
    ∙ ap (filter_map (posting_in c.args.version.now.schema table c.args.target)) (take_all c.loop-item.item-index c.args.items.now (omega (arith, c.loop-item-test.false)))
