use Rattle.std.proofs.Common.{◌≡◌, ap, ◌∙◌, inr, slice_get}
use Rattle.indexmap.proofs.CallerLemmas.{insert_entry-new}
use Rattle.std.specs.Map.{keys_of}
use Rattle.uni_table.proofs.GraphPlaces.{key-last}
use Rattle.uni_table.proofs.graph.rows.add_key.Goals as goal

pub returns-clause-grown : goal.returns-clause-grown
returns-clause-grown g c = inr (c.in_ok-insert.ensures.entries ∙ insert_entry-new g.K.PartialEq.eq c.args.map.now c.args.key c.args.value c.requires.new)

pub returns-clause-index : goal.returns-clause-index
returns-clause-index g c =
    let es = c.args.map.now.entries in
    let new : c.insert.new.self.entries ≡ _ = c.in_ok-insert.ensures.entries ∙ insert_entry-new g.K.PartialEq.eq c.args.map.now c.args.key c.args.value c.requires.new in
    ap (λ fs. slice_get (keys_of fs) c.len-index.result) new ∙ key-last es c.len-index.result c.args.key c.args.value c.len-index.ensures.len
