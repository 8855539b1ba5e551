use Rattle.apply_extract.proofs.SplitLists.{pushed}
use Rattle.apply_extract.proofs.edges.add_to.Goals as goal

pub returns : goal.returns
returns g c = pushed c.args.lists.now.items c.args.at c.index_mut.result.now c.push.new.self c.args.item c.requires c.index_mut.ensures.value c.in_ok-push.ensures.items
