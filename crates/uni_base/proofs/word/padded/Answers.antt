use Rattle.uni_base.specs.Padding.{padded-written}
use Rattle.uni_base.proofs.word.padded.Goals as goal

pub returns : goal.returns
returns c = padded-written _ _ c.copy_from_slice.ensures.after
