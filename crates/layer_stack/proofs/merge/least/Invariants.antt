use Rattle.std.proofs.Common.{◌≡◌, None, All, take, drop}
use Rattle.uni_base.specs.Cursors.{IsRanked}
use Rattle.posting_lists.specs.Postings.{keys_of}
use Rattle.layer_stack.specs.Stacks.{least_from}
use Rattle.layer_stack.proofs.merge.least.Given as goal

abbrev pub invariant-loop-part : goal.invariant-loop-part
invariant-loop-part l = record {
  least : least_from l.least (drop l.part-index l.parts) ≡ least_from None l.parts;
  ranked : All (λ part. IsRanked (keys_of part.1)) (take l.part-index l.parts);
}
