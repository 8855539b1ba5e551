-- The keys that an operand has left.
use Rattle.std.specs.Prelude.{List, map}
use Rattle.query_tree.specs.declared.query.Mark.{Mark}
use Rattle.uni_base.specs.declared.entity.DocKey.{DocKey}
use Rattle.posting_lists.specs.Postings.{keys_of}
use Rattle.uni_base.specs.KeySets.{united}
use Rattle.shard_eval.specs.declared.operand.Side.{Side}
use Rattle.shard_eval.specs.declared.operand.Side.TheVariants.{First, Others}
use Rattle.shard_eval.specs.declared.operand.Operand.{Operand}
use Rattle.shard_eval.specs.declared.operand.Operand.TheVariants.{Term, Prefix, Any, Hits}

abbrev pub keys_in : Operand → List DocKey
keys_in (Term postings) = keys_of postings
keys_in (Prefix postings) = united postings.lists
keys_in (Any operands) = united (map keys_of operands)
keys_in (Hits keys) = keys

-- the same of a side of a difference
abbrev pub keys_of_side : Side → List DocKey
keys_of_side (First operand) = keys_in operand
keys_of_side (Others operands) = united (map keys_in operands)

-- the same of operands with their marks, and the marks
abbrev pub operand_keys : List (Operand × Mark) → List (List DocKey)
operand_keys = map (λ o. keys_in o.0)

abbrev pub marks_in : List (Operand × Mark) → List Mark
marks_in = map (λ o. o.1)
