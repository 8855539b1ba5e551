use Rattle.std.proofs.Common.{arith, sym, ◌∙◌}
use Rattle.uni_base.proofs.Front.{all_pass, ends_here, one_more}
use Rattle.uni_base.specs.Words.{is_word_byte}
use Rattle.uni_base.proofs.word.word_bytes.Goals as goal

pub returns-then-not-is_word_byte : goal.returns-then-not-is_word_byte
returns-then-not-is_word_byte c = ends_here is_word_byte c.args.text.now c.loop-i.i c.loop-i.invariant (sym c.is_word_byte.ensures ∙ c.if-not-is_word_byte.true)

pub loop-i-preserved : goal.loop-i-preserved
loop-i-preserved c = one_more is_word_byte c.args.text.now c.loop-i.i (omega arith) c.loop-i.invariant (sym c.is_word_byte.ensures ∙ c.if-not-is_word_byte.false)

pub returns : goal.returns
returns c = all_pass is_word_byte c.args.text.now (omega arith)
