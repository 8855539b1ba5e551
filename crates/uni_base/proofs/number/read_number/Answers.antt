use Rattle.std.proofs.Common.{arith, ◌<◌, length, sym, get_or}
use Rattle.uni_base.proofs.Digits.{digit-known, value_more, digits_more, small_more}
use Rattle.uni_base.proofs.number.read_number.Goals as goal

pub loop-byte-preserved : goal.loop-byte-preserved
loop-byte-preserved c =
    let i = c.loop-byte.byte-index in
    let text = c.args.text.now in
    let here : i < length text = omega arith in
    let known = digit-known (get_or text i 0) (sym c.in_ok-value.ensures) in
    record {
      value = value_more text i c.loop-byte.value _ here known.1 c.loop-byte.invariant.value;
      digits = digits_more text i here known.0 c.loop-byte.invariant.digits;
      small = small_more c.loop-byte.value _ i c.loop-byte.invariant.small known.2;
    }
