use Rattle.std.proofs.Common.{arith, ◌<◌, ◌≤◌, ◌+◌, length, sym, get_or}
use Rattle.feed_reader.proofs.Digits.{digit-known, value_more, digits_more, small_more, roomy}
use Rattle.feed_reader.proofs.number.leading_digits.Goals as goal

pub overflow_mul-value : goal.overflow_mul-value
overflow_mul-value c =
    let more : c.loop-count.count < 19 = omega arith in
    let room = roomy c.loop-count.value c.loop-count.count 19 more (omega arith) c.loop-count.invariant.small in
    omega (arith, room)

pub overflow_add-value : goal.overflow_add-value
overflow_add-value c =
    let text = c.args.text.now in
    let more : c.loop-count.count < 19 = omega arith in
    let room = roomy c.loop-count.value c.loop-count.count 19 more (omega arith) c.loop-count.invariant.small in
    let known = digit-known (get_or text c.loop-count.count 0) (sym c.in-Some.ensures) in
    omega (arith, room, known.2)

pub loop-count-preserved : goal.loop-count-preserved
loop-count-preserved c =
    let i = c.loop-count.count in
    let text = c.args.text.now in
    let here : i < length text = omega arith in
    let more : i + 1 ≤ 19 = omega arith in
    let known = digit-known (get_or text i 0) (sym c.in-Some.ensures) in
    record {
      value = value_more text i c.loop-count.value _ here known.1 c.loop-count.invariant.value;
      digits = digits_more text i here known.0 c.loop-count.invariant.digits;
      small = small_more c.loop-count.value _ i c.loop-count.invariant.small known.2;
      few = more;
    }
