use Rattle.std.proofs.Common.{◌≡◌, ◌≤◌, ◌*◌, length, sum}
use Rattle.turn_lock.specs.Seats.{IsWriterOf, WriterRests, writer_seen, writer_turns, writer_made}
use Rattle.turn_lock.proofs.tests.count_up.Given as goal

abbrev pub invariant-loop-done : goal.invariant-loop-done
invariant-loop-done g l = IsWriterOf l.lock l.writer × WriterRests l.writer × (writer_turns l.writer ≡ l.done) × (writer_made l.writer ≡ writer_made l.fn.writer)
    × (length (writer_seen l.writer) ≡ l.done) × (sum (writer_seen l.writer) ≤ 3 * l.done)
