use Rattle.std.proofs.Common.{◌≡◌, ◌<◌, length, get_or, ◌∙◌, ap, sym, arith}
use Rattle.uni_base.specs.MemoryStreams.{unread}
use Rattle.uni_base.proofs.Pieces.{unread-here}
use Rattle.uni_base.proofs.memory_source.Pieces.pass_empty.Goals as goal

-- the loop stopped at a piece that has a byte left
pub returns-then-self-len : goal.returns-then-self-len
returns-then-self-len c =
    let found = c.in-Some.ensures.lookup in
    let all = c.loop-piece.self-inside.all.items in
    let place = c.loop-piece.self-inside.place in
    let piece = c.in-Some.piece.now in
    let there : place < length all = omega (arith, found.3.0, ap length c.as_slice.ensures.value) in
    let same : piece ≡ get_or all place piece = found.1 ∙ ap (λ xs. get_or xs place piece) c.as_slice.ensures.value in
    sym (unread-here all place piece c.loop-piece.self-inside.at there same (omega arith))
    ∙ c.loop-piece.invariant.0
    ∙ ap unread c.self.view_is
