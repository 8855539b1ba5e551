use Rattle.std.proofs.Common.{◌≡◌, ◌+◌, set, get_or, subst, sym, if◌then◌else◌, rules}
use Rattle.uni_table.specs.GraphKeys.{is_noted_at}
use Rattle.uni_table.proofs.Noted.{noted}
use Rattle.uni_table.proofs.graph.rows.note_start.Goals as goal

pub returns : goal.returns
returns c = λ place.
    let at = c.saturating_sub-place.result in
    let old = c.args.starts.now.items in
    let new = c.fill_up.new.numbers.items in
    subst (λ key. get_or (set new at (c.args.number + 1)) place 0 ≡ (if is_noted_at c.args.ids key c.args.number place then c.args.number + 1 else get_or old place 0)) (sym c.in-Id.is)
    (noted old new c.args.ids c.in-Id.id at c.args.number (search rules) c.if-place-ids.false c.if-number-eq4294967295.false (search rules) c.fill_up.ensures.same place)
