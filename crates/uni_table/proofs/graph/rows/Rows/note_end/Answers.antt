use Rattle.std.proofs.Common.{◌≡◌, ◌+◌, Bool, true, false, cond, refl, ◌∙◌}
use Rattle.std.specs.BTreeMap.{is_at}
use Rattle.uni_table.specs.GraphRows.{end_cmp}
use Rattle.uni_table.specs.declared.graph.rows.Rows.{Rows}
use Rattle.uni_table.proofs.GraphEdges.{quiet-ends}
use Rattle.uni_table.proofs.graph.rows.Rows.note_end.Goals as goal

pub returns-in_ok-insert-clause-quiet : goal.returns-in_ok-insert-clause-quiet
returns-in_ok-insert-clause-quiet c =
    let old = c.args.self.now in
    let new : Rows = record old { ends = c.insert.new.self } in
    quiet-ends old new c.requires.kept (λ q had. c.in_ok-insert.ensures.updates.0 q ∙ by (is_at (end_cmp (c.args.end, c.args.index + 1)) q) _ had)
  where
    by : (b r : Bool) → r ≡ true → cond b true r ≡ true
    by true r had = refl
    by false r had = had
