use Rattle.std.proofs.Common.{◌≡◌, List, ◌++◌, [], ◌∷◌, Option, Some, None, sym, ap, ◌∙◌, append-nil, Vec, Global}
use Rattle.std.specs.Option.{option_map}
use Rattle.uni_base.specs.declared.entity.DocKey.{DocKey}
use Rattle.uni_table.specs.Targets.{target_of}
use Rattle.uni_table.specs.declared.table.reached.Target.{Target}
use Rattle.uni_table.proofs.Filters.{filter_map-more}
use Rattle.uni_table.proofs.table.Table.targets.Goals as goal
use Rattle.uni_table.proofs.table.Table.targets.Goals.{in-Some+in_ok-push, in_default}

pub loop-held-preserved : goal.loop-held-preserved
loop-held-preserved c =
    let named : DocKey → Target = λ doc. record { doc = doc; audience = c.held-item.result.audience } in
    let more = λ (o : Option DocKey) (is : c.doc_key.result ≡ o).
    filter_map-more (target_of c.args.self.now.contents) c.args.held.now c.loop-held.held-index c.held-item.result (option_map named o) c.loop-held-test.true c.held-item.is
    (ap (option_map named) (sym c.doc_key.ensures ∙ is)) in
    elim c.match-doc_key.branch [
      | in-Some+in_ok-push w ↦
          ap (λ (v : Vec Target Global). v.items) w.targets-is ∙ w.in_ok-push.ensures.items ∙ ap (λ (ts : List Target). ts ++ named w.in-Some.doc ∷ []) c.loop-held.invariant
          ∙ sym (more (Some w.in-Some.doc) w.in-Some.is)
      | in_default w ↦ ap (λ (v : Vec Target Global). v.items) w.targets-is ∙ c.loop-held.invariant ∙ sym (more None w.in_default.is ∙ append-nil _)
    ]
