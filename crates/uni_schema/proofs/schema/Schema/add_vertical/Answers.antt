use Rattle.std.proofs.Common.{◌<◌, List, length, ap, sym, subst}
use Rattle.std.specs.Map.{values_of}
use Rattle.uni_schema.specs.Schema.{Declarations, IsSchema, vertical_names}
use Rattle.uni_schema.specs.declared.schema.VerticalDef.{VerticalDef}
use Rattle.uni_base.specs.Fields.{same}
use Rattle.uni_schema.proofs.Added.{IsAdded, added, absent}
use Rattle.uni_schema.proofs.Schemas.{with_vertical-kept}
use Rattle.uni_schema.proofs.schema.Schema.add_vertical.Goals as goal

-- the entries with the new one
new : (c : goal.In_ok-insert) → IsAdded (λ d. d.name) c.args.vertical c.self.inside.verticals.entries c.insert.new.self.entries
new c = added (λ d. d.name) c.args.vertical c.self.inside.verticals.entries c.insert.new.self.entries c.self.invariant.0.vertical_names
    (rw (ap (λ (s : Declarations). s.verticals) c.self.view_is) c.requires.fresh) c.in_ok-insert.ensures.entries

whole : (c : goal.In_ok-insert) → List VerticalDef → Declarations
whole c xs = record { format = c.self.inside.format; verticals = xs; types = values_of c.self.inside.types.entries }

pub invariant_of-self-2 : goal.invariant_of-self-2
unfolding whole
invariant_of-self-2 c =
    let new = new c in
    let room : length (values_of c.self.inside.verticals.entries) < 16 = rw (ap (λ (s : Declarations). length s.verticals) c.self.view_is) c.requires.room in (
      record { vertical_names = new.named; type_names = c.self.invariant.0.type_names },
      subst (λ xs. IsSchema (whole c xs)) (sym new.values) (with_vertical-kept (whole c (values_of c.self.inside.verticals.entries)) c.args.vertical c.self.invariant.1 room c.requires.fits c.requires.named (absent (same c.args.vertical.name) (vertical_names (whole c (values_of c.self.inside.verticals.entries))) (rw (ap (λ (s : Declarations). vertical_names s) c.self.view_is) c.requires.fresh))),
    )

pub returns-clause-ok : goal.returns-clause-ok
unfolding whole
returns-clause-ok c = rw (← c.self.view_is) (ap (whole c) (new c).values)
