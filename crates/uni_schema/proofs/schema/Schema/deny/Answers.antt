use Rattle.std.proofs.Common.{◌≡◌, ◌<◌, true, false, List, map, Some, slice_get, ap, sym, subst, ◌∙◌}
use Rattle.std.specs.Map.{values_of}
use Rattle.std.specs.Option.{option_map_or, option_and_then}
use Rattle.uni_schema.specs.Rules.{may_deny}
use Rattle.uni_schema.specs.Schema.{Declarations, IsSchema, denials, type_at}
use Rattle.uni_schema.specs.declared.schema.TypeDef.{TypeDef}
use Rattle.uni_schema.proofs.Schemas.{IsDenied, denied_entries, denying-kept, place, place-position}
use Rattle.uni_schema.proofs.schema.Schema.deny.Goals as goal

whole : (c : goal.In_ok-insert) → List TypeDef → Declarations
whole c xs = record { format = c.self.inside.format; verticals = values_of c.self.inside.verticals.entries; types = xs }

-- the type stands at the place of its name
there : (c : goal.In_ok-insert) → slice_get (values_of c.self.inside.types.entries) (place c.args.name.now (map (λ d. d.name) (values_of c.self.inside.types.entries))) ≡ Some c.type_def.result.now
there c =
    let at : place c.args.name.now (map (λ d. d.name) c.args.self.now.types) ≡ c.in-Some.no =
    place-position c.args.name.now (map (λ d. d.name) c.args.self.now.types) c.in-Some.no (sym c.in-Some.ensures.number) in
    let now : slice_get c.args.self.now.types (place c.args.name.now (map (λ d. d.name) c.args.self.now.types)) ≡ Some c.type_def.result.now =
    ap (slice_get c.args.self.now.types) at ∙ c.type_def.ensures.at in
    subst (λ (s : Declarations). slice_get s.types (place c.args.name.now (map (λ d. d.name) s.types)) ≡ Some c.type_def.result.now) (sym c.self.view_is) now

may : (c : goal.In_ok-insert) → may_deny c.type_def.result.now ≡ true
may c =
    ap (λ o. option_map_or may_deny o false) (sym c.type_def.ensures.at)
    ∙ ap (λ o. option_map_or may_deny (option_and_then (type_at c.args.self.now) o) false) c.in-Some.ensures.number
    ∙ c.requires.fits

new : (c : goal.In_ok-insert) → IsDenied c.args.name.now c.self.inside.types.entries c.insert.new.self.entries
new c = subst (IsDenied c.args.name.now c.self.inside.types.entries) (sym c.in_ok-insert.ensures.entries)
    (denied_entries c.args.name.now c.self.inside.types.entries c.type_def.result.now c.self.invariant.0.type_names (there c))

pub invariant_of-self-2 : goal.invariant_of-self-2
unfolding whole
invariant_of-self-2 c =
    let new = new c in
    let room : denials (values_of c.self.inside.types.entries) < 8 = rw (ap (λ (s : Declarations). denials s.types) c.self.view_is) c.requires.room in (
      record { vertical_names = c.self.invariant.0.vertical_names; type_names = new.named },
      subst (λ xs. IsSchema (whole c xs)) (sym new.values) (denying-kept (whole c (values_of c.self.inside.types.entries)) c.args.name.now c.type_def.result.now c.self.invariant.1 room (there c) (may c)),
    )

pub returns-clause-ok : goal.returns-clause-ok
unfolding whole
returns-clause-ok c = rw (← c.self.view_is) (ap (whole c) (new c).values)
