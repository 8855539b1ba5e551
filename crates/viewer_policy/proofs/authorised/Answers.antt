use Rattle.std.proofs.Common.{◌≡◌, ◌==◌, false, ap, sym, ◌∙◌}
use Rattle.uni_schema.specs.Schema.{Declarations, owners_of}
use Rattle.uni_meaning.specs.Policy.{admits, some_owner}
use Rattle.viewer_policy.proofs.Rules.{judged_of, refused_first, refused_second, left_to_audience}
use Rattle.viewer_policy.proofs.authorised.Goals.{then-is_denied-via-then-is_denied, then-is_denied-via-else-is_denied+then-is_denied-2}
use Rattle.viewer_policy.proofs.authorised.Goals as goal

pub returns-then-is_denied-clause-rules : goal.returns-then-is_denied-clause-rules
returns-then-is_denied-clause-rules c limits table stands =
    let schema = c.args.version.now.schema in let held = c.args.held.now in
    let are : c.owners-owners.result ≡ owners_of schema held.edge = c.owners-owners.ensures ∙ ap (λ (s : Declarations). owners_of s held.edge) c.schema.ensures in
    let other : some_owner (λ owner. owner == c.args.viewer) c.owners-owners.result ≡ false = sym c.is_among.ensures ∙ c.if-is_among.false in
    elim c.then-is_denied.branch [
      | then-is_denied-via-then-is_denied w ↦ refused_first schema table c.args.viewer held c.owners-owners.result are other (sym (c.is_denied.ensures limits table stands) ∙ w.if-is_denied.true)
      | then-is_denied-via-else-is_denied+then-is_denied-2 w ↦
          refused_second schema table c.args.viewer held c.owners-owners.result are other (sym (c.is_denied.ensures limits table stands) ∙ w.if-is_denied.false)
          (sym (w.is_denied-else-is_denied.ensures limits table stands) ∙ w.if-is_denied-2.true)
    ]

pub returns-then-is_denied-clause-held : goal.returns-then-is_denied-clause-held
returns-then-is_denied-clause-held c limits table stands is =
    returns-then-is_denied-clause-rules c limits table stands ∙ judged_of c.args.version.now.schema table c.args.viewer c.args.held.now is

pub returns-in-Public-clause-rules : goal.returns-in-Public-clause-rules
returns-in-Public-clause-rules c limits table stands =
    let schema = c.args.version.now.schema in let held = c.args.held.now in
    let are : c.owners-owners.result ≡ owners_of schema held.edge = c.owners-owners.ensures ∙ ap (λ (s : Declarations). owners_of s held.edge) c.schema.ensures in
    sym (ap (admits table c.args.viewer) c.in-Public.is)
    ∙ left_to_audience schema table c.args.viewer held c.owners-owners.result are (sym c.is_among.ensures ∙ c.if-is_among.false) (sym (c.is_denied.ensures limits table stands) ∙ c.if-is_denied.false)
    (sym (c.is_denied-else-is_denied.ensures limits table stands) ∙ c.if-is_denied-2.false)

pub returns-in-Public-clause-held : goal.returns-in-Public-clause-held
returns-in-Public-clause-held c limits table stands is =
    returns-in-Public-clause-rules c limits table stands ∙ judged_of c.args.version.now.schema table c.args.viewer c.args.held.now is

pub returns-in-Circle-clause-rules : goal.returns-in-Circle-clause-rules
returns-in-Circle-clause-rules c limits table stands =
    let schema = c.args.version.now.schema in let held = c.args.held.now in
    let are : c.owners-owners.result ≡ owners_of schema held.edge = c.owners-owners.ensures ∙ ap (λ (s : Declarations). owners_of s held.edge) c.schema.ensures in
    c.reaches.ensures limits table stands ∙ sym (ap (admits table c.args.viewer) c.in-Circle.is)
    ∙ left_to_audience schema table c.args.viewer held c.owners-owners.result are (sym c.is_among.ensures ∙ c.if-is_among.false) (sym (c.is_denied.ensures limits table stands) ∙ c.if-is_denied.false)
    (sym (c.is_denied-else-is_denied.ensures limits table stands) ∙ c.if-is_denied-2.false)

pub returns-in-Circle-clause-held : goal.returns-in-Circle-clause-held
returns-in-Circle-clause-held c limits table stands is =
    returns-in-Circle-clause-rules c limits table stands ∙ judged_of c.args.version.now.schema table c.args.viewer c.args.held.now is
