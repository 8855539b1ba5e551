use Rattle.std.proofs.Common.{arith, ap, ◌∙◌, sym, subst}
use Rattle.uni_base.specs.Cursors.{IsRanked}
use Rattle.std.proofs.lemmas.List.{length-map}
use Rattle.posting_lists.specs.declared.posting.Posting.{Posting}
use Rattle.posting_lists.specs.Postings.{keys_of, postings_from}
use Rattle.posting_lists.proofs.Sections.{keys_of-section, section_rises, section_from, section_ranked}
use Rattle.posting_lists.proofs.cursor.ListCursor.seek_counted.Goals as goal

pub place_from-self-inside-requires-clause-rises : goal.place_from-self-inside-requires-clause-rises
place_from-self-inside-requires-clause-rises g c =
    let at = c.self.inside.at in let end = c.self.inside.end in let ps = c.self.inside.columns.now in
    section_rises (keys_of ps) at end c.self.invariant.0 (omega (arith, c.self.invariant.1, length-map ps (λ (p : Posting). p.key))) (subst IsRanked (keys_of-section at end ps) c.self.invariant.2)

pub invariant_of-self : goal.invariant_of-self
invariant_of-self g c =
    let found = c.place_from-self-inside.ensures.found in
    (found.below, c.self.invariant.1, section_ranked c.self.inside.columns.now c.self.inside.at c.self.inside.end c.place_from-self-inside.result found.above found.below c.self.invariant.2)

pub returns-clause-left : goal.returns-clause-left
returns-clause-left g c =
    let found = c.place_from-self-inside.ensures.found in
    sym (ap (postings_from c.args.from) (sym c.self.view_is) ∙ section_from c.args.from c.self.inside.columns.now c.self.inside.at c.self.inside.end c.place_from-self-inside.result c.self.invariant.0 c.self.invariant.1 c.self.invariant.2 found)
