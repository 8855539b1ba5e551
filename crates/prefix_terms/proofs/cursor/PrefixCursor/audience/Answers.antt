use Rattle.std.proofs.Common.{◌≡◌, [], true, false, if◌then◌else◌, None, Some, ◌∙◌, ap, sym, subst, is_some, slice_get, slice_index_or}
use Rattle.std.specs.Option.{option_and_then}
use Rattle.std.specs.FinMap as finite
use Rattle.std.proofs.lemmas.Option.{get_or_from_slice_get}
use Rattle.uni_base.specs.declared.edge.Key.TheVariants.{Word}
use Rattle.uni_base.specs.declared.entity.DocKey.{DocKey}
use Rattle.uni_base.specs.KeySets.{has_first, united}
use Rattle.layer_stack.specs.Places.{term_of}
use Rattle.layer_stack.specs.Postings.{place_of}
use Rattle.prefix_terms.specs.PrefixCursors.{PrefixPostings, AreHeld, audience_of}
use Rattle.prefix_terms.proofs.KeysOfWords.{audience_held, audience_none}
use Rattle.prefix_terms.proofs.cursor.PrefixCursor.audience.Goals as goal

-- the current key, and what the table has there
current_key : (c : goal.After-find) → slice_get (united c.args.self.now.lists) 0 ≡ Some c.in_ok-key.key
current_key c = sym (ap (λ (v : PrefixPostings). slice_get (united v.lists) 0) c.self.view_is) ∙ sym c.peek.ensures.first ∙ c.in_ok-key.was {u = tt}

found_there : (c : goal.After-find) → c.find.result ≡ audience_of c.args.self.now.number c.args.self.now.table (slice_index_or c.args.self.now.words c.args.i []) c.in_ok-key.key
found_there c =
    let now = c.args.self.now in let i = c.args.i in let key = c.in_ok-key.key in
    let word = sym (get_or_from_slice_get now.words i c.word.result [] c.word.ensures) in
    c.find.ensures ∙ (λ j. finite.get (c.self.view_is j).table (place_of ((c.word_term.ensures ∙ (λ k. term_of (c.self.view_is k).number (Word (word k)))) j) key))

pub returns-then-not-matches-clause-posting : goal.returns-then-not-matches-clause-posting
returns-then-not-matches-clause-posting c key current =
    let now = c.args.self.now in let i = c.args.i in
    let held : AreHeld now = subst AreHeld c.self.view_is c.self.invariant in
    let other : has_first (slice_index_or now.lists i []) (united now.lists) ≡ false =
    sym (ap (λ (v : PrefixPostings). has_first (slice_index_or v.lists i []) (united v.lists)) c.self.view_is) ∙ sym c.matches.ensures.holds ∙ c.if-not-matches.true in
    sym (audience_none now key i held current c.requires other)

pub returns-clause-audience : goal.returns-clause-audience
returns-clause-audience c =
    let now = c.args.self.now in let i = c.args.i in
    let has : has_first (slice_index_or now.lists i []) (united now.lists) ≡ true =
    sym (ap (λ (v : PrefixPostings). has_first (slice_index_or v.lists i []) (united v.lists)) c.self.view_is) ∙ sym c.matches.ensures.holds ∙ c.if-not-matches.false in
    let audience = λ (k : DocKey). audience_of now.number now.table (slice_index_or now.words i []) k in
    found_there c
    ∙ sym (ap (λ b. if b then option_and_then audience (slice_get (united now.lists) 0) else None) has ∙ ap (option_and_then audience) (current_key c))

pub returns-clause-held : goal.returns-clause-held
returns-clause-held c =
    let now = c.args.self.now in let i = c.args.i in
    let held : AreHeld now = subst AreHeld c.self.view_is c.self.invariant in
    ap is_some (found_there c) ∙ audience_held now c.in_ok-key.key i held (current_key c) c.requires

pub returns-clause-posting : goal.returns-clause-posting
returns-clause-posting c key current =
    let now = c.args.self.now in let i = c.args.i in
    let both : Some c.in_ok-key.key ≡ Some key = sym (current_key c) ∙ current in
    let same : c.in_ok-key.key ≡ key = cc in
    found_there c ∙ ap (audience_of now.number now.table (slice_index_or now.words i [])) same
