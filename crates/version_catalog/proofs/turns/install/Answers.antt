use Rattle.std.proofs.Common.{arith, ◌≡◌, ◌-◌, ◌+◌, ◌∷◌, [], length, get_or, set, drop, sym, subst, ap, ◌∙◌}
use Rattle.std.proofs.lemmas.List.{get_or_default}
use Rattle.uni_schema.specs.Schema.{Declarations}
use Rattle.uni_table.specs.Journals.{fold_of}
use Rattle.shard_index.specs.Places.{stack_no}
use Rattle.shard_index.specs.Versions.{VersionState, AreStacks}
use Rattle.shard_index.proofs.Standing.{are_stacks}
use Rattle.version_catalog.specs.States.{version_in, covered_in}
use Rattle.version_catalog.proofs.Installs.{is_below, own_stands, installed_now}
use Rattle.version_catalog.proofs.turns.install.Goals as goal

pub fronted_version-requires-clause-number : goal.fronted_version-requires-clause-number
fronted_version-requires-clause-number c =
    let settings = c.requires.0 in let st = c.requires.2 in let v = c.args.vertical in let s = c.args.shard in let r = c.args.replica in
    let number : c.stack_no-number.result ≡ stack_no settings.schema v s r =
    c.stack_no-number.ensures.no ∙ ap (λ (schema : Declarations). stack_no schema v s r) (c.schema.ensures ∙ ap (λ (x : VersionState). x.schema) c.deref.ensures ∙ st.schema) in
    omega (arith, number, (is_below c.args.state.now settings c.requires.1 st v s r c.requires.3.stack).0, ap (λ (x : VersionState). length x.stacks) c.deref-2.ensures)

pub fronted_version-requires-clause-later : goal.fronted_version-requires-clause-later
fronted_version-requires-clause-later c =
    let state = c.args.state.now in let settings = c.requires.0 in let st = c.requires.2 in let base = c.requires.3 in
    let v = c.args.vertical in let s = c.args.shard in let r = c.args.replica in let no = c.stack_no-number.result in
    let number : no ≡ stack_no settings.schema v s r =
    c.stack_no-number.ensures.no ∙ ap (λ (schema : Declarations). stack_no schema v s r) (c.schema.ensures ∙ ap (λ (x : VersionState). x.schema) c.deref.ensures ∙ st.schema) in
    let below = is_below state settings c.requires.1 st v s r base.stack in
    let covered : c.index-covered.result.now ≡ get_or (covered_in state) (stack_no settings.schema v s r) 0 =
    c.index-covered.ensures ∙ get_or_default (covered_in state) no c.index-covered.result.now 0 (omega (arith, below.1, number)) ∙ ap (λ k. get_or (covered_in state) k 0) number in
    let long : length (get_or c.deref-2.result.now.stacks no []) ≡ length (get_or (version_in state).stacks (stack_no settings.schema v s r) []) =
    ap (λ (x : VersionState). length (get_or x.stacks no [])) c.deref-2.ensures ∙ ap (λ k. length (get_or (version_in state).stacks k [])) number in
    let own = own_stands state settings c.requires.1 st v s r base.stack in
    omega (arith, covered, long, own.count, own.within, base.within, c.if-covers-covered.false)

pub fronted_version-requires-clause-stand : goal.fronted_version-requires-clause-stand
fronted_version-requires-clause-stand c =
    let state = c.args.state.now in let settings = c.requires.0 in let journal = c.requires.1 in let st = c.requires.2 in let base = c.requires.3 in
    let v = c.args.vertical in let s = c.args.shard in let r = c.args.replica in let no = c.stack_no-number.result in let covers = c.args.covers in let layer = c.args.layer in
    let number : no ≡ stack_no settings.schema v s r =
    c.stack_no-number.ensures.no ∙ ap (λ (schema : Declarations). stack_no schema v s r) (c.schema.ensures ∙ ap (λ (x : VersionState). x.schema) c.deref.ensures ∙ st.schema) in
    let below = is_below state settings journal st v s r base.stack in
    let covered : c.index-covered.result.now ≡ get_or (covered_in state) (stack_no settings.schema v s r) 0 =
    c.index-covered.ensures ∙ get_or_default (covered_in state) no c.index-covered.result.now 0 (omega (arith, below.1, number)) ∙ ap (λ k. get_or (covered_in state) k 0) number in
    let now = installed_now state settings journal st v s r covers layer base (omega (arith, covered, c.if-covers-covered.false)) in
    let stand = are_stacks settings.schema (fold_of settings.schema journal) _ now in
    subst (λ (x : VersionState). AreStacks x.schema (set x.stacks no (layer ∷ drop (1 + (covers - c.index-covered.result.now)) (get_or x.stacks no [])))) (sym c.deref-2.ensures)
    (subst (λ k. AreStacks (version_in state).schema (set (version_in state).stacks k (layer ∷ drop (1 + (covers - c.index-covered.result.now)) (get_or (version_in state).stacks k [])))) (sym number)
    (subst (λ n. AreStacks (version_in state).schema (set (version_in state).stacks (stack_no settings.schema v s r) (layer ∷ drop (1 + (covers - n)) (get_or (version_in state).stacks (stack_no settings.schema v s r) [])))) (sym covered)
    (subst (λ (schema : Declarations). AreStacks schema (set (version_in state).stacks (stack_no settings.schema v s r) (layer ∷ drop (1 + (covers - get_or (covered_in state) (stack_no settings.schema v s r) 0)) (get_or (version_in state).stacks (stack_no settings.schema v s r) [])))) (sym st.schema) stand)))
