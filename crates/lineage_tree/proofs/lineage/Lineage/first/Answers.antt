use Rattle.std.proofs.Common.{◌≡◌, ◌++◌, List, Some, true, ◌∙◌, ap, sym, map}
use Rattle.std.specs.Option.{option_map}
use Rattle.uni_base.specs.declared.edge.EdgeRef.{EdgeRef}
use Rattle.lineage_tree.specs.Accepted.{edges_of, first_or_none, some_accepted, verdicts_of}
use Rattle.lineage_tree.specs.Entries.{entries_of, names_below}
use Rattle.lineage_tree.specs.Lists.{lists_of}
use Rattle.lineage_tree.specs.Tree.{tree_of}
use Rattle.lineage_tree.proofs.EntryLemmas.{Book, count_is}
use Rattle.lineage_tree.proofs.FirstLemmas.{first_is, first_none}
use Rattle.lineage_tree.proofs.lineage.Lineage.first.Goals as goal

pub returns-then-not-holds : goal.returns-then-not-holds
returns-then-not-holds g c = λ accepts judges given.
    sym (ap (option_map edges_of) (first_none accepts (lists_of c.args.book.now (tree_of c.args.self.now)) (sym (c.holds.ensures accepts c.args.book.now judges given) ∙ c.if-not-holds.true)))

pub add_first-requires-clause-names : goal.add_first-requires-clause-names
add_first-requires-clause-names g c =
    ap (λ n. names_below n (tree_of c.args.self.now)) (sym (count_is c.entries.result.now c.args.book.now c.entries.ensures.lists)) ∙ c.requires.names

pub add_first-requires-clause-count : goal.add_first-requires-clause-count
add_first-requires-clause-count g c = c.requires.count ∙ count_is c.entries.result.now c.args.book.now c.entries.ensures.lists

pub returns : goal.returns
returns g c = λ accepts judges given.
    let tree = tree_of c.args.self.now in
    let lists = c.entries.ensures.lists in
    let some : some_accepted accepts (lists_of c.args.book.now tree) ≡ true = sym (c.holds.ensures accepts c.args.book.now judges given) ∙ c.if-not-holds.false in
    let added = c.in_ok-add_first.ensures accepts judges (given ∙ ap (verdicts_of accepts) (sym lists)) (ap (λ (b : Book). some_accepted accepts (lists_of b tree)) lists ∙ some) in
    ap Some
    (added
    ∙ ap (λ (es : List EdgeRef). es ++ edges_of (first_or_none accepts (lists_of (entries_of (map tree_of c.entries.result.now)) tree))) c.new-edges.ensures
    ∙ ap (λ (b : Book). edges_of (first_or_none accepts (lists_of b tree))) lists)
    ∙ sym (ap (option_map edges_of) (first_is accepts (lists_of c.args.book.now tree) some))
