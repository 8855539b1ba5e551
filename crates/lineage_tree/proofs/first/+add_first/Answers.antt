use Rattle.std.proofs.Common.{refl, ◌++◌, ◌≡◌, List, ◌∙◌, ap, sym, map, length, arith}
use Rattle.std.proofs.lemmas.Result.{on_ok_weaker}
use Rattle.uni_base.specs.declared.edge.EdgeRef.{EdgeRef}
use Rattle.uni_base.specs.declared.edge.Held.{Held}
use Rattle.lineage_tree.specs.declared.lineage.Lineage.{Lineage}
use Rattle.lineage_tree.specs.Accepted.{edges_of, first_or_none, some_accepted}
use Rattle.lineage_tree.specs.Entries.{entries_of, names_below}
use Rattle.lineage_tree.specs.Lists.{lists_of, choices_of, members_lists}
use Rattle.lineage_tree.specs.Tree.{tree_of, trees_of}
use Rattle.lineage_tree.proofs.AddedLemmas.{turn_names, turn_size, item_some, after_some, all_turned, first_found, later_some, later_first, all_added, none_left, all_lists, any_lists}
use Rattle.lineage_tree.proofs.EntryLemmas.{Book, entry_within, tree_at-below, tree_at-lists}
use Rattle.lineage_tree.proofs.Sizes.{entry_smaller, size_by, sizes_of}
use Rattle.lineage_tree.proofs.TreeLemmas.{tree_of-entry}
use Rattle.lineage_tree.proofs.first.+add_first.Goals as goal

pub loop-member-preserved : goal.loop-member-preserved
loop-member-preserved g t c =
    let items = c.deref-member-items.result.now in let i = c.loop-member.member-index in let item = c.member-item.result in
    let book : Book = entries_of (map tree_of c.args.entries.now) in
    let size = turn_size items i item c.loop-member-test.true c.member-item.is (sizes_of c.args.entries.now) in
    record {
      names = (turn_names items i item c.loop-member-test.true c.member-item.is (length c.args.entries.now) c.loop-member.invariant.names).1;
      size = omega (arith, size, c.loop-member.invariant.size);
      first = λ accepts judges given some.
          let so_far = c.loop-member.invariant.first accepts judges given some in
          let whole : List Held = first_or_none accepts (choices_of book (trees_of items)) in
          let here = item_some items i item c.loop-member-test.true c.member-item.is accepts book c.args.edges.now c.loop-member.edges c.add_first.new.edges whole so_far.0 so_far.1 in (
            after_some items i item c.loop-member-test.true c.member-item.is accepts book c.args.edges.now c.loop-member.edges c.add_first.new.edges whole so_far.0 so_far.1,
            all_turned items i item c.loop-member-test.true c.member-item.is accepts book c.args.edges.now c.loop-member.edges c.add_first.new.edges whole so_far.0 so_far.1
                (c.in_ok-add_first-in-AllOf.ensures accepts judges given here),
          );
    }

pub loop-member-2-preserved : goal.loop-member-2-preserved
loop-member-2-preserved g t c =
    let items = c.deref-member-items-in-AnyOf.result.now in let i = c.loop-member-2.member-index in let item = c.member-item-in-loop-member-2.result in
    let book : Book = entries_of (map tree_of c.args.entries.now) in
    let size = turn_size items i item c.loop-member-2-test.true c.member-item-in-loop-member-2.is (sizes_of c.args.entries.now) in
    record {
      added = c.loop-member-2.invariant.added;
      names = (turn_names items i item c.loop-member-2-test.true c.member-item-in-loop-member-2.is (length c.args.entries.now) c.loop-member-2.invariant.names).1;
      size = omega (arith, size, c.loop-member-2.invariant.size);
      first = λ accepts judges given some.
          let so_far = c.loop-member-2.invariant.first accepts judges given some in
          let whole : List Held = first_or_none accepts (members_lists book (trees_of items)) in
          let none = sym (c.holds.ensures accepts book judges given) ∙ c.if-holds.false in (
            later_some items i item c.loop-member-2-test.true c.member-item-in-loop-member-2.is accepts book whole so_far.0 so_far.1 none,
            later_first items i item c.loop-member-2-test.true c.member-item-in-loop-member-2.is accepts book whole so_far.0 so_far.1 none,
          );
    }

pub returns-then-holds : goal.returns-then-holds
returns-then-holds g t c =
    let items = c.deref-member-items-in-AnyOf.result.now in let i = c.loop-member-2.member-index in let item = c.member-item-in-loop-member-2.result in
    let book : Book = entries_of (map tree_of c.args.entries.now) in
    on_ok_weaker c.add_first-then-holds.result
    (λ added accepts judges given some.
    let lists = any_lists book c.args.tree.now items c.in-AnyOf.members c.in-AnyOf.is c.deref-member-items-in-AnyOf.ensures.value in
    let so_far = c.loop-member-2.invariant.first accepts judges given (ap (some_accepted accepts) (sym lists) ∙ some) in
    let whole : List Held = first_or_none accepts (members_lists book (trees_of items)) in
    let here = sym (c.holds.ensures accepts book judges given) ∙ c.if-holds.true in
    added accepts judges given here
    ∙ ap (λ (es : List EdgeRef). es ++ edges_of (first_or_none accepts (lists_of book (tree_of item)))) c.loop-member-2.invariant.added
    ∙ ap (λ (l : List Held). c.args.edges.now ++ edges_of l)
    (first_found items i item c.loop-member-2-test.true c.member-item-in-loop-member-2.is accepts book whole so_far.0 so_far.1 here ∙ ap (first_or_none accepts) (sym lists)))
    c.add_first-then-holds.ensures

pub returns-after-loop-member : goal.returns-after-loop-member
returns-after-loop-member g t c = λ accepts judges given some.
    let items = c.deref-member-items.result.now in
    let book : Book = entries_of (map tree_of c.args.entries.now) in
    let lists = all_lists book c.args.tree.now items c.in-AllOf.members c.in-AllOf.is c.deref-member-items.ensures.value in
    let so_far = c.loop-member.invariant.first accepts judges given (ap (some_accepted accepts) (sym lists) ∙ some) in
    all_added items c.loop-member.member-index c.loop-member-test.false accepts book c.args.edges.now c.loop-member.edges (first_or_none accepts (choices_of book (trees_of items))) so_far.1
    ∙ ap (λ (ls : List (List Held)). c.args.edges.now ++ edges_of (first_or_none accepts ls)) (sym lists)

pub returns-after-loop-member-2 : goal.returns-after-loop-member-2
returns-after-loop-member-2 g t c = λ accepts judges given some.
    let items = c.deref-member-items-in-AnyOf.result.now in
    let book : Book = entries_of (map tree_of c.args.entries.now) in
    let lists = any_lists book c.args.tree.now items c.in-AnyOf.members c.in-AnyOf.is c.deref-member-items-in-AnyOf.ensures.value in
    let so_far = c.loop-member-2.invariant.first accepts judges given (ap (some_accepted accepts) (sym lists) ∙ some) in
    absurd (none_left items c.loop-member-2.member-index c.loop-member-2-test.false accepts book so_far.0)

pub returns-in-Entry : goal.returns-in-Entry
returns-in-Entry g t c =
    let book : Book = entries_of (map tree_of c.args.entries.now) in
    on_ok_weaker c.add_first-in-Entry.result
    (λ added accepts judges given some.
    let lists : lists_of book (tree_of c.args.tree.now) ≡ lists_of book (tree_of c.index-entries-entry.result) =
    ap (λ (tree : Lineage). lists_of book (tree_of tree)) c.in-Entry.is ∙ ap (lists_of book) (tree_of-entry c.in-Entry.entry)
    ∙ sym (tree_at-lists c.args.entries.now book c.in-Entry.entry c.index-entries-entry.result refl
    (entry_within (length c.args.entries.now) c.in-Entry.entry (ap (names_below (length c.args.entries.now)) (sym (ap tree_of c.in-Entry.is ∙ tree_of-entry c.in-Entry.entry)) ∙ c.requires.names)) c.index-entries-entry.is c.requires.book) in
    added accepts judges given (ap (some_accepted accepts) (sym lists) ∙ some)
    ∙ ap (λ (ls : List (List Held)). c.args.edges.now ++ edges_of (first_or_none accepts ls)) (sym lists))
    c.add_first-in-Entry.ensures

pub add_first-requires-in-Entry : goal.add_first-requires-in-Entry
add_first-requires-in-Entry g t c κs within =
    let is = ap tree_of c.in-Entry.is ∙ tree_of-entry c.in-Entry.entry in
    let inside = entry_within (length c.args.entries.now) c.in-Entry.entry (ap (names_below (length c.args.entries.now)) (sym is) ∙ c.requires.names) in
    let smaller = entry_smaller c.args.entries.now c.in-Entry.entry c.index-entries-entry.result inside c.index-entries-entry.is c.requires.book in
    let whole = ap (size_by (sizes_of c.args.entries.now)) is in
    let size : size_by (sizes_of c.args.entries.now) (tree_of c.args.tree.now) ≡ t = c.decreases in (
      omega (arith, smaller, whole, size),
      (
        within,
        (
          c.requires.callable,
          (
            c.requires.book,
            (tree_at-below c.args.entries.now c.in-Entry.entry c.index-entries-entry.result inside c.index-entries-entry.is c.requires.book, c.requires.count),
          ),
        ),
      ),
    )
