use Rattle.std.proofs.Common.{◌∷◌, [], List, ◌∙◌, ap, length, map, length-append, arith}
use Rattle.lineage_tree.specs.declared.lineage.Lineage.{Lineage}
use Rattle.lineage_tree.specs.Entries.{entries_of, name_earlier}
use Rattle.lineage_tree.specs.Tree.{tree_of}
use Rattle.lineage_tree.proofs.EntryLemmas.{count_is, pushed_lists, pushed_names}
use Rattle.lineage_tree.proofs.book.LineageBook.push.Goals as goal

pub invariant_of-self-2 : goal.invariant_of-self-2
invariant_of-self-2 c =
    let count = count_is c.self.inside.entries.items c.args.self.now c.self.view_is in (
      ap (λ (ts : List Lineage). name_earlier 0 (map tree_of ts)) c.in_ok-push.ensures.items
          ∙ pushed_names c.self.inside.entries.items c.args.tree c.args.self.now c.self.view_is c.self.invariant.0 c.requires.names,
      omega (arith, count, ap length c.in_ok-push.ensures.items, length-append c.self.inside.entries.items (c.args.tree ∷ [])),
    )

pub returns-clause-ok : goal.returns-clause-ok
returns-clause-ok c = (
  c.len-number.ensures,
  ap (λ (ts : List Lineage). entries_of (map tree_of ts)) c.in_ok-push.ensures.items ∙ pushed_lists c.self.inside.entries.items c.args.tree c.args.self.now c.self.view_is,
)
