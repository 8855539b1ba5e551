-- The hits that a judge of edges lets through.
use Rattle.std.specs.Prelude.{◌≡◌, Bool, List, Option, length, true, All}
use Rattle.std.specs.List.{filter_map}
use Rattle.std.specs.Option.{option_map}
use Rattle.uni_base.specs.declared.edge.Held.{Held}
use Rattle.lineage_tree.specs.declared.lineage.RawHit.{RawHit}
use Rattle.lineage_tree.specs.Accepted.{edges_of, first_accepted}
use Rattle.lineage_tree.specs.Entries.{names_below}
use Rattle.lineage_tree.specs.Lists.{lists_of}
use Rattle.lineage_tree.specs.Tree.{tree_of}
use Rattle.uni_meaning.specs.declared.reply.Hit.{Hit}
use Rattle.apply_extract.specs.Hits.{Book}

-- a hit with the first of its lists whose edges are all accepted, if there is one
abbrev pub accepted_hit : (Held → Bool) → Book → RawHit → Option Hit
accepted_hit accepts book hit = option_map (λ edges. record { key = hit.key; lineage = edges }) (option_map edges_of (first_accepted accepts (lists_of book (tree_of hit.lineage))))

-- those of several hits
abbrev pub accepted_hits : (Held → Bool) → Book → List RawHit → List Hit
accepted_hits accepts book hits = filter_map (accepted_hit accepts book) hits

-- the trees of hits name entries of a book
abbrev pub NameEntries : Book → List RawHit → Type 0
NameEntries book hits = All (λ hit. names_below (length book) (tree_of hit.lineage) ≡ true) hits
