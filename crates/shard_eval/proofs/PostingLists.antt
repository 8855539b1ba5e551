-- The postings of a term as what it finds.
use Rattle.std.proofs.Common.{◌≡◌, Bool, true, false, not, cond, List, [], ◌∷◌, Option, None, Some, map, slice_get, refl, ap}
use Rattle.uni_base.specs.declared.entity.DocKey.{DocKey}
use Rattle.uni_base.specs.Cursors.{is_before}
use Rattle.posting_lists.specs.declared.posting.Posting.{Posting}
use Rattle.posting_lists.specs.Postings.{keys_of, postings_from}
use Rattle.lineage_tree.specs.Tree.{Tree}
use Rattle.shard_eval.specs.declared.leaf.Leaf.{Leaf}
use Rattle.shard_eval.specs.Found.{Found, first_at, found_from, found_keys, found_posting, is_at}

pub from_postings : (leaf : Leaf) (key : DocKey) (ps : List Posting) → found_from key (map (found_posting leaf) ps) ≡ map (found_posting leaf) (postings_from key ps)
from_postings leaf key [] = refl
from_postings leaf key (p ∷ ps) = over (from_postings leaf key ps) (is_before p.key key)
  where
    over : found_from key (map (found_posting leaf) ps) ≡ map (found_posting leaf) (postings_from key ps) → (b : Bool)
        → cond (not b) (found_posting leaf p ∷ found_from key (map (found_posting leaf) ps)) (found_from key (map (found_posting leaf) ps)) ≡ map (found_posting leaf) (cond (not b) (p ∷ postings_from key ps) (postings_from key ps))
    over rest true = rest
    over rest false = ap (λ (fs : List Found). found_posting leaf p ∷ fs) rest

-- the tree of a posting that may be there, if it is at a key
abbrev pub posted_at : Leaf → DocKey → Option Posting → Option Tree
posted_at leaf key None = None
posted_at leaf key (Some p) = cond (is_at key (found_posting leaf p)) (Some (found_posting leaf p).tree) None

pub first_posting : (leaf : Leaf) (key : DocKey) (ps : List Posting) → first_at key (map (found_posting leaf) ps) ≡ posted_at leaf key (slice_get ps 0)
first_posting leaf key [] = refl
first_posting leaf key (p ∷ ps) = refl

-- the keys of what a term finds are those of its postings
pub keys_of_term : (leaf : Leaf) (ps : List Posting) → found_keys (map (found_posting leaf) ps) ≡ keys_of ps
keys_of_term leaf [] = refl
keys_of_term leaf (p ∷ ps) = ap (λ (ks : List DocKey). p.key ∷ ks) (keys_of_term leaf ps)
