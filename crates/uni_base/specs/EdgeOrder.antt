-- The order of edges in a table.
use Rattle.std.specs.Prelude.{◌≡◌, refl}
use Rattle.std.specs.declared.cmp.Ordering.{Ordering}
use Rattle.std.specs.declared.cmp.Ordering.TheVariants.{Less, Equal, Greater}
use Rattle.std.specs.Ordering.{nat_cmp, ordering_then, ordering_reverse}
use Rattle.std.specs.Cmp.Lexicographic.{slice_cmp, nat_list_cmp_total}
use Rattle.std.specs.Cmp.{IsTotalOrder, nat_cmp_total}
use Rattle.uni_base.specs.declared.edge.Key.{Key}
use Rattle.uni_base.specs.declared.edge.Key.TheVariants.{Id, Word}
use Rattle.uni_base.specs.declared.edge.EdgeRef.{EdgeRef}

-- ids by number, before words by their bytes
abbrev pub key_cmp : Key → Key → Ordering
key_cmp (Id a) (Id b) = nat_cmp a b
key_cmp (Id a) (Word v) = Less
key_cmp (Word u) (Id b) = Greater
key_cmp (Word u) (Word v) = slice_cmp nat_cmp u v

-- by type number, then by key, then by target
abbrev pub edge_cmp : EdgeRef → EdgeRef → Ordering
edge_cmp a b = ordering_then (nat_cmp a.type_no b.type_no) (ordering_then (key_cmp a.key b.key) (nat_cmp a.target b.target))

-- it is a total order, and keys that it does not tell apart are the same
pub key_cmp-total : IsTotalOrder key_cmp
key_cmp-total = record { antisymm = antisymm; trans = trans; congr = congr }
  where
    antisymm : (x y : Key) → key_cmp x y ≡ ordering_reverse (key_cmp y x)
    antisymm (Id a) (Id b) = nat_cmp_total.antisymm a b
    antisymm (Id a) (Word v) = refl
    antisymm (Word u) (Id b) = refl
    antisymm (Word u) (Word v) = nat_list_cmp_total.antisymm u v

    trans : (x y z : Key) → key_cmp x y ≡ Less → key_cmp y z ≡ Less → key_cmp x z ≡ Less
    trans (Id a) (Id b) (Id c) p q = nat_cmp_total.trans a b c p q
    trans (Id a) (Id b) (Word w) p q = refl
    trans (Id a) (Word v) (Id c) p q = cc
    trans (Id a) (Word v) (Word w) p q = refl
    trans (Word u) (Id b) z p q = cc
    trans (Word u) (Word v) (Id c) p q = cc
    trans (Word u) (Word v) (Word w) p q = nat_list_cmp_total.trans u v w p q

    congr : (x y z : Key) → key_cmp x y ≡ Equal → key_cmp x z ≡ key_cmp y z
    congr (Id a) (Id b) (Id c) p = nat_cmp_total.congr a b c p
    congr (Id a) (Id b) (Word w) p = refl
    congr (Id a) (Word v) z p = cc
    congr (Word u) (Id b) z p = cc
    congr (Word u) (Word v) (Id c) p = refl
    congr (Word u) (Word v) (Word w) p = nat_list_cmp_total.congr u v w p
