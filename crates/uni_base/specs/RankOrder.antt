-- The order in which hits are listed.
use Rattle.std.specs.declared.cmp.Ordering.{Ordering}
use Rattle.std.specs.Ordering.{nat_cmp, on, flip_args, then_cmp}
use Rattle.uni_base.specs.declared.entity.DocKey.{DocKey}

-- rank order: the higher rank first, and among equal ranks the lower id first
abbrev pub doc_cmp : DocKey → DocKey → Ordering
doc_cmp = then_cmp (flip_args (on (λ k. k.rank.0) nat_cmp)) (on (λ k. k.id) nat_cmp)
