-- The worked queries, by computation.
use Rattle.std.proofs.Common.{refl}
use Rattle.std.specs.Fmt.{digits}
use Rattle.query_tree.specs.Examples.{WorkedQueries}

pub worked_queries : WorkedQueries
unfolding digits
worked_queries = record {
  a_term = (refl, refl, refl);
  a_prefix = (refl, refl, refl);
  a_marked_prefix = (refl, refl, refl);
  a_list = (refl, refl, refl);
  a_difference = (refl, refl, refl);
  a_weak_and = (refl, refl, refl);
  a_strong_or = (refl, refl, refl);
  a_apply = (refl, refl, refl);
  a_limited = (refl, refl, refl);
  a_extract = (refl, refl, refl);
  a_nested = (refl, refl, refl);
  a_marked_join = (refl, refl, refl);
}
