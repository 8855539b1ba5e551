-- The worked queries, by computation.
use Rattle.std.proofs.Common.{refl}
use Rattle.query_check.specs.Examples.{WorkedPlans, WorkedFaults}

pub worked_plans : WorkedPlans
worked_plans = record {
  a_term = refl;
  a_word = refl;
  a_prefix = refl;
  a_list = refl;
  a_join = refl;
  joins = refl;
  four_joins = refl;
}

pub worked_faults : WorkedFaults
worked_faults = record {
  no_type = refl;
  no_id = refl;
  no_beginning = refl;
  no_index_type = refl;
  store_first = refl;
  no_forward_type = refl;
  no_index_join = refl;
  two_verticals = refl;
  no_source = refl;
  word_source = refl;
  inner_first = refl;
  five_joins = refl;
  empty = refl;
}
