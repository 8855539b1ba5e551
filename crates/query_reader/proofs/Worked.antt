-- The worked texts, by computation.
use Rattle.std.proofs.Common.{refl}
use Rattle.query_reader.specs.Examples.{WorkedFaults, WorkedFormats, WorkedQueries, WorkedCodes}

pub worked_faults : WorkedFaults
worked_faults = record {
  no_name = refl;
  no_node = refl;
  no_end = refl;
  nothing = refl;
  more = refl;
  no_operator = refl;
  empty_list = refl;
  no_operand = refl;
  one_operand = refl;
  misplaced_option = refl;
  too_deep = refl;
  too_many_nodes = refl;
  limit_out_of_range = refl;
}

pub worked_formats : WorkedFormats
worked_formats = record {
  no_weight = refl;
  no_prefix = refl;
  no_prefix_inside = refl;
  no_key = refl;
  two_stars = refl;
  count_after_weight = refl;
  weight_after_no_count = refl;
  no_count = refl;
  two_keys = refl;
}

pub worked_queries : WorkedQueries
worked_queries = record {
  bare_term = refl;
  a_list = refl;
  a_marked_term = refl;
  a_prefix = refl;
  a_weighed_prefix = refl;
  a_join = refl;
  a_join_without_limit = refl;
  a_join_under_a_small_limit = refl;
}

pub worked_codes : WorkedCodes
worked_codes = record {
  no_node = refl;
  option_for_a_leaf = refl;
  option_for_a_prefix = refl;
  more = refl;
  no_operator = refl;
  one_operand = refl;
  two_operands = refl;
  third_operand = refl;
  no_limit = refl;
  limit_in_a_join = refl;
  second_limit = refl;
  weight_after_a_count = refl;
  no_value = refl;
  after_a_value = refl;
  too_deep = refl;
  too_many_nodes = refl;
}
