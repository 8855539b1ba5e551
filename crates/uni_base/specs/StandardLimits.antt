-- The limits that the program runs under.
use Rattle.std.specs.Prelude.{◌^◌, ◌≤◌}
use Rattle.uni_base.specs.declared.limits.Limits.{Limits}

-- the standard limits
abbrev pub standard_limits : Limits
standard_limits = record {
  entities = 2 ^ 21;
  edges = 2 ^ 23;
  forward = 64;
  publishes = 2 ^ 20;
  line = 65536;
  round = 1000000;
  script = 2 ^ 36;
  sessions = 64;
  ask_limit = 5000;
  ask_limit_2 = 50000;
  join_limit = 5000;
  depth = 32;
  nodes = 256;
  operands = 64;
  joins = 4;
}

-- no limit is above the standard one, and a join may have a hit
pub record IsWithinStandard (limits : Limits) : Type 0 where
  pub entities : limits.entities ≤ 2 ^ 21
  pub edges : limits.edges ≤ 2 ^ 23
  pub forward : limits.forward ≤ 64
  pub publishes : limits.publishes ≤ 2 ^ 20
  pub line : limits.line ≤ 65536
  pub round : limits.round ≤ 1000000
  pub script : limits.script ≤ 2 ^ 36
  pub sessions : limits.sessions ≤ 64
  pub ask_limit : limits.ask_limit ≤ 5000
  pub ask_limit_2 : limits.ask_limit_2 ≤ 50000
  pub join_limit : limits.join_limit ≤ 5000
  pub some_join : 1 ≤ limits.join_limit
  pub depth : limits.depth ≤ 32
  pub nodes : limits.nodes ≤ 256
  pub operands : limits.operands ≤ 64
  pub joins : limits.joins ≤ 4
