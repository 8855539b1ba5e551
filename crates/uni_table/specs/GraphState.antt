-- What contracts see of a graph.
use Rattle.uni_table.specs.Contents.{Contents}

-- what it holds, and what it held as its last batch ended
pub record GraphState : Type 0 where
  pub contents : Contents
  pub published : Contents
