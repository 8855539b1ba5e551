-- What the reader's values stand for.
use Rattle.std.specs.Prelude.{◌≡◌, List, map, reverse, Option, Some, None, Result, Ok, Err}
use Rattle.query_tree.specs.declared.query.Query.{Query}
use Rattle.query_tree.specs.declared.refusal.QueryRefusal.{QueryRefusal}
use Rattle.query_tree.specs.declared.refusal.QueryRefusal.TheVariants.{Fault, Memory}
use Rattle.query_tree.specs.Tree.{Tree, tree_of, operands_of}
use Rattle.query_reader.specs.declared.open_list.Part as code_part
use Rattle.query_reader.specs.declared.open_list.Part.TheVariants as parts
use Rattle.query_reader.specs.declared.open_list.OpenList as code_list
use Rattle.query_reader.specs.declared.reader.State as code_state
use Rattle.query_reader.specs.declared.reader.Lexeme as code_lexeme
use Rattle.query_reader.specs.Reading.{Lexeme, Refused, Part, operator_due, term_due, term_read, operands_read, prefix_due, node_due, node_read, OpenList, State}

abbrev pub part_of : code_part.Part → Part
part_of parts.OperatorDue = operator_due
part_of parts.TermDue = term_due
part_of (parts.TermRead kind node) = term_read node.column kind node.type_name node.key
part_of (parts.Operands kind operands) = operands_read kind (operands_of operands.items)
part_of (parts.PrefixDue join) = prefix_due join
part_of (parts.NodeDue join prefix) = node_due join prefix.column prefix.name
part_of (parts.NodeRead join prefix node) = node_read join prefix.column prefix.name (tree_of node)

abbrev pub open_of : code_list.OpenList → OpenList
open_of list =
    record { column = list.column; part = part_of list.part; mark = list.mark; limit = list.limit; tail = list.tail }

-- the innermost list is the last one that was pushed
abbrev pub all_open : List code_list.OpenList → List OpenList
all_open lists = reverse (map open_of lists)

abbrev pub whole_of : Option Query → Option Tree
whole_of None = None
whole_of (Some query) = Some (tree_of query)

abbrev pub state_of : code_state.State → State
state_of state = record { open_lists = all_open state.lists.items; whole = whole_of state.whole; nodes = state.nodes }

abbrev pub token_of : code_lexeme.Lexeme → Lexeme
token_of token = record { column = token.column; kind = token.kind; bytes = token.bytes.now }

-- the call took the step: its state, or its fault; want of memory is free
abbrev pub IsStep : Result State Refused → Result code_state.State QueryRefusal → Type 0
IsStep due (Ok state) = due ≡ Ok (state_of state)
IsStep due (Err (Fault code column)) = due ≡ Err (record { code = code; column = column })
IsStep due (Err Memory) = Unit {0}

-- the call gave the query that is due, or its fault; want of memory is free
abbrev pub IsAnswer : Result Tree Refused → Result Query QueryRefusal → Type 0
IsAnswer due (Ok query) = due ≡ Ok (tree_of query)
IsAnswer due (Err (Fault code column)) = due ≡ Err (record { code = code; column = column })
IsAnswer due (Err Memory) = Unit {0}
