-- What is spelled is read.
use Rattle.std.proofs.Common.{◌≡◌, ℕ, suc, ◌+◌, ◌≤◌, ◌<◌, List, [], ◌∷◌, ◌++◌, length, Option, None, Some, Result, Ok, Err, refl, sym, ap, ◌∙◌, subst, arith, inl, inr, append_assoc, append-nil, add-one}
use Rattle.std.specs.Prelude.{unwrap_or, map, MatchResult}
use Rattle.query_tree.specs.declared.dialect.Dialect.{Dialect}
use Rattle.query_tree.specs.declared.kind.ListKind.{ListKind}
use Rattle.query_tree.specs.declared.kind.ListKind.TheVariants.{And, Or, Difference, WeakAnd, StrongOr}
use Rattle.query_tree.specs.declared.kind.JoinKind.{JoinKind}
use Rattle.query_tree.specs.declared.query.Mark.{Mark}
use Rattle.query_tree.specs.declared.query.Mark.TheVariants.{Plain}
use Rattle.query_tree.specs.Tree.{Tree, Forest, term_at, list_at, join_at, no_operands, with_operand}
use Rattle.query_tree.specs.Size.{node_count, operand_nodes}
use Rattle.query_tree.specs.Within.{IsOperandCount, limit_unless_given, operand_count}
use Rattle.query_reader.specs.declared.token.TokenKind.{TokenKind}
use Rattle.query_reader.specs.declared.token.TokenKind.TheVariants as tokens
use Rattle.query_reader.specs.declared.operator.Operator.TheVariants as operators
use Rattle.query_reader.specs.Reading.{Lexeme, Refused, operator_due, term_read, operands_read, node_due, node_read, OpenList, add_operand, deliver, parent_kind, least_operands, most_operands, read_from, start, lexeme_of, tokens_read, text_read}
use Rattle.query_tree.specs.declared.query.Query.{Query}
use Rattle.query_tree.specs.declared.refusal.QueryRefusal.{QueryRefusal}
use Rattle.query_tree.specs.declared.refusal.QueryRefusal.TheVariants.{Fault, Memory}
use Rattle.query_tree.specs.Tree.{tree_of}
use Rattle.query_reader.specs.declared.token.Token.{Token}
use Rattle.query_reader.specs.Seen.{IsAnswer}
use Rattle.query_reader.specs.Grammar.{MayHave, NodeSpells, ForestSpells, QuerySpells}
use Rattle.query_reader.specs.Depth.{open_after, most_open}
use Rattle.query_reader.proofs.Runs.{spans_read}
use Rattle.query_reader.proofs.Standing.{count_more}
use Rattle.query_reader.proofs.Balance.{opened, most-first, most-append, Balanced, IsFlat, flat-after, balanced-node}
use Rattle.query_reader.proofs.Steps.{From, After, Begin, bare_list, MayLimit, rest_read, term_begins, list_begins, operator_read, term_atom_read, prefix_read, starts, operand_begins, inner_begins, grown, grown-chained, Leads, reads, stops, same, then_leads}

count_least : (dialect : Dialect) (kind : ListKind) (count : ℕ) → IsOperandCount dialect kind count → least_operands kind ≤ count
count_least dialect And count few = few.0
count_least dialect Or count few = few.0
count_least dialect Difference count few = omega arith
count_least dialect WeakAnd count few = few.0
count_least dialect StrongOr count few = few.0

count_most : (dialect : Dialect) (kind : ListKind) (count : ℕ) → IsOperandCount dialect kind count → count ≤ most_operands dialect kind
count_most dialect And count few = few.1
count_most dialect Or count few = few.1
count_most dialect Difference count few = omega arith
count_most dialect WeakAnd count few = few.1
count_most dialect StrongOr count few = few.1

may_limit_join : (join : JoinKind) (place : ℕ) (type_name : List ℕ) (node : Tree) (given : Option ℕ) → MayLimit (node_read join place type_name node) given
may_limit_join join place type_name node None = tt
may_limit_join join place type_name node (Some limit) = refl

-- tokens that open no more than so many parentheses, where so many are open before them
abbrev Shallow : Dialect → ℕ → List Lexeme → Type 0
Shallow dialect count spelled = most_open count spelled ≤ dialect.depth

shallow_front : (dialect : Dialect) (count : ℕ) (front back : List Lexeme) → Shallow dialect count (front ++ back) → Shallow dialect count front
shallow_front dialect count front back shallow = omega (arith, shallow, most-append count front back)

shallow_back : (dialect : Dialect) (count : ℕ) (front back : List Lexeme) → Balanced front → Shallow dialect count (front ++ back) → Shallow dialect count back
shallow_back dialect count front back balanced shallow =
    let same : most_open (opened count front) back ≡ most_open count back = ap (λ n. most_open n back) (balanced count) in
    omega (arith, shallow, most-append count front back)

-- what is between parentheses is as deep as they are, and one deeper
record Between (dialect : Dialect) (count : ℕ) (body : List Lexeme) : Type 0 where
  room : count < dialect.depth
  shallow : Shallow dialect (suc count) body

between : (dialect : Dialect) (count : ℕ) (left right : Lexeme) (body given spelled : List Lexeme)
    → spelled ≡ (left ∷ (body ++ given)) ++ right ∷ [] → left.kind ≡ tokens.Left → Shallow dialect count spelled
    → Between dialect count body
between dialect count left right body given spelled is_spelled is_left shallow =
    let whole : Shallow dialect count ((left ∷ (body ++ given)) ++ right ∷ []) =
    subst (Shallow dialect count) is_spelled shallow in
    let after_left : most_open (open_after count left.kind) ((body ++ given) ++ right ∷ []) ≡ most_open (suc count) ((body ++ given) ++ right ∷ []) =
    ap (λ n. most_open n ((body ++ given) ++ right ∷ [])) (ap (open_after count) is_left ∙ add-one count) in
    let inner : Shallow dialect (suc count) body =
    shallow_front dialect (suc count) body given (shallow_front dialect (suc count) (body ++ given) (right ∷ []) (omega (arith, whole))) in
    record { room = omega (arith, inner, most-first (suc count) body); shallow = inner }

-- after an atom
shallow_next : (dialect : Dialect) (count : ℕ) (token : Lexeme) (others : List Lexeme) (kind : TokenKind)
    → token.kind ≡ kind → IsFlat kind → Shallow dialect count (token ∷ others) → Shallow dialect count others
shallow_next dialect count token others kind is_kind flat shallow =
    let same : most_open (open_after count token.kind) others ≡ most_open count others =
    ap (λ n. most_open n others) (ap (open_after count) is_kind ∙ flat-after kind count flat) in
    omega (arith, shallow)

-- a node that is spelled is read as that node
abbrev NodeLeads : Dialect → ℕ → ℕ → Tree → Mark → List Lexeme → Type 0
NodeLeads dialect total column node mark spelled =
    (missing : ℕ) (lists : List OpenList) (nodes : ℕ) (rest : List Lexeme) → MayHave dialect (parent_kind lists) mark
    → nodes + node_count node ≤ total → Shallow dialect (length lists) spelled
    → Leads dialect total (Begin dialect column missing lists nodes (spelled ++ rest))
    (After dialect column (deliver lists (nodes + node_count node) node mark) rest)

-- the same count, written otherwise
recount : (dialect : Dialect) (column : ℕ) (lists : List OpenList) (node : Tree) (mark : Mark) (rest : List Lexeme) (a b : ℕ) → a ≡ b
    → After dialect column (deliver lists a node mark) rest ≡ After dialect column (deliver lists b node mark) rest
recount dialect column lists node mark rest a b is_same = ap (λ (n : ℕ). After dialect column (deliver lists n node mark) rest) is_same

mutual
  node_leads : (dialect : Dialect) (total column : ℕ) (node : Tree) (mark : Mark) (spelled : List Lexeme)
      → NodeSpells dialect node mark spelled → NodeLeads dialect total column node mark spelled
  node_leads dialect total column (term_at at kind type_name key) mark spelled (inl (plain, (token, (is_spelled, is_term)))) missing lists nodes rest may below shallow =
      then_leads _ _ _ _ _
      (same _ _ _ _ (ap (λ xs. Begin dialect column missing lists nodes (xs ++ rest)) is_spelled))
      (then_leads _ _ _ _ _
      (term_begins dialect total column missing at lists nodes token kind type_name key rest is_term (omega arith))
      (same _ _ _ _ (ap (λ (m : Mark). After dialect column (deliver lists (nodes + 1) (term_at at kind type_name key) m) rest) (sym plain))))
  node_leads dialect total column (term_at at kind type_name key) mark spelled (inr (outer, (left, (body, (given, (right, (is_spelled, is_left, (name, (term, (is_body, is_name, is_term))), opts, is_right))))))) missing lists nodes rest may below shallow =
      let inside = between dialect (length lists) left right body given spelled is_spelled is_left.0 shallow in
      then_leads _ _ _ _ _
      (list_begins dialect total column missing outer lists nodes left right body given spelled rest is_spelled is_left.0 is_left.1 inside.room (omega arith))
      (same _ _ _ _ (
      ap (λ xs. From dialect column (bare_list outer operator_due ∷ lists) (nodes + 1) (xs ++ (given ++ right ∷ rest))) is_body
      ∙ operator_read dialect column outer lists (nodes + 1) name operators.Term (term ∷ (given ++ right ∷ rest)) is_name
      ∙ term_atom_read dialect column outer at lists (nodes + 1) term kind type_name key (given ++ right ∷ rest) is_term
      ∙ rest_read dialect column outer (term_read at kind type_name key) mark None lists (nodes + 1) given rest right (term_at at kind type_name key)
      tt may tt opts is_right (λ tail. refl)
      ))
  node_leads dialect total column (list_at at kind forest) mark spelled (count_fits, (left, (body, (given, (right, (is_spelled, is_left, (name, (inner, (is_body, is_name, forest_spells))), opts, is_right)))))) missing lists nodes rest may below shallow =
      let inside = between dialect (length lists) left right body given spelled is_spelled is_left.0 shallow in
      let deep : Shallow dialect (suc (length lists)) inner =
      shallow_next dialect (suc (length lists)) name inner tokens.Name is_name.0 tt (subst (Shallow dialect (suc (length lists))) is_body inside.shallow) in
      then_leads _ _ _ _ _
      (list_begins dialect total column missing at lists nodes left right body given spelled rest is_spelled is_left.0 is_left.1 inside.room (omega arith))
      (then_leads _ _ _ _ _
      (same _ _ _ _ (
      ap (λ xs. From dialect column (bare_list at operator_due ∷ lists) (nodes + 1) (xs ++ (given ++ right ∷ rest))) is_body
      ∙ operator_read dialect column at lists (nodes + 1) name (operators.List kind) (inner ++ (given ++ right ∷ rest)) is_name
      ))
      (then_leads _ _ _ _ _
      (forest_leads dialect total column kind forest no_operands inner forest_spells (omega (arith, count_most dialect kind (operand_count forest) count_fits))
      at lists (nodes + 1) (given ++ right ∷ rest) (omega arith) deep)
      (same _ _ _ _ (
      ap (λ (f : Forest). From dialect column (bare_list at (operands_read kind f) ∷ lists) ((nodes + 1) + operand_nodes forest) (given ++ right ∷ rest)) (grown-chained no_operands forest)
      ∙ rest_read dialect column at (operands_read kind forest) mark None lists ((nodes + 1) + operand_nodes forest) given rest right (list_at at kind forest)
      (count_least dialect kind (operand_count forest) count_fits) may tt opts is_right (λ tail. refl)
      ∙ recount dialect column lists (list_at at kind forest) mark rest ((nodes + 1) + operand_nodes forest) (nodes + (1 + operand_nodes forest)) (omega arith)
      ))))
  node_leads dialect total column (join_at at join place type_name limit node) mark spelled (limit_given, (is_limit, (left, (body, (given, (right, (is_spelled, is_left, (name, (prefix, (inner, (is_body, is_name, is_prefix, node_spells)))), opts, is_right))))))) missing lists nodes rest may below shallow =
      let due : OpenList = bare_list at (node_due join place type_name) in
      let inside = between dialect (length lists) left right body given spelled is_spelled is_left.0 shallow in
      let deep : Shallow dialect (suc (length lists)) inner =
      shallow_next dialect (suc (length lists)) prefix inner tokens.Prefix is_prefix.0 tt
      (shallow_next dialect (suc (length lists)) name (prefix ∷ inner) tokens.Name is_name.0 tt (subst (Shallow dialect (suc (length lists))) is_body inside.shallow)) in
      then_leads _ _ _ _ _
      (list_begins dialect total column missing at lists nodes left right body given spelled rest is_spelled is_left.0 is_left.1 inside.room (omega arith))
      (then_leads _ _ _ _ _
      (same _ _ _ _ (
      ap (λ xs. From dialect column (bare_list at operator_due ∷ lists) (nodes + 1) (xs ++ (given ++ right ∷ rest))) is_body
      ∙ operator_read dialect column at lists (nodes + 1) name (operators.Join join) (prefix ∷ (inner ++ (given ++ right ∷ rest))) is_name
      ∙ prefix_read dialect column at place join lists (nodes + 1) prefix type_name (inner ++ (given ++ right ∷ rest)) is_prefix
      ∙ inner_begins dialect column at place join type_name lists (nodes + 1) inner (given ++ right ∷ rest) (starts dialect node Plain inner node_spells)
      ))
      (then_leads _ _ _ _ _
      (node_leads dialect total column node Plain inner node_spells 35 (due ∷ lists) (nodes + 1) (given ++ right ∷ rest) refl (omega arith) deep)
      (same _ _ _ _ (
      rest_read dialect column at (node_read join place type_name node) mark limit_given lists ((nodes + 1) + node_count node) given rest right
      (join_at at join place type_name (unwrap_or limit_given (limit_unless_given dialect)) node)
      tt may (may_limit_join join place type_name node limit_given) opts is_right (λ tail. refl)
      ∙ ap (λ (l : ℕ). After dialect column (deliver lists ((nodes + 1) + node_count node) (join_at at join place type_name l node) mark) rest) (sym is_limit)
      ∙ recount dialect column lists (join_at at join place type_name limit node) mark rest ((nodes + 1) + node_count node) (nodes + (1 + node_count node)) (omega arith)
      ))))

  forest_leads : (dialect : Dialect) (total column : ℕ) (kind : ListKind) (forest acc : Forest) (inner : List Lexeme)
      → ForestSpells dialect kind forest inner → operand_count acc + operand_count forest ≤ most_operands dialect kind
      → (at : ℕ) (lists : List OpenList) (nodes : ℕ) (rest : List Lexeme) → nodes + operand_nodes forest ≤ total
      → Shallow dialect (suc (length lists)) inner
      → Leads dialect total (From dialect column (bare_list at (operands_read kind acc) ∷ lists) nodes (inner ++ rest))
      (From dialect column (bare_list at (operands_read kind (grown acc forest)) ∷ lists) (nodes + operand_nodes forest) rest)
  forest_leads dialect total column kind no_operands acc inner spells room at lists nodes rest below shallow =
      same _ _ _ _ (
      ap (λ xs. From dialect column (bare_list at (operands_read kind acc) ∷ lists) nodes (xs ++ rest)) spells
      ∙ ap (λ (n : ℕ). From dialect column (bare_list at (operands_read kind acc) ∷ lists) n rest) (omega arith)
      )
  forest_leads dialect total column kind (with_operand node mark others) acc inner (front, (back, (is_inner, may, node_spells, others_spell))) room at lists nodes rest below shallow =
      let list : OpenList = bare_list at (operands_read kind acc) in
      let more : operand_count (add_operand acc node mark) ≡ operand_count acc + 1 = count_more acc node mark in
      let both : Shallow dialect (suc (length lists)) (front ++ back) = subst (Shallow dialect (suc (length lists))) is_inner shallow in
      then_leads _ _ _ _ _
      (same _ _ _ _ (
      ap (λ xs. From dialect column (list ∷ lists) nodes (xs ++ rest)) is_inner
      ∙ ap (λ xs. From dialect column (list ∷ lists) nodes xs) (append_assoc front back rest)
      ∙ operand_begins dialect column at kind acc lists nodes front (back ++ rest) (starts dialect node mark front node_spells) (omega arith)
      ))
      (then_leads _ _ _ _ _
      (node_leads dialect total column node mark front node_spells 35 (list ∷ lists) nodes (back ++ rest) may (omega arith)
      (shallow_front dialect (suc (length lists)) front back both))
      (then_leads _ _ _ _ _
      (forest_leads dialect total column kind others (add_operand acc node mark) back others_spell (omega arith)
      at lists (nodes + node_count node) rest (omega arith)
      (shallow_back dialect (suc (length lists)) front back (balanced-node dialect node mark front node_spells) both))
      (same _ _ _ _ (ap (λ (n : ℕ). From dialect column (bare_list at (operands_read kind (grown (add_operand acc node mark) others)) ∷ lists) n rest) (omega arith)))))

-- tokens that spell a node, of however many nodes
pub tokens_lead : (dialect : Dialect) (column : ℕ) (node : Tree) (all : List Lexeme) → NodeSpells dialect node Plain all
    → most_open 0 all ≤ dialect.depth → Leads dialect (node_count node) (read_from dialect column start all) (Ok node)
tokens_lead dialect column node all spells shallow =
    let first = starts dialect node Plain all spells in
    then_leads _ _ _ _ _
    (same _ _ _ _ (
    ap (λ xs. read_from dialect column start xs) first.is_spelled
    ∙ ap (λ xs. Begin dialect column 31 [] 0 xs) (sym first.is_spelled)
    ∙ ap (λ xs. Begin dialect column 31 [] 0 xs) (sym (append-nil all))
    ))
    (node_leads dialect (node_count node) column node Plain all spells 31 [] 0 [] refl (omega arith) shallow)

few_read : (dialect : Dialect) (one : Result Tree Refused) (node : Tree) → node_count node ≤ dialect.nodes
    → Leads dialect (node_count node) one (Ok node) → one ≡ Ok node
few_read dialect one node few (reads is_read) = is_read
few_read dialect (Ok other) node few (stops fault) = absurd fault
few_read dialect (Err refused) node few (stops fault) = absurd (omega (arith, fault.1))

-- what is spelled is read
pub text_complete : (dialect : Dialect) (text : List ℕ) (node : Tree) → QuerySpells dialect text node → text_read dialect text ≡ Ok node
text_complete dialect text node spells =
    ap (λ (r : Result (List Token) ℕ). tokens_read dialect text r) (spans_read dialect.format text spells.lexed spells.of_text)
    ∙ few_read dialect (read_from dialect (length text + 1) start (map (lexeme_of text) spells.lexed)) node spells.nodes
    (tokens_lead dialect (length text + 1) node (map (lexeme_of text) spells.lexed) spells.spelled spells.depth)

-- an answer that is right is the query that is spelled
pub answer_complete : (dialect : Dialect) (text : List ℕ) (answer : Result Query QueryRefusal) (node : Tree)
    → IsAnswer (text_read dialect text) answer → QuerySpells dialect text node
    → MatchResult answer (λ query. tree_of query ≡ node) (λ refusal. refusal ≡ Memory)
answer_complete dialect text (Ok query) node is_answer spells =
    let is_read : text_read dialect text ≡ Ok node = text_complete dialect text node spells in cc
answer_complete dialect text (Err (Fault code column)) node is_answer spells =
    let is_read : text_read dialect text ≡ Ok node = text_complete dialect text node spells in absurd (cc)
answer_complete dialect text (Err Memory) node is_answer spells = refl
