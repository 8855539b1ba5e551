-- Texts with their queries and first faults, by computation.
use Rattle.std.specs.Prelude.{ℕ, ◌≡◌, List, [], ◌∷◌, map, codes, Option, Some, None, Result, Ok, Err}
use Rattle.uni_base.specs.StandardLimits.{standard_limits}
use Rattle.query_tree.specs.declared.dialect.Dialect.{Dialect}
use Rattle.query_tree.specs.declared.kind.TermKind.TheVariants.{Whole, Prefix}
use Rattle.query_tree.specs.declared.kind.ListKind.TheVariants.{And, WeakAnd}
use Rattle.query_tree.specs.declared.kind.JoinKind.TheVariants.{Apply}
use Rattle.query_tree.specs.declared.query.Mark.TheVariants.{Plain, Hits, Weight}
use Rattle.query_tree.specs.Dialects.{dialect_of}
use Rattle.query_tree.specs.Tree.{Tree, term_at, list_at, join_at, no_operands, with_operand}
use Rattle.query_reader.specs.declared.token.Token.{Token}
use Rattle.query_reader.specs.Tokens.{text_tokens}
use Rattle.query_reader.specs.Reading.{Lexeme, lexeme_of, text_read}
use Rattle.query_reader.specs.FaultCodes.{Outline, nothing, code_at, with_tokens}

-- a format under the standard limits
abbrev pub standard : ℕ → Dialect
standard format = dialect_of standard_limits format

-- a text's first fault in a format
abbrev pub HasFault : ℕ → List ℕ → ℕ → ℕ → Type 0
HasFault format text code column = text_read (standard format) text ≡ Err (record { code = code; column = column })

abbrev pub HasQuery : ℕ → List ℕ → Tree → Type 0
HasQuery format text tree = text_read (standard format) text ≡ Ok tree

-- one text for each kind of fault, or more
pub record WorkedFaults : Type 0 where
  pub no_name : HasFault 1 (codes "(and friend:1 Rome)") 31 15
  pub no_node : HasFault 1 (codes "(and friend:1 rome)") 31 15
  pub no_end : HasFault 1 (codes "(and friend:1") 32 14
  pub nothing : HasFault 1 (codes "") 32 1
  pub more : HasFault 1 (codes "friend:1 friend:2") 33 10
  pub no_operator : HasFault 1 (codes "(frend 1)") 34 2
  pub empty_list : HasFault 1 (codes "()") 34 2
  pub no_operand : HasFault 1 (codes "(and)") 35 5
  pub one_operand : HasFault 1 (codes "(difference friend:1)") 35 21
  pub misplaced_option : HasFault 1 (codes "(and (term friend:1 :optional-hits 1) lives:rome)") 36 21
  pub too_deep :
      text_read (record (standard 1) { depth = 2 }) (codes "(or (or (or a:1)))") ≡ Err (record { code = 37; column = 9 })
  pub too_many_nodes :
      text_read (record (standard 1) { nodes = 3 }) (codes "(or friend:1 friend:2 friend:3)")
      ≡ Err (record { code = 38; column = 23 })
  pub limit_out_of_range : HasFault 1 (codes "(apply tagged: friend:1 :limit 0)") 36 32

-- what format 1 does not have, and what format 2 does not have either
pub record WorkedFormats : Type 0 where
  pub no_weight : HasFault 1 (codes "(weak-and (term friend:1 :optional-weight 1/2) lives:rome)") 36 26
  pub no_prefix : HasFault 1 (codes "lives:rom*") 31 1
  pub no_prefix_inside : HasFault 1 (codes "(and friend:1 (term lives:rom*))") 31 21
  pub no_key : HasFault 2 (codes "lives:*") 31 1
  pub two_stars : HasFault 2 (codes "lives:rom**") 31 1
  pub count_after_weight :
      HasFault 2 (codes "(weak-and (term friend:1 :optional-weight 1/2 :optional-hits 1))") 36 47
  pub weight_after_no_count :
      HasFault 2 (codes "(weak-and (term friend:1 :optional-hits 0 :optional-weight 1/2))") 36 43
  pub no_count : HasFault 2 (codes "(strong-or (term friend:1 :optional-hits 1))") 36 27
  pub two_keys : HasFault 2 (codes "(term lives:rom* lives:os*)") 35 18

-- columns are those of parentheses, of terms' atoms and of prefixes
pub record WorkedQueries : Type 0 where
  pub bare_term : HasQuery 1 (codes "friend:1") (term_at 1 Whole (codes "friend") (codes "1"))
  pub a_list :
      HasQuery 1 (codes "(and friend:1 lives:rome)")
      (list_at 1 And (with_operand (term_at 6 Whole (codes "friend") (codes "1")) Plain
      (with_operand (term_at 15 Whole (codes "lives") (codes "rome")) Plain no_operands)))
  pub a_marked_term :
      HasQuery 1 (codes "(weak-and (term friend:1 :optional-hits 1))")
      (list_at 1 WeakAnd (with_operand (term_at 17 Whole (codes "friend") (codes "1")) (Hits 1) no_operands))
  pub a_prefix : HasQuery 2 (codes "lives:rom*") (term_at 1 Prefix (codes "lives") (codes "rom"))
  pub a_weighed_prefix :
      HasQuery 2 (codes "(weak-and (term lives:rom* :optional-weight 1/2) friend:1)")
      (list_at 1 WeakAnd (with_operand (term_at 17 Prefix (codes "lives") (codes "rom")) (Weight 1 2)
      (with_operand (term_at 50 Whole (codes "friend") (codes "1")) Plain no_operands)))
  pub a_join :
      HasQuery 1 (codes "(apply tagged: friend:1 :limit 7)")
      (join_at 1 Apply 8 (codes "tagged") 7 (term_at 16 Whole (codes "friend") (codes "1")))
  pub a_join_without_limit :
      HasQuery 1 (codes "(apply tagged: friend:1)")
      (join_at 1 Apply 8 (codes "tagged") 1000 (term_at 16 Whole (codes "friend") (codes "1")))
  pub a_join_under_a_small_limit :
      text_read (record (standard 1) { join_limit = 5 }) (codes "(apply tagged: friend:1)")
      ≡ Ok (join_at 1 Apply 8 (codes "tagged") 5 (term_at 16 Whole (codes "friend") (codes "1")))

-- the code of a text's first token, by another text before it
abbrev pub lexemes : Result (List Token) ℕ → List ℕ → List Lexeme
lexemes (Ok lexed) text = map (lexeme_of text) lexed
lexemes (Err column) text = []

abbrev pub first_code : Dialect → Outline → List Lexeme → Option ℕ
first_code dialect outline [] = None
first_code dialect outline (token ∷ others) = code_at dialect outline token

abbrev pub code_after : Dialect → List ℕ → List ℕ → Option ℕ
code_after dialect front back =
    first_code dialect (with_tokens nothing (lexemes (text_tokens dialect.format front) front)) (lexemes (text_tokens dialect.format back) back)

-- codes of tokens by what is written before them, each but 32, which no token has
pub record WorkedCodes : Type 0 where
  pub no_node : code_after (standard 1) (codes "(and friend:1") (codes "rome") ≡ Some 31
  pub option_for_a_leaf : code_after (standard 1) (codes "(term") (codes ":limit") ≡ Some 31
  pub option_for_a_prefix : code_after (standard 1) (codes "(apply") (codes ":limit") ≡ Some 35
  pub more : code_after (standard 1) (codes "(or friend:1)") (codes ")") ≡ Some 33
  pub no_operator : code_after (standard 1) (codes "(or (") (codes "friend:1") ≡ Some 34
  pub one_operand : code_after (standard 1) (codes "(difference friend:1") (codes ")") ≡ Some 35
  pub two_operands : code_after (standard 1) (codes "(difference friend:1 (or friend:2)") (codes ")") ≡ None
  pub third_operand : code_after (standard 1) (codes "(difference friend:1 (or friend:2)") (codes "(") ≡ Some 35
  pub no_limit : code_after (standard 1) (codes "(or friend:1") (codes ":limit") ≡ Some 36
  pub limit_in_a_join : code_after (standard 1) (codes "(or (apply tagged: friend:1") (codes ":limit") ≡ None
  pub second_limit : code_after (standard 1) (codes "(or (apply tagged: friend:1 :limit 7") (codes ":limit") ≡ Some 36
  pub weight_after_a_count : code_after (standard 2) (codes "(weak-and (term friend:1 :optional-hits 0") (codes ":optional-weight") ≡ Some 36
  pub no_value : code_after (standard 1) (codes "(apply tagged: friend:1 :limit") (codes "0") ≡ Some 36
  pub after_a_value : code_after (standard 1) (codes "(apply tagged: friend:1 :limit 7") (codes "friend:2") ≡ Some 36
  pub too_deep : code_after (record (standard 1) { depth = 2; nodes = 2 }) (codes "(or (or") (codes "(") ≡ Some 37
  pub too_many_nodes : code_after (record (standard 1) { nodes = 3 }) (codes "(or (term friend:1) friend:2") (codes "(") ≡ Some 38
