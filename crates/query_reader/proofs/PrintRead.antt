-- The print of a query is read as that query.
use Rattle.std.proofs.Common.{◌≡◌, ℕ, ◌≤◌, List, [], Ok, sym, ap, ◌∙◌, subst, arith, append-nil}
use Rattle.uni_base.specs.declared.limits.Limits.{Limits}
use Rattle.uni_base.specs.StandardLimits.{IsWithinStandard}
use Rattle.query_tree.specs.declared.dialect.Dialect.{Dialect}
use Rattle.query_tree.specs.declared.query.Mark.TheVariants.{Plain}
use Rattle.query_tree.specs.Dialects.{dialect_of}
use Rattle.query_tree.specs.Tree.{Tree}
use Rattle.query_tree.specs.Text.{query_text}
use Rattle.query_tree.specs.Columns.{AreSameButColumns}
use Rattle.query_tree.specs.Within.{IsWithin}
use Rattle.query_reader.specs.Tokens.{text_tokens}
use Rattle.query_reader.specs.Reading.{Lexeme}
use Rattle.query_reader.specs.Depth.{most_open}
use Rattle.query_reader.specs.Grammar.{NodeSpells, QuerySpells}
use Rattle.query_reader.specs.PrintLaws.{PrintIsRead}
use Rattle.query_reader.proofs.Complete.{text_complete}
use Rattle.query_reader.proofs.Segments.{Segment, read_tokens}
use Rattle.query_reader.proofs.SpansLemmas.{text_spans}
use Rattle.query_reader.proofs.PrintLength.{print_short}
use Rattle.query_reader.proofs.Printed.{NodeWritten, node_written}

-- the tokens of a text that is one part
all_tokens : (format : ℕ) (text : List ℕ) (lexemes : List Lexeme) (segment : Segment format text 0 text [] lexemes) → text_tokens format text ≡ Ok segment.tokens
all_tokens format text lexemes segment =
    ap (read_tokens format 0) (sym (append-nil text)) ∙ segment.read ∙ ap Ok (append-nil segment.tokens)

print_spells : (dialect : Dialect) (tree : Tree) → dialect.join_limit ≤ 1000000 → IsWithin dialect tree
    → (again : Tree) × (AreSameButColumns again tree × QuerySpells dialect (query_text tree) again)
print_spells dialect tree small within =
    let text : List ℕ = query_text tree in
    let written : NodeWritten dialect (query_text tree) 0 tree Plain [] =
    node_written dialect (query_text tree) 0 tree Plain [] small within.allowed tt (sym (append-nil (query_text tree))) tt in (
      written.again,
      (
        written.same,
        record {
          lexed = written.segment.tokens;
          of_text =
              text_spans dialect.format (query_text tree) written.segment.tokens
              (all_tokens dialect.format (query_text tree) written.lexemes written.segment);
          spelled = subst (λ (xs : List Lexeme). NodeSpells dialect written.again Plain xs) (sym written.segment.are) written.spelled;
          nodes = omega (arith, written.nodes, within.nodes);
          depth =
              subst (λ (xs : List Lexeme). most_open 0 xs ≤ dialect.depth) (sym written.segment.are)
              (omega (arith, written.deep 0, within.depth));
        },
      ),
    )

-- no limit of a join is above the standard one
small_limit : (limits : Limits) (format : ℕ) → IsWithinStandard limits → (dialect_of limits format).join_limit ≤ 1000000
small_limit limits format standard = omega (arith, standard.join_limit)

pub print_read : PrintIsRead
print_read = record {
  spells = λ limits format tree standard within. print_spells (dialect_of limits format) tree (small_limit limits format standard) within;
  reads =
      λ limits format tree standard within.
      let spelled = print_spells (dialect_of limits format) tree (small_limit limits format standard) within in
      (spelled.0, (spelled.1.0, text_complete (dialect_of limits format) (query_text tree) spelled.0 spelled.1.1));
  short =
      λ limits format tree standard within.
      print_short (dialect_of limits format) tree (small_limit limits format standard) within.allowed (omega (arith, within.nodes, standard.nodes));
}
