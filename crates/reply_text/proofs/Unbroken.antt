-- Lines of answers hold no LF, where no word in them does.
use Rattle.std.proofs.Common.{◌≡◌, ◌==◌, Bool, false, List, [], ◌∷◌, ◌++◌, map, codes, flat_map, refl, sym, ◌∙◌}
use Rattle.std.proofs.lemmas.Bool.{or_parts}
use Rattle.std.proofs.lemmas.List.Folds.{list_any-append}
use Rattle.std.specs.Fmt.{decimal}
use Rattle.std.specs.List.{list_any}
use Rattle.uni_base.specs.Fields.{spaced}
use Rattle.uni_base.specs.declared.edge.EdgeRef.{EdgeRef}
use Rattle.uni_base.specs.declared.edge.Key.{Key}
use Rattle.uni_base.specs.declared.edge.Key.TheVariants.{Id, Word}
use Rattle.uni_meaning.specs.declared.reply.Hit.{Hit}
use Rattle.uni_schema.specs.Schema.{Declarations, IsSchema}
use Rattle.uni_schema.specs.Print.{vertical_name}
use Rattle.reply_text.specs.declared.answer.Answer.{Answer}
use Rattle.reply_text.specs.declared.answer.Answer.TheVariants.{Published, Reply, Compacted, Stats, Refused, Fault, QueryFault, Memory, Tidied, Untidied}
use Rattle.reply_text.specs.declared.answer.StackRow.{StackRow}
use Rattle.reply_text.specs.FirstWords.{first_words}
use Rattle.reply_text.specs.Heads.{Head, published, replied, compacted, counted, refused, fault, query_fault, lacking, tidied, untidied, head_of, head_fields}
use Rattle.reply_text.specs.Laws.{word_of, words_of_hit, words_of, LinesAreUnbroken}
use Rattle.uni_base.specs.Lines.{has_lf, AreUnbroken}
use Rattle.reply_text.specs.Printed.{type_name, key_text, edge_text, edges_text, hit_line, stack_line, further_lines, answer_lines}
use Rattle.uni_base.proofs.LineLaws.{none_joined, unbroken-decimal, unbroken-spaced}
use Rattle.reply_text.proofs.Names.{unbroken-vertical, unbroken-type}

-- what is made of each element, where a part of it is unbroken
all_joined : {X Y Z : Type 0} (test : Y → Bool) (other : Z → Bool) (of : X → List Y) (from : X → List Z) → ((x : X) → list_any other (from x) ≡ false → list_any test (of x) ≡ false)
    → (xs : List X) → list_any other (flat_map from xs) ≡ false → list_any test (flat_map of xs) ≡ false
all_joined test other of from so [] none = refl
all_joined test other of from so (x ∷ xs) none =
    let parts = or_parts (list_any other (from x)) (list_any other (flat_map from xs)) (sym (list_any-append other (from x) (flat_map from xs)) ∙ none) in
    none_joined test (of x) (flat_map of xs) (so x parts.0) (all_joined test other of from so xs parts.1)

module _ (schema : Declarations) (is : IsSchema schema) where
  unbroken-key : (key : Key) → AreUnbroken (word_of key) → has_lf (key_text key) ≡ false
  unbroken-key (Id id) none = unbroken-decimal id
  unbroken-key (Word word) none = (or_parts (has_lf word) false none).0

  unbroken-edge : (edge : EdgeRef) → AreUnbroken (word_of edge.key) → has_lf (codes " " ++ edge_text schema edge) ≡ false
  unbroken-edge edge none =
      none_joined (λ b. b == 10) (type_name schema edge.type_no) (codes ":" ++ (key_text edge.key ++ (codes ">" ++ decimal edge.target))) (unbroken-type schema is edge.type_no)
      (none_joined (λ b. b == 10) (key_text edge.key) (codes ">" ++ decimal edge.target) (unbroken-key edge.key none) (unbroken-decimal edge.target))

  unbroken-hit : (hit : Hit) → AreUnbroken (words_of_hit hit) → has_lf (hit_line schema hit) ≡ false
  unbroken-hit hit none =
      none_joined (λ b. b == 10) (spaced (first_words.hit ∷ decimal hit.key.id ∷ codes "via" ∷ [])) (edges_text schema hit.lineage)
      (unbroken-spaced (first_words.hit ∷ decimal hit.key.id ∷ codes "via" ∷ []) (rw (unbroken-decimal hit.key.id) refl))
      (all_joined (λ b. b == 10) has_lf (λ edge. codes " " ++ edge_text schema edge) (λ (edge : EdgeRef). word_of edge.key) unbroken-edge hit.lineage none)

  unbroken-hits : (hits : List Hit) → AreUnbroken (flat_map words_of_hit hits) → AreUnbroken (map (hit_line schema) hits)
  unbroken-hits [] none = refl
  unbroken-hits (hit ∷ hits) none =
      let parts = or_parts (list_any has_lf (words_of_hit hit)) (list_any has_lf (flat_map words_of_hit hits)) (sym (list_any-append has_lf (words_of_hit hit) (flat_map words_of_hit hits)) ∙ none) in
      rw (unbroken-hit hit parts.0) (unbroken-hits hits parts.1)

  unbroken-stack : (row : StackRow) → has_lf (stack_line schema row) ≡ false
  unbroken-stack row =
      unbroken-spaced (first_words.stack ∷ vertical_name schema row.vertical ∷ decimal row.shard ∷ decimal row.replica ∷ codes "layers" ∷ decimal row.layers ∷ [])
      (rw (unbroken-vertical schema is row.vertical, unbroken-decimal row.shard, unbroken-decimal row.replica, unbroken-decimal row.layers) refl)

  unbroken-stacks : (stacks : List StackRow) → AreUnbroken (map (stack_line schema) stacks)
  unbroken-stacks [] = refl
  unbroken-stacks (row ∷ stacks) = rw (unbroken-stack row) (unbroken-stacks stacks)

  unbroken-fields : (head : Head) → AreUnbroken (head_fields schema head)
  unbroken-fields (published line number) = rw (unbroken-decimal line, unbroken-decimal number) refl
  unbroken-fields (replied line number count) = rw (unbroken-decimal line, unbroken-decimal number, unbroken-decimal count) refl
  unbroken-fields (compacted line number) = rw (unbroken-decimal line, unbroken-decimal number) refl
  unbroken-fields (counted line number count) = rw (unbroken-decimal line, unbroken-decimal number, unbroken-decimal count) refl
  unbroken-fields (refused line code) = rw (unbroken-decimal line, unbroken-decimal code) refl
  unbroken-fields (fault line code) = rw (unbroken-decimal line, unbroken-decimal code) refl
  unbroken-fields (query_fault line code column) = rw (unbroken-decimal line, unbroken-decimal code, unbroken-decimal column) refl
  unbroken-fields (lacking line) = rw (unbroken-decimal line) refl
  unbroken-fields (tidied vertical shard replica number) = rw (unbroken-vertical schema is vertical, unbroken-decimal shard, unbroken-decimal replica, unbroken-decimal number) refl
  unbroken-fields (untidied vertical shard replica) = rw (unbroken-vertical schema is vertical, unbroken-decimal shard, unbroken-decimal replica) refl

  unbroken-further : (answer : Answer) → AreUnbroken (words_of answer) → AreUnbroken (further_lines schema answer)
  unbroken-further (Reply line reply) none = unbroken-hits reply.hits none
  unbroken-further (Stats line publishes stacks) none = unbroken-stacks stacks
  unbroken-further (Published line number) none = refl
  unbroken-further (Compacted line number) none = refl
  unbroken-further (Refused line code) none = refl
  unbroken-further (Fault line code) none = refl
  unbroken-further (QueryFault line code column) none = refl
  unbroken-further (Memory line) none = refl
  unbroken-further (Tidied vertical shard replica number) none = refl
  unbroken-further (Untidied vertical shard replica) none = refl

  unbroken-answer : (answer : Answer) → AreUnbroken (words_of answer) → AreUnbroken (answer_lines schema answer)
  unbroken-answer answer none =
      rw (unbroken-spaced (head_fields schema (head_of answer)) (unbroken-fields (head_of answer))) (unbroken-further answer none)

pub lines_are_unbroken : LinesAreUnbroken
lines_are_unbroken = record {
  are = λ schema answers is none. all_joined has_lf has_lf (answer_lines schema) words_of (unbroken-answer schema is) answers none;
}
