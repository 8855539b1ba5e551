-- The first lines of answers among all their lines.
use Rattle.std.proofs.Common.{◌≡◌, Bool, true, false, List, [], ◌∷◌, ◌++◌, map, filter, refl, ap, ◌∙◌}
use Rattle.std.proofs.lemmas.Bool.{or_parts}
use Rattle.std.proofs.lemmas.List.Elements.{filter-append}
use Rattle.std.specs.List.{list_any}
use Rattle.uni_meaning.specs.declared.reply.Hit.{Hit}
use Rattle.uni_schema.specs.Schema.{Declarations}
use Rattle.reply_text.specs.declared.answer.Answer.{Answer}
use Rattle.reply_text.specs.declared.answer.Answer.TheVariants.{Published, Reply, Compacted, Stats, Refused, Fault, QueryFault, Memory, Tidied, Untidied}
use Rattle.reply_text.specs.declared.answer.StackRow.{StackRow}
use Rattle.reply_text.specs.Heads.{Head, published, replied, compacted, counted, refused, fault, query_fault, lacking, tidied, untidied, head_of, head_line}
use Rattle.reply_text.specs.Laws.{is_head_line, HeadsLead}
use Rattle.reply_text.specs.Printed.{hit_line, stack_line, further_lines, answer_lines, lines_of_answers}

leads : (schema : Declarations) (head : Head) → is_head_line (head_line schema head) ≡ true
leads schema (published line number) = refl
leads schema (replied line number count) = refl
leads schema (compacted line number) = refl
leads schema (counted line number count) = refl
leads schema (refused line code) = refl
leads schema (fault line code) = refl
leads schema (query_fault line code column) = refl
leads schema (lacking line) = refl
leads schema (tidied vertical shard replica number) = refl
leads schema (untidied vertical shard replica) = refl

no_hit_leads : (schema : Declarations) (hits : List Hit) → list_any is_head_line (map (hit_line schema) hits) ≡ false
no_hit_leads schema [] = refl
no_hit_leads schema (hit ∷ hits) = no_hit_leads schema hits

no_stack_leads : (schema : Declarations) (stacks : List StackRow) → list_any is_head_line (map (stack_line schema) stacks) ≡ false
no_stack_leads schema [] = refl
no_stack_leads schema (row ∷ stacks) = no_stack_leads schema stacks

none_leads : (schema : Declarations) (answer : Answer) → list_any is_head_line (further_lines schema answer) ≡ false
none_leads schema (Reply line reply) = no_hit_leads schema reply.hits
none_leads schema (Stats line publishes stacks) = no_stack_leads schema stacks
none_leads schema (Published line number) = refl
none_leads schema (Compacted line number) = refl
none_leads schema (Refused line code) = refl
none_leads schema (Fault line code) = refl
none_leads schema (QueryFault line code column) = refl
none_leads schema (Memory line) = refl
none_leads schema (Tidied vertical shard replica number) = refl
none_leads schema (Untidied vertical shard replica) = refl

none_kept : {X : Type 0} (test : X → Bool) (xs : List X) → list_any test xs ≡ false → filter test xs ≡ []
none_kept test [] none = refl
none_kept test (x ∷ xs) none =
    let parts = or_parts (test x) (list_any test xs) none in
    rw (parts.0, none_kept test xs parts.1) refl

-- one line of each answer leads it
answer_kept : (schema : Declarations) (answer : Answer) → filter is_head_line (answer_lines schema answer) ≡ head_line schema (head_of answer) ∷ []
answer_kept schema answer = rw (leads schema (head_of answer), none_kept is_head_line (further_lines schema answer) (none_leads schema answer)) refl

-- so the lines of answers, without those that follow, are their first lines
pub heads_kept : (schema : Declarations) (answers : List Answer) → filter is_head_line (lines_of_answers schema answers) ≡ map (λ answer. head_line schema (head_of answer)) answers
heads_kept schema [] = refl
heads_kept schema (answer ∷ answers) =
    filter-append is_head_line (answer_lines schema answer) (lines_of_answers schema answers)
    ∙ ap (λ lines. lines ++ filter is_head_line (lines_of_answers schema answers)) (answer_kept schema answer)
    ∙ ap (λ lines. head_line schema (head_of answer) ∷ lines) (heads_kept schema answers)

pub heads_lead : HeadsLead
heads_lead = record {
  known = leads;
  lines = λ schema answer. (further_lines schema answer, refl, none_leads schema answer);
  kept = heads_kept;
}
