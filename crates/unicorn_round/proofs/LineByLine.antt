-- Scripts that are answered line by line: one entry more, and one round more.
use Rattle.std.proofs.Common.{◌≡◌, ◌+◌, ◌&&◌, ℕ, Bool, true, false, List, [], ◌∷◌, ◌++◌, length, map, filter, if◌then◌else◌, refl, ap, sym, ◌∙◌, subst, arith, length-append}
use Rattle.uni_schema.specs.Schema.{Declarations}
use Rattle.reply_text.specs.declared.answer.Answer.{Answer}
use Rattle.script_rounds.specs.Entries.{Entry}
use Rattle.script_rounds.specs.Terms.{Terms}
use Rattle.unicorn_round.specs.declared.stacks.StackCover.{StackCover}
use Rattle.unicorn_round.specs.Answers.{Standing, opening_standing, after_entry, after_entries, after_round, after_rounds, at_end, answers, round_answers, replies}
use Rattle.round_feed.specs.Feeds.{made}
use Rattle.unicorn_round.specs.LineByLine.{EntriesDone, RoundsDone}
use Rattle.unicorn_round.specs.Marks.{Mark, RoundRecord}
use Rattle.unicorn_round.specs.Plain.{plain_mark, plain_marks, plain_round}
use Rattle.unicorn_round.specs.Records.{IsMarked, IsRoundRecord}
use Rattle.unicorn_round.specs.Stacks.{is_due, is_untidied, due_untidied, name_of}
use Rattle.round_feed.proofs.Steps.{after-snoc, given-snoc, each-snoc, marked_by-snoc, marked_by-length}

-- no stack is left untidied
pub none_untidied : (number : ℕ) (covers : List StackCover) → due_untidied number [] covers ≡ []
none_untidied number [] = refl
none_untidied number (cover ∷ covers) = by (none_untidied number covers) (is_due number cover)
  where
    by : due_untidied number [] covers ≡ [] → (b : Bool) → map name_of (if (b && false) then cover ∷ filter (λ c. is_due number c && is_untidied [] c) covers else filter (λ c. is_due number c && is_untidied [] c) covers) ≡ []
    by rest true = rest
    by rest false = rest

module _ {S : Type 0} (stands : S → Standing → Type 0) (terms : Terms) where
  -- no entry yet
  pub none_done : (s : Standing) (state : S) → stands state s → EntriesDone stands terms s [] [] state
  none_done s state there = record { lacks = []; one_each = refl; are = refl; marked = tt; there = there }

  -- each entry has a mark
  pub marks_each : (s : Standing) (entries : List Entry) (marks : List Mark) (state : S) → EntriesDone stands terms s entries marks state → length marks ≡ length entries
  marks_each s entries marks state a = ap length a.are ∙ marked_by-length (after_entry terms) (λ at. plain_mark (made at.feed)) s entries a.lacks a.one_each

  -- one entry more
  pub one_more_done : (s : Standing) (entries : List Entry) (marks : List Mark) (entry : Entry) (mid after : S) (lacks : Bool)
      → EntriesDone stands terms s entries marks mid
      → IsMarked entry (plain_mark (made (after_entries terms s entries marks).feed) entry lacks)
      → stands after (after_entry terms (after_entries terms s entries marks) entry (plain_mark (made (after_entries terms s entries marks).feed) entry lacks))
      → EntriesDone stands terms s (entries ++ entry ∷ []) (marks ++ plain_mark (made (after_entries terms s entries marks).feed) entry lacks ∷ []) after
  one_more_done s entries marks entry mid after lacks a marked there = record {
    lacks = a.lacks ++ lacks ∷ [];
    one_each = omega (arith, a.one_each, length-append a.lacks (lacks ∷ []), length-append entries (entry ∷ []));
    are =
        ap (λ ms. ms ++ plain_mark (made (after_entries terms s entries marks).feed) entry lacks ∷ []) a.are
        ∙ ap (λ ms. plain_marks terms s entries a.lacks ++ plain_mark (made (after_entries terms s entries ms).feed) entry lacks ∷ []) a.are
        ∙ sym (marked_by-snoc (after_entry terms) (λ at. plain_mark (made at.feed)) s entries a.lacks entry lacks a.one_each);
    marked = each-snoc (λ none e m. none) (λ none. IsMarked) tt entries marks entry mark a.marked marked;
    there = subst (stands after) (sym (after-snoc (after_entry terms) s entries marks entry mark (marks_each s entries marks mid a))) there;
  }
    where
      mark : Mark
      mark = plain_mark (made (after_entries terms s entries marks).feed) entry lacks

  -- one round more, where the text of answers in two parts is the texts of both
  pub round_more_done : (under : S → Terms) (text_of : Declarations → List Answer → List ℕ)
      → ((xs ys : List Answer) → text_of terms.schema (xs ++ ys) ≡ text_of terms.schema xs ++ text_of terms.schema ys)
      → (rounds : List (List Entry)) (entries : List Entry) (marks : List Mark) (before mid after : S) (text more : List ℕ)
      → (r : RoundsDone stands under text_of terms rounds before text)
      → EntriesDone stands terms (after_rounds terms (opening_standing terms) rounds r.told) entries marks mid
      → under after ≡ terms
      → stands after (at_end (record { marks = marks; untidied = [] }) (after_entries terms (after_rounds terms (opening_standing terms) rounds r.told) entries marks))
      → more ≡ text_of terms.schema (round_answers terms (replies terms.schema) (after_rounds terms (opening_standing terms) rounds r.told) entries (record { marks = marks; untidied = [] }))
      → RoundsDone stands under text_of terms (rounds ++ entries ∷ []) after (text ++ more)
  round_more_done under text_of parts rounds entries marks before mid after text more r a is_under there writes = record {
    is_under = is_under;
    lacks = r.lacks ++ a.lacks ∷ [];
    one_each = omega (arith, r.one_each, length-append r.lacks (a.lacks ∷ []), length-append rounds (entries ∷ []));
    told = r.told ++ one ∷ [];
    is =
        ap (λ ms. r.told ++ record { marks = ms; untidied = [] } ∷ []) a.are
        ∙ ap (λ told. told ++ plain_round terms (after_rounds terms (opening_standing terms) rounds told) entries a.lacks ∷ []) r.is
        ∙ sym (marked_by-snoc (after_round terms) (plain_round terms) (opening_standing terms) rounds r.lacks entries a.lacks r.one_each);
    is_record = each-snoc (after_round terms) (IsRoundRecord terms) (opening_standing terms) rounds r.told entries one r.is_record
        (record { marked = a.marked; untidied = sym (none_untidied (made last.feed) last.covers) });
    there = subst (stands after) (sym (after-snoc (after_round terms) (opening_standing terms) rounds r.told entries one told_each)) there;
    writes =
        ap (λ t. t ++ more) r.writes
        ∙ ap (λ t. text_of terms.schema (answers terms rounds r.told) ++ t) writes
        ∙ sym (parts (answers terms rounds r.told) (round_answers terms (replies terms.schema) now entries one))
        ∙ ap (text_of terms.schema) (sym (given-snoc (after_round terms) (round_answers terms (replies terms.schema)) (opening_standing terms) rounds r.told entries one told_each));
  }
    where
      now : Standing
      now = after_rounds terms (opening_standing terms) rounds r.told

      one : RoundRecord
      one = record { marks = marks; untidied = [] }

      last : Standing
      last = after_entries terms now entries marks

      told_each : length r.told ≡ length rounds
      told_each = ap length r.is ∙ marked_by-length (after_round terms) (plain_round terms) (opening_standing terms) rounds r.lacks r.one_each
