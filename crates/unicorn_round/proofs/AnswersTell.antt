-- Answers tell their record: their heads do.
use Rattle.std.proofs.Common.{◌≡◌, ◌≤◌, ◌&&◌, ℕ, Bool, true, false, List, [], ◌∷◌, ◌++◌, map, filter, if◌then◌else◌, refl, ap, sym, ◌∙◌, subst, arith}
use Rattle.std.proofs.lemmas.List.{append_assoc}
use Rattle.uni_table.specs.Commands.{refuses}
use Rattle.reply_text.specs.declared.answer.Answer.{Answer}
use Rattle.reply_text.specs.declared.answer.Answer.TheVariants as answers_are
use Rattle.reply_text.specs.Heads.{Head, head_of}
use Rattle.script_rounds.specs.Entries.{Entry, change, publish, ask, compact, stats, refused, fault, query_fault, line_of}
use Rattle.script_rounds.specs.Laws.{all_entries}
use Rattle.script_rounds.specs.RoundReads.{Rise}
use Rattle.script_rounds.specs.Terms.{Terms}
use Rattle.unicorn_round.specs.declared.stacks.StackCover.{StackCover}
use Rattle.unicorn_round.specs.Answers.{Standing, opening_standing, after_entry, after_entries, after_round, at_end, answers, entry_answers, entries_answers, round_answers, rounds_answers, replies}
use Rattle.round_feed.specs.Feeds.{Feed, made}
use Rattle.unicorn_round.specs.Marks.{Mark, plain, lacking, at, StackName, RoundRecord, Record}
use Rattle.unicorn_round.specs.Records.{IsMarked, AreMarked, IsRoundRecord, IsRecordFrom, IsRecord}
use Rattle.unicorn_round.specs.Stacks.{is_due, is_untidied, due_untidied, tidy_answer, tidy_answers, name_of}
use Rattle.unicorn_round.proofs.Lines.{IsAbove, AreAbove, IsOneAt, one_line, all_above-lower, above-append, one-above, rise-order, RiseBy, rise-split}
use Rattle.unicorn_round.proofs.Lists.{map_append}
use Rattle.unicorn_round.proofs.Refusals.{refusals_coded, refusal-one, refusal-memory, publish-one, publish-memory}

module _ (terms : Terms) where
  -- the heads of what an entry answers, and entries
  abbrev entry_heads : Standing → Feed → Entry → Mark → List Head
  entry_heads end feed entry mark = map head_of (entry_answers terms (replies terms.schema) end feed entry mark)

  abbrev entries_heads : Standing → Standing → List Entry → List Mark → List Head
  entries_heads end s entries marks = map head_of (entries_answers terms (replies terms.schema) end s entries marks)

  abbrev rounds_heads : Standing → List (List Entry) → Record → List Head
  rounds_heads s rounds told = map head_of (rounds_answers terms (replies terms.schema) s rounds told)

  -- an entry has one answer at most, which is of its line
  entry-one : (end : Standing) (feed : Feed) (entry : Entry) (mark : Mark) → IsOneAt (line_of entry) (entry_heads end feed entry mark)
  entry-one end feed (change line command) plain = refusal-one line (refuses terms.schema terms.limits feed.table command)
  entry-one end feed (change line command) lacking = refl
  entry-one end feed (change line command) (at number) = refusal-one line (refuses terms.schema terms.limits feed.table command)
  entry-one end feed (publish line) plain = publish-one terms feed line
  entry-one end feed (publish line) lacking = refl
  entry-one end feed (publish line) (at number) = publish-one terms feed line
  entry-one end feed (ask line session viewer limit query) plain = tt
  entry-one end feed (ask line session viewer limit query) lacking = refl
  entry-one end feed (ask line session viewer limit query) (at number) = refl
  entry-one end feed (compact line vertical shard replica) plain = tt
  entry-one end feed (compact line vertical shard replica) lacking = refl
  entry-one end feed (compact line vertical shard replica) (at number) = refl
  entry-one end feed (stats line) plain = refl
  entry-one end feed (stats line) lacking = refl
  entry-one end feed (stats line) (at number) = refl
  entry-one end feed (refused line code) plain = refl
  entry-one end feed (refused line code) lacking = refl
  entry-one end feed (refused line code) (at number) = refl
  entry-one end feed (fault line code) plain = refl
  entry-one end feed (fault line code) lacking = refl
  entry-one end feed (fault line code) (at number) = refl
  entry-one end feed (query_fault line code column) plain = refl
  entry-one end feed (query_fault line code column) lacking = refl
  entry-one end feed (query_fault line code column) (at number) = refl

  -- the heads of an entry's answers tell its mark
  entry-tells : (end other : Standing) (feed : Feed) (entry : Entry) (m n : Mark) → IsMarked entry m → IsMarked entry n
      → entry_heads end feed entry m ≡ entry_heads other feed entry n → m ≡ n
  entry-tells end other feed (change line command) plain plain a b same = refl
  entry-tells end other feed (change line command) lacking lacking a b same = refl
  entry-tells end other feed (change line command) plain lacking a b same =
      absurd (refusal-memory line (refuses terms.schema terms.limits feed.table command) (refusals_coded terms.schema terms.limits feed.table command) same)
  entry-tells end other feed (change line command) lacking plain a b same =
      absurd (refusal-memory line (refuses terms.schema terms.limits feed.table command) (refusals_coded terms.schema terms.limits feed.table command) (sym same))
  entry-tells end other feed (change line command) (at k) n a b same = absurd a
  entry-tells end other feed (change line command) plain (at k) a b same = absurd b
  entry-tells end other feed (change line command) lacking (at k) a b same = absurd b
  entry-tells end other feed (publish line) plain plain a b same = refl
  entry-tells end other feed (publish line) lacking lacking a b same = refl
  entry-tells end other feed (publish line) plain lacking a b same = absurd (publish-memory terms feed line same)
  entry-tells end other feed (publish line) lacking plain a b same = absurd (publish-memory terms feed line (sym same))
  entry-tells end other feed (publish line) (at k) n a b same = absurd a
  entry-tells end other feed (publish line) plain (at k) a b same = absurd b
  entry-tells end other feed (publish line) lacking (at k) a b same = absurd b
  entry-tells end other feed (ask line session viewer limit query) plain n a b same = absurd a
  entry-tells end other feed (ask line session viewer limit query) lacking plain a b same = absurd b
  entry-tells end other feed (ask line session viewer limit query) (at k) plain a b same = absurd b
  entry-tells end other feed (ask line session viewer limit query) lacking lacking a b same = refl
  entry-tells end other feed (ask line session viewer limit query) lacking (at l) a b same = absurd cc
  entry-tells end other feed (ask line session viewer limit query) (at k) lacking a b same = absurd cc
  entry-tells end other feed (ask line session viewer limit query) (at k) (at l) a b same = let is : k ≡ l = cc in ap at is
  entry-tells end other feed (compact line vertical shard replica) plain n a b same = absurd a
  entry-tells end other feed (compact line vertical shard replica) lacking plain a b same = absurd b
  entry-tells end other feed (compact line vertical shard replica) (at k) plain a b same = absurd b
  entry-tells end other feed (compact line vertical shard replica) lacking lacking a b same = refl
  entry-tells end other feed (compact line vertical shard replica) lacking (at l) a b same = absurd cc
  entry-tells end other feed (compact line vertical shard replica) (at k) lacking a b same = absurd cc
  entry-tells end other feed (compact line vertical shard replica) (at k) (at l) a b same = let is : k ≡ l = cc in ap at is
  entry-tells end other feed (stats line) m n a b same = a ∙ sym b
  entry-tells end other feed (refused line code) m n a b same = a ∙ sym b
  entry-tells end other feed (fault line code) m n a b same = a ∙ sym b
  entry-tells end other feed (query_fault line code column) plain plain a b same = refl
  entry-tells end other feed (query_fault line code column) lacking lacking a b same = refl
  entry-tells end other feed (query_fault line code column) plain lacking a b same = absurd cc
  entry-tells end other feed (query_fault line code column) lacking plain a b same = absurd cc
  entry-tells end other feed (query_fault line code column) (at k) n a b same = absurd a
  entry-tells end other feed (query_fault line code column) plain (at k) a b same = absurd b
  entry-tells end other feed (query_fault line code column) lacking (at k) a b same = absurd b

  -- the answers of entries are of lines above a low one
  entries-above : (end s : Standing) (entries : List Entry) (low high : ℕ) (marks : List Mark) → Rise low high (map line_of entries)
      → AreAbove low (entries_heads end s entries marks)
  entries-above end s [] low high marks rise = tt
  entries-above end s (entry ∷ entries) low high [] rise = tt
  entries-above end s (entry ∷ entries) low high (m ∷ marks) rise =
      let now : Standing = after_entry terms s entry m in
      let below : low ≤ line_of entry = omega (arith, rise.0) in
      subst (AreAbove low) (sym (map_append head_of (entry_answers terms (replies terms.schema) end s.feed entry m) (entries_answers terms (replies terms.schema) end now entries marks)))
      (above-append low (entry_heads end s.feed entry m) (entries_heads end now entries marks) (one-above low (line_of entry) (entry_heads end s.feed entry m) rise.0 (entry-one end s.feed entry m))
      (all_above-lower (line_of entry) low (entries_heads end now entries marks) below (entries-above end now entries (line_of entry) high marks rise.1)))

  -- the heads of entries' answers tell their marks
  entries-tell : (end other s : Standing) (entries : List Entry) (low high : ℕ) (ms ns : List Mark) (rest others : List Head) → Rise low high (map line_of entries)
      → AreMarked entries ms → AreMarked entries ns → AreAbove high rest → AreAbove high others
      → entries_heads end s entries ms ++ rest ≡ entries_heads other s entries ns ++ others → (ms ≡ ns) × (rest ≡ others)
  entries-tell end other s [] low high [] [] rest others rise a b above later same = (refl, same)
  entries-tell end other s [] low high (m ∷ ms) ns rest others rise a b above later same = absurd a
  entries-tell end other s [] low high [] (n ∷ ns) rest others rise a b above later same = absurd b
  entries-tell end other s (entry ∷ entries) low high [] ns rest others rise a b above later same = absurd a
  entries-tell end other s (entry ∷ entries) low high (m ∷ ms) [] rest others rise a b above later same = absurd b
  entries-tell end other s (entry ∷ entries) low high (m ∷ ms) (n ∷ ns) rest others rise a b above later same =
      let first : (entry_heads end s.feed entry m ≡ entry_heads other s.feed entry n) × (mine ≡ theirs n) =
      one_line line (entry_heads end s.feed entry m) (entry_heads other s.feed entry n) mine (theirs n) (entry-one end s.feed entry m) (entry-one other s.feed entry n)
      (above-append line (entries_heads end (now m) entries ms) rest (entries-above end (now m) entries line high ms rise.1) (all_above-lower high line rest top above))
      (above-append line (entries_heads other (now n) entries ns) others (entries-above other (now n) entries line high ns rise.1) (all_above-lower high line others top later))
      (sym (parted end m ms rest) ∙ same ∙ parted other n ns others) in
      let mark : m ≡ n = entry-tells end other s.feed entry m n a.0 b.0 first.0 in
      let next : (ms ≡ ns) × (rest ≡ others) =
      entries-tell end other (now m) entries line high ms ns rest others rise.1 a.1 b.1 above later (subst (λ k. mine ≡ theirs k) (sym mark) first.1) in
      (cc (mark, next.0), next.1)
    where
      line : ℕ
      line = line_of entry

      now : Mark → Standing
      now mark = after_entry terms s entry mark

      mine : List Head
      mine = entries_heads end (now m) entries ms ++ rest

      theirs : Mark → List Head
      theirs mark = entries_heads other (now mark) entries ns ++ others

      top : line ≤ high
      top = rise-order line high (map line_of entries) rise.1

      parted : (e : Standing) (mark : Mark) (marks : List Mark) (more : List Head)
          → entries_heads e s (entry ∷ entries) (mark ∷ marks) ++ more ≡ entry_heads e s.feed entry mark ++ (entries_heads e (now mark) entries marks ++ more)
      parted e mark marks more =
          ap (λ hs. hs ++ more) (map_append head_of (entry_answers terms (replies terms.schema) e s.feed entry mark) (entries_answers terms (replies terms.schema) e (now mark) entries marks))
          ∙ append_assoc (entry_heads e s.feed entry mark) (entries_heads e (now mark) entries marks) more

  -- those of due stacks tell which of them were left untidied
  tidied-tell : (number : ℕ) (first second : List StackName) (covers : List StackCover) (rest others : List Head)
      → map head_of (tidy_answers number first covers) ++ rest ≡ map head_of (tidy_answers number second covers) ++ others
      → (due_untidied number first covers ≡ due_untidied number second covers) × (rest ≡ others)
  tidied-tell number first second [] rest others same = (refl, same)
  tidied-tell number first second (cover ∷ covers) rest others same = by (tidied-tell number first second covers rest others) (is_due number cover) (is_untidied first cover) (is_untidied second cover)
      (sym (ap (λ hs. hs ++ rest) (heads_here first)) ∙ same ∙ ap (λ hs. hs ++ others) (heads_here second))
    where
      answer : Bool → Answer
      answer left = if left then answers_are.Untidied cover.vertical cover.shard cover.replica else answers_are.Tidied cover.vertical cover.shard cover.replica number

      heads_by : Bool → Answer → List StackName → List Head
      heads_by due one names = map head_of (if due then one ∷ tidy_answers number names covers else tidy_answers number names covers)

      heads_here : (names : List StackName) → map head_of (tidy_answers number names (cover ∷ covers)) ≡ heads_by (is_due number cover) (answer (is_untidied names cover)) names
      heads_here names = due_first (is_due number cover)
        where
          due_first : (due : Bool) → map head_of (map (tidy_answer number names) (if due then cover ∷ filter (is_due number) covers else filter (is_due number) covers)) ≡ heads_by due (answer (is_untidied names cover)) names
          due_first true = refl
          due_first false = refl

      Later : Type 0
      Later = map head_of (tidy_answers number first covers) ++ rest ≡ map head_of (tidy_answers number second covers) ++ others
          → (due_untidied number first covers ≡ due_untidied number second covers) × (rest ≡ others)

      left : List StackName → List StackCover
      left names = filter (λ c. is_due number c && is_untidied names c) covers

      by : Later → (due a b : Bool)
          → heads_by due (answer a) first ++ rest ≡ heads_by due (answer b) second ++ others
          → (map name_of (if (due && a) then cover ∷ left first else left first) ≡ map name_of (if (due && b) then cover ∷ left second else left second)) × (rest ≡ others)
      by later false a b same = later same
      by later true true true same = let next = later cc in (ap (λ names. name_of cover ∷ names) next.0, next.1)
      by later true true false same = absurd cc
      by later true false true same = absurd cc
      by later true false false same = later cc

  tidied-above : (low number : ℕ) (names : List StackName) (covers : List StackCover) → AreAbove low (map head_of (tidy_answers number names covers))
  tidied-above low number names [] = tt
  tidied-above low number names (cover ∷ covers) = by (is_due number cover) (is_untidied names cover) (tidied-above low number names covers)
    where
      by : (due a : Bool) → AreAbove low (map head_of (tidy_answers number names covers))
          → AreAbove low (map head_of (map (tidy_answer number names) (if due then cover ∷ filter (is_due number) covers else filter (is_due number) covers)))
      by false a rest = rest
      by true a rest = (
        elim (is_untidied names cover) as (λ b. IsAbove low (head_of (if b then answers_are.Untidied cover.vertical cover.shard cover.replica else answers_are.Tidied cover.vertical cover.shard cover.replica number))) [
          | true ↦ tt
          | false ↦ tt
        ],
        rest,
      )

  same-record : (one two : RoundRecord) → one.marks ≡ two.marks → one.untidied ≡ two.untidied → one ≡ two
  same-record one two marks untidied =
      let first : one ≡ record one { marks = two.marks } = ap (λ ms. record one { marks = ms }) marks in
      first ∙ ap (λ names. record two { untidied = names }) untidied

  -- the heads of a round in two parts
  abbrev end_heads : Standing → List Entry → List Mark → List StackName → List Head
  end_heads s entries marks untidied = map head_of (tidy_answers (made (after_entries terms s entries marks).feed) untidied (after_entries terms s entries marks).covers)

  round-parted : (s : Standing) (entries : List Entry) (one : RoundRecord) (rest : List Head)
      → map head_of (round_answers terms (replies terms.schema) s entries one) ++ rest
      ≡ entries_heads (at_end one (after_entries terms s entries one.marks)) s entries one.marks ++ (end_heads s entries one.marks one.untidied ++ rest)
  round-parted s entries one rest =
      let last : Standing = after_entries terms s entries one.marks in
      ap (λ hs. hs ++ rest) (map_append head_of (entries_answers terms (replies terms.schema) (at_end one last) s entries one.marks) (tidy_answers (made last.feed) one.untidied last.covers))
      ∙ append_assoc (entries_heads (at_end one last) s entries one.marks) (end_heads s entries one.marks one.untidied) rest

  -- the heads of a round's answers tell what its record says
  round-tells : (s : Standing) (entries : List Entry) (low high : ℕ) (one two : RoundRecord) (rest others : List Head) → Rise low high (map line_of entries)
      → IsRoundRecord terms s entries one → IsRoundRecord terms s entries two → AreAbove high rest → AreAbove high others
      → map head_of (round_answers terms (replies terms.schema) s entries one) ++ rest ≡ map head_of (round_answers terms (replies terms.schema) s entries two) ++ others
      → (one ≡ two) × (rest ≡ others)
  round-tells s entries low high one two rest others rise a b above later same =
      let first : (one.marks ≡ two.marks) × (end_heads s entries one.marks one.untidied ++ rest ≡ end_heads s entries two.marks two.untidied ++ others) =
      entries-tell (at_end one (after_entries terms s entries one.marks)) (at_end two (after_entries terms s entries two.marks)) s entries low high one.marks two.marks
      (end_heads s entries one.marks one.untidied ++ rest) (end_heads s entries two.marks two.untidied ++ others) rise a.marked b.marked
      (above-append high (end_heads s entries one.marks one.untidied) rest (tidied-above high (made (last one.marks).feed) one.untidied (last one.marks).covers) above)
      (above-append high (end_heads s entries two.marks two.untidied) others (tidied-above high (made (last two.marks).feed) two.untidied (last two.marks).covers) later)
      (sym (round-parted s entries one rest) ∙ same ∙ round-parted s entries two others) in
      let second : (due_untidied (made (last one.marks).feed) one.untidied (last one.marks).covers ≡ due_untidied (made (last one.marks).feed) two.untidied (last one.marks).covers) × (rest ≡ others) =
      tidied-tell (made (last one.marks).feed) one.untidied two.untidied (last one.marks).covers rest others
      (subst (λ marks. end_heads s entries one.marks one.untidied ++ rest ≡ end_heads s entries marks two.untidied ++ others) (sym first.0) first.1) in
      let theirs : two.untidied ≡ due_untidied (made (last one.marks).feed) two.untidied (last one.marks).covers =
      subst (λ marks. two.untidied ≡ due_untidied (made (last marks).feed) two.untidied (last marks).covers) (sym first.0) b.untidied in
      (same-record one two first.0 (a.untidied ∙ second.0 ∙ sym theirs), second.1)
    where
      last : List Mark → Standing
      last marks = after_entries terms s entries marks

  -- the answers of rounds are of lines above a low one
  rounds-above : (s : Standing) (rounds : List (List Entry)) (low high : ℕ) (told : Record) → Rise low high (map line_of (all_entries rounds)) → AreAbove low (rounds_heads s rounds told)
  rounds-above s [] low high told rise = tt
  rounds-above s (round ∷ rounds) low high [] rise = tt
  rounds-above s (round ∷ rounds) low high (one ∷ told) rise =
      let now : Standing = after_round terms s round one in
      let last : Standing = after_entries terms s round one.marks in
      let parts : RiseBy low high (map line_of round) (map line_of (all_entries rounds)) =
      rise-split low high (map line_of round) (map line_of (all_entries rounds)) (subst (Rise low high) (map_append line_of round (all_entries rounds)) rise) in
      let below : low ≤ parts.middle = rise-order low parts.middle (map line_of round) parts.front in
      let rest : AreAbove low (rounds_heads now rounds told) = all_above-lower parts.middle low (rounds_heads now rounds told) below (rounds-above now rounds parts.middle high told parts.back) in
      subst (AreAbove low)
      (sym (map_append head_of (round_answers terms (replies terms.schema) s round one) (rounds_answers terms (replies terms.schema) now rounds told) ∙ round-parted s round one (rounds_heads now rounds told)))
      (above-append low (entries_heads (at_end one last) s round one.marks) (end_heads s round one.marks one.untidied ++ rounds_heads now rounds told)
      (entries-above (at_end one last) s round low parts.middle one.marks parts.front)
      (above-append low (end_heads s round one.marks one.untidied) (rounds_heads now rounds told) (tidied-above low (made last.feed) one.untidied last.covers) rest))

  -- the heads of rounds' answers tell the record
  rounds-tell : (s : Standing) (rounds : List (List Entry)) (low high : ℕ) (told other : Record) → Rise low high (map line_of (all_entries rounds))
      → IsRecordFrom terms s rounds told → IsRecordFrom terms s rounds other → rounds_heads s rounds told ≡ rounds_heads s rounds other → told ≡ other
  rounds-tell s [] low high [] [] rise a b same = refl
  rounds-tell s [] low high (one ∷ told) other rise a b same = absurd a
  rounds-tell s [] low high [] (two ∷ other) rise a b same = absurd b
  rounds-tell s (round ∷ rounds) low high [] other rise a b same = absurd a
  rounds-tell s (round ∷ rounds) low high (one ∷ told) [] rise a b same = absurd b
  rounds-tell s (round ∷ rounds) low high (one ∷ told) (two ∷ other) rise a b same =
      let parts : RiseBy low high (map line_of round) (map line_of (all_entries rounds)) =
      rise-split low high (map line_of round) (map line_of (all_entries rounds)) (subst (Rise low high) (map_append line_of round (all_entries rounds)) rise) in
      let first : (one ≡ two) × (rounds_heads (now one) rounds told ≡ rounds_heads (now two) rounds other) =
      round-tells s round low parts.middle one two (rounds_heads (now one) rounds told) (rounds_heads (now two) rounds other) parts.front a.0 b.0
      (rounds-above (now one) rounds parts.middle high told parts.back) (rounds-above (now two) rounds parts.middle high other parts.back)
      (sym (map_append head_of (round_answers terms (replies terms.schema) s round one) (rounds_answers terms (replies terms.schema) (now one) rounds told)) ∙ same
      ∙ map_append head_of (round_answers terms (replies terms.schema) s round two) (rounds_answers terms (replies terms.schema) (now two) rounds other)) in
      let later : told ≡ other =
      rounds-tell (now one) rounds parts.middle high told other parts.back a.1
      (subst (λ r. IsRecordFrom terms (now r) rounds other) (sym first.0) b.1)
      (subst (λ r. rounds_heads (now one) rounds told ≡ rounds_heads (now r) rounds other) (sym first.0) first.1) in
      cc (first.0, later)
    where
      now : RoundRecord → Standing
      now record_of = after_round terms s round record_of

  -- The heads of answers tell the record.
  pub heads_tell : (rounds : List (List Entry)) (low high : ℕ) (told other : Record) → Rise low high (map line_of (all_entries rounds))
      → IsRecord terms rounds told → IsRecord terms rounds other → map head_of (answers terms rounds told) ≡ map head_of (answers terms rounds other) → told ≡ other
  heads_tell rounds low high told other rise a b same = rounds-tell (opening_standing terms) rounds low high told other rise a b same
