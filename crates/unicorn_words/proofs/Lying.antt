-- Where the names of the modes lie is nothing that clap asks: a command that refers to the same names has the same
-- faults and the same matches.
use Rattle.std.proofs.Common.{◌≡◌, ◌∙◌, ◌&&◌, ◌==◌, refl, sym, ap, ℕ, zero, suc, Bool, true, false, cond, List, [], ◌∷◌, length, drop, Option, Some, None, is_some, codes}
use Rattle.std.specs.Prelude.{if◌then◌else◌, encode_utf8, find, fold, slice_get}
use Rattle.std.specs.Option.{option_map_or}
use Rattle.std.specs.List.{list_any}
use Rattle.std.specs.Str.{bytes_eq, chars}
use Rattle.std.specs.Borrow.{Bor}
use Rattle.clap.proofs.WalkLemmas.{list_any-map}
use Rattle.clap.specs.Lexer.{long_of, short_of}
use Rattle.clap.specs.Values.{same_text}
use Rattle.clap.specs.Kinds.{Kinds, or_else, range_kinds, value_kinds, values_kinds}
use Rattle.clap.specs.Faults.{bundle_fault, bundle_step_fault, check_fault, defaults_fault, entered_fault, fault_of, flag_word_fault, flags_fault, long_fault, option_fault, other_fault, positional_fault, react_fault, repeat_fault, settle_fault, short_fault, step_fault, turn_fault, use_fault, walk_fault, word_fault}
use Rattle.clap.specs.Simple.{App, built, entered, filled, matches_of, with_index}
use Rattle.clap.specs.Walk.{Held, Outcome, Row, Rule, Step, Text, Waiting, Walk, after_flag, after_step, arg_by_id, arg_by_long, arg_by_short, attached_value, bundle, bundle_met, bundle_step, done, finished, flag_met, idle, is_pending, long_met, long_or_other, long_word, next, nothing_held, option, option_met, option_word, plain, plain_word, positional, positional_held, pushed, reacted, refused, settled, settled_rows, short_met, short_or_plain, short_word, subcommand, subcommand_met, subcommand_or_other, takes_several, takes_values, texts, to_positional, trailing, used, used_by_id, value, waits, walk, walk_from, walked, walked_from, with_default, word_met}
use Rattle.clap.specs.declared.error.kind.ErrorKind.TheVariants as kind
use Rattle.clap.specs.declared.builder.value_parser.ValueParser.TheVariants as vp
use Rattle.unicorn_words.specs.CommandLine.{mode_argument, unicorn_with}

-- the command as built, with its rules
abbrev app : Bor (List (Bor Text)) → App
app names = built (unicorn_with (vp.Names names))

abbrev rules : Bor (List (Bor Text)) → List Rule
rules names = (app names).top.rules

abbrev mode : Bor (List (Bor Text)) → Rule
mode names = with_index 1 (filled (mode_argument (vp.Names names)))

module _ (a b : Bor (List (Bor Text))) (same : texts a.now ≡ texts b.now) where
  -- ---- the walk

  mode_used : (values : List Text) (rows : List Row) → used (mode a) values rows ≡ used (mode b) values rows
  mode_used [] rows = refl
  mode_used (v ∷ vs) rows = refl

  rows_settled : (p : Option (Text × List Text)) (rows : List Row) → settled_rows (rules a) p rows ≡ settled_rows (rules b) p rows
  rows_settled None rows = refl
  rows_settled (Some p) rows = go (bytes_eq (codes "MODE") p.0) (find (λ (x : Rule). bytes_eq x.id p.0) (drop 1 (rules a)))
    where
      go : (t : Bool) (rest : Option Rule) → used_by_id (cond t (Some (mode a)) rest) p.1 rows ≡ used_by_id (cond t (Some (mode b)) rest) p.1 rows
      go true rest = mode_used p.1 rows
      go false rest = refl

  settles : (h : Held) → settled (rules a) h ≡ settled (rules b) h
  settles h = λ i. record h { rows = rows_settled h.pending h.rows i; pending = None }

  reacts : (x : Rule) (values : List Text) (h : Held) → reacted (rules a) x values h ≡ reacted (rules b) x values h
  reacts x values h = λ i. record h { rows = used x values (settles h i).rows; pending = None }

  option_meets : (x : Rule) (v : Option Text) (h : Held) → option_met (rules a) x v h ≡ option_met (rules b) x v h
  option_meets x (Some v) h = λ i. (reacts x (v ∷ []) h i, done)
  option_meets x None h = λ i. (record (settles h i) { pending = Some (x.id, []) }, waits x.id)

  flag_meets : (x : Rule) (v : Option Text) (h : Held) → flag_met (rules a) x v h ≡ flag_met (rules b) x v h
  flag_meets x (Some v) h = refl
  flag_meets x None h = λ i. (reacts x [] h i, done)

  long_meets : (x : Option Rule) (v : Option Text) (h : Held) → long_met (rules a) x v h ≡ long_met (rules b) x v h
  long_meets None v h = refl
  long_meets (Some x) v h = λ i. if takes_values x then option_meets x v h i else flag_meets x v h i

  short_meets : (x : Option Rule) (rest : Text) (h : Held) (m n : Held → Held × Outcome) → ((k : Held) → m k ≡ n k)
      → short_met (rules a) x rest h m ≡ short_met (rules b) x rest h n
  short_meets None rest h m n e = refl
  short_meets (Some x) rest h m n e = λ i. if takes_values x then option_meets x (attached_value rest) h i else e (reacts x [] h i) i

  step_meets : (x : Option ℕ) (flags : Text) (skip : ℕ) (so_far : Outcome) (h : Held) (m n : Text → ℕ → Outcome → Held → Held × Outcome)
      → ((f : Text) (s : ℕ) (o : Outcome) (k : Held) → m f s o k ≡ n f s o k)
      → bundle_step (rules a) x flags skip so_far h m ≡ bundle_step (rules b) x flags skip so_far h n
  step_meets None flags skip so_far h m n e = refl
  step_meets (Some x) flags zero so_far h m n e =
      let rest = drop (length (encode_utf8 x)) flags in
      short_meets (arg_by_short (rules a) x) rest h (m rest 0 done) (n rest 0 done) (e rest 0 done)
  step_meets (Some x) flags (suc skip) so_far h m n e = e (drop (length (encode_utf8 x)) flags) skip so_far h

  bundle_meets : (k : ℕ) (flags : Text) (skip : ℕ) (so_far : Outcome) (h : Held)
      → bundle_met (rules a) k flags skip so_far h ≡ bundle_met (rules b) k flags skip so_far h
  unfolding bundle_met
  bundle_meets zero flags skip so_far h = refl
  bundle_meets (suc k) flags skip so_far h =
      step_meets (slice_get (chars flags) 0) flags skip so_far h (bundle_met (rules a) k) (bundle_met (rules b) k) (bundle_meets k)

  bundles : (flags : Text) (h : Held) → bundle (rules a) flags h ≡ bundle (rules b) flags h
  bundles flags h = bundle_meets (length flags) flags h.skip plain (record h { skip = 0 })

  option_words : (id word : Text) (h : Held) → option_word (arg_by_id (rules a) id) id word h ≡ option_word (arg_by_id (rules b) id) id word h
  option_words id word h = go (bytes_eq (codes "MODE") id) (find (λ (x : Rule). bytes_eq x.id id) (drop 1 (rules a)))
    where
      go : (t : Bool) (rest : Option Rule) → option_word (cond t (Some (mode a)) rest) id word h ≡ option_word (cond t (Some (mode b)) rest) id word h
      go true rest = refl
      go false rest = refl

  plain_words : (w : Waiting) (word : Text) (h : Held) → plain_word (rules a) w word h ≡ plain_word (rules b) w word h
  plain_words idle word h = refl
  plain_words positional word h = refl
  plain_words (option id) word h = λ i. ((option_words id word h i).0, next (option_words id word h i).1)

  after_flags : (w : Waiting) (word : Text) (h : Held) (o : Outcome) → after_flag (rules a) w word h o ≡ after_flag (rules b) w word h o
  after_flags w word h done = refl
  after_flags w word h (waits id) = refl
  after_flags w word h plain = plain_words w word h
  after_flags w word h refused = plain_words w word h

  long_words : (w : Waiting) (word name : Text) (v : Option Text) (h : Held) → long_word (rules a) w word name v h ≡ long_word (rules b) w word name v h
  long_words w word name v h = λ i.
      after_flags w word (long_meets (arg_by_long (rules a) name) v h i).0 (long_meets (arg_by_long (rules a) name) v h i).1 i

  short_words : (w : Waiting) (word flags : Text) (h : Held) → short_word (rules a) w word flags h ≡ short_word (rules b) w word flags h
  short_words w word flags h = λ i. after_flags w word (bundles flags h i).0 (bundles flags h i).1 i

  short_or_plains : (w : Waiting) (word : Text) (flags : Option Text) (h : Held) → short_or_plain (rules a) w word flags h ≡ short_or_plain (rules b) w word flags h
  short_or_plains w word (Some flags) h = short_words w word flags h
  short_or_plains w word None h = plain_words w word h

  long_or_others : (w : Waiting) (word : Text) (p : Option (Text × Option Text)) (h : Held) → long_or_other (rules a) w word p h ≡ long_or_other (rules b) w word p h
  long_or_others w word (Some p) h = long_words w word p.0 p.1 h
  long_or_others w word None h = short_or_plains w word (short_of word) h

  subcommands : (name : Option Text) (w : Waiting) (position : ℕ) (word : Text) (h : Held)
      → subcommand_or_other (rules a) name w position word h ≡ subcommand_or_other (rules b) name w position word h
  subcommands (Some name) w position word h = refl
  subcommands None w position word h = λ i. if bytes_eq word (45 ∷ 45 ∷ []) then (h, trailing position) else long_or_others w word (long_of word) h i

  words_met : (t : Bool) (w : Waiting) (position : ℕ) (word : Text) (h : Held)
      → word_met (rules a) [] t w position word h ≡ word_met (rules b) [] t w position word h
  words_met t w position word h = λ i. if t then (h, value) else subcommands (subcommand_met [] w word) w position word h i

  mode_held : (word : Text) (h : Held) → positional_held (rules a) (mode a) word h ≡ positional_held (rules b) (mode b) word h
  mode_held word h = λ i. pushed (codes "MODE") word (if is_pending (mode a) h.pending && takes_several (mode a) then h else settles h i)

  to_mode : (t : Bool) (word : Text) (w : Walk) (h : Held)
      → to_positional (rules a) (cond t (Some (mode a)) None) word w h ≡ to_positional (rules b) (cond t (Some (mode b)) None) word w h
  to_mode true word w h = λ i. record (to_positional (rules a) (Some (mode a)) word w h) { held = mode_held word h i }
  to_mode false word w h = refl

  after_steps : (word : Text) (w : Walk) (h : Held) (s : Step) → after_step (rules a) word w h s ≡ after_step (rules b) word w h s
  after_steps word w h (next waiting) = refl
  after_steps word w h (trailing position) = refl
  after_steps word w h (subcommand name) = refl
  after_steps word w h value = to_mode (1 == w.position) word w h

  walks_from : (stopped : Option (Text × List Text)) (w : Walk) (word : Text) → walked_from (rules a) [] stopped w word ≡ walked_from (rules b) [] stopped w word
  walks_from (Some p) w word = refl
  walks_from None w word = λ i.
      after_steps word w (words_met w.is_trailing w.waiting w.position word w.held i).0 (words_met w.is_trailing w.waiting w.position word w.held i).1 i

  walks_on : (w : Walk) (word : Text) → walked (rules a) [] w word ≡ walked (rules b) [] w word
  unfolding walked
  walks_on w word = walks_from w.stopped w word

  walks : (h : Held) (words : List Text) → walk (rules a) [] h words ≡ walk (rules b) [] h words
  walks h words = λ i. fold (λ w word. walks_on w word i) (walk_from h) words

  finishes : (h : Held) → finished (rules a) h ≡ finished (rules b) h
  finishes h = λ i. fold with_default (settles h i).rows (rules a)

  pub same_matches : (words : List Text) → matches_of (unicorn_with (vp.Names a)) words ≡ matches_of (unicorn_with (vp.Names b)) words
  same_matches words = λ i. finishes (walks nothing_held (drop 1 words) i).held i

  -- ---- the faults

  among : (v : Text) → list_any (λ (n : Bor Text). same_text false n.now v) a.now ≡ list_any (λ (n : Bor Text). same_text false n.now v) b.now
  among v = list_any-map (λ s. same_text false s v) (λ (n : Bor Text). n.now) a.now ∙ ap (list_any (λ s. same_text false s v)) same
      ∙ sym (list_any-map (λ s. same_text false s v) (λ (n : Bor Text). n.now) b.now)

  value_faults : (v : Text) → value_kinds false (vp.Names a) v ≡ value_kinds false (vp.Names b) v
  value_faults v = λ i. if among v i then [] else kind.InvalidValue ∷ []

  values_faults : (vs : List Text) → values_kinds false (vp.Names a) vs ≡ values_kinds false (vp.Names b) vs
  values_faults [] = refl
  values_faults (v ∷ vs) = λ i. or_else (value_faults v i) (values_faults vs i)

  mode_faults : (again : Bool) (values : List Text) (rows : List Row) → use_fault again (mode a) values rows ≡ use_fault again (mode b) values rows
  mode_faults again [] rows = refl
  mode_faults again (v ∷ vs) rows = λ i. or_else (range_kinds 1 1 (length (v ∷ vs))) (or_else (repeat_fault again (codes "MODE") rows) (values_faults (v ∷ vs) i))

  settle_faults : (again : Bool) (h : Held) → settle_fault (rules a) again h ≡ settle_fault (rules b) again h
  settle_faults again h = pend h.pending
    where
      go : (p : Text × List Text) (t : Bool) (rest : Option Rule)
          → option_map_or (λ x. use_fault again x p.1 h.rows) (cond t (Some (mode a)) rest) [] ≡ option_map_or (λ x. use_fault again x p.1 h.rows) (cond t (Some (mode b)) rest) []
      go p true rest = mode_faults again p.1 h.rows
      go p false rest = refl

      pend : (o : Option (Text × List Text))
          → option_map_or (λ (p : Text × List Text). option_map_or (λ x. use_fault again x p.1 h.rows) (arg_by_id (rules a) p.0) []) o []
          ≡ option_map_or (λ (p : Text × List Text). option_map_or (λ x. use_fault again x p.1 h.rows) (arg_by_id (rules b) p.0) []) o []
      pend None = refl
      pend (Some p) = go p (bytes_eq (codes "MODE") p.0) (find (λ (x : Rule). bytes_eq x.id p.0) (drop 1 (rules a)))

  react_faults : (again : Bool) (x : Rule) (values : List Text) (h : Held) → react_fault (rules a) again x values h ≡ react_fault (rules b) again x values h
  react_faults again x values h = λ i. or_else (settle_faults again h i) (use_fault again x values (settles h i).rows)

  option_faults : (again : Bool) (x : Rule) (v : Option Text) (h : Held) → option_fault (rules a) again x v h ≡ option_fault (rules b) again x v h
  option_faults again x (Some v) h = react_faults again x (v ∷ []) h
  option_faults again x None h = settle_faults again h

  long_faults : (again : Bool) (x : Option Rule) (v : Option Text) (h : Held) → long_fault (rules a) again x v h ≡ long_fault (rules b) again x v h
  long_faults again None v h = refl
  long_faults again (Some x) v h = λ i.
      if takes_values x then option_faults again x v h i
      else (if is_some v then kind.TooManyValues ∷ [] else react_faults again x [] h i)

  short_faults : (again : Bool) (x : Option Rule) (rest : Text) (h : Held) (m n : Held → Kinds) → ((k : Held) → m k ≡ n k)
      → short_fault (rules a) again x rest h m ≡ short_fault (rules b) again x rest h n
  short_faults again None rest h m n e = refl
  short_faults again (Some x) rest h m n e = λ i.
      if takes_values x then option_faults again x (attached_value rest) h i
      else or_else (react_faults again x [] h i) (e (reacts x [] h i) i)

  step_faults : (again : Bool) (x : Option ℕ) (flags : Text) (skip : ℕ) (h : Held) (m n : Text → ℕ → Held → Kinds)
      → ((f : Text) (s : ℕ) (k : Held) → m f s k ≡ n f s k)
      → bundle_step_fault (rules a) again x flags skip h m ≡ bundle_step_fault (rules b) again x flags skip h n
  step_faults again None flags skip h m n e = refl
  step_faults again (Some x) flags zero h m n e =
      let rest = drop (length (encode_utf8 x)) flags in
      short_faults again (arg_by_short (rules a) x) rest h (m rest 0) (n rest 0) (e rest 0)
  step_faults again (Some x) flags (suc skip) h m n e = e (drop (length (encode_utf8 x)) flags) skip h

  flags_faults : (again : Bool) (k : ℕ) (flags : Text) (skip : ℕ) (h : Held) → flags_fault (rules a) again k flags skip h ≡ flags_fault (rules b) again k flags skip h
  unfolding flags_fault
  flags_faults again zero flags skip h = refl
  flags_faults again (suc k) flags skip h =
      step_faults again (slice_get (chars flags) 0) flags skip h (flags_fault (rules a) again k) (flags_fault (rules b) again k) (flags_faults again k)

  bundle_faults : (again : Bool) (flags : Text) (h : Held) → bundle_fault (rules a) again flags h ≡ bundle_fault (rules b) again flags h
  bundle_faults again flags h = flags_faults again (length flags) flags h.skip (record h { skip = 0 })

  flag_word_faults : (again : Bool) (p : Option (Text × Option Text)) (word : Text) (h : Held)
      → flag_word_fault (rules a) again p word h ≡ flag_word_fault (rules b) again p word h
  flag_word_faults again (Some p) word h = long_faults again (arg_by_long (rules a) p.0) p.1 h
  flag_word_faults again None word h = λ i. option_map_or (λ flags. bundle_faults again flags h i) (short_of word) []

  other_faults : (name : Option Text) (word : Text) (h : Held) → other_fault (app a).top name word h ≡ other_fault (app b).top name word h
  other_faults (Some name) word h = refl
  other_faults None word h = λ i. if bytes_eq word (45 ∷ 45 ∷ []) then [] else flag_word_faults false (long_of word) word h i

  word_faults : (t : Bool) (w : Waiting) (word : Text) (h : Held) → word_fault (app a).top [] t w word h ≡ word_fault (app b).top [] t w word h
  word_faults t w word h = λ i. if t then [] else other_faults (subcommand_met [] w word) word h i

  mode_positional : (h : Held) → positional_fault (rules a) false (mode a) h ≡ positional_fault (rules b) false (mode b) h
  mode_positional h = λ i. if is_pending (mode a) h.pending && takes_several (mode a) then [] else settle_faults false h i

  steps_faults : (position : ℕ) (h : Held) (s : Step) → step_fault (app a).top position h s ≡ step_fault (app b).top position h s
  steps_faults position h (next waiting) = refl
  steps_faults position h (trailing p) = refl
  steps_faults position h (subcommand name) = refl
  steps_faults position h value = go (1 == position)
    where
      go : (t : Bool) → option_map_or (λ x. positional_fault (rules a) false x h) (cond t (Some (mode a)) None) (kind.UnknownArgument ∷ [])
          ≡ option_map_or (λ x. positional_fault (rules b) false x h) (cond t (Some (mode b)) None) (kind.UnknownArgument ∷ [])
      go true = mode_positional h
      go false = refl

  turn_faults : (w : Walk) (word : Text) → turn_fault (app a).top [] w word ≡ turn_fault (app b).top [] w word
  turn_faults w word = λ i.
      if is_some w.stopped then []
      else or_else (word_faults w.is_trailing w.waiting word w.held i)
      (steps_faults w.position (words_met w.is_trailing w.waiting w.position word w.held i).0
      (words_met w.is_trailing w.waiting w.position word w.held i).1 i)

  walk_faults : (words : List Text) (w : Walk) → walk_fault (app a).top [] w words ≡ walk_fault (app b).top [] w words
  unfolding walk_fault
  walk_faults [] w = refl
  walk_faults (word ∷ rest) w = λ i. or_else (turn_faults w word i) (walk_faults rest (walks_on w word i) i)

  default_faults : (h : Held) → defaults_fault (settled (rules a) h).rows (rules a) ≡ defaults_fault (settled (rules b) h).rows (rules b)
  unfolding defaults_fault
  default_faults h = λ i. defaults_fault (settles h i).rows (rules a)

  check_faults : (h : Held) (t : Bool) → check_fault (app a).top (finished (rules a) h) t ≡ check_fault (app b).top (finished (rules b) h) t
  check_faults h t = λ i. check_fault (app a).top (finishes h i) t

  pub same_faults : (words : List Text) → fault_of (unicorn_with (vp.Names a)) words ≡ fault_of (unicorn_with (vp.Names b)) words
  same_faults words =
      let end = walks nothing_held (drop 1 words) in
      λ i. or_else (walk_faults (drop 1 words) (walk_from nothing_held) i)
      (or_else (entered_fault (app a) (end i).stopped)
      (or_else (settle_faults false (end i).held i)
      (or_else (default_faults (end i).held i)
      (check_faults (end i).held (is_some (entered (app a) (end i).stopped)) i))))
