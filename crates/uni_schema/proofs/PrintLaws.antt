-- The lines of a schema are read as that schema again.
use Rattle.std.proofs.Common.{◌≡◌, ◌≤◌, ◌<◌, ◌+◌, ◌*◌, ℕ, zero, suc, nat_le, nat_lt, ◌==◌, ◌&&◌, ◌||◌, not, Bool, true, false, cond, List, [], ◌∷◌, ◌++◌, length, map, Option, None, Some, is_some, is_none, unwrap_or, slice_get, codes, refl, ap, sym, subst, ◌∙◌, arith, append_assoc, append-nil, length-append, zero-add, add-zero}
use Rattle.std.specs.Fmt.{decimal, digits}
use Rattle.std.specs.Option.{option_map, option_map_or, option_and_then}
use Rattle.std.specs.List.{list_all, list_any, position, prefix_len}
use Rattle.std.specs.Cmp.Derive.{both_true}
use Rattle.std.proofs.lemmas.Bool.{and_parts, or_parts, leb-true, leb-false, lt-leb}
use Rattle.std.proofs.lemmas.Bool.Decides.{nat_tests}
use Rattle.std.proofs.lemmas.List.{map-append}
use Rattle.std.proofs.lemmas.Option.{slice_get-map}
use Rattle.uni_base.specs.Fields.{same, spaced}
use Rattle.uni_base.specs.Words.{is_word, is_word_byte, starts_with_letter, is_name}
use Rattle.uni_base.specs.Lines.{has_lf, AreUnbroken}
use Rattle.uni_base.specs.Numbers.{number_of}
use Rattle.uni_base.proofs.LineLaws.{lines_are_read, none_joined, unbroken-name, unbroken-decimal, unbroken-spaced}
use Rattle.uni_schema.specs.Schema.{Declarations, IsSchema, is_vertical, is_type, is_vertical_name, are_fresh, vertical_names, type_names, vertical_no, type_no, type_at, denials, denied, denying, starts_below, starts_at_words, is_target_owner, is_index}
use Rattle.uni_schema.specs.Rules.{is_word_name, refused_if, vertical_rules, type_rules, deny_rules, may_deny, origin_of, type_told}
use Rattle.uni_schema.specs.Header.{HeaderState, opening, told, opens, opening_of}
use Rattle.uni_schema.specs.HeaderText.{IsNumeralOf, owner_word, store_word, Leads, stays, tells}
use Rattle.uni_schema.specs.Print.{format_line, vertical_line, vertical_name, source_name, type_line, deny_line, deny_lines, header_lines, PrintIsRead}
use Rattle.uni_schema.specs.declared.line.HeaderLine.TheVariants.{Format, Vertical, EdgeType, Deny, Begin}
use Rattle.uni_schema.specs.declared.refusal.SchemaRefusal.TheVariants.{BadLine, NamedTwice, UnknownVertical, OutOfRange, WordSource, TooMany, BadDeny}
use Rattle.uni_schema.specs.declared.schema.VerticalDef.{VerticalDef}
use Rattle.uni_schema.specs.declared.schema.TypeDef.{TypeDef}
use Rattle.uni_schema.specs.declared.schema.Owner.{Owner}
use Rattle.uni_schema.specs.declared.schema.Owner.TheVariants.{Source, Target, Both}
use Rattle.uni_schema.specs.declared.schema.Store.{Store}
use Rattle.uni_schema.specs.declared.schema.Store.TheVariants.{Index, Forward}
use Rattle.uni_schema.specs.declared.schema.Origin.{Origin}
use Rattle.uni_schema.specs.declared.schema.Origin.TheVariants as origins
use Rattle.uni_schema.proofs.Kept.{passes_at}
use Rattle.uni_schema.proofs.Openings.{leads_append, only_opening}
use Rattle.uni_schema.proofs.Schemas.{denials-cons}
use Rattle.std.proofs.lemmas.List.Sums.{sum_by-append}

-- where a reader stands that has taken n lines
abbrev at : ℕ → Declarations → HeaderState
at n schema = record { taken = n; begun = true; ended = false; schema = schema; longest = 65536 }

abbrev so_far : ℕ → List VerticalDef → List TypeDef → Declarations
so_far format verticals types = record { format = format; verticals = verticals; types = types }

untrue : (b : Bool) → not b ≡ true → b ≡ false
untrue true e = cc
untrue false e = refl

-- numerals of small numbers, by computation
abbrev is_small_numeral : ℕ → Bool
is_small_numeral n = option_map_or (λ m. m == n) (number_of (decimal n)) false && nat_le (length (decimal n)) 32

abbrev all_to : (ℕ → Bool) → ℕ → Bool
all_to test zero = test 0
all_to test (suc n) = test (suc n) && all_to test n

small_numerals : all_to is_small_numeral 64 ≡ true
unfolding digits
small_numerals = refl

all_to-at : (test : ℕ → Bool) (k n : ℕ) → all_to test k ≡ true → n ≤ k → test n ≡ true
all_to-at test zero n all le = let z : 0 ≡ n = omega arith in ap test (sym z) ∙ all
all_to-at test (suc k) n all le =
    let parts = and_parts (test (suc k)) (all_to test k) all in
    by (nat_le n k) (all_to-at test k n parts.1) parts.0 refl
  where
    by : (below : Bool) → (n ≤ k → test n ≡ true) → test (suc k) ≡ true → nat_le n k ≡ below → test n ≡ true
    by true later last is = later (leb-true n k is)
    by false later last is = let above : k < n = leb-false n k is in let one : suc k ≡ n = omega arith in ap test (sym one) ∙ last

equal_numbers : (m n : ℕ) → (m == n) ≡ true → m ≡ n
equal_numbers m n e = grind (arith, nat_tests)

numeral : (n : ℕ) → n ≤ 64 → IsNumeralOf (decimal n) n × (nat_le (length (decimal n)) 32 ≡ true)
numeral n le =
    let parts = and_parts (option_map_or (λ m. m == n) (number_of (decimal n)) false) (nat_le (length (decimal n)) 32) (all_to-at is_small_numeral 64 n small_numerals le) in
    (by (number_of (decimal n)) refl parts.0, parts.1)
  where
    by : (read : Option ℕ) → number_of (decimal n) ≡ read → option_map_or (λ m. m == n) read false ≡ true → number_of (decimal n) ≡ Some n
    by None is e = cc
    by (Some m) is e = is ∙ ap Some (equal_numbers m n e)

-- lines of short fields are short
abbrev is_short : List ℕ → Bool
is_short field = nat_le (length field) 32

short_line : (field : List ℕ) (fields : List (List ℕ)) → list_all is_short (field ∷ fields) ≡ true → length (spaced (field ∷ fields)) ≤ 33 * (1 + length fields)
short_line field [] h = let one = leb-true (length field) 32 (and_parts (is_short field) true h).0 in omega arith
short_line field (more ∷ fields) h =
    let parts = and_parts (is_short field) (list_all is_short (more ∷ fields)) h in
    let one = leb-true (length field) 32 parts.0 in
    let rest = short_line more fields parts.1 in
    omega (arith, length-append field (32 ∷ spaced (more ∷ fields)), one, rest)

name_short : (name : List ℕ) → is_name name ≡ true → is_short name ≡ true
name_short name named =
    let word = (and_parts (is_word name) (starts_with_letter name) named).0 in
    (and_parts (nat_le 1 (length name)) (nat_le (length name) 32) (and_parts (nat_le 1 (length name) && nat_le (length name) 32) (list_all is_word_byte name) word).0).1

owner_short : (owner : Owner) → is_short (owner_word owner) ≡ true
owner_short Source = refl
owner_short Target = refl
owner_short Both = refl

store_short : (store : Store) → is_short (store_word store) ≡ true
store_short Index = refl
store_short Forward = refl

-- places of names
none_before : {X : Type 0} (test : X → Bool) (xs : List X) → list_any test xs ≡ false → prefix_len (λ x. not (test x)) xs ≡ length xs
none_before test [] h = refl
none_before test (x ∷ xs) h =
    let parts = or_parts (test x) (list_any test xs) h in
    let rest = none_before test xs parts.1 in
    rw parts.0 (omega (arith, rest))

not_below : (n : ℕ) → nat_lt n n ≡ false
not_below n = grind (arith, nat_tests)

is_below : (a b : ℕ) → a < b → nat_lt a b ≡ true
is_below a b h = grind (arith, nat_tests)

below_is : (a b : ℕ) → nat_lt a b ≡ true → a < b
below_is a b h = grind (arith, nat_tests)

unplaced : {X : Type 0} (test : X → Bool) (xs : List X) → list_any test xs ≡ false → position test xs ≡ None
unplaced test xs h =
    ap (λ n. cond {A = Option ℕ} (nat_lt n (length xs)) (Some n) None) (none_before test xs h)
    ∙ ap (λ b. cond {A = Option ℕ} b (Some (length xs)) None) (not_below (length xs))

first_place : {X : Type 0} (test : X → Bool) (before : List X) (y : X) (ys : List X) → list_any test before ≡ false → test y ≡ true
    → prefix_len (λ x. not (test x)) (before ++ y ∷ ys) ≡ length before
first_place test [] y ys h here = rw here refl
first_place test (x ∷ before) y ys h here =
    let parts = or_parts (test x) (list_any test before) h in
    let rest = first_place test before y ys parts.1 here in
    rw parts.0 (omega (arith, rest))

placed : {X : Type 0} (test : X → Bool) (before : List X) (y : X) (ys : List X) → list_any test before ≡ false → test y ≡ true
    → position test (before ++ y ∷ ys) ≡ Some (length before)
placed test before y ys h here =
    let inside : length before < length (before ++ y ∷ ys) = omega (arith, length-append before (y ∷ ys)) in
    ap (λ n. cond {A = Option ℕ} (nat_lt n (length (before ++ y ∷ ys))) (Some n) None) (first_place test before y ys h here)
    ∙ ap (λ b. cond {A = Option ℕ} b (Some (length before)) None) (is_below (length before) (length (before ++ y ∷ ys)) inside)

equal_self : (c : ℕ) → (c == c) ≡ true
equal_self c = grind (arith, nat_tests)

same_self : (xs : List ℕ) → same xs xs ≡ true
same_self [] = refl
same_self (c ∷ cs) = both_true (equal_self c) (same_self cs)

placed_at : (before names : List (List ℕ)) (k : ℕ) (x : List ℕ) → are_fresh before names ≡ true → slice_get names k ≡ Some x → position (same x) (before ++ names) ≡ Some (length before + k)
placed_at before [] k x fresh at = cc
placed_at before (y ∷ ys) zero x fresh at =
    let one : y ≡ x = cc in
    let parts = and_parts (not (list_any (same y) before)) (are_fresh (before ++ y ∷ []) ys) fresh in
    subst (λ z. position (same z) (before ++ y ∷ ys) ≡ Some (length before + 0)) one
    (placed (same y) before y ys (untrue (list_any (same y) before) parts.0) (same_self y) ∙ ap Some (sym (add-zero (length before))))
placed_at before (y ∷ ys) (suc k) x fresh at =
    let parts = and_parts (not (list_any (same y) before)) (are_fresh (before ++ y ∷ []) ys) fresh in
    let count : length (before ++ y ∷ []) + k ≡ length before + suc k = omega (arith, length-append before (y ∷ [])) in
    ap (position (same x)) (sym (append_assoc before (y ∷ []) ys)) ∙ placed_at (before ++ y ∷ []) ys k x parts.1 at ∙ ap Some count

within : {X : Type 0} (xs : List X) (k : ℕ) → k < length xs → (x : X) × (slice_get xs k ≡ Some x)
within [] k h = absurd (omega arith)
within (x ∷ xs) zero h = (x, refl)
within (x ∷ xs) (suc k) h = within xs k (omega arith)

-- a vertical is found by its name, which is a name and not `word`
known : (s : Declarations) → IsSchema s → (k : ℕ) → k < length s.verticals
    → (position (same (vertical_name s k)) (vertical_names s) ≡ Some k) × (is_word_name (vertical_name s k) ≡ false) × (is_name (vertical_name s k) ≡ true)
known s kept k h =
    let v = within s.verticals k h in
    let named : vertical_name s k ≡ v.0.name = ap (λ o. option_map_or (λ (d : VerticalDef). d.name) o []) v.1 in
    let there : slice_get (vertical_names s) k ≡ Some v.0.name = slice_get-map (λ (d : VerticalDef). d.name) s.verticals k ∙ ap (option_map (λ (d : VerticalDef). d.name)) v.1 in
    let place = placed_at [] (vertical_names s) k v.0.name kept.verticals_apart there in
    let good = and_parts (is_name v.0.name) (not (same v.0.name (codes "word"))) (passes_at is_vertical_name (vertical_names s) k v.0.name kept.verticals_named there) in
    subst (λ name. (position (same name) (vertical_names s) ≡ Some k) × (is_word_name name ≡ false) × (is_name name ≡ true)) (sym named)
    (place ∙ ap Some (zero-add k), untrue (same v.0.name (codes "word")) good.1, good.0)

vertical_allowed : (m : ℕ) (s : Declarations) (v : VerticalDef) → is_word_name v.name ≡ false → vertical_no s v.name ≡ None → is_vertical v ≡ true → length s.verticals < 16
    → vertical_rules m s v.name v.shards v.replicas ≡ None
vertical_allowed m s v word none fits room =
    let p = and_parts (nat_le 1 v.shards && nat_le v.shards 64 && nat_le 1 v.replicas) (nat_le v.replicas 4) fits in
    let q = and_parts (nat_le 1 v.shards && nat_le v.shards 64) (nat_le 1 v.replicas) p.0 in
    by (is_word_name v.name) (is_some (vertical_no s v.name)) (nat_le 1 v.shards && nat_le v.shards 64) (nat_le 1 v.replicas) (nat_le v.replicas 4) (nat_le 16 (length s.verticals))
    word (ap is_some none) q.0 q.1 p.1 (lt-leb 16 (length s.verticals) room)
  where
    by : (w o a b c f : Bool) → w ≡ false → o ≡ false → a ≡ true → b ≡ true → c ≡ true → f ≡ false
        → refused_if (w || o) (NamedTwice m) (refused_if (not a || not (b && c)) (OutOfRange m) (refused_if f (TooMany m) None)) ≡ None
    by w o a b c f pw po pa pb pc pf = rw (pw, po, pa, pb, pc, pf) refl

-- the verticals are told, one after another
verticals_lead : (f n end : ℕ) (before rest all : List VerticalDef) → list_all is_vertical rest ≡ true → list_all is_vertical_name (map (λ v. v.name) rest) ≡ true
    → are_fresh (map (λ v. v.name) before) (map (λ v. v.name) rest) ≡ true → length before + length rest ≤ 16 → end ≡ n + length rest → all ≡ before ++ rest
    → Leads (at n (so_far f before [])) (map vertical_line rest) (at end (so_far f all []))
verticals_lead f n end before [] all fit named fresh few count is =
    let e : n ≡ end = omega arith in
    subst (λ m. Leads (at n (so_far f before [])) [] (at m (so_far f all []))) e
    (subst (λ vs. Leads (at n (so_far f before [])) [] (at n (so_far f vs []))) (sym (is ∙ append-nil before)) (stays (at n (so_far f before []))))
verticals_lead f n end before (v ∷ rest) all fit named fresh few count is =
    let fits = and_parts (is_vertical v) (list_all is_vertical rest) fit in
    let names = and_parts (is_vertical_name v.name) (list_all is_vertical_name (map (λ (d : VerticalDef). d.name) rest)) named in
    let news = and_parts (not (list_any (same v.name) (map (λ (d : VerticalDef). d.name) before))) (are_fresh (map (λ (d : VerticalDef). d.name) before ++ v.name ∷ []) (map (λ (d : VerticalDef). d.name) rest)) fresh in
    let name = and_parts (is_name v.name) (not (same v.name (codes "word"))) names.0 in
    let p = and_parts (nat_le 1 v.shards && nat_le v.shards 64 && nat_le 1 v.replicas) (nat_le v.replicas 4) fits.0 in
    let q = and_parts (nat_le 1 v.shards && nat_le v.shards 64) (nat_le 1 v.replicas) p.0 in
    let shards = leb-true v.shards 64 (and_parts (nat_le 1 v.shards) (nat_le v.shards 64) q.0).1 in
    let replicas = leb-true v.replicas 4 p.1 in
    let s = numeral v.shards shards in
    let r = numeral v.replicas (omega arith) in
    let room : length before < 16 = omega arith in
    let bound = short_line (codes "vertical") (v.name ∷ decimal v.shards ∷ decimal v.replicas ∷ []) (both_true refl (both_true (name_short v.name name.0) (both_true s.1 (both_true r.1 refl)))) in
    tells (at n (so_far f before [])) (at end (so_far f all [])) (vertical_line v) (map vertical_line rest) (Vertical v.name v.shards v.replicas) refl refl
    (omega arith)
    (codes "vertical" ∷ v.name ∷ decimal v.shards ∷ decimal v.replicas ∷ [], refl, (decimal v.shards, decimal v.replicas, refl, name.0, s.0, r.0))
    (vertical_allowed (n + 1) (so_far f before []) v (untrue (same v.name (codes "word")) name.1)
    (unplaced (same v.name) (map (λ (d : VerticalDef). d.name) before) (untrue (list_any (same v.name) (map (λ (d : VerticalDef). d.name) before)) news.0)) fits.0 room)
    (verticals_lead f (n + 1) end (before ++ v ∷ []) rest all fits.1 names.1
    (ap (λ ns. are_fresh ns (map (λ (d : VerticalDef). d.name) rest)) (map-append (λ (d : VerticalDef). d.name) before (v ∷ [])) ∙ news.1)
    (omega (arith, length-append before (v ∷ []))) (omega arith) (is ∙ sym (append_assoc before (v ∷ []) rest)))

-- a type that does not deny yet
abbrev undenied : TypeDef → TypeDef
undenied t = record t { deny = false }

-- what is known of a type's source by its name
record SourceKnown (s : Declarations) (origin : Origin) : Type 0 where
  named : is_name (source_name s origin) ≡ true
  word : is_word_name (source_name s origin) ≡ starts_at_words origin
  found : (is_word_name (source_name s origin) || is_some (position (same (source_name s origin)) (vertical_names s))) ≡ true
  origin_is : origin_of s (source_name s origin) ≡ origin

source_known : (s : Declarations) → IsSchema s → (origin : Origin) → starts_below (length s.verticals) origin ≡ true → SourceKnown s origin
source_known s kept (origins.Vertical k) below =
    let v = known s kept k (below_is k (length s.verticals) below) in
    record {
      named = v.2;
      word = v.1;
      found = by (is_word_name (vertical_name s k)) (position (same (vertical_name s k)) (vertical_names s)) v.1 v.0;
      origin_is = at (is_word_name (vertical_name s k)) (position (same (vertical_name s k)) (vertical_names s)) v.1 v.0;
    }
  where
    by : (w : Bool) (p : Option ℕ) → w ≡ false → p ≡ Some k → (w || is_some p) ≡ true
    by w p pw pp = rw (pw, pp) refl

    at : (w : Bool) (p : Option ℕ) → w ≡ false → p ≡ Some k → cond w origins.Words (origins.Vertical (unwrap_or p 0)) ≡ origins.Vertical k
    at w p pw pp = rw (pw, pp) refl
source_known s kept origins.Words below = record { named = refl; word = refl; found = refl; origin_is = refl }

word_rule : (w t i : Bool) → (not w || (t && i)) ≡ true → (w && (not t || not i)) ≡ false
word_rule false t i h = refl
word_rule true true true h = refl
word_rule true true false h = cc
word_rule true false i h = cc

names_rule : (x y : Bool) → x ≡ true → y ≡ false → (not x || y) ≡ false
names_rule x y px py = rw (px, py) refl

-- a type may be declared once more, and is told as it was
record TypeAllowed (s : Declarations) (m : ℕ) (before : List TypeDef) (t : TypeDef) : Type 0 where
  source : SourceKnown s t.origin
  target_named : is_name (vertical_name s t.target) ≡ true
  rules_none : type_rules m (so_far s.format s.verticals before) t.name (source_name s t.origin) (vertical_name s t.target) t.owner t.store ≡ None
  told_is : type_told (so_far s.format s.verticals before) t.name (source_name s t.origin) (vertical_name s t.target) t.owner t.store ≡ undenied t

type_allowed : (s : Declarations) → IsSchema s → (m : ℕ) (before : List TypeDef) (t : TypeDef) → is_type (length s.verticals) t ≡ true
    → list_any (same t.name) (map (λ d. d.name) before) ≡ false → length before < 256 → TypeAllowed s m before t
type_allowed s kept m before t fits fresh room =
    let last = and_parts (starts_below (length s.verticals) t.origin && nat_lt t.target (length s.verticals) && (not (starts_at_words t.origin) || (is_target_owner t.owner && is_index t.store))) (not t.deny || (is_index t.store && not (starts_at_words t.origin))) fits in
    let third = and_parts (starts_below (length s.verticals) t.origin && nat_lt t.target (length s.verticals)) (not (starts_at_words t.origin) || (is_target_owner t.owner && is_index t.store)) last.0 in
    let first = and_parts (starts_below (length s.verticals) t.origin) (nat_lt t.target (length s.verticals)) third.0 in
    let source = source_known s kept t.origin first.0 in
    let target = known s kept t.target (below_is t.target (length s.verticals) first.1) in
    let none = unplaced (same t.name) (map (λ (d : TypeDef). d.name) before) fresh in
    let words : (is_word_name (source_name s t.origin) && (not (is_target_owner t.owner) || not (is_index t.store))) ≡ false =
    ap (λ w. w && (not (is_target_owner t.owner) || not (is_index t.store))) source.word ∙ word_rule (starts_at_words t.origin) (is_target_owner t.owner) (is_index t.store) third.1 in
    record {
      source = source;
      target_named = target.2;
      rules_none = by (is_some (position (same t.name) (map (λ (d : TypeDef). d.name) before)))
          (not (is_word_name (source_name s t.origin) || is_some (position (same (source_name s t.origin)) (vertical_names s))) || is_none (position (same (vertical_name s t.target)) (vertical_names s)))
          (is_word_name (source_name s t.origin) && (not (is_target_owner t.owner) || not (is_index t.store)))
          (nat_le 256 (length before))
          (ap is_some none)
          (names_rule (is_word_name (source_name s t.origin) || is_some (position (same (source_name s t.origin)) (vertical_names s))) (is_none (position (same (vertical_name s t.target)) (vertical_names s))) source.found (ap is_none target.0))
          words (lt-leb 256 (length before) room);
      told_is =
          ap (λ o. record { name = t.name; origin = o; target = unwrap_or (position (same (vertical_name s t.target)) (vertical_names s)) 0; owner = t.owner; store = t.store; deny = false }) source.origin_is
          ∙ ap (λ p. record { name = t.name; origin = t.origin; target = unwrap_or p 0; owner = t.owner; store = t.store; deny = false }) target.0;
    }
  where
    by : (a b c d : Bool) → a ≡ false → b ≡ false → c ≡ false → d ≡ false
        → refused_if a (NamedTwice m) (refused_if b (UnknownVertical m) (refused_if c (WordSource m) (refused_if d (TooMany m) None))) ≡ None
    by a b c d pa pb pc pd = rw (pa, pb, pc, pd) refl

undenied_names : (ts : List TypeDef) → map (λ (d : TypeDef). d.name) (map undenied ts) ≡ map (λ (d : TypeDef). d.name) ts
undenied_names [] = refl
undenied_names (t ∷ ts) = ap (λ ns. t.name ∷ ns) (undenied_names ts)

-- the types are told, one after another
types_lead : (s : Declarations) → IsSchema s → (n end : ℕ) (before rest all : List TypeDef) → list_all (is_type (length s.verticals)) rest ≡ true → list_all is_name (map (λ d. d.name) rest) ≡ true
    → are_fresh (map (λ d. d.name) before) (map (λ d. d.name) rest) ≡ true → length before + length rest ≤ 256 → end ≡ n + length rest → all ≡ before ++ map undenied rest
    → Leads (at n (so_far s.format s.verticals before)) (map (type_line s) rest) (at end (so_far s.format s.verticals all))
types_lead s kept n end before [] all fit named fresh few count is =
    let e : n ≡ end = omega arith in
    subst (λ m. Leads (at n (so_far s.format s.verticals before)) [] (at m (so_far s.format s.verticals all))) e
    (subst (λ ts. Leads (at n (so_far s.format s.verticals before)) [] (at n (so_far s.format s.verticals ts))) (sym (is ∙ append-nil before)) (stays (at n (so_far s.format s.verticals before))))
types_lead s kept n end before (t ∷ rest) all fit named fresh few count is =
    let fits = and_parts (is_type (length s.verticals) t) (list_all (is_type (length s.verticals)) rest) fit in
    let names = and_parts (is_name t.name) (list_all is_name (map (λ (d : TypeDef). d.name) rest)) named in
    let news = and_parts (not (list_any (same t.name) (map (λ (d : TypeDef). d.name) before))) (are_fresh (map (λ (d : TypeDef). d.name) before ++ t.name ∷ []) (map (λ (d : TypeDef). d.name) rest)) fresh in
    let room : length before < 256 = omega arith in
    let may = type_allowed s kept (n + 1) before t fits.0 (untrue (list_any (same t.name) (map (λ (d : TypeDef). d.name) before)) news.0) room in
    let bound = short_line (codes "type") (t.name ∷ source_name s t.origin ∷ vertical_name s t.target ∷ owner_word t.owner ∷ store_word t.store ∷ [])
    (both_true refl (both_true (name_short t.name names.0) (both_true (name_short (source_name s t.origin) may.source.named) (both_true (name_short (vertical_name s t.target) may.target_named) (both_true (owner_short t.owner) (both_true (store_short t.store) refl)))))) in
    let later = types_lead s kept (n + 1) end (before ++ undenied t ∷ []) rest all fits.1 names.1
    (ap (λ ns. are_fresh ns (map (λ (d : TypeDef). d.name) rest)) (map-append (λ (d : TypeDef). d.name) before (undenied t ∷ [])) ∙ news.1)
    (omega (arith, length-append before (undenied t ∷ []))) (omega arith) (is ∙ sym (append_assoc before (undenied t ∷ []) (map undenied rest))) in
    tells (at n (so_far s.format s.verticals before)) (at end (so_far s.format s.verticals all)) (type_line s t) (map (type_line s) rest)
    (EdgeType t.name (source_name s t.origin) (vertical_name s t.target) t.owner t.store) refl refl
    (omega arith)
    (codes "type" ∷ t.name ∷ source_name s t.origin ∷ vertical_name s t.target ∷ owner_word t.owner ∷ store_word t.store ∷ [], refl, (refl, names.0, may.source.named, may.target_named))
    may.rules_none
    (subst (λ d. Leads (at (n + 1) (so_far s.format s.verticals (before ++ d ∷ []))) (map (type_line s) rest) (at end (so_far s.format s.verticals all))) (sym may.told_is) later)

-- how many types deny
denials-append : (xs ys : List TypeDef) → denials (xs ++ ys) ≡ denials xs + denials ys
denials-append xs ys = sum_by-append (λ (d : TypeDef). cond d.deny 1 0) xs ys

denials-undenied : (ts : List TypeDef) → denials (map undenied ts) ≡ 0
denials-undenied [] = refl
denials-undenied (t ∷ ts) = denials-cons (undenied t) (map undenied ts) ∙ zero-add (denials (map undenied ts)) ∙ denials-undenied ts

slice_get_at : {X : Type 0} (before : List X) (y : X) (ys : List X) → slice_get (before ++ y ∷ ys) (length before) ≡ Some y
slice_get_at [] y ys = refl
slice_get_at (x ∷ before) y ys = slice_get_at before y ys

length_names : (ts : List TypeDef) → length (map (λ (d : TypeDef). d.name) ts) ≡ length ts
length_names [] = refl
length_names (t ∷ ts) = ap suc (length_names ts)

denying_at : (name : List ℕ) (before : List TypeDef) (y : TypeDef) (ys : List TypeDef) → list_any (same name) (map (λ d. d.name) before) ≡ false → same name y.name ≡ true
    → denying name (before ++ y ∷ ys) ≡ before ++ denied y ∷ ys
denying_at name [] y ys h here = rw here refl
denying_at name (x ∷ before) y ys h here =
    let parts = or_parts (same name x.name) (list_any (same name) (map (λ (d : TypeDef). d.name) before)) h in
    let rest = denying_at name before y ys parts.1 here in
    rw parts.0 (ap (λ ts. x ∷ ts) rest)

-- a type that does not deny may be let deny, where the type that it becomes may
deny_allowed : (m : ℕ) (s : Declarations) (before : List TypeDef) (t : TypeDef) (rest : List TypeDef) → s.types ≡ before ++ undenied t ∷ rest
    → list_any (same t.name) (map (λ d. d.name) before) ≡ false → (is_index t.store && not (starts_at_words t.origin)) ≡ true → denials s.types < 8 → deny_rules m s t.name ≡ None
deny_allowed m s before t rest is fresh may room =
    let names : type_names s ≡ map (λ (d : TypeDef). d.name) before ++ t.name ∷ map (λ (d : TypeDef). d.name) rest =
    ap (map (λ (d : TypeDef). d.name)) is ∙ map-append (λ (d : TypeDef). d.name) before (undenied t ∷ rest) in
    let place : type_no s t.name ≡ Some (length before) =
    ap (position (same t.name)) names
    ∙ placed (same t.name) (map (λ (d : TypeDef). d.name) before) t.name (map (λ (d : TypeDef). d.name) rest) fresh (same_self t.name)
    ∙ ap Some (length_names before) in
    let there : type_at s (length before) ≡ Some (undenied t) = ap (λ ts. slice_get ts (length before)) is ∙ slice_get_at before (undenied t) rest in
    let found : option_map_or may_deny (option_and_then (type_at s) (type_no s t.name)) false ≡ true =
    ap (λ p. option_map_or may_deny (option_and_then (type_at s) p) false) place
    ∙ ap (λ o. option_map_or may_deny o false) there
    ∙ both_true may refl in
    by (nat_le 8 (denials s.types)) (option_map_or may_deny (option_and_then (type_at s) (type_no s t.name)) false) (lt-leb 8 (denials s.types) room) found
  where
    by : (full found : Bool) → full ≡ false → found ≡ true → refused_if full (TooMany m) (refused_if (not found) (BadDeny m) None) ≡ None
    by full found pf po = rw (pf, po) refl

deny_part : (deny i w : Bool) → deny ≡ true → (not deny || (i && not w)) ≡ true → (i && not w) ≡ true
deny_part true i w d h = h
deny_part false i w d h = cc

-- the types that deny are told, one after another
denies_lead : (f : ℕ) (vs : List VerticalDef) (n end : ℕ) (before rest all : List TypeDef) → list_all (is_type (length vs)) rest ≡ true → list_all is_name (map (λ d. d.name) rest) ≡ true
    → are_fresh (map (λ d. d.name) before) (map (λ d. d.name) rest) ≡ true → denials before + denials rest ≤ 8 → end ≡ n + length (deny_lines rest) → all ≡ before ++ rest
    → Leads (at n (so_far f vs (before ++ map undenied rest))) (deny_lines rest) (at end (so_far f vs all))
denies_lead f vs n end before [] all fit named fresh few count is =
    let e : n ≡ end = omega arith in
    subst (λ m. Leads (at n (so_far f vs (before ++ []))) [] (at m (so_far f vs all))) e
    (subst (λ ts. Leads (at n (so_far f vs (before ++ []))) [] (at n (so_far f vs ts))) (sym is) (stays (at n (so_far f vs (before ++ [])))))
denies_lead f vs n end before (t ∷ rest) all fit named fresh few count is =
    let fits = and_parts (is_type (length vs) t) (list_all (is_type (length vs)) rest) fit in
    let names = and_parts (is_name t.name) (list_all is_name (map (λ (d : TypeDef). d.name) rest)) named in
    let news = and_parts (not (list_any (same t.name) (map (λ (d : TypeDef). d.name) before))) (are_fresh (map (λ (d : TypeDef). d.name) before ++ t.name ∷ []) (map (λ (d : TypeDef). d.name) rest)) fresh in
    let last = and_parts (starts_below (length vs) t.origin && nat_lt t.target (length vs) && (not (starts_at_words t.origin) || (is_target_owner t.owner && is_index t.store))) (not t.deny || (is_index t.store && not (starts_at_words t.origin))) fits.0 in
    by t.deny refl count last.1 names.0 (untrue (list_any (same t.name) (map (λ (d : TypeDef). d.name) before)) news.0)
    (λ m e. denies_lead f vs m end (before ++ t ∷ []) rest all fits.1 names.1
    (ap (λ ns. are_fresh ns (map (λ (d : TypeDef). d.name) rest)) (map-append (λ (d : TypeDef). d.name) before (t ∷ [])) ∙ news.1)
    (omega (arith, denials-append before (t ∷ []), denials-cons t [], denials-cons t rest)) e (is ∙ sym (append_assoc before (t ∷ []) rest)))
  where
    by : (d : Bool) → t.deny ≡ d → end ≡ n + length (cond d (deny_line t ∷ deny_lines rest) (deny_lines rest)) → (not t.deny || (is_index t.store && not (starts_at_words t.origin))) ≡ true
        → is_name t.name ≡ true → list_any (same t.name) (map (λ d. d.name) before) ≡ false
        → ((m : ℕ) → end ≡ m + length (deny_lines rest) → Leads (at m (so_far f vs ((before ++ t ∷ []) ++ map undenied rest))) (deny_lines rest) (at end (so_far f vs all)))
        → Leads (at n (so_far f vs (before ++ undenied t ∷ map undenied rest))) (cond d (deny_line t ∷ deny_lines rest) (deny_lines rest)) (at end (so_far f vs all))
    by false is_deny ends part name new later =
        let one : undenied t ≡ t = ap (λ d. record t { deny = d }) (sym is_deny) in
        let types : before ++ undenied t ∷ map undenied rest ≡ (before ++ t ∷ []) ++ map undenied rest =
        ap (λ d. before ++ d ∷ map undenied rest) one ∙ sym (append_assoc before (t ∷ []) (map undenied rest)) in
        subst (λ ts. Leads (at n (so_far f vs ts)) (deny_lines rest) (at end (so_far f vs all))) (sym types) (later n ends)
    by true is_deny ends part name new later =
        let one : denied (undenied t) ≡ t = ap (λ d. record t { deny = d }) (sym is_deny) in
        let types : denying t.name (before ++ undenied t ∷ map undenied rest) ≡ (before ++ t ∷ []) ++ map undenied rest =
        denying_at t.name before (undenied t) (map undenied rest) new (same_self t.name)
        ∙ ap (λ d. before ++ d ∷ map undenied rest) one ∙ sym (append_assoc before (t ∷ []) (map undenied rest)) in
        let one_more : ◌≡◌ {A = ℕ} (cond t.deny 1 0) 1 = ap (λ b. cond {A = ℕ} b 1 0) is_deny in
        let room : denials (before ++ undenied t ∷ map undenied rest) < 8 =
        omega (arith, few, denials-append before (undenied t ∷ map undenied rest), denials-cons (undenied t) (map undenied rest), denials-undenied rest, denials-cons t rest, one_more) in
        let bound = short_line (codes "deny") (t.name ∷ []) (both_true refl (both_true (name_short t.name name) refl)) in
        let counted : end ≡ n + 1 + length (deny_lines rest) = omega (arith, ends) in
        tells (at n (so_far f vs (before ++ undenied t ∷ map undenied rest))) (at end (so_far f vs all)) (deny_line t) (deny_lines rest) (Deny t.name) refl refl
        (omega arith) (codes "deny" ∷ t.name ∷ [], refl, (refl, name))
        (deny_allowed (n + 1) (so_far f vs (before ++ undenied t ∷ map undenied rest)) before t (map undenied rest) refl new (deny_part t.deny (is_index t.store) (starts_at_words t.origin) is_deny part) room)
        (subst (λ ts. Leads (at (n + 1) (so_far f vs ts)) (deny_lines rest) (at end (so_far f vs all))) (sym types) (later (n + 1) counted))

format_small : (f : ℕ) → ((f == 1) || (f == 2)) ≡ true → f ≤ 64
format_small f h = grind (arith, nat_tests)

read_again : (s : Declarations) → IsSchema s → opening_of 65536 (header_lines s) ≡ opens s (length (header_lines s) + 1) []
read_again s kept =
    let f = numeral s.format (format_small s.format kept.format) in
    let start : HeaderState = at 1 (so_far s.format [] []) in
    let bound = short_line (codes "unicorn") (decimal s.format ∷ []) (both_true refl (both_true f.1 refl)) in
    let first : Leads (opening 65536) (format_line s.format ∷ []) start =
    tells (opening 65536) start (format_line s.format) [] (Format s.format) refl refl (omega arith) (codes "unicorn" ∷ decimal s.format ∷ [], refl, (decimal s.format, refl, f.0))
    (by ((s.format == 1) || (s.format == 2)) kept.format) (stays start) in
    let v : ℕ = 1 + length s.verticals in
    let t : ℕ = v + length s.types in
    let d : ℕ = t + length (deny_lines s.types) in
    let verticals = verticals_lead s.format 1 v [] s.verticals s.verticals kept.verticals kept.verticals_named kept.verticals_apart (omega (arith, kept.few_verticals)) refl refl in
    let types = types_lead s kept v t [] s.types (map undenied s.types) kept.types kept.types_named kept.types_apart (omega (arith, kept.few_types)) refl refl in
    let denies = denies_lead s.format s.verticals t d [] s.types s.types kept.types kept.types_named kept.types_apart (omega (arith, kept.few_denials)) refl refl in
    let last : HeaderState = told (at d s) Begin in
    let ends : Leads (at d s) (codes "begin" ∷ []) last = tells (at d s) last (codes "begin") [] Begin refl refl (omega arith) (codes "begin" ∷ [], refl, refl) refl (stays last) in
    let tail = leads_append (at t (so_far s.format s.verticals (map undenied s.types))) (at d s) last (deny_lines s.types) (codes "begin" ∷ []) denies ends in
    let middle = leads_append (at v (so_far s.format s.verticals [])) (at t (so_far s.format s.verticals (map undenied s.types))) last (map (type_line s) s.types) (deny_lines s.types ++ codes "begin" ∷ []) types tail in
    let body = leads_append start (at v (so_far s.format s.verticals [])) last (map vertical_line s.verticals) (map (type_line s) s.types ++ (deny_lines s.types ++ codes "begin" ∷ [])) verticals middle in
    let all = leads_append (opening 65536) start last (format_line s.format ∷ []) (map vertical_line s.verticals ++ (map (type_line s) s.types ++ (deny_lines s.types ++ codes "begin" ∷ []))) first body in
    sym (only_opening 65536 (header_lines s) (opens s (length (header_lines s) + 1) [])
    (header_lines s, sym (append-nil (header_lines s)), refl, record { last = last; leads = all; begins = refl; declares = refl }))
  where
    by : (known : Bool) → known ≡ true → refused_if (false || not known) (BadLine 1) None ≡ None
    by known is = rw is refl

-- no line of a header holds an LF
owner-unbroken : (owner : Owner) → has_lf (owner_word owner) ≡ false
owner-unbroken Source = refl
owner-unbroken Target = refl
owner-unbroken Both = refl

store-unbroken : (store : Store) → has_lf (store_word store) ≡ false
store-unbroken Index = refl
store-unbroken Forward = refl

vertical_line-unbroken : (v : VerticalDef) → is_vertical_name v.name ≡ true → has_lf (vertical_line v) ≡ false
vertical_line-unbroken v named =
    unbroken-spaced (codes "vertical" ∷ v.name ∷ decimal v.shards ∷ decimal v.replicas ∷ [])
    (rw (unbroken-name v.name (and_parts (is_name v.name) (not (same v.name (codes "word"))) named).0, unbroken-decimal v.shards, unbroken-decimal v.replicas) refl)

verticals-unbroken : (vs : List VerticalDef) → list_all is_vertical_name (map (λ v. v.name) vs) ≡ true → AreUnbroken (map vertical_line vs)
verticals-unbroken [] named = refl
verticals-unbroken (v ∷ vs) named =
    let parts = and_parts (is_vertical_name v.name) (list_all is_vertical_name (map (λ (d : VerticalDef). d.name) vs)) named in
    rw (vertical_line-unbroken v parts.0) (verticals-unbroken vs parts.1)

-- the name at a place is a vertical's, or the empty text where there is none
name_at-unbroken : (vs : List VerticalDef) (place : ℕ) → list_all is_vertical_name (map (λ v. v.name) vs) ≡ true → has_lf (option_map_or (λ (v : VerticalDef). v.name) (slice_get vs place) []) ≡ false
name_at-unbroken [] place named = refl
name_at-unbroken (v ∷ vs) zero named =
    let here = (and_parts (is_vertical_name v.name) (list_all is_vertical_name (map (λ (d : VerticalDef). d.name) vs)) named).0 in
    unbroken-name v.name (and_parts (is_name v.name) (not (same v.name (codes "word"))) here).0
name_at-unbroken (v ∷ vs) (suc place) named =
    name_at-unbroken vs place (and_parts (is_vertical_name v.name) (list_all is_vertical_name (map (λ (d : VerticalDef). d.name) vs)) named).1

source-unbroken : (s : Declarations) → IsSchema s → (origin : Origin) → has_lf (source_name s origin) ≡ false
source-unbroken s kept (origins.Vertical number) = name_at-unbroken s.verticals number kept.verticals_named
source-unbroken s kept origins.Words = refl

type_line-unbroken : (s : Declarations) → IsSchema s → (t : TypeDef) → is_name t.name ≡ true → has_lf (type_line s t) ≡ false
type_line-unbroken s kept t named =
    unbroken-spaced (codes "type" ∷ t.name ∷ source_name s t.origin ∷ vertical_name s t.target ∷ owner_word t.owner ∷ store_word t.store ∷ [])
    (rw (unbroken-name t.name named, source-unbroken s kept t.origin, name_at-unbroken s.verticals t.target kept.verticals_named, owner-unbroken t.owner, store-unbroken t.store) refl)

types-unbroken : (s : Declarations) → IsSchema s → (ts : List TypeDef) → list_all is_name (map (λ t. t.name) ts) ≡ true → AreUnbroken (map (type_line s) ts)
types-unbroken s kept [] named = refl
types-unbroken s kept (t ∷ ts) named =
    let parts = and_parts (is_name t.name) (list_all is_name (map (λ (d : TypeDef). d.name) ts)) named in
    rw (type_line-unbroken s kept t parts.0) (types-unbroken s kept ts parts.1)

denials-unbroken : (ts : List TypeDef) → list_all is_name (map (λ t. t.name) ts) ≡ true → AreUnbroken (deny_lines ts)
denials-unbroken [] named = refl
denials-unbroken (t ∷ ts) named =
    let parts = and_parts (is_name t.name) (list_all is_name (map (λ (d : TypeDef). d.name) ts)) named in
    by t.deny (unbroken-spaced (codes "deny" ∷ t.name ∷ []) (rw (unbroken-name t.name parts.0) refl)) (denials-unbroken ts parts.1)
  where
    by : (deny : Bool) → has_lf (deny_line t) ≡ false → AreUnbroken (deny_lines ts) → AreUnbroken (cond deny (deny_line t ∷ deny_lines ts) (deny_lines ts))
    by true here rest = rw here rest
    by false here rest = rest

header-unbroken : (s : Declarations) → IsSchema s → AreUnbroken (header_lines s)
header-unbroken s kept =
    none_joined has_lf (format_line s.format ∷ []) (map vertical_line s.verticals ++ (map (type_line s) s.types ++ (deny_lines s.types ++ codes "begin" ∷ [])))
    (rw (unbroken-spaced (codes "unicorn" ∷ decimal s.format ∷ []) (rw (unbroken-decimal s.format) refl)) refl)
    (none_joined has_lf (map vertical_line s.verticals) (map (type_line s) s.types ++ (deny_lines s.types ++ codes "begin" ∷ [])) (verticals-unbroken s.verticals kept.verticals_named)
    (none_joined has_lf (map (type_line s) s.types) (deny_lines s.types ++ codes "begin" ∷ []) (types-unbroken s kept s.types kept.types_named)
    (none_joined has_lf (deny_lines s.types) (codes "begin" ∷ []) (denials-unbroken s.types kept.types_named) refl)))

pub print_is_read : PrintIsRead
print_is_read = record {
  is = λ schema kept. ap (opening_of 65536) (lines_are_read.again (header_lines schema) (header-unbroken schema kept)) ∙ read_again schema kept;
}

-- of a type that fits: where it starts, and its target
pub type_starts : (count : ℕ) (t : TypeDef) → is_type count t ≡ true → starts_below count t.origin ≡ true
type_starts count t fits =
    let last = and_parts (starts_below count t.origin && nat_lt t.target count && (not (starts_at_words t.origin) || (is_target_owner t.owner && is_index t.store))) (not t.deny || (is_index t.store && not (starts_at_words t.origin))) fits in
    let third = and_parts (starts_below count t.origin && nat_lt t.target count) (not (starts_at_words t.origin) || (is_target_owner t.owner && is_index t.store)) last.0 in
    (and_parts (starts_below count t.origin) (nat_lt t.target count) third.0).0

pub type_target : (count : ℕ) (t : TypeDef) → is_type count t ≡ true → t.target < count
type_target count t fits =
    let last = and_parts (starts_below count t.origin && nat_lt t.target count && (not (starts_at_words t.origin) || (is_target_owner t.owner && is_index t.store))) (not t.deny || (is_index t.store && not (starts_at_words t.origin))) fits in
    let third = and_parts (starts_below count t.origin && nat_lt t.target count) (not (starts_at_words t.origin) || (is_target_owner t.owner && is_index t.store)) last.0 in
    below_is t.target count (and_parts (starts_below count t.origin) (nat_lt t.target count) third.0).1
