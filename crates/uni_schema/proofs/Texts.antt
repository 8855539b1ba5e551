-- Lines by their texts.
use Rattle.std.proofs.Common.{◌≡◌, ℕ, ◌==◌, ◌&&◌, ◌||◌, not, nat_le, Bool, true, false, if◌then◌else◌, List, [], ◌∷◌, Option, None, Some, IfSome, refl, ap, sym, subst, ◌∙◌, codes, arith, length}
use Rattle.std.specs.Option.{option_map, option_and_then}
use Rattle.std.specs.List.{list_all}
use Rattle.std.specs.Cmp.Lexicographic.{same_text}
use Rattle.std.specs.Str.Parse.{digits_value}
use Rattle.std.proofs.lemmas.Bool.Decides.{nat_tests}
use Rattle.std.proofs.lemmas.Bool.{and_parts}
use Rattle.uni_base.specs.Fields.{same, fields_of, spaced}
use Rattle.uni_base.specs.Words.{is_word, is_word_byte, is_digit, starts_with_letter, is_name}
use Rattle.uni_base.specs.Numbers.{number_of, is_number, starts_with_zero}
use Rattle.uni_base.proofs.FieldLemmas.{spaced-fields_of, fields_of-spaced}
use Rattle.uni_schema.specs.Lines.{name_of, owner_of, store_of, format_by, vertical_by, type_by, deny_by, begin_by, declared_by, declaration_of}
use Rattle.uni_schema.specs.Rules.{is_written}
use Rattle.uni_schema.specs.HeaderText.{IsName, IsNumeralOf, owner_word, store_word, FieldsSay, Says, LinesByText}
use Rattle.uni_schema.specs.declared.line.HeaderLine.{HeaderLine}
use Rattle.uni_schema.specs.declared.line.HeaderLine.TheVariants.{Format, Vertical, EdgeType, Deny, Begin}
use Rattle.uni_schema.specs.declared.schema.Owner.{Owner}
use Rattle.uni_schema.specs.declared.schema.Owner.TheVariants.{Source, Target, Both}
use Rattle.uni_schema.specs.declared.schema.Store.{Store}
use Rattle.uni_schema.specs.declared.schema.Store.TheVariants.{Index, Forward}

-- a name that was read is the text
name_read : (text name : List ℕ) → name_of text ≡ Some name → (text ≡ name) × IsName name
name_read text name e = by (is_name text) refl e
  where
    by : (test : Bool) → is_name text ≡ test → (if test then Some text else None) ≡ Some name → (text ≡ name) × IsName name
    by true is e = let one : text ≡ name = cc in (one, subst IsName one is)
    by false is e = cc

owner_read : (text : List ℕ) (owner : Owner) → owner_of text ≡ Some owner → text ≡ owner_word owner
owner_read text owner e = by (same text (codes "source")) (same text (codes "target")) (same text (codes "both")) refl refl refl e
  where
    by : (s t b : Bool) → same text (codes "source") ≡ s → same text (codes "target") ≡ t → same text (codes "both") ≡ b
        → (if s then Some Source else (if t then Some Target else (if b then Some Both else None))) ≡ Some owner → text ≡ owner_word owner
    by true t b is-s is-t is-b e = let one : Source ≡ owner = cc in subst (λ o. text ≡ owner_word o) one (same_text text (codes "source") (sym is-s))
    by false true b is-s is-t is-b e = let one : Target ≡ owner = cc in subst (λ o. text ≡ owner_word o) one (same_text text (codes "target") (sym is-t))
    by false false true is-s is-t is-b e = let one : Both ≡ owner = cc in subst (λ o. text ≡ owner_word o) one (same_text text (codes "both") (sym is-b))
    by false false false is-s is-t is-b e = cc

store_read : (text : List ℕ) (store : Store) → store_of text ≡ Some store → text ≡ store_word store
store_read text store e = by (same text (codes "index")) (same text (codes "forward")) refl refl e
  where
    by : (i f : Bool) → same text (codes "index") ≡ i → same text (codes "forward") ≡ f
        → (if i then Some Index else (if f then Some Forward else None)) ≡ Some store → text ≡ store_word store
    by true f is-i is-f e = let one : Index ≡ store = cc in subst (λ k. text ≡ store_word k) one (same_text text (codes "index") (sym is-i))
    by false true is-i is-f e = let one : Forward ≡ store = cc in subst (λ k. text ≡ store_word k) one (same_text text (codes "forward") (sym is-f))
    by false false is-i is-f e = cc

format_read : (fields : List (List ℕ)) (said : HeaderLine) → format_by fields ≡ Some said → FieldsSay (codes "unicorn" ∷ fields) said
format_read [] said e = cc
format_read (a ∷ []) said e = by (number_of a) refl e
  where
    by : (n : Option ℕ) → number_of a ≡ n → option_map Format n ≡ Some said → FieldsSay (codes "unicorn" ∷ a ∷ []) said
    by None is e = cc
    by (Some n) is e = let one : Format n ≡ said = cc in subst (FieldsSay (codes "unicorn" ∷ a ∷ [])) one (a, refl, is)
format_read (a ∷ b ∷ fields) said e = cc

vertical_read : (fields : List (List ℕ)) (said : HeaderLine) → vertical_by fields ≡ Some said → FieldsSay (codes "vertical" ∷ fields) said
vertical_read [] said e = cc
vertical_read (a ∷ []) said e = cc
vertical_read (a ∷ b ∷ []) said e = cc
vertical_read (a ∷ b ∷ c ∷ []) said e = by (name_of a) (number_of b) (number_of c) refl refl refl e
  where
    by : (n : Option (List ℕ)) (s r : Option ℕ) → name_of a ≡ n → number_of b ≡ s → number_of c ≡ r
        → option_and_then (λ n. option_and_then (λ s. option_map (λ r. Vertical n s r) r) s) n ≡ Some said → FieldsSay (codes "vertical" ∷ a ∷ b ∷ c ∷ []) said
    by None s r is-n is-s is-r e = cc
    by (Some n) None r is-n is-s is-r e = cc
    by (Some n) (Some s) None is-n is-s is-r e = cc
    by (Some n) (Some s) (Some r) is-n is-s is-r e =
        let one : Vertical n s r ≡ said = cc in
        let named = name_read a n is-n in
        subst (FieldsSay (codes "vertical" ∷ a ∷ b ∷ c ∷ [])) one (b, c, ap (λ x. codes "vertical" ∷ x ∷ b ∷ c ∷ []) named.0, named.1, is-s, is-r)
vertical_read (a ∷ b ∷ c ∷ d ∷ fields) said e = cc

type_read : (fields : List (List ℕ)) (said : HeaderLine) → type_by fields ≡ Some said → FieldsSay (codes "type" ∷ fields) said
type_read [] said e = cc
type_read (a ∷ []) said e = cc
type_read (a ∷ b ∷ []) said e = cc
type_read (a ∷ b ∷ c ∷ []) said e = cc
type_read (a ∷ b ∷ c ∷ d ∷ []) said e = cc
type_read (a ∷ b ∷ c ∷ d ∷ k ∷ []) said e = by (name_of a) (name_of b) (name_of c) (owner_of d) (store_of k) refl refl refl refl refl e
  where
    by : (n s t : Option (List ℕ)) (o : Option Owner) (h : Option Store) → name_of a ≡ n → name_of b ≡ s → name_of c ≡ t → owner_of d ≡ o → store_of k ≡ h
        → option_and_then (λ n. option_and_then (λ s. option_and_then (λ t. option_and_then (λ o. option_map (λ h. EdgeType n s t o h) h) o) t) s) n ≡ Some said
        → FieldsSay (codes "type" ∷ a ∷ b ∷ c ∷ d ∷ k ∷ []) said
    by None s t o h is-n is-s is-t is-o is-h e = cc
    by (Some n) None t o h is-n is-s is-t is-o is-h e = cc
    by (Some n) (Some s) None o h is-n is-s is-t is-o is-h e = cc
    by (Some n) (Some s) (Some t) None h is-n is-s is-t is-o is-h e = cc
    by (Some n) (Some s) (Some t) (Some o) None is-n is-s is-t is-o is-h e = cc
    by (Some n) (Some s) (Some t) (Some o) (Some h) is-n is-s is-t is-o is-h e =
        let one : EdgeType n s t o h ≡ said = cc in
        let named = name_read a n is-n in
        let from = name_read b s is-s in
        let to = name_read c t is-t in
        let fields : a ∷ b ∷ c ∷ d ∷ k ∷ [] ≡ n ∷ s ∷ t ∷ owner_word o ∷ store_word h ∷ [] = cc (named.0, from.0, to.0, owner_read d o is-o, store_read k h is-h) in
        subst (FieldsSay (codes "type" ∷ a ∷ b ∷ c ∷ d ∷ k ∷ [])) one (ap (λ fs. codes "type" ∷ fs) fields, named.1, from.1, to.1)
type_read (a ∷ b ∷ c ∷ d ∷ k ∷ l ∷ fields) said e = cc

deny_read : (fields : List (List ℕ)) (said : HeaderLine) → deny_by fields ≡ Some said → FieldsSay (codes "deny" ∷ fields) said
deny_read [] said e = cc
deny_read (a ∷ []) said e = by (name_of a) refl e
  where
    by : (n : Option (List ℕ)) → name_of a ≡ n → option_map Deny n ≡ Some said → FieldsSay (codes "deny" ∷ a ∷ []) said
    by None is e = cc
    by (Some n) is e =
        let one : Deny n ≡ said = cc in
        let named = name_read a n is in
        subst (FieldsSay (codes "deny" ∷ a ∷ [])) one (ap (λ x. codes "deny" ∷ x ∷ []) named.0, named.1)
deny_read (a ∷ b ∷ fields) said e = cc

begin_read : (fields : List (List ℕ)) (said : HeaderLine) → begin_by fields ≡ Some said → FieldsSay (codes "begin" ∷ fields) said
begin_read [] said e = let one : Begin ≡ said = cc in subst (FieldsSay (codes "begin" ∷ [])) one refl
begin_read (a ∷ fields) said e = cc

fields_read : (fields : List (List ℕ)) (said : HeaderLine) → declared_by fields ≡ Some said → FieldsSay fields said
fields_read [] said e = cc
fields_read (word ∷ fields) said e =
    by (same word (codes "unicorn")) (same word (codes "vertical")) (same word (codes "type")) (same word (codes "deny")) (same word (codes "begin")) refl refl refl refl refl e
  where
    at : (text : List ℕ) → same word text ≡ true → FieldsSay (text ∷ fields) said → FieldsSay (word ∷ fields) said
    at text is h = subst (λ w. FieldsSay (w ∷ fields) said) (sym (same_text word text (sym is))) h

    by : (u v t d b : Bool) → same word (codes "unicorn") ≡ u → same word (codes "vertical") ≡ v → same word (codes "type") ≡ t → same word (codes "deny") ≡ d → same word (codes "begin") ≡ b
        → (if u then format_by fields else (if v then vertical_by fields else (if t then type_by fields else (if d then deny_by fields else (if b then begin_by fields else None))))) ≡ Some said
        → FieldsSay (word ∷ fields) said
    by true v t d b is-u is-v is-t is-d is-b e = at (codes "unicorn") is-u (format_read fields said e)
    by false true t d b is-u is-v is-t is-d is-b e = at (codes "vertical") is-v (vertical_read fields said e)
    by false false true d b is-u is-v is-t is-d is-b e = at (codes "type") is-t (type_read fields said e)
    by false false false true b is-u is-v is-t is-d is-b e = at (codes "deny") is-d (deny_read fields said e)
    by false false false false true is-u is-v is-t is-d is-b e = at (codes "begin") is-b (begin_read fields said e)
    by false false false false false is-u is-v is-t is-d is-b e = cc

pub says : (line : List ℕ) (said : HeaderLine) → declaration_of line ≡ Some said → Says line said
says line said e = (fields_of line, sym (spaced-fields_of line), fields_read (fields_of line) said e)

-- what holds of each byte by one test holds by a weaker one
all_weaker : (p q : ℕ → Bool) → ((c : ℕ) → p c ≡ true → q c ≡ true) → (text : List ℕ) → list_all p text ≡ true → list_all q text ≡ true
all_weaker p q weaker [] h = refl
all_weaker p q weaker (c ∷ text) h =
    let parts = and_parts (p c) (list_all p text) h in
    rw (weaker c parts.0) (all_weaker p q weaker text parts.1)

no_space-word : (c : ℕ) → is_word_byte c ≡ true → not (c == 32) ≡ true
no_space-word c h = grind (arith, nat_tests)

no_space-digit : (c : ℕ) → is_digit c ≡ true → not (c == 32) ≡ true
no_space-digit c h = grind (arith, nat_tests)

solid_name : (name : List ℕ) → IsName name → list_all (λ c. not (c == 32)) name ≡ true
solid_name name named =
    let word = (and_parts (is_word name) (starts_with_letter name) named).0 in
    let bytes = (and_parts (nat_le 1 (length name) && nat_le (length name) 32) (list_all is_word_byte name) word).1 in
    all_weaker is_word_byte (λ c. not (c == 32)) no_space-word name bytes

solid_numeral : (text : List ℕ) (n : ℕ) → IsNumeralOf text n → list_all (λ c. not (c == 32)) text ≡ true
solid_numeral text n e = by (is_number text) refl e
  where
    by : (test : Bool) → is_number text ≡ test → (if test then Some (digits_value 10 text) else None) ≡ Some n → list_all (λ c. not (c == 32)) text ≡ true
    by true is e =
        let front = (and_parts (nat_le 1 (length text) && nat_le (length text) 20 && list_all is_digit text) (not (starts_with_zero text) || (length text == 1)) is).0 in
        let digits = (and_parts (nat_le 1 (length text) && nat_le (length text) 20) (list_all is_digit text) front).1 in
        all_weaker is_digit (λ c. not (c == 32)) no_space-digit text digits
    by false is e = cc

solid_owner : (owner : Owner) → list_all (λ c. not (c == 32)) (owner_word owner) ≡ true
solid_owner Source = refl
solid_owner Target = refl
solid_owner Both = refl

solid_store : (store : Store) → list_all (λ c. not (c == 32)) (store_word store) ≡ true
solid_store Index = refl
solid_store Forward = refl

name_given : (name : List ℕ) → IsName name → name_of name ≡ Some name
name_given name named = ap (λ b. if b then Some name else None) named

owner_given : (owner : Owner) → owner_of (owner_word owner) ≡ Some owner
owner_given Source = refl
owner_given Target = refl
owner_given Both = refl

store_given : (store : Store) → store_of (store_word store) ≡ Some store
store_given Index = refl
store_given Forward = refl

-- fields that say something are read so from their line
spaced_said : (word : List ℕ) (fields : List (List ℕ)) (said : HeaderLine) → list_all (list_all (λ c. not (c == 32))) (word ∷ fields) ≡ true → declared_by (word ∷ fields) ≡ Some said
    → declaration_of (spaced (word ∷ fields)) ≡ Some said
spaced_said word fields said clear e = ap declared_by (fields_of-spaced word fields clear) ∙ e

fields_given : (fields : List (List ℕ)) (said : HeaderLine) → FieldsSay fields said → declaration_of (spaced fields) ≡ Some said
fields_given fields (Format format) (a, is, n) =
    subst (λ fs. declaration_of (spaced fs) ≡ Some (Format format)) (sym is)
    (spaced_said (codes "unicorn") (a ∷ []) (Format format) (rw (solid_numeral a format n) refl) (ap (option_map Format) n))
fields_given fields (Vertical name shards replicas) (a, b, is, named, s, r) =
    subst (λ fs. declaration_of (spaced fs) ≡ Some (Vertical name shards replicas)) (sym is)
    (spaced_said (codes "vertical") (name ∷ a ∷ b ∷ []) (Vertical name shards replicas)
    (rw (solid_name name named, solid_numeral a shards s, solid_numeral b replicas r) refl)
    (rw (name_given name named, s, r) refl))
fields_given fields (EdgeType name source target owner store) (is, named, from, to) =
    subst (λ fs. declaration_of (spaced fs) ≡ Some (EdgeType name source target owner store)) (sym is)
    (spaced_said (codes "type") (name ∷ source ∷ target ∷ owner_word owner ∷ store_word store ∷ []) (EdgeType name source target owner store)
    (rw (solid_name name named, solid_name source from, solid_name target to, solid_owner owner, solid_store store) refl)
    (rw (name_given name named, name_given source from, name_given target to, owner_given owner, store_given store) refl))
fields_given fields (Deny name) (is, named) =
    subst (λ fs. declaration_of (spaced fs) ≡ Some (Deny name)) (sym is)
    (spaced_said (codes "deny") (name ∷ []) (Deny name) (rw (solid_name name named) refl) (rw (name_given name named) refl))
fields_given fields Begin is = subst (λ fs. declaration_of (spaced fs) ≡ Some Begin) (sym is) refl

pub heard : (line : List ℕ) (said : HeaderLine) → Says line said → declaration_of line ≡ Some said
heard line said (fields, is, say) = ap declaration_of is ∙ fields_given fields said say

pub lines_by_text : LinesByText
lines_by_text = record { is = λ line d. (says line d, heard line d) }

-- what a line says by its text declares names
written : (line : List ℕ) (said : HeaderLine) → Says line said → is_written said ≡ true
written line (Format format) (fields, is, say) = refl
written line (Vertical name shards replicas) (fields, is, (a, b, at, named, s, r)) = named
written line (EdgeType name source target owner store) (fields, is, (at, named, from, to)) = named
written line (Deny name) (fields, is, say) = refl
written line Begin (fields, is, say) = refl

pub declared_written : (line : List ℕ) (said : HeaderLine) → declaration_of line ≡ Some said → is_written said ≡ true
declared_written line said e = written line said (says line said e)

pub written_if : (line : List ℕ) (read : Option HeaderLine) → read ≡ declaration_of line → IfSome read (λ said. is_written said ≡ true)
written_if line None e = tt
written_if line (Some said) e = declared_written line said (sym e)
