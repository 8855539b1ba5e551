-- Fields that are read one after another, of which one is of no form, or each is of its form.
use Rattle.std.proofs.Common.{◌≡◌, ◌≢◌, ℕ, List, [], ◌∷◌, Option, None, Some, Ok, Err, refl, ap, sym, ◌∙◌, unwrap_or}
use Rattle.std.specs.Option.{option_map, option_and_then}
use Rattle.uni_base.specs.Numbers.{id_of, number_between}
use Rattle.uni_schema.specs.Lines.{name_of}
use Rattle.uni_schema.specs.Schema.{Declarations, vertical_no, type_no}
use Rattle.uni_table.specs.declared.command.AudienceText.{AudienceText}
use Rattle.uni_table.specs.declared.command.Command.TheVariants.{Entity, Edge}
use Rattle.feed_reader.specs.FeedText.{WrittenAudience, entity_line, edge_line, cut_line, audience_meant}
use Rattle.feed_reader.specs.Fields.{first_as, number_by}
use Rattle.feed_reader.specs.Parts.{audience_by, told}
use Rattle.feed_reader.specs.Reading.{answer, known, word_of, audience_in, until_in, entity_in, edge_in, cut_in}
use Rattle.feed_reader.specs.declared.fault.LineFault.{LineFault}
use Rattle.feed_reader.specs.declared.fault.LineFault.TheVariants.{BadLine}
use Rattle.feed_reader.specs.declared.line.FeedLine.TheVariants.{Change}
use Rattle.feed_reader.proofs.Taken.{was_read, was_not_read}

-- chains of which the last step gives nothing
stop : {A B : Type 0} (step : A → Option B) (first : Option A) → ((a : A) → step a ≡ None) → option_and_then step first ≡ None
stop step None none = refl
stop step (Some a) none = none a

skip : {A B : Type 0} (step : A → B) (first : Option A) → first ≡ None → option_map step first ≡ None
skip step first none = ap (option_map step) none

-- the target of a `cut`
no_cut_target : (type_name key : List ℕ) (left : List (List ℕ)) → first_as id_of left ≡ None → cut_in (type_name ∷ key ∷ left) ≡ None
no_cut_target type_name key [] none = refl
no_cut_target type_name key (target ∷ []) none =
    stop _ (name_of type_name) (λ n. stop _ (word_of key) (λ k. skip (λ t. cut_line n k t) (id_of target) (was_not_read id_of target [] none)))
no_cut_target type_name key (target ∷ more ∷ rest) none = refl

pub cut_target : (schema : Declarations) (fields second third : List (List ℕ)) (number : Option ℕ) (key : List ℕ)
    → first_as (number_by (type_no schema)) fields ≡ Some (number, second) → first_as word_of second ≡ Some (key, third) → first_as id_of third ≡ None → cut_in fields ≡ None
cut_target schema fields second third number key is-number is-key none =
    let one = was_read (number_by (type_no schema)) fields number second is-number in
    let two = was_read word_of second key third is-key in
    ap cut_in (one.1 ∙ ap (λ r. one.0 ∷ r) two.1) ∙ no_cut_target one.0 two.0 third none

-- the id and the rank of an entity
no_id : (vertical : List ℕ) (left : List (List ℕ)) → first_as id_of left ≡ None → entity_in (vertical ∷ left) ≡ None
no_id vertical [] none = refl
no_id vertical (id ∷ []) none = refl
no_id vertical (id ∷ rank ∷ []) none =
    stop _ (name_of vertical) (λ v. ap (option_and_then (λ i. option_map (λ r. entity_line v i r) (number_between 0 4294967295 rank))) (was_not_read id_of id (rank ∷ []) none))
no_id vertical (id ∷ rank ∷ more ∷ rest) none = refl

pub entity_id : (schema : Declarations) (fields second : List (List ℕ)) (number : Option ℕ)
    → first_as (number_by (vertical_no schema)) fields ≡ Some (number, second) → first_as id_of second ≡ None → entity_in fields ≡ None
entity_id schema fields second number is-number none =
    let one = was_read (number_by (vertical_no schema)) fields number second is-number in
    ap entity_in one.1 ∙ no_id one.0 second none

no_rank : (vertical id : List ℕ) (left : List (List ℕ)) → first_as (number_between 0 4294967295) left ≡ None → entity_in (vertical ∷ id ∷ left) ≡ None
no_rank vertical id [] none = refl
no_rank vertical id (rank ∷ []) none =
    stop _ (name_of vertical) (λ v. stop _ (id_of id) (λ i. skip (λ r. entity_line v i r) (number_between 0 4294967295 rank) (was_not_read (number_between 0 4294967295) rank [] none)))
no_rank vertical id (rank ∷ more ∷ rest) none = refl

pub entity_rank : (schema : Declarations) (fields second third : List (List ℕ)) (number : Option ℕ) (id : ℕ)
    → first_as (number_by (vertical_no schema)) fields ≡ Some (number, second) → first_as id_of second ≡ Some (id, third)
    → first_as (number_between 0 4294967295) third ≡ None → entity_in fields ≡ None
entity_rank schema fields second third number id is-number is-id none =
    let one = was_read (number_by (vertical_no schema)) fields number second is-number in
    let two = was_read id_of second id third is-id in
    ap entity_in (one.1 ∙ ap (λ r. one.0 ∷ r) two.1) ∙ no_rank one.0 two.0 third none

too_many : (vertical id rank : List ℕ) (left : List (List ℕ)) → left ≢ [] → entity_in (vertical ∷ id ∷ rank ∷ left) ≡ None
too_many vertical id rank [] some = absurd (some refl)
too_many vertical id rank (more ∷ rest) some = refl

pub entity_end : (schema : Declarations) (fields second third left : List (List ℕ)) (number : Option ℕ) (id rank : ℕ)
    → first_as (number_by (vertical_no schema)) fields ≡ Some (number, second) → first_as id_of second ≡ Some (id, third)
    → first_as (number_between 0 4294967295) third ≡ Some (rank, left) → left ≢ [] → entity_in fields ≡ None
entity_end schema fields second third left number id rank is-number is-id is-rank some =
    let one = was_read (number_by (vertical_no schema)) fields number second is-number in
    let two = was_read id_of second id third is-id in
    let three = was_read (number_between 0 4294967295) third rank left is-rank in
    ap entity_in (one.1 ∙ ap (λ r. one.0 ∷ r) (two.1 ∙ ap (λ r. two.0 ∷ r) three.1)) ∙ too_many one.0 two.0 three.0 left some

pub entity_told : (schema : Declarations) (fields second third left : List (List ℕ)) (number : Option ℕ) (id rank : ℕ)
    → first_as (number_by (vertical_no schema)) fields ≡ Some (number, second) → first_as id_of second ≡ Some (id, third)
    → first_as (number_between 0 4294967295) third ≡ Some (rank, left) → left ≡ []
    → answer schema (entity_in fields) ≡ known (option_map (λ no. Change (Entity no id (record { 0 = rank }))) number)
entity_told schema fields second third left number id rank is-number is-id is-rank none =
    let one = was_read (number_by (vertical_no schema)) fields number second is-number in
    let two = was_read id_of second id third is-id in
    let three = was_read (number_between 0 4294967295) third rank left is-rank in
    ap (λ f. answer schema (entity_in f)) (one.1 ∙ ap (λ r. one.0 ∷ r) (two.1 ∙ ap (λ r. two.0 ∷ r) (three.1 ∙ ap (λ r. three.0 ∷ r) none)))
    ∙ by (name_of one.0) (id_of two.0) (number_between 0 4294967295 three.0) one.2 two.2 three.2
  where
    by : (name : Option (List ℕ)) (i r : Option ℕ) → option_map (vertical_no schema) name ≡ Some number → i ≡ Some id → r ≡ Some rank
        → answer schema (option_and_then (λ n. option_and_then (λ e. option_map (λ k. entity_line n e k) r) i) name)
        ≡ known (option_map (λ no. Change (Entity no id (record { 0 = rank }))) number)
    by None i r p q s = cc
    by (Some n) i r p q s =
        let is-no : vertical_no schema n ≡ number = cc in
        ap (λ e. answer schema (option_and_then (λ e. option_map (λ k. entity_line n e k) r) e)) q
        ∙ ap (λ k. answer schema (option_map (λ k. entity_line n id k) k)) s
        ∙ ap (λ no. known (option_map (λ no. Change (Entity no id (record { 0 = rank }))) no)) is-no

-- the target, the audience and the end of an edge
no_target : (format : ℕ) (type_name key : List ℕ) (left : List (List ℕ)) → first_as id_of left ≡ None → edge_in format (type_name ∷ key ∷ left) ≡ None
no_target format type_name key [] none = refl
no_target format type_name key (target ∷ []) none = refl
no_target format type_name key (target ∷ audience ∷ until) none =
    stop _ (name_of type_name) (λ n. stop _ (word_of key) (λ k. ap (option_and_then (λ t. option_and_then (λ a. option_map (λ u. edge_line n k t a u) (until_in format until)) (audience_in audience)))
    (was_not_read id_of target (audience ∷ until) none)))

pub edge_target : (schema : Declarations) (format : ℕ) (fields second third : List (List ℕ)) (number : Option ℕ) (key : List ℕ)
    → first_as (number_by (type_no schema)) fields ≡ Some (number, second) → first_as word_of second ≡ Some (key, third) → first_as id_of third ≡ None → edge_in format fields ≡ None
edge_target schema format fields second third number key is-number is-key none =
    let one = was_read (number_by (type_no schema)) fields number second is-number in
    let two = was_read word_of second key third is-key in
    ap (edge_in format) (one.1 ∙ ap (λ r. one.0 ∷ r) two.1) ∙ no_target format one.0 two.0 third none

no_meaning : (schema : Declarations) (audience : List ℕ) → audience_by schema audience ≡ None → audience_in audience ≡ None
no_meaning schema audience none = by (audience_in audience) none
  where
    by : (written : Option WrittenAudience) → option_map (audience_meant schema) written ≡ None → written ≡ None
    by None e = refl
    by (Some a) e = cc

no_audience : (schema : Declarations) (format : ℕ) (type_name key target : List ℕ) (left : List (List ℕ)) → first_as (audience_by schema) left ≡ None
    → edge_in format (type_name ∷ key ∷ target ∷ left) ≡ None
no_audience schema format type_name key target [] none = refl
no_audience schema format type_name key target (audience ∷ until) none =
    stop _ (name_of type_name) (λ n. stop _ (word_of key) (λ k. stop _ (id_of target) (λ t. ap (option_and_then (λ a. option_map (λ u. edge_line n k t a u) (until_in format until)))
    (no_meaning schema audience (was_not_read (audience_by schema) audience until none)))))

pub edge_audience : (schema : Declarations) (format : ℕ) (fields second third fourth : List (List ℕ)) (number : Option ℕ) (key : List ℕ) (target : ℕ)
    → first_as (number_by (type_no schema)) fields ≡ Some (number, second) → first_as word_of second ≡ Some (key, third) → first_as id_of third ≡ Some (target, fourth)
    → first_as (audience_by schema) fourth ≡ None → edge_in format fields ≡ None
edge_audience schema format fields second third fourth number key target is-number is-key is-target none =
    let one = was_read (number_by (type_no schema)) fields number second is-number in
    let two = was_read word_of second key third is-key in
    let three = was_read id_of third target fourth is-target in
    ap (edge_in format) (one.1 ∙ ap (λ r. one.0 ∷ r) (two.1 ∙ ap (λ r. two.0 ∷ r) three.1)) ∙ no_audience schema format one.0 two.0 three.0 fourth none

-- the fields of an edge that are left after its audience
record EdgeRead (schema : Declarations) (fields left : List (List ℕ)) (number : Option ℕ) (key : List ℕ) (target : ℕ) (meant : Option AudienceText) : Type 0 where
  type_name : List ℕ
  word : List ℕ
  id : List ℕ
  audience : List ℕ
  shape : fields ≡ type_name ∷ word ∷ id ∷ audience ∷ left
  is-number : option_map (type_no schema) (name_of type_name) ≡ Some number
  is-key : word_of word ≡ Some key
  is-target : id_of id ≡ Some target
  is-audience : option_map (audience_meant schema) (audience_in audience) ≡ Some meant

edge_read : (schema : Declarations) (fields second third fourth left : List (List ℕ)) (number : Option ℕ) (key : List ℕ) (target : ℕ) (meant : Option AudienceText)
    → first_as (number_by (type_no schema)) fields ≡ Some (number, second) → first_as word_of second ≡ Some (key, third) → first_as id_of third ≡ Some (target, fourth)
    → first_as (audience_by schema) fourth ≡ Some (meant, left) → EdgeRead schema fields left number key target meant
edge_read schema fields second third fourth left number key target meant is-number is-key is-target is-audience =
    let one = was_read (number_by (type_no schema)) fields number second is-number in
    let two = was_read word_of second key third is-key in
    let three = was_read id_of third target fourth is-target in
    let four = was_read (audience_by schema) fourth meant left is-audience in
    record {
      type_name = one.0;
      word = two.0;
      id = three.0;
      audience = four.0;
      shape = one.1 ∙ ap (λ r. one.0 ∷ r) (two.1 ∙ ap (λ r. two.0 ∷ r) (three.1 ∙ ap (λ r. three.0 ∷ r) four.1));
      is-number = one.2;
      is-key = two.2;
      is-target = three.2;
      is-audience = four.2;
    }

untold : (until : Option (Option ℕ)) (fault : LineFault) → told (option_map (λ end. unwrap_or end 0) until) ≡ Err fault → (until ≡ None) × (fault ≡ BadLine)
untold None fault e = (refl, cc)
untold (Some u) fault e = cc

pub edge_until : (schema : Declarations) (fields second third fourth left : List (List ℕ)) (number : Option ℕ) (key : List ℕ) (target : ℕ) (meant : Option AudienceText) (fault : LineFault)
    → first_as (number_by (type_no schema)) fields ≡ Some (number, second) → first_as word_of second ≡ Some (key, third) → first_as id_of third ≡ Some (target, fourth)
    → first_as (audience_by schema) fourth ≡ Some (meant, left) → told (option_map (λ end. unwrap_or end 0) (until_in schema.format left)) ≡ Err fault
    → Err fault ≡ answer schema (edge_in schema.format fields)
edge_until schema fields second third fourth left number key target meant fault is-number is-key is-target is-audience is-until =
    let read = edge_read schema fields second third fourth left number key target meant is-number is-key is-target is-audience in
    let none = untold (until_in schema.format left) fault is-until in
    ap Err none.1
    ∙ sym (ap (λ f. answer schema (edge_in schema.format f)) read.shape
    ∙ ap (answer schema) (stop _ (name_of read.type_name) (λ n. stop _ (word_of read.word) (λ k. stop _ (id_of read.id) (λ t. stop _ (audience_in read.audience)
    (λ a. skip (λ u. edge_line n k t a u) (until_in schema.format left) none.0))))))

-- what the fields of an edge give, each of which is of its form
pub edge_told : (schema : Declarations) (fields second third fourth left : List (List ℕ)) (number : Option ℕ) (k : List ℕ) (t : ℕ) (meant : Option AudienceText) (u : ℕ)
    → first_as (number_by (type_no schema)) fields ≡ Some (number, second) → first_as word_of second ≡ Some (k, third) → first_as id_of third ≡ Some (t, fourth)
    → first_as (audience_by schema) fourth ≡ Some (meant, left) → told (option_map (λ end. unwrap_or end 0) (until_in schema.format left)) ≡ Ok u
    → answer schema (edge_in schema.format fields) ≡ known (option_and_then (λ no. option_map (λ a. Change (Edge no k t a u)) meant) number)
edge_told schema fields second third fourth left number k t meant u is-number is-key is-target is-audience is-until =
    let read = edge_read schema fields second third fourth left number k t meant is-number is-key is-target is-audience in
    ap (λ f. answer schema (edge_in schema.format f)) read.shape
    ∙ by (name_of read.type_name) (word_of read.word) (id_of read.id) (audience_in read.audience) (until_in schema.format left)
    read.is-number read.is-key read.is-target read.is-audience is-until
  where
    by : (name word : Option (List ℕ)) (id : Option ℕ) (written : Option WrittenAudience) (end : Option (Option ℕ))
        → option_map (type_no schema) name ≡ Some number → word ≡ Some k → id ≡ Some t → option_map (audience_meant schema) written ≡ Some meant
        → told (option_map (λ e. unwrap_or e 0) end) ≡ Ok u
        → answer schema (option_and_then (λ n. option_and_then (λ w. option_and_then (λ i. option_and_then (λ a. option_map (λ e. edge_line n w i a e) end) written) id) word) name)
        ≡ known (option_and_then (λ no. option_map (λ a. Change (Edge no k t a u)) meant) number)
    by None word id written end p q r s v = cc
    by (Some n) None id written end p q r s v = cc
    by (Some n) (Some w) None written end p q r s v = cc
    by (Some n) (Some w) (Some i) None end p q r s v = cc
    by (Some n) (Some w) (Some i) (Some a) None p q r s v = cc
    by (Some n) (Some w) (Some i) (Some a) (Some e) p q r s v =
        let is-no : type_no schema n ≡ number = cc in
        let is-k : w ≡ k = cc in
        let is-t : i ≡ t = cc in
        let is-a : audience_meant schema a ≡ meant = cc in
        let is-u : unwrap_or e 0 ≡ u = cc in
        ap (λ no. known (option_and_then (λ number. option_map (λ audience. Change (Edge number w i audience (unwrap_or e 0))) (audience_meant schema a)) no)) is-no
        ∙ ap (λ m. known (option_and_then (λ no. option_map (λ audience. Change (Edge no w i audience (unwrap_or e 0))) m) number)) is-a
        ∙ ap (λ x. known (option_and_then (λ no. option_map (λ audience. Change (Edge no x i audience (unwrap_or e 0))) meant) number)) is-k
        ∙ ap (λ x. known (option_and_then (λ no. option_map (λ audience. Change (Edge no k x audience (unwrap_or e 0))) meant) number)) is-t
        ∙ ap (λ x. known (option_and_then (λ no. option_map (λ audience. Change (Edge no k t audience x)) meant) number)) is-u
