-- A layer of the rows that differ makes of a table the other one, key by key.
use Rattle.std.proofs.Common.{◌≡◌, Bool, true, false, not, cond, if◌then◌else◌, ◌||◌, ◌&&◌, ◌⊎◌, inl, inr, List, [], ◌∷◌, ◌++◌, Option, None, Some, is_some, refl, sym, ◌∙◌, ap, subst, append-nil}
use Rattle.std.proofs.lemmas.List.Elements.{All-contains_itself, recursion_from_All, filter_map-append}
use Rattle.std.specs.Cmp.{IsTotalOrder, tied_itself}
use Rattle.std.specs.declared.cmp.Ordering.{Ordering}
use Rattle.std.specs.FinMap as finite
use Rattle.std.specs.List.{AllByRecursion, Contains, filter_map, cons_option, list_any}
use Rattle.std.specs.Ordering.{eq_by_cmp, is_eq}
use Rattle.uni_table.proofs.Listed.{none_in_nil, first_or_later}
use Rattle.layer_base.specs.Layers.{TellsApart, from_log}
use Rattle.layer_base.specs.Lookups.{either}
use Rattle.layer_base.proofs.Tables.{from_log-push}
use Rattle.shard_index.specs.Differences.{with_row, noting, dropped, added, layer_from}
use Rattle.shard_index.specs.Touched.{same_rows}
use Rattle.shard_index.proofs.LoggedMaps.{equal_of, Agree, stands_there, logged_is}

-- ---- one change more

logged_more : {K X : Type 0} {R : K → K → Ordering} (log : List (K × X)) (row : Option (K × X)) → with_row (from_log {R = R} log) row ≡ from_log (log ++ cons_option row [])
logged_more {R = R} log None = ap (from_log {R = R}) (sym (append-nil log))
logged_more log (Some row) = sym (from_log-push log row.0 row.1)

module _ {C K X : Type 0} {R : K → K → Ordering} (same : X → X → Bool) (was now : C → Option (K × X)) (changes : List C) (c : C) where
  pub deleted_more : with_row (layer_from R same was now changes).deletes (dropped R same (was c) (now c)) ≡ (layer_from R same was now (changes ++ c ∷ [])).deletes
  deleted_more =
      logged_more (filter_map (λ d. dropped R same (was d) (now d)) changes) (dropped R same (was c) (now c))
      ∙ ap (from_log {R = R}) (sym (filter_map-append (λ d. dropped R same (was d) (now d)) changes (c ∷ [])))

  pub put_more : with_row (layer_from R same was now changes).puts (added R same (was c) (now c)) ≡ (layer_from R same was now (changes ++ c ∷ [])).puts
  put_more =
      logged_more (filter_map (λ d. added R same (was d) (now d)) changes) (added R same (was c) (now c))
      ∙ ap (from_log {R = R}) (sym (filter_map-append (λ d. added R same (was d) (now d)) changes (c ∷ [])))

  pub noted_more : noting (layer_from R same was now changes) (dropped R same (was c) (now c)) (added R same (was c) (now c)) ≡ layer_from R same was now (changes ++ c ∷ [])
  noted_more = λ j. record { deletes = deleted_more j; puts = put_more j }

-- ---- what is said of one key

pub any_row : {C Y : Type 0} (f : C → Option Y) (test : Y → Bool) (cs : List C) (c : C) (row : Y) → Contains cs c → f c ≡ Some row → test row ≡ true → list_any test (filter_map f cs) ≡ true
any_row f test [] c row there is t = absurd (none_in_nil c there)
any_row {C} {Y} f test (d ∷ cs) c row there is t = by (first_or_later d cs c there) (λ later. any_row f test cs c row later is t)
  where
    by : (d ≡ c) ⊎ Contains cs c → (Contains cs c → list_any test (filter_map f cs) ≡ true) → list_any test (cons_option (f d) (filter_map f cs)) ≡ true
    by (inl same) more = ap (λ o. list_any test (cons_option o (filter_map f cs))) (ap f same ∙ is) ∙ ap (λ b. b || list_any test (filter_map f cs)) t
    by (inr later) more = next (f d) (more later)
      where
        next : (o : Option Y) → list_any test (filter_map f cs) ≡ true → list_any test (cons_option o (filter_map f cs)) ≡ true
        next None e = e
        next (Some y) e = last (test y) e
          where
            last : (b : Bool) → list_any test (filter_map f cs) ≡ true → (b || list_any test (filter_map f cs)) ≡ true
            last true g = refl
            last false g = g

contrary : {A : Type 0} (b : Bool) → b ≡ true → b ≡ false → A
contrary true t f = cc
contrary false t f = cc

module _ {K X : Type 0} {R : K → K → Ordering} (o : IsTotalOrder R) (apart : TellsApart R) (same : X → X → Bool) (exact : (x y : X) → same x y ≡ true → x ≡ y) (itself : (x : X) → same x x ≡ true) where
  at_same : (x y : K) → eq_by_cmp R x y ≡ true → x ≡ y
  at_same x y t = apart x y (equal_of (R x y) t)

  same_at : (x y : K) → x ≡ y → eq_by_cmp R x y ≡ true
  same_at x y e = subst (λ (z : K). eq_by_cmp R x z ≡ true) e (ap is_eq (tied_itself o x))

  -- whether two answers are the same is decided
  pub decided : (x y : Option X) → (x ≡ y) ⊎ (x ≡ y → ⊥)
  decided None None = inl refl
  decided None (Some y) = inr (λ e. cc)
  decided (Some x) None = inr (λ e. cc)
  decided (Some x) (Some y) = by (same x y) refl
    where
      by : (b : Bool) → same x y ≡ b → (Some x ≡ Some y) ⊎ (Some x ≡ Some y → ⊥)
      by true t = inl (ap Some (exact x y t))
      by false t = inr (λ e. let is : x ≡ y = cc in contrary (same x y) (subst (λ (z : X). same x z ≡ true) is (itself x)) t)

  -- what is put and what is deleted at a key, by what it has before and after
  abbrev pub put_said : Option X → Option X → Option X
  put_said None before = None
  put_said (Some x) None = Some x
  put_said (Some x) (Some y) = if same y x then None else Some x

  abbrev pub delete_said : Option X → Option X → Option (Unit {0})
  delete_said None after = None
  delete_said (Some y) None = Some tt
  delete_said (Some y) (Some x) = None

  said : (before after : Option X) → either (put_said after before) (cond (is_some (delete_said before after)) None before) ≡ after
  said None None = refl
  said None (Some x) = refl
  said (Some y) None = refl
  said (Some y) (Some x) = by (same y x) refl
    where
      by : (b : Bool) → same y x ≡ b → either (if b then None else Some x) (Some y) ≡ Some x
      by true t = ap Some (exact y x t)
      by false t = refl

  unchanged : (before after : Option X) → before ≡ after → put_said after before ≡ None
  unchanged None None e = refl
  unchanged None (Some x) e = cc
  unchanged (Some y) None e = refl
  unchanged (Some y) (Some x) e = let is : y ≡ x = cc in ap (λ b. if b then None else Some x) (subst (λ (z : X). same y z ≡ true) is (itself y))

  undeleted : (before after : Option X) → before ≡ after → delete_said before after ≡ None
  undeleted None after e = refl
  undeleted (Some y) None e = cc
  undeleted (Some y) (Some x) e = refl

  -- a key that is deleted has a value before, and another or none after
  delete_differs : (before after : Option X) → is_some (delete_said before after) ≡ true → (not (same_rows same before after) ≡ true) × (is_some before ≡ true)
  delete_differs None after t = cc
  delete_differs (Some y) None t = (refl, refl)
  delete_differs (Some y) (Some x) t = cc

  -- a key where a value is put has it after, and another or none before
  put_differs : (before after : Option X) → is_some (put_said after before) ≡ true → (not (same_rows same before after) ≡ true) × (is_some after ≡ true)
  put_differs None None t = cc
  put_differs None (Some x) t = (refl, refl)
  put_differs (Some y) None t = cc
  put_differs (Some y) (Some x) t = by (same y x) refl t
    where
      by : (b : Bool) → same y x ≡ b → is_some (if b then None else Some x) ≡ true → (not (same y x) ≡ true) × (is_some (Some x) ≡ true)
      by true e f = cc
      by false e f = (ap not e, refl)

  module _ (q : K) where
    -- what a row says of the key
    abbrev pub at_key : Option (K × X) → Option X
    at_key None = None
    at_key (Some row) = if eq_by_cmp R q row.0 then Some row.1 else None

    at_here : (row : K × X) → eq_by_cmp R q row.0 ≡ true → at_key (Some row) ≡ Some row.1
    at_here row t = ap (λ b. if b then Some row.1 else None) t

    at_other : (row : K × X) → eq_by_cmp R q row.0 ≡ false → at_key (Some row) ≡ None
    at_other row t = ap (λ b. if b then Some row.1 else None) t

    apart_from : (x y : K) → eq_by_cmp R q x ≡ true → eq_by_cmp R x y ≡ false → eq_by_cmp R q y ≡ false
    apart_from x y t f = ap (λ z. eq_by_cmp R z y) (at_same q x t) ∙ f

    here_too : (x y : K) → eq_by_cmp R q y ≡ true → eq_by_cmp R x y ≡ true → eq_by_cmp R q x ≡ true
    here_too x y t e = same_at q x (at_same q y t ∙ sym (at_same x y e))

    not_here : (x y : K) → eq_by_cmp R q y ≡ true → eq_by_cmp R x y ≡ false → eq_by_cmp R q x ≡ false
    not_here x y t f = by (eq_by_cmp R q x) refl
      where
        by : (b : Bool) → eq_by_cmp R q x ≡ b → eq_by_cmp R q x ≡ false
        by true e = contrary (eq_by_cmp R x y) (same_at x y (sym (at_same q x e) ∙ at_same q y t)) f
        by false e = e

    record PutAt (w n : Option (K × X)) (row : K × X) : Type 0 where
      now_is : at_key n ≡ Some row.1
      is : put_said (at_key n) (at_key w) ≡ Some row.1

    put_at : (w n : Option (K × X)) (row : K × X) → added R same w n ≡ Some row → eq_by_cmp R q row.0 ≡ true → PutAt w n row
    put_at w None row e t = cc
    put_at None (Some n) row e t =
        let is : n ≡ row = cc in
        let here = at_here n (subst (λ (r : K × X). eq_by_cmp R q r.0 ≡ true) (sym is) t) ∙ ap (λ (r : K × X). Some r.1) is in
        record { now_is = here; is = ap (λ a. put_said a None) here }
    put_at (Some w) (Some n) row e t = by (eq_by_cmp R w.0 n.0) refl (same w.1 n.1) refl e
      where
        by : (a : Bool) → eq_by_cmp R w.0 n.0 ≡ a → (b : Bool) → same w.1 n.1 ≡ b → (if a && b then None else Some n) ≡ Some row → PutAt (Some w) (Some n) row
        by true s true u f = cc
        by true s false u f =
            let is : n ≡ row = cc in
            let there : eq_by_cmp R q n.0 ≡ true = subst (λ (r : K × X). eq_by_cmp R q r.0 ≡ true) (sym is) t in
            record {
              now_is = at_here n there ∙ ap (λ (r : K × X). Some r.1) is;
              is = (λ i. put_said (at_here n there i) (at_here w (here_too w.0 n.0 there s) i)) ∙ ap (λ b. if b then None else Some n.1) u ∙ ap (λ (r : K × X). Some r.1) is;
            }
        by false s b u f =
            let is : n ≡ row = cc in
            let there : eq_by_cmp R q n.0 ≡ true = subst (λ (r : K × X). eq_by_cmp R q r.0 ≡ true) (sym is) t in
            record {
              now_is = at_here n there ∙ ap (λ (r : K × X). Some r.1) is;
              is = (λ i. put_said (at_here n there i) (at_other w (not_here w.0 n.0 there s) i)) ∙ ap (λ (r : K × X). Some r.1) is;
            }

    record RowAt {Y : Type 0} (found : Option (K × Y)) : Type 0 where
      row : K × Y
      is : found ≡ Some row
      here : eq_by_cmp R q row.0 ≡ true

    put_from : (w n : Option (K × X)) (x : X) → put_said (at_key n) (at_key w) ≡ Some x → RowAt (added R same w n)
    put_from w None x e = cc
    put_from None (Some n) x e = by (eq_by_cmp R q n.0) refl e
      where
        by : (b : Bool) → eq_by_cmp R q n.0 ≡ b → put_said (if b then Some n.1 else None) None ≡ Some x → RowAt (Some n)
        by true t f = record { row = n; is = refl; here = t }
        by false t f = cc
    put_from (Some w) (Some n) x e = by (eq_by_cmp R q n.0) refl (eq_by_cmp R w.0 n.0) refl (same w.1 n.1) refl e
      where
        by : (h : Bool) → eq_by_cmp R q n.0 ≡ h → (a : Bool) → eq_by_cmp R w.0 n.0 ≡ a → (b : Bool) → same w.1 n.1 ≡ b → put_said (if h then Some n.1 else None) (at_key (Some w)) ≡ Some x → RowAt (added R same (Some w) (Some n))
        by false t a s b u f = cc
        by true t true s true u f =
            let none : None ≡ Some x = sym (ap (λ c. if c then None else Some n.1) u) ∙ sym (ap (put_said (Some n.1)) (at_here w (here_too w.0 n.0 t s))) ∙ f in cc
        by true t true s false u f = record { row = n; is = λ i. if s i && u i then None else Some n; here = t }
        by true t false s b u f = record { row = n; is = λ i. if s i && same w.1 n.1 then None else Some n; here = t }

    record DeleteAt (w n : Option (K × X)) (row : K × Unit {0}) : Type 0 where
      was : is_some (at_key w) ≡ true
      is : delete_said (at_key w) (at_key n) ≡ Some row.1

    delete_at : (w n : Option (K × X)) (row : K × Unit {0}) → dropped R same w n ≡ Some row → eq_by_cmp R q row.0 ≡ true → DeleteAt w n row
    delete_at None n row e t = cc
    delete_at (Some w) None row e t =
        let is : (w.0, tt) ≡ row = cc in
        let there = at_here w (subst (λ (r : K × Unit {0}). eq_by_cmp R q r.0 ≡ true) (sym is) t) in
        record { was = ap is_some there; is = ap (λ a. delete_said a None) there ∙ ap (λ (r : K × Unit {0}). Some r.1) is }
    delete_at (Some w) (Some n) row e t = by (eq_by_cmp R w.0 n.0) refl e
      where
        by : (a : Bool) → eq_by_cmp R w.0 n.0 ≡ a → (if a then None else Some (w.0, tt)) ≡ Some row → DeleteAt (Some w) (Some n) row
        by true s f = cc
        by false s f =
            let is : (w.0, tt) ≡ row = cc in
            let here : eq_by_cmp R q w.0 ≡ true = subst (λ (r : K × Unit {0}). eq_by_cmp R q r.0 ≡ true) (sym is) t in
            record {
              was = ap is_some (at_here w here);
              is = (λ i. delete_said (at_here w here i) (at_other n (apart_from w.0 n.0 here s) i)) ∙ ap (λ (r : K × Unit {0}). Some r.1) is;
            }

    delete_from : (w n : Option (K × X)) (u : Unit {0}) → delete_said (at_key w) (at_key n) ≡ Some u → RowAt (dropped R same w n)
    delete_from None n u e = cc
    delete_from (Some w) None u e = by (eq_by_cmp R q w.0) refl e
      where
        by : (b : Bool) → eq_by_cmp R q w.0 ≡ b → delete_said (if b then Some w.1 else None) None ≡ Some u → RowAt (dropped R same (Some w) None)
        by true t f = record { row = (w.0, tt); is = refl; here = t }
        by false t f = cc
    delete_from (Some w) (Some n) u e = by (eq_by_cmp R q w.0) refl (eq_by_cmp R w.0 n.0) refl e
      where
        by : (b : Bool) → eq_by_cmp R q w.0 ≡ b → (a : Bool) → eq_by_cmp R w.0 n.0 ≡ a → delete_said (if b then Some w.1 else None) (at_key (Some n)) ≡ Some u → RowAt (dropped R same (Some w) (Some n))
        by false t a s f = cc
        by true t true s f =
            let there : eq_by_cmp R q n.0 ≡ true = same_at q n.0 (at_same q w.0 t ∙ at_same w.0 n.0 s) in
            let none : None ≡ Some u = sym (ap (delete_said (Some w.1)) (at_here n there)) ∙ f in cc
        by true t false s f = record { row = (w.0, tt); is = ap (λ c. if c then None else Some (w.0, tt)) s; here = t }

    module _ {C : Type 0} (was now : C → Option (K × X)) (cs : List C) (before after : Option X) where
      -- a change says what the key had before and has after
      pub record Says (c : C) : Type 0 where
        pub was_is : at_key (was c) ≡ before
        pub now_is : at_key (now c) ≡ after

      -- a change of the key says so, and there is one where they differ
      pub record AreChanges : Type 0 where
        pub sound : (c : C) → Contains cs c → (is_some (at_key (was c)) || is_some (at_key (now c))) ≡ true → Says c
        pub complete : (before ≡ after → ⊥) → (c : C) × Contains cs c × Says c

      module _ (changes : AreChanges) where
        among : AllByRecursion (Contains cs) cs
        among = recursion_from_All (Contains cs) cs (All-contains_itself cs)

        abbrev put_log : C → Option (K × X)
        put_log c = added R same (was c) (now c)

        abbrev delete_log : C → Option (K × Unit {0})
        delete_log c = dropped R same (was c) (now c)

        or_second : (a b : Bool) → b ≡ true → (a || b) ≡ true
        or_second true b e = refl
        or_second false b e = e

        one_put : (c : C) → Contains cs c → (row : K × X) → put_log c ≡ Some row → eq_by_cmp R q row.0 ≡ true → put_said after before ≡ Some row.1
        one_put c there row e t =
            let put = put_at (was c) (now c) row e t in
            let says = changes.sound c there (or_second (is_some (at_key (was c))) (is_some (at_key (now c))) (ap is_some put.now_is)) in
            (λ i. put_said (sym says.now_is i) (sym says.was_is i)) ∙ put.is

        puts_agree : (ds : List C) → AllByRecursion (Contains cs) ds → Agree R q (put_said after before) (filter_map put_log ds)
        puts_agree [] all = tt
        puts_agree (c ∷ ds) all = by (put_log c) refl (puts_agree ds all.1)
          where
            by : (r : Option (K × X)) → put_log c ≡ r → Agree R q (put_said after before) (filter_map put_log ds) → Agree R q (put_said after before) (cons_option r (filter_map put_log ds))
            by None e later = later
            by (Some row) e later = (λ t. one_put c all.0 row e t, later)

        puts_missing : stands_there R q (put_said after before) (filter_map put_log cs) ≡ false → put_said after before ≡ None
        puts_missing e = by (decided before after)
          where
            by : (before ≡ after) ⊎ (before ≡ after → ⊥) → put_said after before ≡ None
            by (inl is) = unchanged before after is
            by (inr differ) = next (put_said after before) refl
              where
                next : (r : Option X) → put_said after before ≡ r → put_said after before ≡ None
                next None f = f
                next (Some x) f =
                    let found = changes.complete differ in
                    let at = put_from (was found.0) (now found.0) x ((λ i. put_said (found.2.now_is i) (found.2.was_is i)) ∙ f) in
                    contrary (stands_there R q (put_said after before) (filter_map put_log cs)) (any_row put_log (λ row. eq_by_cmp R q row.0) cs found.0 at.row found.1 at.is at.here) e

        pub puts_are : finite.get (layer_from R same was now cs).puts q ≡ put_said after before
        puts_are = logged_is R q (put_said after before) o (filter_map put_log cs) (puts_agree cs among) puts_missing

        or_first : (a b : Bool) → a ≡ true → (a || b) ≡ true
        or_first true b e = refl
        or_first false b e = cc

        one_deleted : (c : C) → Contains cs c → (row : K × Unit {0}) → delete_log c ≡ Some row → eq_by_cmp R q row.0 ≡ true → delete_said before after ≡ Some row.1
        one_deleted c there row e t =
            let deleted = delete_at (was c) (now c) row e t in
            let says = changes.sound c there (or_first (is_some (at_key (was c))) (is_some (at_key (now c))) deleted.was) in
            (λ i. delete_said (sym says.was_is i) (sym says.now_is i)) ∙ deleted.is

        deletes_agree : (ds : List C) → AllByRecursion (Contains cs) ds → Agree R q (delete_said before after) (filter_map delete_log ds)
        deletes_agree [] all = tt
        deletes_agree (c ∷ ds) all = by (delete_log c) refl (deletes_agree ds all.1)
          where
            by : (r : Option (K × Unit {0})) → delete_log c ≡ r → Agree R q (delete_said before after) (filter_map delete_log ds) → Agree R q (delete_said before after) (cons_option r (filter_map delete_log ds))
            by None e later = later
            by (Some row) e later = (λ t. one_deleted c all.0 row e t, later)

        deletes_missing : stands_there R q (delete_said before after) (filter_map delete_log cs) ≡ false → delete_said before after ≡ None
        deletes_missing e = by (decided before after)
          where
            by : (before ≡ after) ⊎ (before ≡ after → ⊥) → delete_said before after ≡ None
            by (inl is) = undeleted before after is
            by (inr differ) = next (delete_said before after) refl
              where
                next : (r : Option (Unit {0})) → delete_said before after ≡ r → delete_said before after ≡ None
                next None f = f
                next (Some u) f =
                    let found = changes.complete differ in
                    let at = delete_from (was found.0) (now found.0) u ((λ i. delete_said (found.2.was_is i) (found.2.now_is i)) ∙ f) in
                    contrary (stands_there R q (delete_said before after) (filter_map delete_log cs)) (any_row delete_log (λ row. eq_by_cmp R q row.0) cs found.0 at.row found.1 at.is at.here) e

        pub deletes_are : finite.get (layer_from R same was now cs).deletes q ≡ delete_said before after
        deletes_are = logged_is R q (delete_said before after) o (filter_map delete_log cs) (deletes_agree cs among) deletes_missing

        -- the layer makes of what the key had what it has
        pub turned : either (finite.get (layer_from R same was now cs).puts q) (cond (finite.contains_key (layer_from R same was now cs).deletes q) None before) ≡ after
        turned = (λ i. either (puts_are i) (cond (is_some (deletes_are i)) None before)) ∙ said before after

        -- a key that the layer deletes differs, and so does one where it puts a value
        pub deleted_differs : finite.contains_key (layer_from R same was now cs).deletes q ≡ true → (not (same_rows same before after) ≡ true) × (is_some before ≡ true)
        deleted_differs t = delete_differs before after (sym (ap is_some deletes_are) ∙ t)

        pub added_differs : finite.contains_key (layer_from R same was now cs).puts q ≡ true → (not (same_rows same before after) ≡ true) × (is_some after ≡ true)
        added_differs t = put_differs before after (sym (ap is_some puts_are) ∙ t)
