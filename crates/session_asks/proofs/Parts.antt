-- Sessions one by one, and in two parts.
use Rattle.std.proofs.Common.{◌≡◌, ℕ, zero, suc, ◌+◌, ◌<◌, List, [], ◌∷◌, ◌++◌, length, take, drop, get_or, refl, sym, ap, subst, ◌∙◌, arith}
use Rattle.std.proofs.lemmas.List.{drop-drop, drop-set-lt, get_or-drop, take-append-drop, take_more, take_more_set}
use Rattle.std.proofs.Math.ListN.{set}
use Rattle.uni_schema.specs.Schema.{Declarations}
use Rattle.reply_text.specs.declared.answer.Answer.{Answer}
use Rattle.turn_lock.specs.declared.seats.Seat.{Seat}
use Rattle.version_catalog.specs.declared.catalogue.Catalogue.{Catalogue}
use Rattle.version_catalog.specs.declared.entry.Entry.{Entry}
use Rattle.version_catalog.specs.declared.state.CatalogueState.{CatalogueState}
use Rattle.session_asks.specs.Seats.{AllHaveTaken, AllMayTake, AllReplied, HasTaken, IsReplied, MayTake}
use Rattle.session_asks.specs.declared.asks.AskLine.{AskLine}
use Rattle.session_asks.proofs.Takes.{taken_none}

-- lists that are alike from a place on
same_at : {A : Type 0} (xs ys : List A) (i : ℕ) (d : A) → drop i xs ≡ drop i ys → get_or xs i d ≡ get_or ys i d
same_at xs ys i d rest =
    let from : i ≡ i + 0 = omega arith in
    ap (λ n. get_or xs n d) from ∙ sym (get_or-drop i xs 0 d) ∙ ap (λ l. get_or l 0 d) rest ∙ get_or-drop i ys 0 d ∙ sym (ap (λ n. get_or ys n d) from)

pub rest_next : {A : Type 0} (xs ys : List A) (i : ℕ) (x : A) → drop i xs ≡ drop i ys → drop (i + 1) (set xs i x) ≡ drop (i + 1) ys
rest_next xs ys i x rest = drop-set-lt (i + 1) xs i x (omega arith) ∙ sym (drop-drop 1 i xs) ∙ ap (λ l. drop 1 l) rest ∙ drop-drop 1 i ys

module _ {g : _} where
  pub may_length : (catalogue : Catalogue) (sessions : List (Seat CatalogueState Entry g)) (asks : List (List AskLine)) → AllMayTake catalogue sessions asks → length sessions ≡ length asks
  may_length catalogue [] [] may = refl
  may_length catalogue (session ∷ sessions) (list ∷ asks) may = ap suc (may_length catalogue sessions asks may.1)
  may_length catalogue sessions asks may = absurd may

  pub may_at : (catalogue : Catalogue) (sessions : List (Seat CatalogueState Entry g)) (asks : List (List AskLine)) (i : ℕ) (d : Seat CatalogueState Entry g) (e : List AskLine) → AllMayTake catalogue sessions asks → i < length asks
      → MayTake catalogue (length (get_or asks i e)) (get_or sessions i d)
  may_at catalogue [] [] i d e may lt = absurd (omega (arith, lt))
  may_at catalogue (session ∷ sessions) (list ∷ asks) zero d e may lt = may.0
  may_at catalogue (session ∷ sessions) (list ∷ asks) (suc i) d e may lt = may_at catalogue sessions asks i d e may.1 (omega (arith, lt))
  may_at catalogue sessions asks i d e may lt = absurd may

  -- the first of them, and the others
  pub may_front : (catalogue : Catalogue) (n : ℕ) (sessions : List (Seat CatalogueState Entry g)) (asks : List (List AskLine)) → AllMayTake catalogue sessions asks → AllMayTake catalogue (take n sessions) (take n asks)
  may_front catalogue zero sessions asks may = tt
  may_front catalogue (suc n) [] [] may = tt
  may_front catalogue (suc n) (session ∷ sessions) (list ∷ asks) may = (may.0, may_front catalogue n sessions asks may.1)
  may_front catalogue (suc n) sessions asks may = absurd may

  pub may_back : (catalogue : Catalogue) (n : ℕ) (sessions : List (Seat CatalogueState Entry g)) (asks : List (List AskLine)) → AllMayTake catalogue sessions asks → AllMayTake catalogue (drop n sessions) (drop n asks)
  may_back catalogue zero sessions asks may = may
  may_back catalogue (suc n) [] [] may = tt
  may_back catalogue (suc n) (session ∷ sessions) (list ∷ asks) may = may_back catalogue n sessions asks may.1
  may_back catalogue (suc n) sessions asks may = absurd may

  -- sessions that ask nothing
  pub taken_by_none : (catalogue : Catalogue) (sessions : List (Seat CatalogueState Entry g)) (asks : List (List AskLine)) → AllMayTake catalogue sessions asks → AllHaveTaken catalogue sessions sessions asks
  taken_by_none catalogue [] [] may = tt
  taken_by_none catalogue (session ∷ sessions) (list ∷ asks) may = (taken_none catalogue (length list) session may.0, taken_by_none catalogue sessions asks may.1)
  taken_by_none catalogue sessions asks may = absurd may

  -- one of them that asks
  pub taken_set : (catalogue : Catalogue) (olds news : List (Seat CatalogueState Entry g)) (asks : List (List AskLine)) (i : ℕ) (d new : Seat CatalogueState Entry g) (e : List AskLine) → i < length asks
      → AllHaveTaken catalogue olds news asks → HasTaken catalogue (length (get_or asks i e)) (get_or olds i d) new → AllHaveTaken catalogue olds (set news i new) asks
  taken_set catalogue [] [] [] i d new e lt taken one = absurd (omega (arith, lt))
  taken_set catalogue (o ∷ olds) (n ∷ news) (list ∷ asks) zero d new e lt taken one = (one, taken.1)
  taken_set catalogue (o ∷ olds) (n ∷ news) (list ∷ asks) (suc i) d new e lt taken one = (taken.0, taken_set catalogue olds news asks i d new e (omega (arith, lt)) taken.1 one)
  taken_set catalogue olds news asks i d new e lt taken one = absurd taken

  -- two parts of them
  pub taken_parts : (catalogue : Catalogue) (olds news olds' news' : List (Seat CatalogueState Entry g)) (asks asks' : List (List AskLine)) → AllHaveTaken catalogue olds news asks → AllHaveTaken catalogue olds' news' asks'
      → AllHaveTaken catalogue (olds ++ olds') (news ++ news') (asks ++ asks')
  taken_parts catalogue [] [] olds' news' [] asks' taken others = others
  taken_parts catalogue (o ∷ olds) (n ∷ news) olds' news' (list ∷ asks) asks' taken others = (taken.0, taken_parts catalogue olds news olds' news' asks asks' taken.1 others)
  taken_parts catalogue olds news olds' news' asks asks' taken others = absurd taken

  pub replied_parts : (schema : Declarations) (olds news olds' news' : List (Seat CatalogueState Entry g)) (asks asks' : List (List AskLine)) (answers answers' : List (List Answer)) → AllReplied schema olds news asks answers
      → AllReplied schema olds' news' asks' answers' → AllReplied schema (olds ++ olds') (news ++ news') (asks ++ asks') (answers ++ answers')
  replied_parts schema [] [] olds' news' [] asks' [] answers' replied others = others
  replied_parts schema (o ∷ olds) (n ∷ news) olds' news' (list ∷ asks) asks' (given ∷ answers) answers' replied others = (replied.0, replied_parts schema olds news olds' news' asks asks' answers answers' replied.1 others)
  replied_parts schema olds news olds' news' asks asks' answers answers' replied others = absurd replied

  -- a session that asks next, and those before it that have asked
  pub may_next : (catalogue : Catalogue) (olds sessions : List (Seat CatalogueState Entry g)) (asks : List (List AskLine)) (i : ℕ) (d : Seat CatalogueState Entry g) (list : List AskLine) → i < length asks → drop i sessions ≡ drop i olds
      → list ≡ get_or asks i list → AllMayTake catalogue olds asks → MayTake catalogue (length list) (get_or sessions i d)
  may_next catalogue olds sessions asks i d list lt rest is may =
      subst (MayTake catalogue (length list)) (sym (same_at sessions olds i d rest)) (subst (λ (l : List AskLine). MayTake catalogue (length l) (get_or olds i d)) (sym is) (may_at catalogue olds asks i d list may lt))

  pub taken_next : (catalogue : Catalogue) (olds sessions : List (Seat CatalogueState Entry g)) (asks : List (List AskLine)) (i : ℕ) (d new : Seat CatalogueState Entry g) (list : List AskLine) → i < length asks → drop i sessions ≡ drop i olds
      → list ≡ get_or asks i list → AllHaveTaken catalogue olds sessions asks → HasTaken catalogue (length list) (get_or sessions i d) new → AllHaveTaken catalogue olds (set sessions i new) asks
  taken_next catalogue olds sessions asks i d new list lt rest is taken one =
      taken_set catalogue olds sessions asks i d new list lt taken
      (subst (λ (l : List AskLine). HasTaken catalogue (length l) (get_or olds i d) new) is (subst (λ (old : Seat CatalogueState Entry g). HasTaken catalogue (length list) old new) (same_at sessions olds i d rest) one))

  pub replied_next : (schema : Declarations) (olds sessions : List (Seat CatalogueState Entry g)) (asks : List (List AskLine)) (answers : List (List Answer)) (i : ℕ) (d new : Seat CatalogueState Entry g) (list : List AskLine) (given : List Answer)
      → i < length olds → i < length sessions → i < length asks → drop i sessions ≡ drop i olds → list ≡ get_or asks i list
      → AllReplied schema (take i olds) (take i sessions) (take i asks) answers → IsReplied schema (get_or sessions i d) new list given
      → AllReplied schema (take (i + 1) olds) (take (i + 1) (set sessions i new)) (take (i + 1) asks) (answers ++ given ∷ [])
  replied_next schema olds sessions asks answers i d new list given lt as_well also rest is replied one =
      let before : take (i + 1) olds ≡ take i olds ++ get_or sessions i d ∷ [] = take_more olds i d lt ∙ ap (λ s. take i olds ++ s ∷ []) (sym (same_at sessions olds i d rest)) in
      let after : take (i + 1) (set sessions i new) ≡ take i sessions ++ new ∷ [] = take_more_set sessions i new as_well in
      let lists : take (i + 1) asks ≡ take i asks ++ list ∷ [] = take_more asks i list also ∙ ap (λ l. take i asks ++ l ∷ []) (sym is) in
      rw (before, after, lists) (replied_parts schema (take i olds) (take i sessions) (get_or sessions i d ∷ []) (new ∷ []) (take i asks) (list ∷ []) answers (given ∷ []) replied (one, tt))

  -- sessions that were parted
  pub taken_parted : (catalogue : Catalogue) (n : ℕ) (sessions front back new new' : List (Seat CatalogueState Entry g)) (asks front_asks back_asks : List (List AskLine)) → front ≡ take n sessions → back ≡ drop n sessions → front_asks ≡ take n asks → back_asks ≡ drop n asks
      → AllHaveTaken catalogue front new front_asks → AllHaveTaken catalogue back new' back_asks → AllHaveTaken catalogue sessions (new ++ new') asks
  taken_parted catalogue n sessions front back new new' asks front_asks back_asks is is' of of' taken others =
      let whole : front ++ back ≡ sessions = (λ i. is i ++ is' i) ∙ take-append-drop n sessions in
      let lists : front_asks ++ back_asks ≡ asks = (λ i. of i ++ of' i) ∙ take-append-drop n asks in
      subst (λ (l : List (Seat CatalogueState Entry g)). AllHaveTaken catalogue l (new ++ new') asks) whole
      (subst (AllHaveTaken catalogue (front ++ back) (new ++ new')) lists (taken_parts catalogue front new back new' front_asks back_asks taken others))

  pub replied_parted : (schema : Declarations) (n : ℕ) (sessions front back new new' : List (Seat CatalogueState Entry g)) (asks front_asks back_asks : List (List AskLine)) (answers others all : List (List Answer))
      → front ≡ take n sessions → back ≡ drop n sessions → front_asks ≡ take n asks → back_asks ≡ drop n asks → all ≡ answers ++ others
      → AllReplied schema front new front_asks answers → AllReplied schema back new' back_asks others → AllReplied schema sessions (new ++ new') asks all
  replied_parted schema n sessions front back new new' asks front_asks back_asks answers others all is is' of of' are replied as_well =
      let whole : front ++ back ≡ sessions = (λ i. is i ++ is' i) ∙ take-append-drop n sessions in
      let lists : front_asks ++ back_asks ≡ asks = (λ i. of i ++ of' i) ∙ take-append-drop n asks in
      subst (λ (l : List (Seat CatalogueState Entry g)). AllReplied schema l (new ++ new') asks all) whole
      (subst (λ (l : List (List AskLine)). AllReplied schema (front ++ back) (new ++ new') l all) lists
      (subst (AllReplied schema (front ++ back) (new ++ new') (front_asks ++ back_asks)) (sym are) (replied_parts schema front new back new' front_asks back_asks answers others replied as_well)))
