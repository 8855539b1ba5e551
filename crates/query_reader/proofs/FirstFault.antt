-- The fault that is read is the first one in the grammar's own terms.
use Rattle.std.proofs.Common.{◌≡◌, ℕ, ◌+◌, ◌<◌, ◌≤◌, List, [], ◌∷◌, ◌++◌, map, length, Option, None, Some, Result, Ok, Err, refl, sym, ap, ◌∙◌, subst, arith, inl, inr, append_assoc, append-nil}
use Rattle.query_tree.specs.declared.dialect.Dialect.{Dialect}
use Rattle.query_tree.specs.Tree.{Tree}
use Rattle.query_tree.specs.Size.{node_count}
use Rattle.query_reader.specs.declared.token.Token.{Token}
use Rattle.query_reader.specs.Tokens.{text_tokens}
use Rattle.query_reader.specs.Spans.{IsFirstBad}
use Rattle.query_reader.specs.Reading.{Lexeme, Refused, State, start, step, ended, go_on, read_from, lexeme_of, tokens_read, QueryFault}
use Rattle.query_reader.specs.Depth.{open_after, most_open}
use Rattle.query_reader.specs.FirstFault.{BeginQuery, IsFirstFault, FaultIsFirst}
use Rattle.query_reader.proofs.Balance.{opened, opened-append, most-append}
use Rattle.query_reader.proofs.Standing.{Stands, Holds}
use Rattle.query_reader.proofs.Counted.{Fits, StepFits, step_fits}
use Rattle.query_reader.proofs.Sound.{step_holds}
use Rattle.query_reader.proofs.Steps.{IsNodeFault, Leads, reads, stops}
use Rattle.query_reader.proofs.Complete.{tokens_lead}
use Rattle.query_reader.proofs.Continued.{begins}
use Rattle.query_reader.proofs.Runs.{spans_read, bad_read_first}
use Rattle.query_reader.proofs.TextLaws.{same_fault}

-- a state that is reached by tokens from the start
record Reached (dialect : Dialect) (column : ℕ) (state : State) (done : List Lexeme) : Type 0 where
  stands : Stands dialect state.open_lists state.whole done
  fits : Fits dialect state.open_lists state.whole state.nodes (length state.open_lists)
  are_open : opened 0 done ≡ length state.open_lists
  deep : most_open 0 done ≤ dialect.depth
  goes_on : (others : List Lexeme) → read_from dialect column start (done ++ others) ≡ read_from dialect column state others

reached_more : (dialect : Dialect) (column : ℕ) (state next : State) (done : List Lexeme) (token : Lexeme)
    → Reached dialect column state done → step dialect state token ≡ Ok next → Reached dialect column next (done ++ token ∷ [])
reached_more dialect column state next done token reached is_step =
    let holds : Holds dialect (Ok next) (done ++ token ∷ []) =
    subst (λ (r : Result State Refused). Holds dialect r (done ++ token ∷ [])) is_step
    (step_holds dialect state.open_lists state.whole state.nodes token done reached.stands) in
    let fits : StepFits dialect token (Ok next) (open_after (length state.open_lists) token.kind) =
    subst (λ (r : Result State Refused). StepFits dialect token r (open_after (length state.open_lists) token.kind)) is_step
    (step_fits dialect state.open_lists state.whole state.nodes token reached.fits) in
    let count : open_after (opened 0 done) token.kind ≡ open_after (length state.open_lists) token.kind =
    ap (λ n. open_after n token.kind) reached.are_open in
    record {
      stands = holds;
      fits = subst (λ n. Fits dialect next.open_lists next.whole next.nodes n) (sym fits.are_open) fits;
      are_open = opened-append 0 done (token ∷ []) ∙ count ∙ sym fits.are_open;
      deep = omega (arith, most-append 0 done (token ∷ []), reached.deep, reached.fits.deep, reached.are_open, fits.deep, count);
      goes_on =
          λ others.
          ap (read_from dialect column start) (append_assoc done (token ∷ []) others)
          ∙ reached.goes_on (token ∷ others)
          ∙ ap (λ (r : Result State Refused). go_on r (λ after. read_from dialect column after others)) is_step;
    }

-- what is spelled is not refused, but for its nodes
not_refused : (dialect : Dialect) (result : Result Tree Refused) (fault : Refused) (tree : Tree) → result ≡ Err fault
    → Leads dialect (node_count tree) result (Ok tree) → (fault.code ≡ 38) × (dialect.nodes < node_count tree)
not_refused dialect result fault tree is_fault (reads is_read) = absurd (cc)
not_refused dialect result fault tree is_fault (stops many) = subst (IsNodeFault dialect (node_count tree)) is_fault many

at_end : (dialect : Dialect) (column : ℕ) (state : State) (done : List Lexeme) (whole : Option Tree) (fault : Refused) → 1 ≤ dialect.operands → 1 ≤ dialect.join_limit
    → Reached dialect column state done → state.whole ≡ whole → ended column whole ≡ Err fault → IsFirstFault dialect column (done ++ []) fault.code fault.column
at_end dialect column state done None fault some_operand some_hit reached is_whole is_fault =
    let same : record { code = 32; column = column } ≡ fault = cc in
    let code : 32 ≡ fault.code = ap (λ (f : Refused). f.code) same in
    let place : column ≡ fault.column = ap (λ (f : Refused). f.column) same in
    let refused : read_from dialect column start (done ++ []) ≡ Err fault =
    reached.goes_on [] ∙ ap (ended column) is_whole ∙ is_fault in
    inl (
      sym code,
      sym place,
      subst (λ (xs : List Lexeme). BeginQuery dialect xs) (sym (append-nil done))
          (begins dialect state.open_lists state.whole done some_operand some_hit reached.stands reached.deep),
      λ tree spelled.
          let many = not_refused dialect (read_from dialect column start (done ++ [])) fault tree refused
          (tokens_lead dialect column tree (done ++ []) spelled.0 spelled.1) in
          absurd (omega (arith, many.0, code)),
    )
at_end dialect column state done (Some tree) fault some_operand some_hit reached is_whole is_fault = absurd (cc)

at_token : (dialect : Dialect) (column : ℕ) (state : State) (done : List Lexeme) (token : Lexeme) (rest : List Lexeme) (fault : Refused) → 1 ≤ dialect.operands → 1 ≤ dialect.join_limit
    → Reached dialect column state done → step dialect state token ≡ Err fault → IsFirstFault dialect column (done ++ token ∷ rest) fault.code fault.column
at_token dialect column state done token rest fault some_operand some_hit reached is_step =
    let place : fault.column ≡ token.column =
    subst (λ (r : Result State Refused). StepFits dialect token r (open_after (length state.open_lists) token.kind)) is_step
    (step_fits dialect state.open_lists state.whole state.nodes token reached.fits) in
    inr (
      done,
      (
        token,
        (
          rest,
          (
            refl,
            sym place,
            (
              begins dialect state.open_lists state.whole done some_operand some_hit reached.stands reached.deep,
              λ others tree spelled.
                  not_refused dialect (read_from dialect column start (done ++ token ∷ others)) fault tree
                  (reached.goes_on (token ∷ others) ∙ ap (λ (r : Result State Refused). go_on r (λ after. read_from dialect column after others)) is_step)
                  (tokens_lead dialect column tree (done ++ token ∷ others) spelled.0 spelled.1),
            ),
          ),
        ),
      ),
    )

by_step : (dialect : Dialect) (column : ℕ) (state : State) (done : List Lexeme) (token : Lexeme) (rest : List Lexeme) (fault : Refused) (result : Result State Refused)
    → 1 ≤ dialect.operands → 1 ≤ dialect.join_limit → Reached dialect column state done → step dialect state token ≡ result
    → ((next : State) → Reached dialect column next (done ++ token ∷ []) → read_from dialect column next rest ≡ Err fault
    → IsFirstFault dialect column ((done ++ token ∷ []) ++ rest) fault.code fault.column)
    → go_on result (λ next. read_from dialect column next rest) ≡ Err fault
    → IsFirstFault dialect column (done ++ token ∷ rest) fault.code fault.column
by_step dialect column state done token rest fault (Ok next) some_operand some_hit reached is_step later is_fault =
    subst (λ (xs : List Lexeme). IsFirstFault dialect column xs fault.code fault.column) (append_assoc done (token ∷ []) rest)
    (later next (reached_more dialect column state next done token reached is_step) is_fault)
by_step dialect column state done token rest fault (Err refused) some_operand some_hit reached is_step later is_fault =
    let same : refused ≡ fault = same_fault (Err refused) refl is_fault in
    subst (λ (f : Refused). IsFirstFault dialect column (done ++ token ∷ rest) f.code f.column) same
    (at_token dialect column state done token rest refused some_operand some_hit reached is_step)

fault_first : (dialect : Dialect) (column : ℕ) (state : State) (done rest : List Lexeme) (fault : Refused) → 1 ≤ dialect.operands → 1 ≤ dialect.join_limit
    → Reached dialect column state done → read_from dialect column state rest ≡ Err fault
    → IsFirstFault dialect column (done ++ rest) fault.code fault.column
fault_first dialect column state done [] fault some_operand some_hit reached is_fault =
    at_end dialect column state done state.whole fault some_operand some_hit reached refl is_fault
fault_first dialect column state done (token ∷ rest) fault some_operand some_hit reached is_fault =
    by_step dialect column state done token rest fault (step dialect state token) some_operand some_hit reached refl
    (λ next reached_next is_next. fault_first dialect column next (done ++ token ∷ []) rest fault some_operand some_hit reached_next is_next) is_fault

form_is : (dialect : Dialect) (text : List ℕ) (bad code column : ℕ) → IsFirstBad dialect.format text bad → QueryFault dialect text code column → (code ≡ 31) × (column ≡ bad)
form_is dialect text bad code column is_bad is_fault =
    let fault : record { code = 31; column = bad } ≡ record { code = code; column = column } =
    same_fault (tokens_read dialect text (text_tokens dialect.format text))
    (ap (λ (r : Result (List Token) ℕ). tokens_read dialect text r) (bad_read_first dialect.format text bad is_bad)) is_fault in
    (sym (ap (λ (f : Refused). f.code) fault), sym (ap (λ (f : Refused). f.column) fault))

pub fault_is_first : FaultIsFirst
fault_is_first = record {
  form = form_is;
  first =
      λ dialect text lexed code column some_operand some_hit of_text is_fault.
      fault_first dialect (length text + 1) start [] (map (lexeme_of text) lexed) (record { code = code; column = column }) some_operand some_hit
      (record {
        stands = refl;
        fits = record { are_open = refl; deep = omega arith; counted = omega arith; few = omega arith };
        are_open = refl;
        deep = omega arith;
        goes_on = λ others. refl;
      })
      (sym (ap (λ (r : Result (List Token) ℕ). tokens_read dialect text r) (spans_read dialect.format text lexed of_text)) ∙ is_fault);
}
