-- An `ask`, by its parts.
use Rattle.std.proofs.Common.{◌≡◌, ℕ, List, Some, refl, sym, ◌∙◌, ap}
use Rattle.uni_base.specs.Numbers.{id_of, number_between}
use Rattle.script_rounds.specs.Asks.{AskParts, first_field, parts_of, most_hits, query_of, query_entry, ask_entry}
use Rattle.script_rounds.specs.Terms.{Terms}

parts_from : List ℕ × List ℕ → AskParts
parts_from one =
    let two = first_field one.1 in
    let three = first_field two.1 in
    record { viewer = one.0; session = two.0; limit = three.0; query = three.1 }

-- the parts of a text that is cut three times
pub parts_of-cut : (text viewer session limit query second third : List ℕ) → (viewer, second) ≡ first_field text → (session, third) ≡ first_field second → (limit, query) ≡ first_field third
    → parts_of text ≡ record { viewer = viewer; session = session; limit = limit; query = query }
unfolding parts_from
parts_of-cut text viewer session limit query second third one two three =
    ap parts_from (sym one)
    ∙ ap (λ (p : List ℕ × List ℕ). let next = first_field p.1 in let built : AskParts = record { viewer = viewer; session = p.0; limit = next.0; query = next.1 } in built) (sym two)
    ∙ ap (λ (p : List ℕ × List ℕ). let built : AskParts = record { viewer = viewer; session = session; limit = p.0; query = p.1 } in built) (sym three)

-- an `ask` whose parts but the query are in order
pub ask_entry-query : (terms : Terms) (number : ℕ) (parts : AskParts) (viewer session limit : ℕ) → id_of parts.viewer ≡ Some viewer
    → number_between 1 terms.limits.sessions parts.session ≡ Some session → number_between 1 (most_hits terms) parts.limit ≡ Some limit
    → ask_entry terms number parts ≡ query_entry number session viewer limit (query_of terms parts.query)
unfolding ask_entry
ask_entry-query terms number parts viewer session limit a b c = rw (a, b, c) refl
