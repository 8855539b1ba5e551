-- From what a parse by the command says to whether its words are taken.
use Rattle.std.proofs.Common.{arith, length, ◌≡◌, ◌∙◌, sym, ap, inl, inr, true, false, List, [], ◌∷◌, map}
use Rattle.std.specs.Borrow.{Bor}
use Rattle.std.proofs.lemmas.Bool.{ne_eqb}
use Rattle.clap.specs.Words.{HasKind, IsAmong, Kinds, Text, fault_of, kind_of, matches_of}
use Rattle.clap.specs.Walk.{is_empty, texts}
use Rattle.clap.specs.declared.builder.value_parser.ValueParser.TheVariants as vp
use Rattle.clap.specs.declared.error.Error.{Error}
use Rattle.clap.specs.declared.error.kind.ErrorKind.TheVariants.{OutOfMemory}
use Rattle.unicorn_words.specs.Asked.{found_for}
use Rattle.unicorn_words.specs.CommandLine.{is_taken, lent, mode_names, unicorn, unicorn_with}
use Rattle.unicorn_words.proofs.Lying.{same_faults, same_matches}

module _ (names : Bor (List (Bor Text))) (same : texts names.now ≡ mode_names) (words : List Text) where
  faults_are : fault_of (unicorn_with (vp.Names names)) words ≡ fault_of unicorn words
  faults_are = same_faults names (lent (map lent mode_names)) same words

  pub matches_are : matches_of (unicorn_with (vp.Names names)) words ≡ found_for words
  unfolding found_for
  matches_are = same_matches names (lent (map lent mode_names)) same words

  pub faultless : fault_of (unicorn_with (vp.Names names)) words ≡ [] → is_taken words ≡ true
  unfolding is_taken
  faultless e = ap is_empty (sym faults_are ∙ e)

  pub at_fault : (e : Error) → HasKind (fault_of (unicorn_with (vp.Names names)) words) e → (kind_of e ≡ OutOfMemory → ⊥) → is_taken words ≡ false
  unfolding is_taken
  at_fault e (inl memory) other = absurd (other memory)
  at_fault e (inr h) other = go (fault_of (unicorn_with (vp.Names names)) words) (sym faults_are) h
    where
      go : (ks : Kinds) → fault_of unicorn words ≡ ks → IsAmong (kind_of e) ks → is_empty (fault_of unicorn words) ≡ false
      go [] is h = elim h [ ]
      go (k ∷ ks) is h = ap is_empty is ∙ ne_eqb (length (k ∷ ks)) 0 (λ e. absurd (omega arith))
