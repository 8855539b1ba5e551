use Rattle.std.proofs.Common.{◌≡◌, ◌≤◌, ℕ, List, arith, sym, subst, take}
use Rattle.std.proofs.lemmas.List.{length-take-le}
use Rattle.std.proofs.lemmas.List.Sums.{prefix_len-le-length}
use Rattle.std.specs.List.{prefix_len}
use Rattle.uni_base.proofs.Front.{padded_word, word_of_front}
use Rattle.uni_base.specs.Padding.{IsPadded, padded}
use Rattle.uni_base.specs.Words.{is_word_byte}
use Rattle.uni_base.proofs.word.Word.read_front.Goals as goal

-- what is kept is a word, and zeros after it
padded_front : (text written : List ℕ) (len : ℕ) → len ≡ prefix_len is_word_byte text → (len ≡ 0 → ⊥) → len ≤ 32 → written ≡ padded (take len text) → IsPadded len written
padded_front text written len front some few same =
    let word = word_of_front text len front some few in
    let whole = length-take-le len text (omega (arith, front, prefix_len-le-length is_word_byte text)) in
    subst (IsPadded len) (sym same) (padded_word (take len text) len whole word few)

pub invariant_of-word : goal.invariant_of-word
invariant_of-word c =
    padded_front c.args.text.now c.padded.result c.word_bytes-len.result c.word_bytes-len.ensures c.if-len-eq0.false c.if-len-gt32.false c.padded.ensures

pub returns-clause-word : goal.returns-clause-word
returns-clause-word c =
    (padded_front c.args.text.now c.padded.result c.word_bytes-len.result c.word_bytes-len.ensures c.if-len-eq0.false c.if-len-gt32.false c.padded.ensures).word
