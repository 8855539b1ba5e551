-- The lines that heads of answers are of.
use Rattle.std.proofs.Common.{◌≡◌, ◌<◌, ◌≤◌, ℕ, List, [], ◌∷◌, ◌++◌, Option, None, Some, IfSome, refl, ap, sym, ◌∙◌, subst, arith}
use Rattle.std.specs.List.{AllByRecursion}
use Rattle.reply_text.specs.Heads.{Head, published, replied, compacted, counted, refused, fault, query_fault, lacking, tidied, untidied}
use Rattle.script_rounds.specs.RoundReads.{Rise}
use Rattle.unicorn_round.proofs.Elements.{all-append, all-wider}

-- the line that a head is of, if it is of one
abbrev pub line_in : Head → Option ℕ
line_in (published line number) = Some line
line_in (replied line number count) = Some line
line_in (compacted line number) = Some line
line_in (counted line number count) = Some line
line_in (refused line code) = Some line
line_in (fault line code) = Some line
line_in (query_fault line code column) = Some line
line_in (lacking line) = Some line
line_in (tidied vertical shard replica number) = None
line_in (untidied vertical shard replica) = None

-- a head is of a line, or of a later one, if it is of any
abbrev pub IsAt : ℕ → Head → Type 0
IsAt line head = line_in head ≡ Some line

abbrev pub IsAbove : ℕ → Head → Type 0
IsAbove low head = IfSome (line_in head) (λ line. low < line)

abbrev pub AreAbove : ℕ → List Head → Type 0
AreAbove low heads = AllByRecursion (IsAbove low) heads

-- no head, or one of a line
abbrev pub IsOneAt : ℕ → List Head → Type 0
IsOneAt line [] = Unit {0}
IsOneAt line (head ∷ []) = IsAt line head
IsOneAt line (head ∷ other ∷ more) = ⊥

apart : {A : Type 0} (line : ℕ) (head other : Head) → IsAt line head → IsAbove line other → head ≡ other → A
apart line head other here above same =
    let later : IfSome (Some line) (λ n. line < n) = subst (λ o. IfSome o (λ n. line < n)) (sym (ap line_in same) ∙ here) above in
    absurd (omega (arith, later))

-- the head of a line, in front of those of later ones
pub one_line : (line : ℕ) (first second rest others : List Head) → IsOneAt line first → IsOneAt line second → AreAbove line rest → AreAbove line others
    → first ++ rest ≡ second ++ others → (first ≡ second) × (rest ≡ others)
one_line line [] [] rest others a b above later same = (refl, same)
one_line line [] (k ∷ []) [] others a b above later same = absurd cc
one_line line [] (k ∷ []) (h ∷ rest) others a b above later same = apart line k h b above.0 cc
one_line line [] (k ∷ l ∷ second) rest others a b above later same = absurd b
one_line line (h ∷ []) [] rest [] a b above later same = absurd cc
one_line line (h ∷ []) [] rest (k ∷ others) a b above later same = apart line h k a later.0 cc
one_line line (h ∷ []) (k ∷ []) rest others a b above later same =
    let here : h ≡ k = cc in
    let after : rest ≡ others = cc in
    (ap (λ head. head ∷ []) here, after)
one_line line (h ∷ []) (k ∷ l ∷ second) rest others a b above later same = absurd b
one_line line (h ∷ l ∷ first) second rest others a b above later same = absurd a

above-lower : (low lower : ℕ) (head : Head) → lower ≤ low → IsAbove low head → IsAbove lower head
above-lower low lower head below above = by (line_in head) above
  where
    by : (o : Option ℕ) → IfSome o (λ line. low < line) → IfSome o (λ line. lower < line)
    by None above = tt
    by (Some line) above = omega (arith, above, below)

pub all_above-lower : (low lower : ℕ) (heads : List Head) → lower ≤ low → AreAbove low heads → AreAbove lower heads
all_above-lower low lower heads below above = all-wider (IsAbove low) (IsAbove lower) (λ head one. above-lower low lower head below one) heads above

pub above-append : (low : ℕ) (heads others : List Head) → AreAbove low heads → AreAbove low others → AreAbove low (heads ++ others)
above-append low heads others above later = all-append (IsAbove low) heads others above later

-- the head of a line above a low one
pub one-above : (low line : ℕ) (heads : List Head) → low < line → IsOneAt line heads → AreAbove low heads
one-above low line [] below one = tt
one-above low line (head ∷ []) below one = (subst (λ o. IfSome o (λ n. low < n)) (sym one) below, tt)
one-above low line (head ∷ other ∷ more) below one = absurd one

-- numbers that rise, in two parts
pub rise-order : (low high : ℕ) (ns : List ℕ) → Rise low high ns → low ≤ high
rise-order low high [] rise = rise
rise-order low high (n ∷ ns) rise = omega (arith, rise.0, rise-order n high ns rise.1)

pub record RiseBy (low high : ℕ) (ns ms : List ℕ) : Type 0 where
  pub middle : ℕ
  pub front : Rise low middle ns
  pub back : Rise middle high ms

pub rise-split : (low high : ℕ) (ns ms : List ℕ) → Rise low high (ns ++ ms) → RiseBy low high ns ms
rise-split low high [] ms rise = let here : low ≤ low = omega arith in record { middle = low; front = here; back = rise }
rise-split low high (n ∷ ns) ms rise =
    let later = rise-split n high ns ms rise.1 in
    record { middle = later.middle; front = (rise.0, later.front); back = later.back }
