-- A run that meets no fault goes to its end.
use Rattle.std.proofs.Common.{◌≡◌, ℕ, Bool, true, List, [], ◌++◌, length, Option, Some, inl, inr, sym, ◌∙◌, ap, subst, refl, arith, length-append}
use Rattle.uni_base.specs.declared.limits.Limits.{Limits}
use Rattle.uni_schema.specs.declared.refusal.SchemaRefusal.{SchemaRefusal}
use Rattle.script_rounds.specs.Reading.{Gave, NoneLeft}
use Rattle.script_rounds.specs.Rounds.{opened, unopened, script_by, rounds_from, script_of}
use Rattle.script_rounds.specs.Terms.{under}
use Rattle.unicorn_round.specs.declared.status.Status.{Status}
use Rattle.unicorn_round.specs.declared.status.Status.TheVariants.{Done, Usage, Schema, ReadFault, WriteFault, TooLong, Memory}
use Rattle.unicorn_round.specs.Completeness.{Completes, IsServable}
use Rattle.unicorn_round.specs.Outcome.{Claim, IsHeaderFault, Ran}
use Rattle.unicorn_round.specs.Statuses.{ReadFaultsFit, WriteFaultsFit}

-- what a source gave is the beginning of a script
gave_script : (left left_after : Option (List ℕ)) (bytes script : List ℕ) → left ≡ Some script → Gave left bytes left_after
    → (rest : List ℕ) × (script ≡ bytes ++ rest) × (left_after ≡ Some rest)
gave_script left left_after bytes script is gave =
    let there : Gave (Some script) bytes left_after = subst (λ l. Gave l bytes left_after) is gave in
    (there.0, there.1, there.2)

-- a header at fault in the bytes that were taken is at fault in the script
no_fault : (limits : Limits) (script bytes rest : List ℕ) (ended : Bool) (refusal : SchemaRefusal) → script ≡ bytes ++ rest → (ended ≡ true → rest ≡ [])
    → IsHeaderFault limits bytes ended refusal → IsServable limits script → ⊥
no_fault limits script bytes rest ended refusal is stops fault sound =
    let wrong : unopened refusal ≡ opened sound.schema sound.rounds =
    sym (ap (script_of limits) is ∙ ap (script_by (λ schema number lines. rounds_from (under limits schema) number 0 lines)) (fault.whatever rest stops)) ∙ sound.header in
    cc

pub completes : (limits : Limits) (says : Claim) (closing : ℕ → List ℕ) (left left_after taken taken_after : Option (List ℕ)) (reads_before reads_after writes_before writes_after : ℕ) (status : Status)
    → Ran limits says closing left left_after taken taken_after status
    → ReadFaultsFit status reads_before reads_after → WriteFaultsFit status writes_before writes_after
    → Completes limits left reads_before reads_after writes_before writes_after status
completes limits says closing left left_after taken taken_after reads_before reads_after writes_before writes_after Done ran read write script told sound quiet_source quiet_sink = inl refl
completes limits says closing left left_after taken taken_after reads_before reads_after writes_before writes_after Memory ran read write script told sound quiet_source quiet_sink = inr refl
completes limits says closing left left_after taken taken_after reads_before reads_after writes_before writes_after ReadFault ran read write script told sound quiet_source quiet_sink = absurd (quiet_source read)
completes limits says closing left left_after taken taken_after reads_before reads_after writes_before writes_after WriteFault ran read write script told sound quiet_source quiet_sink = absurd (quiet_sink write)
completes limits says closing left left_after taken taken_after reads_before reads_after writes_before writes_after Usage ran read write script told sound quiet_source quiet_sink = absurd ran.ends
completes limits says closing left left_after taken taken_after reads_before reads_after writes_before writes_after TooLong ran read write script told sound quiet_source quiet_sink =
    let gave = gave_script left left_after ran.bytes script told ran.gave in
    let over = ran.too_long refl in
    absurd (omega (arith, over, sound.in_limit, ap (length {A = ℕ}) gave.1, length-append ran.bytes gave.0))
completes limits says closing left left_after taken taken_after reads_before reads_after writes_before writes_after Schema ran read write script told sound quiet_source quiet_sink =
    let gave = gave_script left left_after ran.bytes script told ran.gave in
    absurd (no_fault limits script ran.bytes gave.0 ran.ended ran.ends.0 gave.1 (λ ended. subst NoneLeft gave.2 (ran.none_left ended)) ran.ends.1 sound)
