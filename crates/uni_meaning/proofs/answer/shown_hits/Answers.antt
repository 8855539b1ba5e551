use Rattle.std.proofs.Common.{◌++◌, ◌∷◌, [], List, Option, sym, ap, ◌∙◌, append-nil}
use Rattle.std.proofs.lemmas.List.Elements.{filter_map-append}
use Rattle.std.specs.List.{cons_option, filter_map}
use Rattle.std.specs.Option.{option_map}
use Rattle.uni_base.specs.declared.edge.EdgeRef.{EdgeRef}
use Rattle.uni_meaning.specs.Standings.{shown_member}
use Rattle.uni_meaning.specs.declared.reply.Hit.{Hit}
use Rattle.uni_meaning.proofs.answer.shown_hits.Goals as goal

pub loop-member-preserved-in-Continue-1 : goal.loop-member-preserved-in-Continue-1
loop-member-preserved-in-Continue-1 c =
    let hit = λ (o : Option (List EdgeRef)). cons_option {X = Hit} (option_map (λ edges. record { key = c.in-Some.member.key; lineage = edges }) o) [] in
    c.in_ok-push.ensures.ok ∙ ap (λ (hs : List Hit). hs ++ (record { key = c.in-Some.member.key; lineage = c.in-Some-lineage.lineage }) ∷ []) c.loop-member.invariant
    ∙ ap (λ (hs : List Hit). filter_map shown_member c.loop-member.yielded ++ hs) (ap hit (sym c.in-Some-lineage.is)) ∙ sym (filter_map-append shown_member c.loop-member.yielded (c.in-Some.member ∷ []))

pub loop-member-preserved : goal.loop-member-preserved
loop-member-preserved c =
    let hit = λ (o : Option (List EdgeRef)). cons_option {X = Hit} (option_map (λ edges. record { key = c.in-Some.member.key; lineage = edges }) o) [] in
    c.loop-member.invariant ∙ sym (filter_map-append shown_member c.loop-member.yielded (c.in-Some.member ∷ []) ∙ ap (λ (hs : List Hit). filter_map shown_member c.loop-member.yielded ++ hs) (ap hit c.in_default.is) ∙ append-nil _)
