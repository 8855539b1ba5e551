use Rattle.std.proofs.Common.{arith, ◌≡◌, ◌<◌, ◌∷◌, [], List, Option, IfNone, length, refl, ap, ◌∙◌, sym, subst}
use Rattle.posting_lists.specs.declared.posting.Posting.{Posting}
use Rattle.layer_stack.specs.Postings.{putting_list}
use Rattle.layer_stack.specs.Stacks.{remaining_of, first_and}
use Rattle.layer_stack.proofs.front.put_parts.Goals as goal

pub loop-posting-init : goal.loop-posting-init
loop-posting-init c = record { put = refl; stand = c.least-head.ensures }

pub next-requires : goal.next-requires
next-requires c = c.loop-posting.invariant.stand

pub loop-posting-smaller : goal.loop-posting-smaller
loop-posting-smaller c =
    let first : c.in-Some.posting ∷ remaining_of c.next.new.parts ≡ remaining_of c.loop-posting.parts = ap (λ o. first_and o (remaining_of c.next.new.parts)) (sym c.in-Some.is) ∙ c.next.ensures.first in
    subst (λ (xs : List Posting). length (remaining_of c.next.new.parts) < length xs) first (omega arith)

pub loop-posting-preserved : goal.loop-posting-preserved
loop-posting-preserved c =
    let p = c.in-Some.posting in let t = c.args.term.now in
    let first : p ∷ remaining_of c.next.new.parts ≡ remaining_of c.loop-posting.parts = ap (λ o. first_and o (remaining_of c.next.new.parts)) (sym c.in-Some.is) ∙ c.next.ensures.first in
    record {
      put = ap (putting_list t (remaining_of c.next.new.parts)) c.in_ok-put.ensures.ok ∙ ap (λ ps. putting_list t ps c.loop-posting.delta) first ∙ c.loop-posting.invariant.put;
      stand = c.next.ensures.least;
    }

pub returns : goal.returns
returns c =
    let t = c.args.term.now in let o = c.next.result in
    let none : remaining_of c.next.new.parts ≡ [] = subst (λ (x : Option Posting). IfNone x (remaining_of c.next.new.parts ≡ [])) c.in_default.is c.next.ensures.none in
    let gone : [] ≡ remaining_of c.loop-posting.parts = sym none ∙ ap (λ x. first_and x (remaining_of c.next.new.parts)) (sym c.in_default.is) ∙ c.next.ensures.first in
    ap (λ ps. putting_list t ps c.loop-posting.delta) gone ∙ c.loop-posting.invariant.put
