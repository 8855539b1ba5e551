use Rattle.std.proofs.Common.{rules, ◌≡◌, ◌*◌, ◌+◌, ◌-◌, ◌%◌, ◌++◌, ◌∷◌, [], ℕ, List, length, refl, sym, ap, ◌∙◌, arith, codes}
use Rattle.bench_script.specs.BenchScript.{after_draws, drawn, friend_line, lives_line}
use Rattle.bench_script.proofs.Joined.{joined}
use Rattle.bench_script.proofs.script.add_edges_of.Goals as goal

pub returns-clause-draws : goal.returns-clause-draws
returns-clause-draws c =
    let last2 = c.in_ok-add_friend-2.ensures.draws ∙ ap drawn c.in_ok-add_friend.ensures.draws in
    let last4 = c.in_ok-add_friend-4.ensures.draws ∙ ap drawn (c.in_ok-add_friend-3.ensures.draws ∙ ap drawn last2) in
    c.in_ok-add_lives.ensures.draws ∙ ap (λ x. drawn (drawn x)) last4

pub returns-clause-text : goal.returns-clause-text
returns-clause-text c =
    let people = c.args.people in let id = c.args.id in let x = c.args.draws.now.last in let text = c.add_lives.new.text in
    let last1 : c.add_friend.new.draws.last ≡ after_draws 1 x = c.in_ok-add_friend.ensures.draws in
    let last2 : c.add_friend-2.new.draws.last ≡ after_draws 2 x = c.in_ok-add_friend-2.ensures.draws ∙ ap drawn last1 in
    let last3 : c.add_friend-3.new.draws.last ≡ after_draws 3 x = c.in_ok-add_friend-3.ensures.draws ∙ ap drawn last2 in
    let last4 : c.add_friend-4.new.draws.last ≡ after_draws 4 x = c.in_ok-add_friend-4.ensures.draws ∙ ap drawn last3 in
    let friend = λ (n : ℕ). friend_line people id (after_draws n x) in
    let lives = lives_line id (after_draws 5 x) (after_draws 6 x) in
    let two : c.add_friend-2.new.text ≡ c.add_friend.new.text ++ friend 2
    = c.in_ok-add_friend-2.ensures.text ∙ ap (λ y. c.add_friend.new.text ++ friend_line people id (drawn y)) last1 in
    let three : c.add_friend-3.new.text ≡ c.add_friend-2.new.text ++ friend 3
    = c.in_ok-add_friend-3.ensures.text ∙ ap (λ y. c.add_friend-2.new.text ++ friend_line people id (drawn y)) last2 in
    let four : c.add_friend-4.new.text ≡ c.add_friend-3.new.text ++ friend 4
    = c.in_ok-add_friend-4.ensures.text ∙ ap (λ y. c.add_friend-3.new.text ++ friend_line people id (drawn y)) last3 in
    let five : text ≡ c.add_friend-4.new.text ++ lives
    = c.in_ok-add_lives.ensures.text ∙ ap (λ y. c.add_friend-4.new.text ++ lives_line id (drawn y) (drawn (drawn y))) last4 in
    joined c.args.text.now (friend 1) (friend 2 ++ (friend 3 ++ (friend 4 ++ lives))) c.add_friend.new.text text c.in_ok-add_friend.ensures.text
    (joined c.add_friend.new.text (friend 2) (friend 3 ++ (friend 4 ++ lives)) c.add_friend-2.new.text text two
    (joined c.add_friend-2.new.text (friend 3) (friend 4 ++ lives) c.add_friend-3.new.text text three
    (joined c.add_friend-3.new.text (friend 4) lives c.add_friend-4.new.text text four five)))
