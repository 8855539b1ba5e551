use Rattle.std.proofs.Common.{rules, ◌≡◌, ◌*◌, ◌+◌, ◌-◌, ◌%◌, ◌++◌, ◌∷◌, [], ℕ, List, length, refl, sym, ap, ◌∙◌, arith, codes}
use Rattle.std.specs.List.{flat_map}
use Rattle.bench_script.specs.BenchScript.{ask_line, one_to}
use Rattle.bench_script.proofs.Drawing.{asks_more}
use Rattle.bench_script.proofs.Joined.{joined}
use Rattle.bench_script.proofs.script.add_asks.Goals as goal

pub loop-k-preserved : goal.loop-k-preserved
loop-k-preserved c =
    let people = c.args.people in let k = c.loop-k.k in let told = c.args.text.now in
    joined told (flat_map (λ n. ask_line people (n - 1)) (one_to k)) (ask_line people k) c.loop-k.text c.add_ask.new.text c.loop-k.invariant c.in_ok-add_ask.ensures
    ∙ ap (λ t. told ++ t) (sym (asks_more people k))

pub returns : goal.returns
returns c =
    let people = c.args.people in
    let end : c.loop-k.k ≡ 9 = omega arith in
    let all : c.loop-k.text ≡ c.args.text.now ++ flat_map (λ n. ask_line people (n - 1)) (one_to 9)
    = c.loop-k.invariant ∙ ap (λ k. c.args.text.now ++ flat_map (λ n. ask_line people (n - 1)) (one_to k)) end in
    joined c.args.text.now (flat_map (λ n. ask_line people (n - 1)) (one_to 9)) (codes "go\n") c.loop-k.text c.extend_from_slice.new.self all c.in_ok-extend_from_slice.ensures.ok
