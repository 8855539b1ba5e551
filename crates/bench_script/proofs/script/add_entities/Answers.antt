use Rattle.std.proofs.Common.{rules, ◌≡◌, ◌*◌, ◌+◌, ◌-◌, ◌%◌, ◌++◌, ◌∷◌, [], ℕ, List, length, refl, sym, ap, ◌∙◌, arith, codes}
use Rattle.bench_script.specs.BenchScript.{drawn, entities, entity_line}
use Rattle.bench_script.proofs.Drawing.{draw_one, entities_more}
use Rattle.bench_script.proofs.Joined.{joined}
use Rattle.bench_script.proofs.script.add_entities.Goals as goal

pub loop-i-preserved : goal.loop-i-preserved
loop-i-preserved c =
    let seed = c.args.draws.now.last in let i = c.loop-i.i in let told = c.args.text.now in
    record {
      text = joined told (entities seed i) (entity_line (i + 1) c.draw.result) c.loop-i.text c.add_entity.new.text c.loop-i.invariant.text c.in_ok-add_entity.ensures
          ∙ ap (λ x. told ++ (entities seed i ++ entity_line (i + 1) x)) (c.draw.ensures.drawn ∙ ap drawn c.loop-i.invariant.draws)
          ∙ ap (λ t. told ++ t) (sym (entities_more seed i));
      draws = c.draw.ensures.last ∙ ap drawn c.loop-i.invariant.draws ∙ sym (draw_one i seed);
    }
