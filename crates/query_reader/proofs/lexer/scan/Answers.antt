use Rattle.std.proofs.Common.{◌<◌, ◌+◌, List, length, ap, ◌∙◌, sym, rules}
use Rattle.query_reader.specs.Tokens.{pieces, tokens_of}
use Rattle.query_reader.specs.declared.token.Token.{Token}
use Rattle.query_reader.proofs.Pieces.{after, place-front, step-piece, step-space}
use Rattle.query_reader.proofs.lexer.scan.Goals as goal
use Rattle.query_reader.proofs.lexer.scan.Goals.{then-rest-ne32+in_ok-keep, else-rest-ne32}

pub loop-rest-preserved : goal.loop-rest-preserved
loop-rest-preserved c =
    let some : 0 < length c.loop-rest.rest.now = search rules in
    record {
      read =
          elim c.if-rest-ne32.branch [
            | then-rest-ne32+in_ok-keep w ↦
                step-piece _ _ _ _ _ _ _ _ some w.if-rest-ne32.true c.cut_front.ensures.front c.cut_front.ensures.others
                w.in_ok-keep.ensures.ok c.loop-rest.invariant.read
                ∙ ap (λ (tokens : List Token). after tokens (tokens_of c.args.format (pieces (c.loop-rest.at + length c.cut_front.result.0.now) 0 c.cut_front.result.1.now))) (sym w.tokens-is)
            | else-rest-ne32 w ↦
                step-space _ _ _ _ _ _ _ some w.if-rest-ne32.false c.cut_front.ensures.front c.cut_front.ensures.others
                c.loop-rest.invariant.read
                ∙ ap (λ (tokens : List Token). after tokens (tokens_of c.args.format (pieces (c.loop-rest.at + length c.cut_front.result.0.now) 0 c.cut_front.result.1.now))) (sym w.tokens-is)
          ];
      place =
          place-front _ _ _ _ _ some c.cut_front.ensures.front c.cut_front.ensures.others c.loop-rest.invariant.place;
    }
