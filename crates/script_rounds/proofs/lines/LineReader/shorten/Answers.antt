use Rattle.std.proofs.Common.{◌≡◌, take, drop, ◌∙◌, ap}
use Rattle.std.proofs.lemmas.List.{drop-take}
use Rattle.script_rounds.specs.Reading.{LineState}
use Rattle.script_rounds.proofs.lines.LineReader.shorten.Goals as goal

pub returns : goal.returns
returns c =
    let inside = c.self.inside in
    let buffer = inside.buffer.items in
    let cut : drop inside.start c.truncate.new.self.items ≡ take inside.kept (drop inside.start buffer) =
    ap (drop inside.start) c.truncate.ensures.items ∙ drop-take inside.start inside.kept buffer in
    let state : LineState = record { ahead = take inside.kept (drop inside.start buffer); lines = inside.lines; taken = inside.taken; limit = inside.limit; ended = inside.ended; kept = inside.kept } in
    ap (λ ahead. record state { ahead = ahead }) cut ∙ ap (λ (s : LineState). record s { ahead = take s.kept s.ahead }) c.self.view_is
