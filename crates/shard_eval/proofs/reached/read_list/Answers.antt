use Rattle.std.proofs.Common.{◌++◌, List, map, ap, ◌∙◌}
use Rattle.std.proofs.lemmas.List.{take_all}
use Rattle.posting_lists.specs.declared.posting.Posting.{Posting}
use Rattle.shard_eval.specs.Found.{Found, found_posting}
use Rattle.shard_eval.specs.Reached.{found_reached}
use Rattle.shard_eval.proofs.KeptRanked.{up_to_map}
use Rattle.shard_eval.proofs.reached.read_list.Goals as goal

pub returns : goal.returns
returns c =
    let before = map found_reached c.args.reached.now in
    let leaf = c.args.list.now.leaf in
    c.loop-posting.invariant
    ∙ ap (λ (ps : List Posting). before ++ map (found_posting leaf) ps) (take_all c.loop-posting.posting-index c.first_rows-rows.result.now c.loop-posting-test.false ∙ c.first_rows-rows.ensures)
    ∙ ap (λ (fs : List Found). before ++ fs) (up_to_map (found_posting leaf) c.args.limit c.args.list.now.rows.now)
