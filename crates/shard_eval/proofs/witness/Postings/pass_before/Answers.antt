use Rattle.std.proofs.Common.{map, ap, subst, sym, ◌∙◌}
use Rattle.uni_base.specs.Cursors.{IsRanked}
use Rattle.shard_eval.specs.Found.{found_posting}
use Rattle.shard_eval.proofs.PostingLists.{from_postings, keys_of_term}
use Rattle.shard_eval.proofs.witness.Postings.pass_before.Goals as goal

pub returns-clause-rest : goal.returns-clause-rest
returns-clause-rest c =
    let leaf = c.args.self.now.leaf in
    ap (map (found_posting leaf)) c.seek.ensures.postings ∙ sym (from_postings leaf c.args.key.now c.args.self.now.cursor)

pub returns-clause-ranked : goal.returns-clause-ranked
returns-clause-ranked c = subst IsRanked (sym (keys_of_term c.args.self.now.leaf c.args.self.now.cursor)) c.peek-ranked.ensures.ranked
