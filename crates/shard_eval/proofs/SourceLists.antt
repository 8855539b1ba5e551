-- What sources find, one by one.
use Rattle.std.proofs.Common.{◌<◌, ℕ, zero, suc, List, [], ◌∷◌, ◌++◌, length, get_or, arith}
use Rattle.std.proofs.lemmas.List.Elements.{All-head, All-tail}
use Rattle.query_tree.specs.declared.query.Mark.{Mark}
use Rattle.uni_base.specs.Cursors.{IsRanked}
use Rattle.layer_stack.specs.Postings.{PostingTable}
use Rattle.shard_eval.specs.declared.source.Source.{Source}
use Rattle.shard_eval.specs.Found.{Found, found_keys}
use Rattle.shard_eval.specs.Sources.{found_by, found_lists, AreRanked}

-- each is in rank order where all are
pub ranked_at : (table : PostingTable) (sources : List (Source × Mark)) (i : ℕ) (d : Source × Mark) → i < length sources → AreRanked (found_lists table sources) → IsRanked (found_keys (found_by table (get_or sources i d).0))
ranked_at table [] i d here all = absurd (omega (arith, here))
ranked_at table (s ∷ sources) zero d here all = All-head (λ (fs : List Found). IsRanked (found_keys fs)) (found_by table s.0) (found_lists table sources) all
ranked_at table (s ∷ sources) (suc i) d here all = ranked_at table sources i d (omega (arith, here)) (All-tail (λ (fs : List Found). IsRanked (found_keys fs)) (found_by table s.0) (found_lists table sources) all)

pub ranked_next : (table : PostingTable) (past : List (Source × Mark)) (next : Source × Mark) (rest : List (Source × Mark)) → AreRanked (found_lists table (past ++ next ∷ rest)) → IsRanked (found_keys (found_by table next.0))
ranked_next table [] next rest all = All-head (λ (fs : List Found). IsRanked (found_keys fs)) (found_by table next.0) (found_lists table rest) all
ranked_next table (s ∷ past) next rest all = ranked_next table past next rest (All-tail (λ (fs : List Found). IsRanked (found_keys fs)) (found_by table s.0) (found_lists table (past ++ next ∷ rest)) all)
