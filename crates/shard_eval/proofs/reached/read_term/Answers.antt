use Rattle.std.proofs.Common.{◌≡◌, ◌-◌, ◌++◌, ◌∷◌, [], List, length, map, ap, subst, sym, ◌∙◌, arith}
use Rattle.std.proofs.lemmas.List.{map-append}
use Rattle.layer_base.specs.Layers.{stack_table}
use Rattle.posting_lists.specs.declared.posting.Posting.{Posting}
use Rattle.shard_eval.specs.Found.{Found, found_posting, found_term}
use Rattle.shard_eval.specs.Kept.{is_full}
use Rattle.shard_eval.specs.Reached.{found_reached}
use Rattle.shard_eval.proofs.ReachedLists.{HasRead, read_count, read_end, read_full, read_posting}
use Rattle.shard_eval.proofs.reached.read_term.Goals as goal
use Rattle.shard_eval.proofs.reached.read_term.Goals.{in-Some+then-is_full, in_default}

pub loop-posting-preserved : goal.loop-posting-preserved
loop-posting-preserved c =
    let limit = c.args.limit in
    let leaf = c.args.leaf.now in
    let before = map found_reached c.args.reached.now in
    let all = found_term (stack_table c.args.stack.now.0) leaf in
    let read = c.loop-posting.invariant.read in
    let count = read_count found_reached limit c.args.reached.now c.loop-posting.reached (map (found_posting leaf) c.loop-posting.cursor) all read in
    let same : c.len.result - c.len-before.result ≡ length read.got = omega (arith, count, c.len.ensures, c.loop-posting.invariant.before) in
    let more = read_posting before limit leaf (map found_reached c.loop-posting.reached) c.loop-posting.cursor c.in-Some.posting all read (sym c.posting.ensures ∙ c.in-Some.is)
    (ap (λ n. is_full n limit) (sym same) ∙ sym c.is_full.ensures ∙ c.if-is_full.false) in
    record {
      before = c.loop-posting.invariant.before;
      read = subst (λ (fs : List Found). HasRead before limit fs (map (found_posting leaf) c.step.new.self) all)
          (sym (ap (map found_reached) (c.in_ok-push.ensures {u = tt}).ok ∙ map-append found_reached c.loop-posting.reached (record { leaf = c.args.leaf; posting = c.in-Some.posting } ∷ [])))
          (subst (λ (ps : List Posting). HasRead before limit (map found_reached c.loop-posting.reached ++ found_posting leaf c.in-Some.posting ∷ []) (map (found_posting leaf) ps) all) (sym c.step.ensures.postings) more);
    }

pub returns : goal.returns
returns c =
    let limit = c.args.limit in
    let leaf = c.args.leaf.now in
    let before = map found_reached c.args.reached.now in
    let all = found_term (stack_table c.args.stack.now.0) leaf in
    let now = map found_reached c.loop-posting.reached in
    let read = c.loop-posting.invariant.read in
    let count = read_count found_reached limit c.args.reached.now c.loop-posting.reached (map (found_posting leaf) c.loop-posting.cursor) all read in
    elim c.match-posting.branch [
      | in-Some+then-is_full w ↦
          let same : w.len.result - c.len-before.result ≡ length read.got = omega (arith, count, w.len.ensures, c.loop-posting.invariant.before) in
          read_full before limit now (map (found_posting leaf) c.loop-posting.cursor) all read (ap (λ n. is_full n limit) (sym same) ∙ sym w.is_full.ensures ∙ w.if-is_full.true)
      | in_default w ↦ read_end before limit leaf now c.loop-posting.cursor all read (λ p e. w.in_default.not-Some p (c.posting.ensures ∙ e))
    ]
