use Rattle.std.proofs.Common.{rules, ◌≡◌, ◌<◌, ◌-◌, ◌++◌, ◌∷◌, [], true, length, get_or, List, subst, sym}
use Rattle.uni_base.specs.Cursors.{IsRanked, is_before}
use Rattle.posting_lists.specs.Postings.{keys_of}
use Rattle.posting_lists.specs.declared.posting.Posting.{Posting}
use Rattle.posting_lists.proofs.Sections.{IsRanked-more}
use Rattle.layer_tests.proofs.tests.postings.push_last.Goals as goal

pub returns-in_ok-push : goal.returns-in_ok-push
returns-in_ok-push c =
    let more : c.push.new.self ≡ c.args.rows.now ++ c.args.posting ∷ [] = search rules in
    let last : (d : Posting) → 0 < length c.as_slice.result.now → is_before (get_or c.as_slice.result.now (length c.as_slice.result.now - 1) d).key c.args.posting.key ≡ true = search rules in
    let is : c.as_slice.result.now ≡ c.args.rows.now = c.as_slice.ensures in
    subst (λ ps. IsRanked (keys_of ps)) (sym more) (IsRanked-more c.args.rows.now c.args.posting c.requires
    (subst (λ (ps : List Posting). (d : Posting) → 0 < length ps → is_before (get_or ps (length ps - 1) d).key c.args.posting.key ≡ true) is last))
