use Rattle.std.proofs.Common.{◌∙◌}
use Rattle.query_check.specs.Plan.{seen}
use Rattle.apply_extract.proofs.NotedHits.{cut_names, cut_told}
use Rattle.apply_extract.proofs.ShownHits.{reply_is}
use Rattle.apply_extract.proofs.reply.answer_by.Goals as goal

pub shown_hits-requires : goal.shown_hits-requires
shown_hits-requires g c =
    let st = c.requires.standing in
    cut_names c.args.version.now.schema st.1.0 (seen c.args.query.now).stated.plan c.args.limit _ _ c.in_ok-hits.hits (c.in_ok-hits.ensures st.0 st.1.0 st.1.1)

pub returns : goal.returns
returns g c limits table stands =
    let schema = c.args.version.now.schema in
    let plan = (seen c.args.query.now).stated.plan in
    let are = c.in_ok-hits.ensures limits table stands in
    (λ i. record { publishes = c.publishes.ensures i; hits = c.in_ok-hits-2.ensures limits table stands i })
    ∙ reply_is schema table c.args.viewer c.args.version.now.publishes plan c.args.limit _ c.in_ok-hits.hits are.keys (cut_told schema table plan c.args.limit _ _ c.in_ok-hits.hits are)
