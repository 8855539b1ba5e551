use Rattle.std.proofs.Common.{◌≡◌, List, [], ◌∷◌, refl, ap, ◌∙◌}
use Rattle.std.specs.List.{cons_option, filter_map}
use Rattle.uni_base.specs.declared.entity.DocKey.{DocKey}
use Rattle.query_check.specs.Plan.{Plan, stated_of}
use Rattle.uni_meaning.specs.Hits.{cut}
use Rattle.uni_meaning.specs.Replies.{shown_hit}
use Rattle.uni_meaning.specs.Standings.{members_of, shown_member}
use Rattle.uni_meaning.specs.Viewed.{Viewed}
use Rattle.uni_meaning.specs.declared.reply.Hit.{Hit}
use Rattle.uni_meaning.proofs.answer.plain_answer.Goals as goal

-- the members of a cut that are shown
shown_of_members : (v : Viewed) (plan : Plan) (ks : List DocKey) → filter_map shown_member (members_of v plan ks) ≡ filter_map (shown_hit v.schema v.contents v.viewer plan) ks
shown_of_members v plan [] = refl
shown_of_members v plan (k ∷ ks) = ap (cons_option (shown_hit v.schema v.contents v.viewer plan k)) (shown_of_members v plan ks)

pub returns : goal.returns
returns c =
    let v : Viewed = record { schema = c.args.table.now.schema; limits = c.args.table.now.limits; contents = c.args.table.now.contents; viewer = c.args.viewer } in
    let plan = (stated_of c.args.query.now).plan in
    let hits : c.in_ok-hits.hits ≡ filter_map (shown_hit v.schema v.contents v.viewer plan) (cut v.schema v.contents plan c.args.limit) =
    c.in_ok-hits.ensures ∙ ap (filter_map shown_member) c.in_ok-members.ensures ∙ shown_of_members v plan (cut v.schema v.contents plan c.args.limit) in
    ap (λ (hs : List Hit). record { publishes = c.args.publishes; hits = hs }) hits
