-- What a query is answered.
use Rattle.std.specs.Prelude.{ℕ, Option}
use Rattle.std.specs.List.{filter_map}
use Rattle.std.specs.Option.{option_map}
use Rattle.uni_base.specs.declared.entity.DocKey.{DocKey}
use Rattle.uni_schema.specs.Schema.{Declarations}
use Rattle.uni_table.specs.Contents.{Contents}
use Rattle.query_check.specs.Plan.{Plan}
use Rattle.uni_meaning.specs.Firsts.{first_shown}
use Rattle.uni_meaning.specs.Hits.{cut}
use Rattle.uni_meaning.specs.declared.reply.Hit.{Hit}
use Rattle.uni_meaning.specs.declared.reply.Reply.{Reply}

-- a hit with the lineage that a viewer is shown, if there is one
abbrev pub shown_hit : Declarations → Contents → ℕ → Plan → DocKey → Option Hit
shown_hit schema table viewer plan x = option_map (λ edges. record { key = x; lineage = edges }) (first_shown schema table viewer plan x)

-- ReplyOf: the number of publishes that it is answered at, and the members of the cut that have a lineage to
-- show, in order, each with it. The cut comes first, and who may see comes after it
abbrev pub reply_of : Declarations → Contents → ℕ → Plan → ℕ → ℕ → Reply
reply_of schema table publishes plan viewer limit =
    record { publishes = publishes; hits = filter_map (shown_hit schema table viewer plan) (cut schema table plan limit) }
