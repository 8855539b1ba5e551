-- Questions over a small table of users and photos.
use Rattle.std.specs.Prelude.{ℕ, List, codes, map}
use Rattle.uni_base.specs.declared.edge.EdgeRef.{EdgeRef}
use Rattle.uni_base.specs.declared.edge.Key.{Key}
use Rattle.uni_base.specs.declared.edge.Key.TheVariants.{Id, Word}
use Rattle.uni_table.specs.Contents.{Contents}
use Rattle.uni_table.specs.Example.{social}
use Rattle.uni_table.specs.Journals.{after_commands}
use Rattle.uni_table.specs.declared.command.Command.{Command}
use Rattle.query_tree.specs.declared.kind.JoinKind.TheVariants.{Apply}
use Rattle.query_tree.specs.declared.query.Mark.{Mark}
use Rattle.query_tree.specs.declared.query.Mark.TheVariants as marks
use Rattle.query_check.specs.Plan.{Plan, Plans, term_plan, join_plan, no_plans, with_plan}
use Rattle.uni_meaning.specs.Replies.{reply_of}
use Rattle.uni_meaning.specs.declared.reply.Hit.{Hit}

-- the edges of a hit, each as its type's number, key and target
abbrev pub named : EdgeRef → ℕ × Key × ℕ
named edge = (edge.type_no, edge.key, edge.target)

-- what a viewer is shown: ids with lineages
abbrev pub shown : Contents → ℕ → Plan → ℕ → List (ℕ × List (ℕ × Key × ℕ))
shown table viewer plan limit = map (λ (h : Hit). (h.key.id, map named h.lineage)) (reply_of social table 1 plan viewer limit).hits

-- their ids alone
abbrev pub ids : Contents → ℕ → Plan → ℕ → List ℕ
ids table viewer plan limit = map (λ (h : Hit). h.key.id) (reply_of social table 1 plan viewer limit).hits

-- the table after further commands
abbrev pub then : Contents → List Command → Contents
then table commands = after_commands social table commands

-- `friend:1` and `lives:rome`
abbrev pub friends : Plan
friends = term_plan 0 (Id 1)

abbrev pub romans : Plan
romans = term_plan 1 (Word (codes "rome"))

-- two operands, the first one marked
abbrev pub two : Plan → Mark → Plan → Plans
two first mark second = with_plan first mark (with_plan second marks.Plain no_plans)

-- `(apply tagged: friend:1 :limit n)`
abbrev pub tagged : ℕ → Plan
tagged limit = join_plan Apply 2 limit friends
