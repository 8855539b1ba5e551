-- The rows of a shard have exactly what the table has there, and stacks add up.
use Rattle.std.proofs.Common.{◌≡◌, ◌∙◌, ℕ, Bool, true, false, if◌then◌else◌, Option, None, Some, refl, ap}
use Rattle.std.specs.FinMap as finite
use Rattle.uni_base.specs.declared.edge.Audience.{Audience}
use Rattle.uni_schema.specs.Schema.{Declarations}
use Rattle.uni_table.specs.Contents.{Contents}
use Rattle.layer_stack.specs.declared.place.Place.{Place}
use Rattle.forward_data.specs.declared.record.RecordKey.{RecordKey}
use Rattle.forward_data.specs.Records.{left_by}
use Rattle.shard_index.specs.ChangedRows.{items_of}
use Rattle.shard_index.specs.Rows.{no_rows, layer_over}
use Rattle.shard_index.specs.Shards.{shard_rows}
use Rattle.shard_index.specs.Laws.{RowsAreExact, StacksAddUp, audience_there, record_in_shard}
use Rattle.shard_index.proofs.ChangedRecords.{is_own, absent, present}
use Rattle.shard_index.proofs.PostedRows.{at_place, posted_read}
use Rattle.shard_index.proofs.ReadRanks.{ranks_read}
use Rattle.shard_index.proofs.ReadEdges.{edges_read}
use Rattle.shard_index.proofs.ReadTerms.{terms_read}
use Rattle.shard_index.proofs.ReadRecords.{records_read}
use Rattle.shard_index.proofs.StackLaws.{layer_over-empty, stack_over-append, stack_over-snoc, stack_rows-front}
use Rattle.shard_index.proofs.Standing.{shard_rows-none}

there : (place : Place) (posting : Option (Place × Audience)) → at_place place posting ≡ audience_there place posting
there place None = refl
there place (Some p) = refl

key_read : (schema : Declarations) (table : Contents) (vertical shard : ℕ) (key : RecordKey) → finite.get (shard_rows schema table vertical shard).records key ≡ record_in_shard schema table vertical shard key
key_read schema table vertical shard key = by (is_own schema vertical shard key) refl
  where
    by : (b : Bool) → is_own schema vertical shard key ≡ b → finite.get (shard_rows schema table vertical shard).records key ≡ (if b then left_by (items_of table key) else None)
    by true own = present schema vertical shard table key own
    by false other = absent schema vertical shard table key other

pub rows_are_exact : RowsAreExact
rows_are_exact = record {
  ranks = λ schema limits table vertical shard id kept. ranks_read schema limits table vertical shard kept id;
  edges = λ schema limits table vertical shard number key target kept leads of_shard. edges_read schema limits table vertical shard number key target kept leads of_shard;
  postings = λ schema limits table vertical shard number key kept leads. terms_read schema limits table vertical shard number key kept leads;
  records = λ schema table vertical shard number id of_type of_shard. records_read schema table vertical shard number id of_type of_shard;
  places = λ schema limits table vertical shard place kept. posted_read schema limits table vertical shard kept place ∙ there place _;
  keys = key_read;
}

pub stacks_add_up : StacksAddUp
stacks_add_up = record {
  unchanged = layer_over-empty;
  together = stack_over-append;
  above = stack_over-snoc;
  front = stack_rows-front;
  next = λ schema old new vertical shard layers layer stands takes. stack_over-snoc no_rows layers layer ∙ ap (λ rows. layer_over rows layer) stands ∙ takes;
  start = shard_rows-none;
}
