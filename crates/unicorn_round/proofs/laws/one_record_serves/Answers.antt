use Rattle.unicorn_round.proofs.OneRecord.{one_record_serves}
use Rattle.unicorn_round.proofs.laws.one_record_serves.Goals as goal

pub returns : goal.returns
returns c = one_record_serves c.answers_tell.ensures c.opens_by_text.ensures c.opened_is_schema.ensures
