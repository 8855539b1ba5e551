use Rattle.std.proofs.Common.{ap, ◌∙◌}
use Rattle.posting_lists.specs.Postings.{keys_of}
use Rattle.posting_lists.proofs.Sections.{keys_of-postings_from}
use Rattle.posting_lists.proofs.cursor.ListCursorDocCursor.seek.Goals as goal

pub returns-clause-keys : goal.returns-clause-keys
returns-clause-keys c = ap keys_of c.seek_over.ensures ∙ keys_of-postings_from c.args.from c.args.self.now
