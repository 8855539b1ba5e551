use Rattle.std.proofs.Common.{◌∙◌, ◌++◌, ap}
use Rattle.feed_reader.specs.Printing.{line_text}
use Rattle.feed_reader.specs.Reading.{feed_line_of}
use Rattle.feed_reader.proofs.Printed.{fields_fit, read_again}
use Rattle.feed_reader.proofs.print.print_feed_line.Goals as goal

pub returns-clause-again : goal.returns-clause-again
returns-clause-again c =
    let kept = c.format-format.ensures.kept in
    ap (feed_line_of c.args.schema.now) (c.in_ok-add_line.ensures.text ∙ ap (λ front. front ++ line_text c.args.schema.now c.args.line.now) c.new-text.ensures)
    ∙ read_again c.args.schema.now c.args.line.now kept c.requires.declared
    (fields_fit c.args.schema.now c.args.line.now kept c.requires.declared c.requires.until c.in_ok-add_line.ensures.fits)
