use Rattle.feed_reader.proofs.read.read_feed_line.Goals as goal

pub read_next_feed_line-requires : goal.read_next_feed_line-requires
read_next_feed_line-requires c = c.new.ensures c.args.schema.now
