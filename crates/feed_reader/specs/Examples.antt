-- Worked lines.
use Rattle.std.specs.Prelude.{ℕ, ◌≡◌, List, Result, Ok, Err, codes}
use Rattle.uni_table.specs.Example.{social}
use Rattle.uni_table.specs.declared.command.AudienceText.TheVariants.{Public, Only, Circle}
use Rattle.uni_table.specs.declared.command.Command.TheVariants.{Entity, Gone, Edge, Cut}
use Rattle.feed_reader.specs.Reading.{feed_line_of}
use Rattle.feed_reader.specs.declared.line.FeedLine.{FeedLine}
use Rattle.feed_reader.specs.declared.line.FeedLine.TheVariants.{Change, Publish}
use Rattle.feed_reader.specs.declared.fault.LineFault.{LineFault}
use Rattle.feed_reader.specs.declared.fault.LineFault.TheVariants.{BadLine, UnknownName}

-- what lines are in each format, under a schema with friends, photos and who lives where
abbrev pub first_read : List ℕ → Result FeedLine LineFault
first_read line = feed_line_of (record social { format = 1 }) line

abbrev pub second_read : List ℕ → Result FeedLine LineFault
second_read line = feed_line_of social line

pub record WorkedLines : Type 0 where
  pub entity : first_read (codes "entity user 7 0") ≡ Ok (Change (Entity 0 7 (record { 0 = 0 })))
  pub photo : first_read (codes "entity photo 1 5") ≡ Ok (Change (Entity 1 1 (record { 0 = 5 })))
  pub gone : first_read (codes "gone 77") ≡ Ok (Change (Gone 77))
  pub edge : first_read (codes "edge friend 1 2 public") ≡ Ok (Change (Edge 0 (codes "1") 2 Public 0))
  pub no_target : first_read (codes "edge friend 1 99 public") ≡ Ok (Change (Edge 0 (codes "1") 99 Public 0))
  pub no_source : first_read (codes "edge friend 99 1 public") ≡ Ok (Change (Edge 0 (codes "99") 1 Public 0))
  pub word : first_read (codes "edge friend rome 2 only") ≡ Ok (Change (Edge 0 (codes "rome") 2 Only 0))
  pub circle : first_read (codes "edge friend 1 2 in:shows:102") ≡ Ok (Change (Edge 0 (codes "1") 2 (Circle 3 (codes "102")) 0))
  pub cut : first_read (codes "cut friend 1 99") ≡ Ok (Change (Cut 0 (codes "1") 99))
  pub publish : first_read (codes "publish") ≡ Ok Publish
  pub no_vertical : first_read (codes "entity town 7 0") ≡ Err UnknownName
  pub no_type : first_read (codes "edge frend 1 2 public") ≡ Err UnknownName
  pub no_circle : first_read (codes "edge friend 1 2 in:frend:1") ≡ Err UnknownName
  pub no_id : first_read (codes "entity user 0 5") ≡ Err BadLine
  pub form_first : first_read (codes "entity town 0 5") ≡ Err BadLine
  pub leading_zero : first_read (codes "gone 01") ≡ Err BadLine
  pub two_spaces : first_read (codes "gone  1") ≡ Err BadLine
  pub no_key : first_read (codes "edge friend 1 2 in:friend:") ≡ Err BadLine
  pub until_in_first : first_read (codes "edge frend 1 2 public until 3") ≡ Err BadLine
  pub until : second_read (codes "edge friend 1 2 public until 1048576") ≡ Ok (Change (Edge 0 (codes "1") 2 Public 1048576))
  pub until_none : second_read (codes "edge frend 1 2 public until 0") ≡ Err BadLine
  pub until_past : second_read (codes "edge frend 1 2 public until 1048577") ≡ Err BadLine
  pub until_unknown : second_read (codes "edge frend 1 2 public until 1") ≡ Err UnknownName
  pub compact : second_read (codes "compact user 2 0") ≡ Err BadLine
  pub other : second_read (codes "stats") ≡ Err BadLine
