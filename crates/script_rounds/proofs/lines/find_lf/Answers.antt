use Rattle.std.proofs.lemmas.List.{take_rest}
use Rattle.script_rounds.proofs.Searches.{found_after, none_after}
use Rattle.script_rounds.proofs.lines.find_lf.Goals as goal

pub returns-in-Some : goal.returns-in-Some
returns-in-Some c =
    let found = rw (take_rest c.args.bytes.now c.args.searched) at c.in-Some.ensures in
    found_after c.args.bytes.now c.args.searched c.in-Some.place c.requires.none found.0 found.1

pub returns-in-None : goal.returns-in-None
returns-in-None c =
    let none = rw (take_rest c.args.bytes.now c.args.searched) at c.in-None.ensures in
    none_after c.args.bytes.now c.args.searched c.requires.none none
