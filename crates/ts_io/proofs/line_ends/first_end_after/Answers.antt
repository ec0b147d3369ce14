-- What is after the bytes that were searched.
use Rattle.std.proofs.Common.{◌+◌, ◌-◌, ◌<◌, length, take, drop, rules}
use Rattle.ts_io.proofs.LineEnds.{IsFirstEnd-after, found_end, found_none, none_after}
use Rattle.ts_io.proofs.line_ends.first_end_after.Goals as goal

pub overflow_add-result : goal.overflow_add-result
overflow_add-result c =
    let found = IsFirstEnd-after c.args.text.now c.args.searched c.in-Some.n c.requires.within c.requires.none (found_end (take (length c.args.text.now - c.args.searched) (drop c.args.searched c.args.text.now)) c.in-Some.n c.in-Some.ensures) in
    let within : c.args.searched + c.in-Some.n < length c.args.text.now = found.0 in
    search rules

pub returns-in-Some : goal.returns-in-Some
returns-in-Some c = IsFirstEnd-after c.args.text.now c.args.searched c.in-Some.n c.requires.within c.requires.none (found_end (take (length c.args.text.now - c.args.searched) (drop c.args.searched c.args.text.now)) c.in-Some.n c.in-Some.ensures)

pub returns-in-None : goal.returns-in-None
returns-in-None c = none_after c.args.text.now c.args.searched c.requires.none (found_none (take (length c.args.text.now - c.args.searched) (drop c.args.searched c.args.text.now)) c.in-None.ensures)
