use Rattle.ts_io.proofs.LineEnds.{found_end, found_none}
use Rattle.par_lines.proofs.FirstLines.{ended_line, last_line}
use Rattle.par_lines.proofs.line_ends.first_line_len.Goals as goal

pub returns-in-Some-clause-line : goal.returns-in-Some-clause-line
returns-in-Some-clause-line c = ended_line c.args.text.now c.in-Some.end (found_end c.args.text.now c.in-Some.end c.in-Some.ensures)

pub returns-in-None-clause-line : goal.returns-in-None-clause-line
returns-in-None-clause-line c = last_line c.args.text.now (found_none c.args.text.now c.in-None.ensures) c.requires.some
