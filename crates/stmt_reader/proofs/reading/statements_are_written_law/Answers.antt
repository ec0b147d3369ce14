use Rattle.stmt_reader.proofs.WrittenLaws.{statements_are_written}
use Rattle.stmt_reader.proofs.reading.statements_are_written_law.Goals as goal

pub returns : goal.returns
returns c = statements_are_written
