use Rattle.stmt_reader.proofs.Verdict.{one_reading}
use Rattle.stmt_reader.proofs.reading.one_reading_law.Goals as goal

pub returns : goal.returns
returns c = one_reading
