use Rattle.stmt_reader.proofs.Verdict.{reads_by_the_grammar}
use Rattle.stmt_reader.proofs.reading.reading_law.Goals as goal

pub returns : goal.returns
returns c = reads_by_the_grammar
