use Rattle.transcript.proofs.AsciiLaws.{ascii_reads_back}
use Rattle.transcript.proofs.ReadingBack.{reads_back, reads_as_one}
use Rattle.transcript.proofs.laws.text_law.Goals as goal

pub returns-clause-back : goal.returns-clause-back
returns-clause-back c = reads_back

pub returns-clause-ascii : goal.returns-clause-ascii
returns-clause-ascii c = ascii_reads_back

pub returns-clause-one : goal.returns-clause-one
returns-clause-one c = reads_as_one
