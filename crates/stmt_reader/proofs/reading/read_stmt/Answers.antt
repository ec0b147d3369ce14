use Rattle.stmt_reader.specs.Reading.{statement}
use Rattle.stmt_tokens.specs.Streams.{stream}
use Rattle.stmt_reader.proofs.Verdict.{judged, verdict, stream_rises}
use Rattle.stmt_reader.proofs.WrittenLaws.{written}
use Rattle.stmt_reader.proofs.reading.read_stmt.Goals as goal

pub returns-clause-judged : goal.returns-clause-judged
returns-clause-judged c =
    let s = stream c.args.text.now c.args.skip in
    judged s c.answer.result (statement s) c.answer.ensures.exact (verdict s (stream_rises c.args.text.now c.args.skip c.requires.within))

pub returns-clause-written : goal.returns-clause-written
returns-clause-written c =
    let text = c.args.text.now in
    let s = stream text c.args.skip in
    written text c.args.skip c.answer.result c.requires.within
    (judged s c.answer.result (statement s) c.answer.ensures.exact (verdict s (stream_rises text c.args.skip c.requires.within)))
