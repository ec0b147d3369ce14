use Rattle.stmt_tokens.specs.Streams.{stream}
use Rattle.stmt_reader.proofs.Verdict.{stream_rises}
use Rattle.policy_jobs.specs.Reading.{statement}
use Rattle.policy_jobs.proofs.Judging.{judged, verdict}
use Rattle.policy_jobs.proofs.reading.read_policy.Goals as goal

pub returns-clause-judged : goal.returns-clause-judged
returns-clause-judged c =
    let s = stream c.args.text.now c.args.skip in
    judged s c.answer.result (statement s) c.answer.ensures.exact (verdict s (stream_rises c.args.text.now c.args.skip c.requires.within))
