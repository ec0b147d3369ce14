use Rattle.std.proofs.Common.{arith}
use Rattle.event_codec.proofs.Shifts.{least_near}
use Rattle.event_codec.proofs.numbers.least_left.Goals as goal

pub returns-clause-near : goal.returns-clause-near
returns-clause-near c = least_near c.args.least c.args.low (omega arith) c.requires.near
