use Rattle.std.proofs.Common.{arith}
use Rattle.event_codec.proofs.Shifts.{most_near}
use Rattle.event_codec.proofs.numbers.most_left.Goals as goal

pub returns-clause-near : goal.returns-clause-near
returns-clause-near c = most_near c.args.most c.args.low (omega arith) c.requires.near
