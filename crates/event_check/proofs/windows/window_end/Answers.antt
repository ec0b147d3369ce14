use Rattle.std.proofs.Common.{◌≡◌, rules}
use Rattle.ts_num.specs.Aggregates.{greater}
use Rattle.event_check.specs.Windows.{end_of}
use Rattle.event_check.proofs.Near.{near_window_end}
use Rattle.event_check.proofs.windows.window_end.Goals as goal

pub returns-clause-near : goal.returns-clause-near
returns-clause-near c =
    let is : c.greater.result ≡ greater c.args.mark (end_of c.args.width c.args.latest) = search rules in
    near_window_end c.args.width c.args.mark c.args.latest c.greater.result c.width_law.ensures.bounds c.requires.mark c.requires.latest is
