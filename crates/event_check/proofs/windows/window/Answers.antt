use Rattle.std.proofs.Common.{rules, FitsSigned}
use Rattle.std.specs.Int.{w64}
use Rattle.std.proofs.lemmas.Int.{to_z-of_z}
use Rattle.event_check.proofs.Near.{near_time}
use Rattle.event_check.proofs.windows.window.Goals as goal

pub window_to-requires-clause-high : goal.window_to-requires-clause-high
window_to-requires-clause-high c =
    let fits : FitsSigned w64 c.in-Some.hi = search rules in
    rw (to_z-of_z w64 c.in-Some.hi fits) (near_time c.in-Some.hi (c.requires.high c.in-Some.hi c.in-Some.is))

pub window_to-requires-in-Some-window_end-clause-high : goal.window_to-requires-in-Some-window_end-clause-high
window_to-requires-in-Some-window_end-clause-high c =
    let fits : FitsSigned w64 c.in-Some-window_end.hi = search rules in
    rw (to_z-of_z w64 c.in-Some-window_end.hi fits) (c.window_end.ensures.near c.in-Some-window_end.hi c.in-Some-window_end.is)
