use Rattle.std.proofs.Common.{take}
use Rattle.refresh_cut.specs.Cuts.{AreFed}
use Rattle.refresh_cut.proofs.cuts.fed_logs.Given as goal

abbrev pub invariant-loop-mat : goal.invariant-loop-mat
invariant-loop-mat l = AreFed l.entries.items (take l.mat-index l.mats) l.all.items
