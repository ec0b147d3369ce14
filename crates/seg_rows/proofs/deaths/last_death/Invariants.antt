use Rattle.std.proofs.Common.{◌≡◌, take}
use Rattle.seg_rows.specs.Lives.{all_died}
use Rattle.seg_rows.proofs.deaths.last_death.Given as goal

abbrev pub invariant-loop-life : goal.invariant-loop-life
invariant-loop-life l = l.dead ≡ all_died (take l.life-index l.lives)
