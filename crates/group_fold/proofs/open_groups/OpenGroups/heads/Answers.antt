use Rattle.std.proofs.Common.{subst}
use Rattle.group_fold.specs.Gathering.{IsAt}
use Rattle.group_fold.specs.Blocks.{IsHeadAt}
use Rattle.group_fold.proofs.InBlocks.{is_at_head}
use Rattle.group_fold.proofs.open_groups.OpenGroups.heads.Goals as goal

pub returns-clause-stand : goal.returns-clause-stand
returns-clause-stand c g at is =
    subst (λ groups. IsAt g groups at) c.self.view_is
    (is_at_head c.self.inside.each c.self.inside.blocks.items c.self.inside.heads.items g at (subst (λ heads. IsHeadAt g heads at) c.as_slice.ensures.value is))
