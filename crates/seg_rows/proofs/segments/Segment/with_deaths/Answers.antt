use Rattle.std.proofs.Common.{◌∙◌, ap, length}
use Rattle.seg_rows.specs.Lives.{all_died}
use Rattle.seg_rows.proofs.LifeLaws.{sealed_anew}
use Rattle.seg_rows.proofs.segments.Segment.with_deaths.Goals as goal

pub invariant_of-result : goal.invariant_of-result
invariant_of-result c =
    rw (c.in_ok-new.ensures.ok, c.in_ok-copy.ensures.same)
    (sealed_anew c.self.inside.rows c.self.inside.lives.value c.in_ok-lives.lives c.self.inside.hull c.self.inside.dead _ c.self.invariant
    (c.in_ok-lives.ensures.count ∙ ap length c.items.ensures.items) (c.last_death-dead.ensures.last ∙ ap all_died c.items-2.ensures.items))
