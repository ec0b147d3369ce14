use Rattle.base_image.proofs.TakingLaws.{image_is}
use Rattle.base_image.proofs.outlines.outline_of.Goals as goal

pub returns : goal.returns
returns g c = record {
  outline = record { no_rows = c.new.ensures.items; tallied = c.in_ok-tallies.ensures.tallied; few = c.in_ok-tallies.ensures.few };
  image = λ h stands. image_is h _ _ _ _ _ _ _ (c.position.ensures h stands) (c.roster.ensures.roster h stands) c.in_ok-roster_events.ensures.made (c.in_ok-tallies.ensures.held h stands) (c.in_ok-saved_views.ensures.saved h stands) (c.in_ok-waiting.ensures.waiting h stands) (c.in_ok-done.ensures.done h stands);
}
