use Rattle.base_image.proofs.TakingLaws.{image_is}
use Rattle.base_image.proofs.capture.take.Goals as goal

pub returns : goal.returns
returns g c = record { image = λ h stands. image_is h _ _ _ _ _ _ _ (c.position.ensures h stands) (c.roster.ensures.roster h stands) c.in_ok-roster_events.ensures.made (c.in_ok-row_events.ensures.held h stands) (c.in_ok-saved_views.ensures.saved h stands) (c.in_ok-waiting.ensures.waiting h stands) (c.in_ok-done.ensures.done h stands) }
