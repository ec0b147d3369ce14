use Rattle.event_codec.proofs.BytesCounted.{bytes_counted}
use Rattle.event_codec.proofs.laws.events_have_their_bytes.Goals as goal

pub returns : goal.returns
returns c = bytes_counted
