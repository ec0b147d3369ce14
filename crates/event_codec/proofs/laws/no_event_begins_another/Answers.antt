use Rattle.event_codec.proofs.Decodings.{no_prefix}
use Rattle.event_codec.proofs.laws.no_event_begins_another.Goals as goal

pub returns : goal.returns
returns c = no_prefix
