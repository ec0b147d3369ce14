use Rattle.event_codec.proofs.names.«+after_tails».Given as goal

abbrev pub decreases-after_tails : goal.decreases-after_tails
decreases-after_tails l = l.count
