use Rattle.event_codec.proofs.numbers.«+after_begun».Given as goal

abbrev pub decreases-after_begun : goal.decreases-after_begun
decreases-after_begun l = l.count
