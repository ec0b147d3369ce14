use Rattle.turn_lock.proofs.lock.TurnLock.split.Given as goal

abbrev pub ghosts-cut : goal.ghosts-cut
ghosts-cut g a = record { count = a.shares }
