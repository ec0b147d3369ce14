use Rattle.std.proofs.Common.{◌≡◌, length, sum_by, take}
use Rattle.audit.proofs.audits.reply_count.Given as goal

-- the replies of the sessions so far
abbrev pub invariant-loop-talk : goal.invariant-loop-talk
invariant-loop-talk l = l.count ≡ sum_by (λ talk. length talk.replies) (take l.talk-index l.talks)
