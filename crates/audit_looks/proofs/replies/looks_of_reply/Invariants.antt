use Rattle.std.specs.Prelude.{◌≡◌, ◌+◌, ◌++◌, length}
use Rattle.std.specs.List.{slice_split}
use Rattle.audit_looks.specs.Replies.{is_line_end, looks_in, looks_in_lines}
use Rattle.audit_looks.proofs.replies.looks_of_reply.Given as goal

abbrev pub invariant-loop-left : goal.invariant-loop-left
invariant-loop-left l = l.looks.items ++ looks_in_lines (length l.name + 2) (slice_split is_line_end l.left) ≡ looks_in l.name l.reply

abbrev pub decreases-loop-left : goal.decreases-loop-left
decreases-loop-left l = length l.left
