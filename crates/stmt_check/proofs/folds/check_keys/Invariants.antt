use Rattle.std.proofs.Common.{◌≡◌, [], map, take, drop}
use Rattle.stmt_check.specs.Folds.{keys_refusal, number_or_zero, output_count}
use Rattle.stmt_check.proofs.folds.check_keys.Given as goal

-- what is left decides, and the keys so far are numbered
abbrev pub invariant-loop-place : goal.invariant-loop-place
invariant-loop-place l =
    (keys_refusal l.fn.pos l.fn.distinct (output_count l.fn.fold) l.fn.info l.fn.head [] l.fn.fold.keys
    ≡ keys_refusal l.fn.pos l.fn.distinct (output_count l.fn.fold) l.fn.info l.fn.head (take l.place l.fn.fold.keys) (drop l.place l.fn.fold.keys))
    × (l.numbers ≡ map (number_or_zero l.fn.info) (take l.place l.fn.fold.keys))
