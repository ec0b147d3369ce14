use Rattle.std.proofs.Common.{◌≡◌, map, take, drop}
use Rattle.hier_agg.specs.Reads.{key_number}
use Rattle.hier_agg.specs.Refusals.{keys_refusal}
use Rattle.hier_agg.proofs.columns.check_keys.Given as goal

-- what is left decides, and the keys so far are numbered
abbrev pub invariant-loop-name : goal.invariant-loop-name
invariant-loop-name l =
    (keys_refusal l.fn.pos l.fn.def l.fn.count 1 l.fn.names ≡ keys_refusal l.fn.pos l.fn.def l.fn.count l.others (drop l.name-index l.fn.names))
    × (l.keys ≡ map (key_number l.fn.def) (take l.name-index l.fn.names))
