use Rattle.std.proofs.Common.{◌≡◌, take}
use Rattle.std.specs.List.{flat_map}
use Rattle.std.specs.String.{string_bytes}
use Rattle.demo_script.specs.Demo.{demo_lines, with_end}
use Rattle.demo_script.proofs.scripts.demo_script.Given as goal

-- the lines before this one are written
abbrev pub invariant-loop-before : goal.invariant-loop-before
invariant-loop-before l = string_bytes l.text ≡ flat_map with_end (take l.before (demo_lines l.demo))
