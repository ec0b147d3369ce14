use Rattle.std.proofs.Common.{◌≡◌, ◌-◌, ◌<◌, ◌++◌}
use Rattle.std.specs.String.{string_bytes}
use Rattle.demo_script.specs.Demo.{rows_text}
use Rattle.demo_script.proofs.rows.put_rows.Given as goal

-- the rows before this place are written
abbrev pub invariant-loop-place : goal.invariant-loop-place
invariant-loop-place l = record {
  after : l.first < l.place;
  written : string_bytes l.out ≡ string_bytes l.fn.out ++ rows_text l.demo l.round l.first (l.place - l.first);
}
