-- The text of a script has its lines.
use Rattle.std.specs.Prelude.{◌≡◌, ℕ, ◌≤◌, length}
use Rattle.ts_io.specs.Lines.{lines_within}
use Rattle.ts_io.specs.declared.limits.TheConstants.{INPUT_LIMIT}
use Rattle.demo_script.specs.Demo.{demo_lines, demo_text}

-- each text is within the limit of an input
abbrev pub IsWithinLimit : Type 0
IsWithinLimit = (demo : ℕ) → length (demo_text demo) ≤ INPUT_LIMIT

-- the lines of an input with this text are those of the script
abbrev pub HasItsLines : Type 0
HasItsLines = (demo : ℕ) → lines_within INPUT_LIMIT (demo_text demo) ≡ demo_lines demo
