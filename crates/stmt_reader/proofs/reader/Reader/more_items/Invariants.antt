use Rattle.std.proofs.Common.{◌≡◌, suc, drop}
use Rattle.stmt_reader.specs.Cursor.{ahead}
use Rattle.stmt_reader.specs.Reading.{items_from}
use Rattle.stmt_reader.proofs.reader.Reader.more_items.Given as goal

abbrev pub invariant-loop-i : goal.invariant-loop-i
invariant-loop-i l = items_from (suc l.i) (drop l.i l.names) (ahead l.self) ≡ items_from 1 l.names (ahead l.initial.self)
