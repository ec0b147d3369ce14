use Rattle.std.proofs.Common.{◌≡◌}
use Rattle.stmt_reader.specs.Cursor.{ahead}
use Rattle.stmt_tokens.specs.Streams.{size}
use Rattle.stmt_reader.specs.Reading.{more, parts, row}
use Rattle.stmt_reader.specs.declared.phrases.Separator.TheVariants.{Comma}
use Rattle.stmt_reader.proofs.reader.Reader.more_rows.Given as goal

abbrev pub invariant-rows : goal.invariant-rows
invariant-rows l = more (parts Comma) row l.rows (ahead l.self) ≡ more (parts Comma) row l.fn.front (ahead l.initial.self)

abbrev pub decreases-rows : goal.decreases-rows
decreases-rows l = size (ahead l.self)
