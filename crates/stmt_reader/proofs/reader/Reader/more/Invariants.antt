use Rattle.std.proofs.Common.{◌≡◌}
use Rattle.stmt_reader.specs.Cursor.{ahead}
use Rattle.stmt_tokens.specs.Streams.{size}
use Rattle.stmt_reader.specs.Reading.{more, parts}
use Rattle.stmt_reader.proofs.reader.Reader.more.Given as goal

abbrev pub invariant-loop-separator : goal.invariant-loop-separator
invariant-loop-separator g l = more (parts l.separator) g.T.Phrase.phrase l.items (ahead l.self) ≡ more (parts l.separator) g.T.Phrase.phrase l.fn.front (ahead l.initial.self)

abbrev pub decreases-loop-separator : goal.decreases-loop-separator
decreases-loop-separator g l = size (ahead l.self)
