use Rattle.std.proofs.Common.{◌≡◌, []}
use Rattle.stmt_reader.specs.Cursor.{ahead}
use Rattle.stmt_tokens.specs.Streams.{size}
use Rattle.stmt_reader.specs.Reading.{keys_and_function}
use Rattle.stmt_reader.proofs.reader.Reader.keys.Given as goal

abbrev pub invariant-loop-keys : goal.invariant-loop-keys
invariant-loop-keys l = keys_and_function l.keys (ahead l.self) ≡ keys_and_function [] (ahead l.initial.self)

abbrev pub decreases-loop-keys : goal.decreases-loop-keys
decreases-loop-keys l = size (ahead l.self)
