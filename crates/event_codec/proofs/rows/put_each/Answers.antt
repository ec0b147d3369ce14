use Rattle.std.proofs.Common.{None, arith}
use Rattle.std.proofs.lemmas.List.Elements.{All-from_recursion}
use Rattle.event_codec.specs.Formed.{IsValue}
use Rattle.event_codec.proofs.rows.put_each.Goals as goal

pub put-requires : goal.put-requires
put-requires c = record { fits = rw c.get.ensures.value (All-from_recursion IsValue c.args.vals.now c.requires.fit c.loop-i.i None (omega (arith, c.loop-i-test.true, c.len-i-end.ensures.len))) }
