use Rattle.std.proofs.Common.{arith, rules}
use Rattle.std.specs.Prelude.{FitsSigned}
use Rattle.std.specs.Int.{w64}
use Rattle.std.proofs.lemmas.Int.{ints, to_z-of_z}
use Rattle.std.proofs.lemmas.List.{take_rest}
use Rattle.event_codec.proofs.BlockLaws.{null_is_read, number_is_read}
use Rattle.event_codec.proofs.blocks.value_in_front.Goals as goal

pub returns-then-told-eq0 : goal.returns-then-told-eq0
returns-then-told-eq0 c = null_is_read c.args.bytes.now _ c.in-len1-up.len_at_least (search (rules, take_rest)) c.if-told-eq0.true

pub returns : goal.returns
returns c =
    let fits : FitsSigned w64 c.in_ok-number.number = search rules in
    rw (to_z-of_z w64 c.in_ok-number.number fits) (number_is_read c.args.bytes.now _ c.in_ok-number.rest.now c.in_ok-number.number c.in-len1-up.len_at_least (take_rest c.args.bytes.now 1) c.if-told-ne1.false (omega (arith, ints)) (omega (arith, ints)) c.in_ok-number.ensures)
