use Rattle.std.proofs.Common.{length, ap, arith}
use Rattle.ts_schema.proofs.ValueLaws.{length_marked}
use Rattle.ts_schema.proofs.values.ValueBlock.get.Goals as goal

pub value_at-requires : goal.value_at-requires
value_at-requires c =
    let all = length_marked c.self.inside.nulls.items c.self.inside.numbers.items in
    omega (arith, c.requires, ap length c.as_slice.ensures.value, all, ap length c.self.view_is)
