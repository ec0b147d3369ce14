use Rattle.std.proofs.Common.{length, sym, ap, ◌∙◌}
use Rattle.ts_schema.proofs.ValueLaws.{length_marked}
use Rattle.ts_schema.proofs.values.ValueBlock.len.Goals as goal

pub returns : goal.returns
returns c = record { len = ap length c.as_slice.ensures.value ∙ sym (length_marked c.self.inside.nulls.items c.self.inside.numbers.items) ∙ ap length c.self.view_is }
