use Rattle.std.proofs.Common.{[], ◌∷◌, ◌++◌, None, length, ap, ap₂, ◌∙◌, rules}
use Rattle.ts_schema.specs.Values.{marked_values}
use Rattle.ts_schema.proofs.ValueLaws.{after_error, null_put, still_marked}
use Rattle.ts_schema.proofs.values.ValueBlock.push_null.Goals as goal

pub returns-in_err-reserve-clause-kept : goal.returns-in_err-reserve-clause-kept
returns-in_err-reserve-clause-kept c =
    let nulls = c.self.inside.nulls.items in
    let numbers = c.self.inside.numbers.items in
    let still = still_marked nulls c.resize.new.self.items numbers _ _ (ap length c.as_slice.ensures.value) (search rules) c.in_ok-resize.ensures.items c.self.invariant in
    after_error _ (ap (λ marks. marked_values marks numbers) c.in_err-reserve.ensures.items ∙ still ∙ c.self.view_is)

pub returns-in_err-push-clause-kept : goal.returns-in_err-push-clause-kept
returns-in_err-push-clause-kept c =
    let nulls = c.self.inside.nulls.items in
    let numbers = c.self.inside.numbers.items in
    let still = still_marked nulls c.resize.new.self.items numbers _ _ (ap length c.as_slice.ensures.value) (search rules) c.in_ok-resize.ensures.items c.self.invariant in
    after_error _ (ap₂ marked_values c.in_ok-reserve.ensures.items c.in_err-push.ensures.items ∙ still ∙ c.self.view_is)

pub returns-clause-pushed : goal.returns-clause-pushed
returns-clause-pushed c =
    let nulls = c.self.inside.nulls.items in
    let numbers = c.self.inside.numbers.items in
    null_put nulls c.resize.new.self.items numbers _ _ (ap length c.as_slice.ensures.value) (search rules) c.in_ok-resize.ensures.items c.reserve.new.self.items c.push_reserved.new.self.items c.push.new.self.items _ c.self.invariant c.in_ok-reserve.ensures.items c.push_reserved.ensures.items c.in_ok-push.ensures.items
    ∙ ap (λ values. values ++ None ∷ []) c.self.view_is
