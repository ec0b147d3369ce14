use Rattle.std.proofs.Common.{◌≡◌, ◌∙◌, subst, rules}
use Rattle.std.specs.Int.{int_rem_euclid}
use Rattle.std.specs.Ordering.{int_eq}
use Rattle.ts_bucket.specs.Bucket.{IsWidth}
use Rattle.base_image.proofs.ShiftLaws.{shift_is}
use Rattle.base_image.proofs.ranges.starts_bucket.Goals as goal

pub returns : goal.returns
returns c =
    let bounds : IsWidth c.args.w = subst IsWidth c.w.view_is c.w.invariant in
    let same : c.is_same.result ≡ int_eq (int_rem_euclid c.args.b c.args.w.step) c.args.w.shift = search rules in
    same ∙ shift_is c.args.w c.args.b bounds
