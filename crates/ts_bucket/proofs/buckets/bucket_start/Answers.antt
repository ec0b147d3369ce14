-- The code's remainder is that of the definition, and the bucket so found meets the three conditions.
use Rattle.std.proofs.Common.{subst, sym, arith, FitsSigned}
use Rattle.std.specs.Int.{w64}
use Rattle.std.proofs.lemmas.Int.{ints}
use Rattle.ts_bucket.specs.Bucket.{IsWidth, IsBucketOf}
use Rattle.ts_bucket.proofs.Computed.{computed_bucket}
use Rattle.ts_bucket.proofs.BucketLaws.{bucket_of_meets}
use Rattle.ts_bucket.proofs.buckets.bucket_start.Goals as goal

pub returns-clause-value : goal.returns-clause-value
returns-clause-value c =
    let fits : FitsSigned w64 c.args.t = c.ranges.t in
    computed_bucket _ c.args.w c.args.t c.rem_euclid.result c.w.view_is c.w.invariant c.requires (omega (arith, ints)) c.rem_euclid.ensures.value

pub returns-clause-bucket : goal.returns-clause-bucket
returns-clause-bucket c =
    let bounds : IsWidth c.args.w = subst IsWidth c.w.view_is c.w.invariant in
    subst (IsBucketOf c.args.w c.args.t) (sym (returns-clause-value c)) (bucket_of_meets c.args.w c.args.t bounds)
