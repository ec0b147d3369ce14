use Rattle.std.proofs.Common.{◌≡◌, ◌+◌, ◌<◌, arith, rules}
use Rattle.std.specs.Int.{int_min, w64}
use Rattle.std.specs.Int.RustNames.{FitsSigned}
use Rattle.std.proofs.lemmas.Int.{to_z-of_z}
use Rattle.ts_num.specs.Aggregates.{lesser}
use Rattle.partial_agg.specs.Ends.{EndsIn, end_of}
use Rattle.partial_agg.proofs.EndLaws.{both_least}
use Rattle.partial_agg.proofs.partials.least_joined.Goals as goal

pub returns-in_default : goal.returns-in_default
returns-in_default c =
    let mine : 0 < c.args.values = omega (arith, c.in_default.is-0) in
    let theirs : 0 < c.args.more = omega (arith, c.in_default.is-1) in
    let own : FitsSigned w64 c.args.least = c.ranges.least in
    let other : FitsSigned w64 c.args.other = c.ranges.other in
    let fits : FitsSigned w64 c.min.result = search rules in
    let is : c.min.result ≡ int_min c.args.least c.args.other = simp to_z-of_z at c.min.ensures.value in
    let kept : EndsIn (c.args.values + c.args.more) (lesser (end_of c.args.values c.args.least) (end_of c.args.more c.args.other)) c.min.result =
    rw is (both_least c.args.values c.args.more c.args.least c.args.other mine theirs) in
    simp to_z-of_z kept
