use Rattle.std.proofs.Common.{◌≡◌, ◌++◌, ◌≤ℤ◌, arith, rules}
use Rattle.std.specs.Prelude.{FitsSigned}
use Rattle.std.specs.Int.{w64}
use Rattle.std.proofs.lemmas.Int.{ints, to_z-of_z}
use Rattle.ts_bucket.specs.WholeSpans.{least, greatest}
use Rattle.event_codec.specs.Spelling.{signed_bytes}
use Rattle.event_codec.specs.Reading.{StopsAt, between}
use Rattle.event_codec.proofs.Fronts.{is_less, not_less, seen_again, signed_is_read, signed_outside, signed_short}
use Rattle.event_codec.proofs.numbers.read_between.Goals.{then-number-least-via-then-number-least, then-number-least-via-else-number-least+then-number-most}
use Rattle.event_codec.proofs.numbers.read_between.Goals as goal

pub returns-in_default-clause-read : goal.returns-in_default-clause-read
returns-in_default-clause-read c =
    let low : least ≤ℤ c.args.least = omega (arith, ints, c.ranges.least) in
    let high : c.args.most ≤ℤ greatest = omega (arith, ints, c.ranges.most) in
    let least : FitsSigned w64 c.args.least = c.ranges.least in
    let most : FitsSigned w64 c.args.most = c.ranges.most in
    let stop : StopsAt (between c.args.least c.args.most c.args.bytes.now) c.after_between.result.now = simp to_z-of_z at c.after_between.ensures in
    signed_short c.args.least c.args.most low high c.requires c.args.bytes.now c.after_between.result.now c.in_default.ensures stop

pub returns-then-number-least-clause-read : goal.returns-then-number-least-clause-read
returns-then-number-least-clause-read c =
    let low : least ≤ℤ c.args.least = omega (arith, ints, c.ranges.least) in
    let high : c.args.most ≤ℤ greatest = omega (arith, ints, c.ranges.most) in
    let least : FitsSigned w64 c.args.least = c.ranges.least in
    let most : FitsSigned w64 c.args.most = c.ranges.most in
    let number : FitsSigned w64 c.in-Some.number = search rules in
    let stop : StopsAt (between c.args.least c.args.most c.args.bytes.now) c.after_between-then-number-least.result.now = simp to_z-of_z at c.after_between-then-number-least.ensures in
    let is : c.args.bytes.now ≡ signed_bytes c.in-Some.number ++ c.in-Some.rest.now = c.in-Some.ensures in
    signed_outside c.args.least c.args.most low high c.requires c.in-Some.number c.args.bytes.now c.in-Some.rest.now c.after_between-then-number-least.result.now (omega (arith, ints)) (omega (arith, ints))
    (λ from to. elim c.then-number-least.branch [
      | then-number-least-via-then-number-least w ↦ let less = is_less c.in-Some.number c.args.least number least w.if-number-least.true in omega (arith, ints)
      | then-number-least-via-else-number-least+then-number-most w ↦ let less = is_less c.args.most c.in-Some.number most number w.if-number-most.true in omega (arith, ints)
    ]) is stop

pub returns-clause-read : goal.returns-clause-read
returns-clause-read c =
    let low : least ≤ℤ c.args.least = omega (arith, ints, c.ranges.least) in
    let high : c.args.most ≤ℤ greatest = omega (arith, ints, c.ranges.most) in
    let least : FitsSigned w64 c.args.least = c.ranges.least in
    let most : FitsSigned w64 c.args.most = c.ranges.most in
    let number : FitsSigned w64 c.in-Some.number = search rules in
    let is : c.args.bytes.now ≡ signed_bytes c.in-Some.number ++ c.in-Some.rest.now = c.in-Some.ensures in
    let from : c.args.least ≤ℤ c.in-Some.number = not_less c.in-Some.number c.args.least number least c.if-number-least.false in
    let to : c.in-Some.number ≤ℤ c.args.most = not_less c.args.most c.in-Some.number most number c.if-number-most.false in
    seen_again (between c.args.least c.args.most c.args.bytes.now) c.in-Some.number c.in-Some.rest.now number (signed_is_read c.args.least c.args.most low high c.requires c.in-Some.number c.args.bytes.now c.in-Some.rest.now from to is)
