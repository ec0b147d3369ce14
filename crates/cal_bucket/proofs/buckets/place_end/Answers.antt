use Rattle.std.proofs.Common.{◌≡◌, arith, rules, sym, ap, subst, ◌∙◌, pos, ◌+ℤ◌, ◌≤ℤ◌, ◌<ℤ◌, FitsSigned, to_z, of_z, to_z-of_z, w64}
use Rattle.std.proofs.lemmas.Int.{ints}
use Rattle.cal_bucket.specs.Buckets.{HoldsATime, start_at}
use Rattle.cal_bucket.proofs.NameLaws.{last_holds_all, next_holds}
use Rattle.cal_bucket.proofs.buckets.place_end.Goals as goal

pub place_start-requires-clause-time : goal.place_start-requires-clause-time
place_start-requires-clause-time c =
    let fits : FitsSigned w64 c.args.place = c.ranges.place in
    let last_fits : FitsSigned w64 c.place_of.result = search rules in
    let back : to_z w64 (of_z w64 c.args.place) ≡ c.args.place = to_z-of_z fits in
    let last_back : to_z w64 (of_z w64 c.place_of.result) ≡ c.place_of.result = to_z-of_z last_fits in
    let below : c.args.place <ℤ c.place_of.result = omega (arith, ints, back, last_back, c.if-place-place_of.true) in
    let next : to_z w64 (of_z w64 (to_z w64 (of_z w64 c.args.place) +ℤ pos 1)) ≡ c.args.place +ℤ pos 1 = omega (arith, ints) in
    subst (HoldsATime (start_at c.args.unit c.args.number)) (sym next)
    (next_holds c.args.unit c.args.number c.args.place c.place_of.result c.requires.number.0 below c.requires.time c.place_of.ensures.held)

pub returns-then-place-place_of : goal.returns-then-place-place_of
returns-then-place-place_of c =
    let fits : FitsSigned w64 c.args.place = c.ranges.place in
    let last_fits : FitsSigned w64 c.place_of.result = search rules in
    let start_fits : FitsSigned w64 c.place_start.result = search rules in
    let back : to_z w64 (of_z w64 c.args.place) ≡ c.args.place = to_z-of_z fits in
    let last_back : to_z w64 (of_z w64 c.place_of.result) ≡ c.place_of.result = to_z-of_z last_fits in
    let below : c.args.place <ℤ c.place_of.result = omega (arith, ints, back, last_back, c.if-place-place_of.true) in
    let next : to_z w64 (of_z w64 (to_z w64 (of_z w64 c.args.place) +ℤ pos 1)) ≡ c.args.place +ℤ pos 1 = omega (arith, ints) in
    let start : to_z w64 (of_z w64 c.place_start.result) ≡ start_at c.args.unit c.args.number (c.args.place +ℤ pos 1) =
    to_z-of_z start_fits ∙ c.place_start.ensures.start ∙ ap (start_at c.args.unit c.args.number) next in
    record { end = λ t time low. subst (λ e. t <ℤ e) start low }

pub returns-else-place-place_of : goal.returns-else-place-place_of
returns-else-place-place_of c =
    let fits : FitsSigned w64 c.args.place = c.ranges.place in
    let last_fits : FitsSigned w64 c.place_of.result = search rules in
    let back : to_z w64 (of_z w64 c.args.place) ≡ c.args.place = to_z-of_z fits in
    let last_back : to_z w64 (of_z w64 c.place_of.result) ≡ c.place_of.result = to_z-of_z last_fits in
    let above : c.place_of.result ≤ℤ c.args.place = omega (arith, ints, back, last_back, c.if-place-place_of.false) in
    record { end = λ t time low. last_holds_all c.args.unit c.args.number c.args.place c.place_of.result t c.requires.number.0 above c.place_of.ensures.held time }
