use Rattle.std.proofs.Common.{◌≡◌, ◌<◌, ◌≤◌, ℕ, ◌+◌, ◌-◌, get_or, length, ap, arith}
use Rattle.std.proofs.lemmas.List.{drop_all, get_or_default}
use Rattle.turn_lock.specs.Positions.{times}
use Rattle.audit.proofs.LostLaws.{lost_again, lost_gap, none_below, taken_more, times_here}
use Rattle.audit.proofs.numbers.first_gap.Goals as goal

pub returns-then-number-seen : goal.returns-then-number-seen
returns-then-number-seen c =
    let xs = c.args.numbers.now in
    let i = c.loop-number.number-index in
    let kept = c.loop-number.invariant in
    let within : i < length xs = c.loop-number-test.true in
    let number : ℕ = get_or xs i 0 in
    let lies = c.requires.lie i 0 within in
    record {
      lost =
          lost_again xs i c.args.start c.args.end c.loop-number.seen number kept.low kept.high kept.taken lies.0 c.if-number-seen.true (times_here xs i within)
          (λ q below. none_below xs i q c.requires.rise within below);
    }

pub returns-then-number-seen-gt1 : goal.returns-then-number-seen-gt1
returns-then-number-seen-gt1 c =
    let xs = c.args.numbers.now in
    let i = c.loop-number.number-index in
    let kept = c.loop-number.invariant in
    let within : i < length xs = c.loop-number-test.true in
    let number : ℕ = get_or xs i 0 in
    let lies = c.requires.lie i 0 within in
    let high : number ≤ c.args.end = lies.1 in
    let gap : 1 < number - c.loop-number.seen = c.if-number-seen-gt1.true in
    record {
      lost =
          lost_gap xs i c.args.start c.args.end c.loop-number.seen kept.low (omega (arith, high, gap)) kept.taken
          (λ q le. none_below xs i q c.requires.rise within (omega (arith, le, gap)));
    }

pub loop-number-preserved : goal.loop-number-preserved
loop-number-preserved c =
    let xs = c.args.numbers.now in
    let i = c.loop-number.number-index in
    let seen = c.loop-number.seen in
    let kept = c.loop-number.invariant in
    let within : i < length xs = c.loop-number-test.true in
    let number : ℕ = get_or xs i 0 in
    let lies = c.requires.lie i 0 within in
    let above : seen < number = c.if-number-seen.false in
    let near : number - seen ≤ 1 = c.if-number-seen-gt1.false in
    let next : number ≡ seen + 1 = omega (arith, above, near) in
    let low : c.args.start ≤ seen = kept.low in
    record {
      low = omega (arith, low, above);
      high = lies.1;
      taken = taken_more xs i c.args.start seen number kept.low kept.taken within (get_or_default xs i 0 number within) next;
    }

pub returns-then-seen-end : goal.returns-then-seen-end
returns-then-seen-end c =
    let xs = c.args.numbers.now in
    let i = c.loop-number.number-index in
    let kept = c.loop-number.invariant in
    let past : length xs ≤ i = c.loop-number-test.false in
    let before : c.loop-number.seen < c.args.end = c.if-seen-end.true in
    record { lost = lost_gap xs i c.args.start c.args.end c.loop-number.seen kept.low (omega (arith, before)) kept.taken (λ q le. ap (times q) (drop_all i xs past)) }
