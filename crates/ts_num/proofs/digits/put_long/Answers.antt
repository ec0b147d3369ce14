use Rattle.std.proofs.Common.{◌≡◌, ◌/◌, ◌%◌, ◌++◌, arith}
use Rattle.std.specs.Fmt.{decimal}
use Rattle.ts_num.specs.Digits.{eight_digits}
use Rattle.ts_num.proofs.DigitLaws.{decimal_eight, put_behind}
use Rattle.ts_num.proofs.digits.put_long.Goals as goal

pub returns-then-high-lt-NINE_DIGITS : goal.returns-then-high-lt-NINE_DIGITS
returns-then-high-lt-NINE_DIGITS c =
    let n = c.args.n in
    record {
      appended = put_behind c.args.out.now.items c.put_half.new.out.items c.put_eight.new.out.items (decimal (n / 100000000)) (eight_digits (n % 100000000)) (decimal n)
          c.put_half.ensures.appended c.put_eight.ensures.appended (decimal_eight n c.requires.long c.ranges.n.fits);
    }

pub returns : goal.returns
returns c =
    let n = c.args.n in
    let high = n / 100000000 in
    let old = c.args.out.now.items in
    let first : c.put_eight-2.new.out.items ≡ old ++ decimal high =
    put_behind old c.put_first.new.out.items c.put_eight-2.new.out.items (decimal (high / 100000000)) (eight_digits (high % 100000000)) (decimal high)
    c.put_first.ensures.appended c.put_eight-2.ensures.appended (decimal_eight high c.if-high-lt-NINE_DIGITS.false (omega arith)) in
    record {
      appended = put_behind old c.put_eight-2.new.out.items c.put_eight-3.new.out.items (decimal high) (eight_digits (n % 100000000)) (decimal n)
          first c.put_eight-3.ensures.appended (decimal_eight n c.requires.long c.ranges.n.fits);
    }
