use Rattle.std.proofs.Common.{◌≡◌, ◌∙◌, ap, ◌+◌, ◌*◌, ◌/◌, ◌%◌, [], ◌∷◌, ◌++◌, get_or, refl}
use Rattle.itoa.proofs.Decimal.{PAIRS_at}
use Rattle.ts_num.specs.Digits.{two_digits}
use Rattle.ts_num.specs.declared.digits.TheConstants.{PAIRS}
use Rattle.ts_num.proofs.DigitLaws.{put_behind}
use Rattle.ts_num.proofs.digits.put_two.Goals as goal

pub returns-clause-appended : goal.returns-clause-appended
returns-clause-appended c =
    let n = c.args.n in
    let tens : get_or PAIRS (n * 2) 0 ≡ 48 + n / 10 = (PAIRS_at n c.requires.small).0 in
    let ones : get_or PAIRS (n * 2 + 1) 0 ≡ 48 + n % 10 = (PAIRS_at n c.requires.small).1 in
    let old = c.args.out.now.items in
    put_behind old c.push_reserved.new.self.items c.push_reserved-2.new.self.items ((48 + n / 10) ∷ []) ((48 + n % 10) ∷ []) (two_digits n)
    (c.push_reserved.ensures.items ∙ ap (λ d. old ++ d ∷ []) tens)
    (c.push_reserved-2.ensures.items ∙ ap (λ d. c.push_reserved.new.self.items ++ d ∷ []) ones) refl
