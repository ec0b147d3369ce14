use Rattle.std.proofs.Common.{◌+◌, ◌<◌, ap, ◌∙◌, arith, rules}
use Rattle.std.specs.Prelude.{Some}
use Rattle.stmt_tokens.specs.Scan as seen
use Rattle.stmt_tokens.specs.Scan.{seen_next}
use Rattle.stmt_tokens.proofs.ShortNumbers.{finds_number}
use Rattle.stmt_tokens.proofs.tokens.short_number_at.Goals as goal

pub returns-clause-next : goal.returns-clause-next
returns-clause-next c =
    let begin = c.past_space-begin.result in
    let sign = c.sign_len-sign.result in
    let digits = c.few_digits-digits.result in
    let few : digits.len < 18 = omega (arith, c.few_digits-digits.ensures.most, c.if-digits-eq-SHORT_NUMBER.false) in
    let found = finds_number c.args.text.now c.split_at.result.1.now c.split_at-2.result.1.now begin sign digits.len digits.value c.past_space-begin.ensures.within c.split_at.ensures.back c.sign_len-sign.ensures.len c.split_at-2.ensures.back (c.few_digits-digits.ensures.all few) c.if-digits-eq0.false c.few_digits-digits.ensures.value c.few_digits-digits.ensures.small in
    ap (λ z. seen.token (seen.number (Some z)) begin (begin + (sign + digits.len))) (search rules) ∙ found.next ∙ ap seen_next c.past_space-begin.ensures.next
