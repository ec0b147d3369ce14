use Rattle.std.proofs.Common.{◌∙◌, ap, take}
use Rattle.std.specs.Char.{is_ascii_digit}
use Rattle.std.specs.List.{prefix_len}
use Rattle.std.specs.Str.Parse.{digits_value}
use Rattle.stmt_tokens.proofs.Numerals.{number_is_numeral, short_number}
use Rattle.stmt_tokens.proofs.tokens.number_at.Goals as goal

pub number_of-requires-clause-numeral : goal.number_of-requires-clause-numeral
number_of-requires-clause-numeral c = number_is_numeral c.args.text.now c.sign_len-sign.result c.digits_in_front-digits.result.len c.sign_len-sign.ensures.len (c.digits_in_front-digits.ensures.len ∙ ap (prefix_len is_ascii_digit) c.split_at.ensures.back) c.if-digits-eq0.false

pub number_of-requires-clause-read : goal.number_of-requires-clause-read
number_of-requires-clause-read c = λ few.
    short_number c.args.text.now c.sign_len-sign.result c.digits_in_front-digits.result.len c.digits_in_front-digits.result.value c.sign_len-sign.ensures.len
    (c.digits_in_front-digits.ensures.len ∙ ap (prefix_len is_ascii_digit) c.split_at.ensures.back) c.if-digits-eq0.false
    (c.digits_in_front-digits.ensures.value few ∙ ap (λ bytes. digits_value 10 (take c.digits_in_front-digits.result.len bytes)) c.split_at.ensures.back)
    c.digits_in_front-digits.ensures.small
