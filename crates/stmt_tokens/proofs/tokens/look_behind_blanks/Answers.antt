use Rattle.std.proofs.Common.{◌<◌, length, sym, ◌∙◌, arith}
use Rattle.std.specs.Prelude.{None, Some}
use Rattle.std.proofs.lemmas.Bool.{eqb-false}
use Rattle.stmt_tokens.specs.Scan.{view_lexeme}
use Rattle.stmt_tokens.proofs.Lexemes.{finds_lexeme}
use Rattle.stmt_tokens.proofs.tokens.look_behind_blanks.Goals as goal

pub overflow_add-result : goal.overflow_add-result
overflow_add-result c =
    let some : 0 < length c.split_at-2.result.1.now = omega (arith, eqb-false (length c.split_at-2.result.1.now) 0 (sym c.is_empty.ensures ∙ c.if-is_empty.false)) in
    let f = finds_lexeme c.args.text.now c.split_at.result.1.now c.split_at-2.result.1.now c.args.skip c.blank_len.result (view_lexeme (Some c.in-Some.lexeme)) c.requires.within c.split_at.ensures.back c.blank_len.ensures.len c.split_at-2.ensures.back some c.in-Some.ensures.lexeme in
    omega (arith, f.fits)

pub returns-in-None : goal.returns-in-None
returns-in-None c =
    let some : 0 < length c.split_at-2.result.1.now = omega (arith, eqb-false (length c.split_at-2.result.1.now) 0 (sym c.is_empty.ensures ∙ c.if-is_empty.false)) in
    let f = finds_lexeme c.args.text.now c.split_at.result.1.now c.split_at-2.result.1.now c.args.skip c.blank_len.result None c.requires.within c.split_at.ensures.back c.blank_len.ensures.len c.split_at-2.ensures.back some c.in-None.ensures.lexeme in
    record { next = f.next; fits = f.fits }

pub returns-in-Some : goal.returns-in-Some
returns-in-Some c =
    let some : 0 < length c.split_at-2.result.1.now = omega (arith, eqb-false (length c.split_at-2.result.1.now) 0 (sym c.is_empty.ensures ∙ c.if-is_empty.false)) in
    let f = finds_lexeme c.args.text.now c.split_at.result.1.now c.split_at-2.result.1.now c.args.skip c.blank_len.result (view_lexeme (Some c.in-Some.lexeme)) c.requires.within c.split_at.ensures.back c.blank_len.ensures.len c.split_at-2.ensures.back some c.in-Some.ensures.lexeme in
    record { next = f.next; fits = f.fits }
