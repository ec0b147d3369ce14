use Rattle.std.proofs.Common.{◌≡◌, refl, sym, ap, ◌∙◌}
use Rattle.std.specs.Prelude.{Some}
use Rattle.std.proofs.lemmas.Result.{err_from_is_err_and}
use Rattle.stmt_tokens.specs.Bytes.{lower}
use Rattle.stmt_reader.specs.Cursor.{ahead}
use Rattle.stmt_tokens.specs.Words.{is_mark, function_of_word}
use Rattle.stmt_reader.specs.Reading.{bind, gives, token_parser}
use Rattle.stmt_tokens.specs.declared.tokens.Mark.TheVariants as marks
use Rattle.stmt_reader.proofs.Loops.{go_on_fails}
use Rattle.stmt_tokens.proofs.Named.{lower_name}
use Rattle.stmt_reader.proofs.reader.Reader.read_function.Goals as goal

pub returns-in_err-mark : goal.returns-in_err-mark
unfolding bind
returns-in_err-mark c =
    let p = err_from_is_err_and c.from_residual.result c.from_residual.ensures.1 in
    let n : lower c.bytes.result.now ≡ c.args.name.now = ap lower c.bytes.ensures.bytes ∙ lower_name c.args.name.now c.bytes.ensures.name in
    let w : function_of_word c.args.name.now ≡ Some c.in-Some.fun = ap function_of_word (sym n) ∙ sym c.in-Some.ensures in
    rw (p.1, p.2) (rw w (go_on_fails c.in_err-mark.field-0.0 (token_parser (is_mark marks.Open) (ahead c.args.self.now)) (λ _. gives c.in-Some.fun) c.in_err-mark.ensures))

pub returns : goal.returns
unfolding bind
returns c =
    let n : lower c.bytes.result.now ≡ c.args.name.now = ap lower c.bytes.ensures.bytes ∙ lower_name c.args.name.now c.bytes.ensures.name in
    let w : function_of_word c.args.name.now ≡ Some c.in-Some.fun = ap function_of_word (sym n) ∙ sym c.in-Some.ensures in
    rw (w, c.in_ok-mark.ensures) refl
