use Rattle.std.proofs.Common.{sym, ◌∙◌, ap}
use Rattle.stmt_tokens.specs.Tokens.{is_return}
use Rattle.stmt_tokens.proofs.Lexemes.{blanks_and_return, blanks_alone}
use Rattle.stmt_tokens.proofs.tokens.blanks_in_front.Goals as goal

pub returns-then-is_lone_return-clause-len : goal.returns-then-is_lone_return-clause-len
returns-then-is_lone_return-clause-len c = blanks_and_return c.args.text.now c.space_len-spaces.result c.space_len-spaces.ensures.len (ap is_return (sym c.split_at.ensures.back) ∙ sym c.is_lone_return.ensures.lone ∙ c.if-is_lone_return.true)

pub returns-else-is_lone_return-clause-len : goal.returns-else-is_lone_return-clause-len
returns-else-is_lone_return-clause-len c = blanks_alone c.args.text.now c.space_len-spaces.result c.space_len-spaces.ensures.len (ap is_return (sym c.split_at.ensures.back) ∙ sym c.is_lone_return.ensures.lone ∙ c.if-is_lone_return.false)
