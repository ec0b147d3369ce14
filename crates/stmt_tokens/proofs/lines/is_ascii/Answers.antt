use Rattle.stmt_tokens.proofs.AsciiTexts.{ascii_of_each}
use Rattle.stmt_tokens.proofs.lines.is_ascii.Goals as goal

pub returns : goal.returns
returns c = ascii_of_each c.is_ascii.result c.args.text.now c.is_ascii.ensures.cases
