use Rattle.std.proofs.Common.{sym, ap, ◌∙◌}
use Rattle.stmt_tokens.specs.Bytes.{lower}
use Rattle.stmt_tokens.proofs.Named.{lower_name}
use Rattle.stmt_reader.proofs.reader.Reader.named_item.Goals as goal

pub item-requires : goal.item-requires
item-requires c = ap lower c.bytes.ensures.bytes ∙ lower_name c.args.name.now c.bytes.ensures.name ∙ sym c.bytes.ensures.bytes
