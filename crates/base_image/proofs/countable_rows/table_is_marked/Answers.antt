use Rattle.std.proofs.Common.{◌∙◌}
use Rattle.ts_model.specs.Valid.{row_marked}
use Rattle.base_image.proofs.HeldLaws.{all_by_commit}
use Rattle.base_image.proofs.countable_rows.table_is_marked.Goals as goal

pub returns : goal.returns
returns c = c.commits_are_marked.ensures ∙ all_by_commit (row_marked c.args.def.now.fold c.args.view.now) c.args.def.now.table c.args.events.now
