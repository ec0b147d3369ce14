use Rattle.std.proofs.Common.{sym, subst}
use Rattle.ts_model.specs.Results.{row_cells}
use Rattle.cell_groups.specs.Room.{ShowWords}
use Rattle.cal_bucket.proofs.RowLaws.{words_shown}
use Rattle.cal_bucket.proofs.gathers.take_row.Goals as goal

pub take_words-requires-clause-words : goal.take_words-requires-clause-words
take_words-requires-clause-words c = subst ShowWords (sym c.of-cells.ensures.cells) (words_shown c.args.plan.now.at (row_cells c.args.row) c.requires.shown)
