-- An aggregate's state, compared with a history.
use Rattle.std.specs.Prelude.{◌≡◌, ℕ, List, ℤ, Option}
use Rattle.inval_log.specs.Logs.{LogValue as TableLog}
use Rattle.mat_log.specs.Logs.{LogValue as ViewLog}
use Rattle.partial_agg.specs.declared.groups.Group.{Group}
use Rattle.ts_model.specs.declared.views.ViewDef.{ViewDef}
use Rattle.ts_model.specs.History.{History}
use Rattle.ts_model.specs.Refreshes.{watermark}
use Rattle.coverage.specs.Coverage.{IsCovered}
use Rattle.engine_state.specs.Groups.{GroupsStand}
use Rattle.engine_state.specs.Notes.{notes_in}

-- its value in contracts: the number of its table, what is pending and was refreshed, its materialized groups, and its
-- watermark
pub record ViewValue : Type 0 where
  pub table : ℕ
  pub log : ViewLog
  pub groups : List Group
  pub mark : Option ℤ

-- it is that of aggregate number n, if the aggregate's table has this log
pub record ViewStands (h : History) (n : ℕ) (def : ViewDef) (log : TableLog) (view : ViewValue) : Type 0 where
  pub table : view.table ≡ def.table
  pub width : view.log.width ≡ def.fold.width
  pub covered : IsCovered n def h (notes_in log view.log)
  pub mark : view.mark ≡ watermark n def h
  pub groups : GroupsStand n def h view.mark view.groups
