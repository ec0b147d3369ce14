-- Rows that are added one by one, with their groups written in order.
use Rattle.std.proofs.Common.{◌≡◌, ◌∙◌, List, [], ◌∷◌, Option, Some, None, length, length-append, sym, ap, arith}
use Rattle.std.specs.Prelude.{IfSome}
use Rattle.ts_num.specs.declared.values.Datum.{Datum}
use Rattle.partial_agg.specs.declared.groups.Group.{Group}
use Rattle.cell_groups.specs.declared.groups.CellGroup.{CellGroup}
use Rattle.cell_groups.specs.declared.shapes.Shape.{Shape}
use Rattle.cell_groups.specs.Groups.{HasTallies, rows_shown}
use Rattle.cell_groups.specs.TakenRows.{taken_in, with_rows}
use Rattle.cell_groups.specs.Written.{AreWritten}
use Rattle.cell_groups.proofs.Gathering.{rows_step}
use Rattle.hier_agg.specs.declared.plans.UpperPlan.{UpperPlan}
use Rattle.hier_agg.specs.Taken.{row_group_of, row_passes}

-- groups after more rows
abbrev pub made_of : UpperPlan → Shape → List (List Datum) → List Group → List Group
made_of plan shape rows groups = with_rows (row_passes plan) (row_group_of plan shape) rows groups

-- the groups of the rows read so far are written, and with the rows left they make up the whole
pub record AreOnTheWay (plan : UpperPlan) (shape : Shape) (all left : List (List Datum)) (rows : List (List Datum)) (last : Option CellGroup) : Type 0 where
  pub groups : List Group
  pub written : AreWritten shape groups rows last
  pub whole : made_of plan shape left groups ≡ made_of plan shape all []

module _ (plan : UpperPlan) (shape : Shape) (all : List (List Datum)) where
  pub way_starts : (left rows : List (List Datum)) (last : Option CellGroup) → left ≡ all → AreWritten shape [] rows last → AreOnTheWay plan shape all left rows last
  way_starts left rows last is none = record { groups = []; written = none; whole = ap (λ ls. made_of plan shape ls []) is }

  pub way_goes_on : (left after : List (List Datum)) (cells : List Datum) (rows more : List (List Datum)) (last next : Option CellGroup) → left ≡ cells ∷ after
      → ((groups : List Group) → AreWritten shape groups rows last → AreWritten shape (taken_in (row_passes plan) (row_group_of plan shape) cells groups) more next)
      → AreOnTheWay plan shape all left rows last → AreOnTheWay plan shape all after more next
  way_goes_on left after cells rows more last next is step w = record {
    groups = taken_in (row_passes plan) (row_group_of plan shape) cells w.groups;
    written = step w.groups w.written;
    whole =
        sym (rows_step (row_passes plan) (row_group_of plan shape) cells after w.groups)
        ∙ ap (λ ls. made_of plan shape ls w.groups) (sym is)
        ∙ w.whole;
  }

  pub way_ends : (left rows shown : List (List Datum)) (last : Option CellGroup) → left ≡ [] → ((groups : List Group) → AreWritten shape groups rows last → shown ≡ rows_shown shape groups)
      → AreOnTheWay plan shape all left rows last → shown ≡ rows_shown shape (made_of plan shape all [])
  way_ends left rows shown last is end w =
      end w.groups w.written ∙ ap (rows_shown shape) (sym (ap (λ ls. made_of plan shape ls w.groups) is) ∙ w.whole)

-- if no group was written, there is no last one
pub none_last : (shape : Shape) (rows : List (List Datum)) (last : Option CellGroup) → AreWritten shape [] rows last → IfSome last (HasTallies shape.aggs)
none_last shape rows None w = tt
none_last shape rows (Some g) w = absurd (omega (arith, simp length-append at (ap length w.all)))
