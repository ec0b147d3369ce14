-- The end of a history.
use Rattle.std.specs.Prelude.{◌≡◌, ℕ, ◌≤◌, ◌<◌, ◌^◌, true, false}
use Rattle.ts_model.specs.declared.events.Event.{Event}
use Rattle.ts_model.specs.declared.outcomes.Committed.{Committed}
use Rattle.ts_model.specs.declared.outcomes.CutDone.{CutDone}
use Rattle.ts_model.specs.Allowed.{allowed, all_allowed}
use Rattle.ts_model.specs.Calls.{act_of_event, makes, refuses}
use Rattle.ts_model.specs.History.{History, position}
use Rattle.ts_model.specs.Numbers.{history_full}

-- a call with this answer for its event creates it below position 2 ^ 62, and at that position is refused as
-- E30, whether or not the store has stopped
pub record MadeUpToEnd (A : Type 0) : Type 0 where
  pub below : (h : History) (e : Event) (a : A) → position h < 2 ^ 62 → act_of_event h e a ≡ makes e a
  pub full : (h : History) (e : Event) (a : A) → position h ≡ 2 ^ 62
      → act_of_event h e a ≡ refuses (record { code = history_full; pos = position h; mark = 0 })

-- an allowed history reaches at most position 2 ^ 62, wherever it begins, and no event is allowed there
pub record HistoriesEnd : Type 0 where
  pub bounded : (h : History) → all_allowed h ≡ true → position h ≤ 2 ^ 62
  pub nothing_after : (h : History) (e : Event) → position h ≡ 2 ^ 62 → allowed h e ≡ false
  pub numbers : MadeUpToEnd ℕ
  pub commits : MadeUpToEnd Committed
  pub cuts : MadeUpToEnd CutDone
