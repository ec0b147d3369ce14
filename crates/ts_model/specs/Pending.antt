-- Pending refreshes: the outcome of each refresh, and which refreshes wait.
use Rattle.std.specs.Prelude.{ℕ, suc, Bool, true, false, not, cond, nat_le, ◌==◌, List, [], ◌∷◌, ◌++◌, filter}
use Rattle.ts_model.specs.declared.events.Event.TheVariants.{Cut, Built}
use Rattle.ts_model.specs.declared.refreshes.Pending.{Pending}
use Rattle.ts_model.specs.declared.refreshes.Pending.TheVariants.{Waiting, Finished, Unknown}
use Rattle.ts_model.specs.declared.refreshes.Waiting.{Waiting as WaitingRefresh}
use Rattle.ts_model.specs.History.{History, start, resumed, ◌▸◌, position}
use Rattle.ts_model.specs.Saved.{pending_among}

-- a refresh that waits is finished by event number k
abbrev pub finished_by : ℕ → Pending → Pending
finished_by k (Waiting n) = Finished k
finished_by k p = p

-- the outcome of refresh number k: it waits from its cut until a Built names it. For numbers up to its
-- position, an image states it
abbrev pub pending : History → ℕ → Pending
pending start k = Unknown
pending (resumed i) k = cond (nat_le k i.pos) (pending_among i.waiting i.done k) Unknown
pending (h ▸ Cut v span) k = cond (k == suc (position h)) (Waiting v) (pending h k)
pending (h ▸ Built cut snap) k = cond (k == cut) (finished_by (suc (position h)) (pending h k)) (pending h k)
pending (h ▸ e) k = pending h k

-- the refreshes that were cut and not finished, in rising order of their cuts
abbrev pub waiting : History → List WaitingRefresh
waiting start = []
waiting (resumed i) = i.waiting
waiting (h ▸ Cut v span) = waiting h ++ (record { cut = suc (position h); view = v; span = span } ∷ [])
waiting (h ▸ Built cut snap) = filter (λ r. not (r.cut == cut)) (waiting h)
waiting (h ▸ e) = waiting h

abbrev pub is_waiting : Pending → Bool
is_waiting (Waiting n) = true
is_waiting p = false

-- the refresh was cut
abbrev pub is_known : Pending → Bool
is_known Unknown = false
is_known p = true
