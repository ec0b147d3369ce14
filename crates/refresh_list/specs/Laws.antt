-- Laws of refreshes and histories: the effect of each event on the refreshes.
use Rattle.std.specs.Prelude.{◌≡◌, ℕ, suc, Bool, true, false, List, [], ◌∷◌, ◌++◌, map}
use Rattle.ts_bucket.specs.declared.spans.Span.{Span}
use Rattle.ts_model.specs.declared.events.Event.{Event}
use Rattle.ts_model.specs.declared.events.Event.TheVariants.{Cut, Built}
use Rattle.ts_model.specs.declared.images.Image.{Image}
use Rattle.ts_model.specs.History.{History, start, resumed, ◌▸◌, position}
use Rattle.ts_model.specs.Valid.{valid}
use Rattle.image_laws.specs.Images.{finished_upto}
use Rattle.refresh_list.specs.declared.refreshes.Refresh.{Refresh}
use Rattle.refresh_list.specs.Refreshes.{CutsRise, RefreshesStand, done_in, newly_cut, finished_at, together}

-- a cut or a finish of a refresh
abbrev pub is_of_refresh : Event → Bool
is_of_refresh (Cut v span) = true
is_of_refresh (Built cut snap) = true
is_of_refresh e = false

-- before any event there is no refresh
abbrev pub RefreshesBegin : Type 0
RefreshesBegin = RefreshesStand start []

-- a cut is one more refresh
abbrev pub CutsStand : Type 0
CutsStand =
    (h : History) (v : ℕ) (span : Span) (rs : List Refresh) → RefreshesStand h rs
    → RefreshesStand (h ▸ Cut v span) (rs ++ (newly_cut (suc (position h)) v span ∷ []))

-- a finish marks the refresh that it names
abbrev pub FinishesStand : Type 0
FinishesStand =
    (h : History) (cut snap : ℕ) (rs : List Refresh) → RefreshesStand h rs
    → RefreshesStand (h ▸ Built cut snap) (map (finished_at cut (suc (position h))) rs)

-- every other event leaves the refreshes unchanged
abbrev pub OthersStand : Type 0
OthersStand =
    (h : History) (e : Event) (rs : List Refresh) → is_of_refresh e ≡ false → RefreshesStand h rs
    → RefreshesStand (h ▸ e) rs

-- the refreshes of a valid image are in order of their cuts, and are those of the history that begins with it
pub record ImagesStand : Type 0 where
  pub rise : (i : Image) → valid i ≡ true → CutsRise 0 (together i.waiting i.done)
  pub stand : (i : Image) → valid i ≡ true → RefreshesStand (resumed i) (together i.waiting i.done)

-- the finished ones among the refreshes of a history are its finished refreshes, in order of their cuts
abbrev pub DoneAre : Type 0
DoneAre =
    (h : History) (rs : List Refresh) → CutsRise 0 rs → RefreshesStand h rs → done_in rs ≡ finished_upto h (position h)
