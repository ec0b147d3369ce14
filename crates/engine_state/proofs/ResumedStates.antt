-- The state of a history that begins with an image.
use Rattle.std.proofs.Common.{◌≡◌, ℕ, zero, suc, ◌+◌, ◌<◌, true, List, [], ◌∷◌, take, length, get_or, add-one, sym, ap, ◌∙◌, subst, arith}
use Rattle.ts_model.specs.declared.events.Event.{Event}
use Rattle.ts_model.specs.declared.images.Image.{Image}
use Rattle.ts_model.specs.declared.rosters.Roster.{Roster}
use Rattle.ts_model.specs.History.{resumed}
use Rattle.ts_model.specs.Roster.{roster_after, roster_over}
use Rattle.ts_model.specs.Valid.{image_roster, valid}
use Rattle.refresh_list.specs.Refreshes.{RefreshesStand, together}
use Rattle.refresh_list.proofs.ImageLaws.{images_stand}
use Rattle.engine_state.specs.Lists.{Each}
use Rattle.engine_state.specs.Resumed.{ResumedAt}
use Rattle.engine_state.specs.Stands.{StandsFor, StateValue, TableAt, ViewAt}
use Rattle.engine_state.proofs.EachLaws.{each_map}

-- one more event
pub roster_more : (r : Roster) (es : List Event) (i : ℕ) (e : Event) → i < length es → e ≡ get_or es i e → roster_after (roster_over r (take i es)) e ≡ roster_over r (take (i + 1) es)
roster_more r es i e l is = step r es i l is ∙ ap (λ n. roster_over r (take n es)) (sym (add-one i))
  where
    step : (r : Roster) (es : List Event) (i : ℕ) → i < length es → e ≡ get_or es i e → roster_after (roster_over r (take i es)) e ≡ roster_over r (take (suc i) es)
    step r [] i l is = absurd (omega arith)
    step r (d ∷ ds) zero l is = ap (roster_after r) is
    step r (d ∷ ds) (suc i) l is = step (roster_after r d) ds i (omega arith) is

-- its parts, each built from the image
pub state_resumed : (i : Image) (s : StateValue) → valid i ≡ true → s.position ≡ i.pos → s.roster ≡ image_roster i → Each (ResumedAt i) (image_roster i).tables s.tables
    → Each (ViewAt (resumed i) s.tables) (image_roster i).views s.views → s.refreshes ≡ together i.waiting i.done → StandsFor (resumed i) s
state_resumed i s ok position relations tables views refreshes = record {
  consistent = ok;
  tables = each_map (ResumedAt i) (TableAt (resumed i)) 0 (image_roster i).tables s.tables (λ j a b p. p.0) tables;
  views = views;
  refreshes = subst (RefreshesStand (resumed i)) (sym refreshes) (images_stand.stand i ok);
  position = position;
  roster = relations;
}
