-- Whether an aggregate shows materialized rows only has no effect on stale buckets, or on the groups of a
-- bucket.
use Rattle.std.proofs.Common.{◌≡◌, ℕ, suc, Bool, ◌&&◌, cond, ℤ, Option, Some, None, refl, ap, ◌∙◌}
use Rattle.ts_num.specs.Aggregates.{greater}
use Rattle.ts_bucket.specs.Positions.{later, is_above}
use Rattle.ts_bucket.specs.WholeSpans.{is_below}
use Rattle.ts_model.specs.declared.events.Event.TheVariants.{Commit, Built}
use Rattle.ts_model.specs.declared.views.ViewDef.{ViewDef}
use Rattle.ts_model.specs.History.{History, start, resumed, ◌▸◌, position, prefix}
use Rattle.ts_model.specs.Roster.{set_only}
use Rattle.ts_model.specs.Groups.{groups_at_last}
use Rattle.ts_model.specs.Refreshes.{span_of_cut, touches, last, last_touch, top_of, watermark, is_invalid, invalid}
use Rattle.ts_model.specs.RefreshLaws.{ModePlaysNoPart}

mark_alike : (n : ℕ) (def : ViewDef) (only : Bool) (h : History) → watermark n (set_only only def) h ≡ watermark n def h
mark_alike n def only start = refl
mark_alike n def only (resumed i) = refl
mark_alike n def only (h ▸ Built cut snap) = ap (λ mark. greater mark (top_of def h snap (span_of_cut n h cut))) (mark_alike n def only h)
mark_alike n def only (h ▸ x) = mark_alike n def only h

touch_alike : (n : ℕ) (def : ViewDef) (only : Bool) (h : History) (b : ℤ) → last_touch n (set_only only def) h b ≡ last_touch n def h b
touch_alike n def only start b = refl
touch_alike n def only (resumed i) b = refl
touch_alike n def only (h ▸ Commit ops) b = ap (λ p. later p (cond (touches def ops h b) (Some (suc (position h))) None)) (touch_alike n def only h b)
touch_alike n def only (h ▸ x) b = touch_alike n def only h b

invalid_at : (n : ℕ) (def : ViewDef) (only : Bool) (h : History) (b : ℤ) (o : Option ℕ) → is_invalid n (set_only only def) h b o ≡ is_invalid n def h b o
invalid_at n def only h b None = refl
invalid_at n def only h b (Some s) = ap (is_above s) (touch_alike n def only h b)

invalid_alike : (n : ℕ) (def : ViewDef) (only : Bool) (h : History) (b : ℤ) → invalid n (set_only only def) h b ≡ invalid n def h b
invalid_alike n def only h b = invalid_at n def only h b (last n h b)

stood_alike : (n : ℕ) (def : ViewDef) (only : Bool) (g : History) (s : ℕ) (b : ℤ) → groups_at_last n (set_only only def) g s b ≡ groups_at_last n def g s b
stood_alike n def only start s b = refl
stood_alike n def only (resumed i) s b = refl
stood_alike n def only (g ▸ e) s b = refl

pub mode_plays_no_part : ModePlaysNoPart
mode_plays_no_part = record {
  marks = mark_alike;
  touches = touch_alike;
  invalid = invalid_alike;
  stale = λ n def only h b. ap (λ mark. is_below b mark && invalid n (set_only only def) h b) (mark_alike n def only h) ∙ ap (λ t. is_below b (watermark n def h) && t) (invalid_alike n def only h b);
  cells = λ def only h b. refl;
  groups = λ n def only h s b. stood_alike n def only (prefix h s) s b;
}
