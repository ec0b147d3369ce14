-- A cut loses no entry: what was logged is pending afterwards, if it is above the last refresh.
use Rattle.std.proofs.Common.{◌≡◌, ℕ, ◌<◌, ◌≤◌, max, Bool, true, false, cond, ◌&&◌, nat_lt, List, [], ◌∷◌, map, ℤ, Option, Some, None, refl, sym, ap, ◌∙◌, arith}
use Rattle.std.proofs.lemmas.Bool.Decides.{nat_tests}
use Rattle.ts_bucket.specs.Bucket.{WidthValue}
use Rattle.ts_bucket.specs.Positions.{later, above_last, is_before}
use Rattle.ts_bucket.specs.Spans.{meets}
use Rattle.ts_bucket.specs.Touches.{log_touch}
use Rattle.ts_bucket.proofs.PositionLaws.{later-none, later-assoc, above_last-later, above_last-nothing}
use Rattle.inval_log.specs.declared.entries.Entry.{Entry}
use Rattle.mat_log.specs.Feeding.{pending_after, pending_after_all, are_rising, note_of}
use Rattle.mat_log.proofs.FeedLaws.{rise_parts}

-- there is no position, or it is at most n
abbrev pub IsUpto : ℕ → Option ℕ → Type 0
IsUpto n None = Unit {0}
IsUpto n (Some p) = p ≤ n

-- one entry whose position is at least what is pending
one_after : (met : Bool) (p : ℕ) (r v : Option ℕ) → IsUpto p v → cond (met && is_before p r) (Some p) v ≡ later v (above_last r (cond met (Some p) None))
one_after false p r v u = sym (ap (later v) (above_last-nothing r) ∙ later-none v)
one_after true p None None u = refl
one_after true p None (Some x) u = ap Some (let e : p ≡ max x p = omega arith in e)
one_after true p (Some s) None u = refl
one_after true p (Some s) (Some x) u = by (nat_lt s p) refl
  where
    by : (b : Bool) → nat_lt s p ≡ b → cond b (Some p) (Some x) ≡ later (Some x) (cond b (Some p) None)
    by true e = ap Some (let m : p ≡ max x p = omega arith in m)
    by false e = refl

upto_after : (met : Bool) (p : ℕ) (r v : Option ℕ) → IsUpto p v → IsUpto p (cond (met && is_before p r) (Some p) v)
upto_after met p r v u = by (met && is_before p r)
  where
    by : (b : Bool) → IsUpto p (cond b (Some p) v)
    by true = let le : p ≤ p = omega arith in le
    by false = u

upto_more : (n m : ℕ) (v : Option ℕ) → n ≤ m → IsUpto n v → IsUpto m v
upto_more n m None le u = u
upto_more n m (Some p) le u = omega arith

-- the pending position after entries whose positions rise from the pending one on is the later of that one and
-- of the latest entry above the last refresh
pub pending_after_all-touch : (w : WidthValue) (b : ℤ) (n : ℕ) (r : Option ℕ) (es : List Entry) (v : Option ℕ) → IsUpto n v → are_rising n es ≡ true → pending_after_all w b r es v ≡ later v (above_last r (log_touch w b (map note_of es)))
pending_after_all-touch w b n r [] v u h = sym (ap (later v) (above_last-nothing r) ∙ later-none v)
pending_after_all-touch w b n r (e ∷ es) v u h =
    let parts = rise_parts n e.pos (are_rising e.pos es) h in
    let upto : IsUpto e.pos v = upto_more n e.pos v parts.0 u in
    let rest = log_touch w b (map note_of es) in
    pending_after_all-touch w b e.pos r es (pending_after w b r e v) (upto_after (meets w b e.hull) e.pos r v upto) parts.1
    ∙ ap (λ x. later x (above_last r rest)) (one_after (meets w b e.hull) e.pos r v upto)
    ∙ later-assoc v (above_last r (cond (meets w b e.hull) (Some e.pos) None)) (above_last r rest)
    ∙ ap (later v) (sym (above_last-later r (cond (meets w b e.hull) (Some e.pos) None) rest))
