-- Laws of what was noted as touched.
use Rattle.std.proofs.Common.{◌≡◌, cond, List, [], ◌∷◌, ◌++◌, ℤ, Some, None, sym, ap, ◌∙◌}
use Rattle.ts_bucket.specs.Bucket.{WidthValue}
use Rattle.ts_bucket.specs.Positions.{later}
use Rattle.ts_bucket.specs.Spans.{meets}
use Rattle.ts_bucket.specs.Touches.{Noted, log_touch}
use Rattle.ts_bucket.proofs.PositionLaws.{later-none, later-assoc}

-- what is noted last counts like any other
pub log_touch-append : (w : WidthValue) (b : ℤ) (log : List Noted) (entry : Noted) → log_touch w b (log ++ (entry ∷ [])) ≡ later (log_touch w b log) (cond (meets w b entry.hull) (Some entry.at) None)
log_touch-append w b [] entry = later-none _
log_touch-append w b (e ∷ es) entry =
    ap (later (cond (meets w b e.hull) (Some e.at) None)) (log_touch-append w b es entry)
    ∙ sym (later-assoc (cond (meets w b e.hull) (Some e.at) None) (log_touch w b es) (cond (meets w b entry.hull) (Some entry.at) None))
