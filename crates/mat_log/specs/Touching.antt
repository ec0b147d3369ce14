-- The last touches of entries, number by number.
use Rattle.std.specs.Prelude.{ℕ, cond, List, [], ◌∷◌, ℤ, Option, Some, None}
use Rattle.ts_bucket.specs.Bucket.{WidthValue}
use Rattle.ts_bucket.specs.Positions.{later}
use Rattle.ts_bucket.specs.Spans.{in_span, touched_span}
use Rattle.mat_log.specs.Logs.{LogValue, pending_at, last_at}
use Rattle.span_map.specs.Combined.{combined_by}
use Rattle.span_map.specs.declared.rules.Rule.TheVariants.{Over, Above}
use Rattle.inval_log.specs.declared.entries.Entry.{Entry}

-- the latest position of an entry whose hull meets the bucket that holds t
abbrev pub touch_at : WidthValue → List Entry → ℤ → Option ℕ
touch_at w [] t = None
touch_at w (e ∷ es) t = later (cond (in_span (touched_span w e.hull) t) (Some e.pos) None) (touch_at w es t)

-- the latest of these positions if it is above the last refresh, and otherwise what is pending
abbrev pub pending_or_fresh : LogValue → List Entry → ℤ → Option ℕ
pending_or_fresh log es t =
    combined_by Over (pending_at log t) (combined_by Above (last_at log t) (touch_at log.width es t))
