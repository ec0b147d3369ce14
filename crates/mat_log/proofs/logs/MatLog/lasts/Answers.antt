-- The pieces of the last refreshes, merged, are their ranges.
use Rattle.std.proofs.Common.{◌≡◌, ◌∙◌, ℤ, None, List, cond, refl, ap, subst}
use Rattle.std.specs.Prelude.{IfOk}
use Rattle.span_map.specs.declared.pieces.Piece.{Piece}
use Rattle.mat_log.specs.Lasts.{AreLasts, all_merged}
use Rattle.mat_log.specs.Logs.{LogValue, last_at}
use Rattle.mat_log.proofs.LastLaws.{lasts_as}
use Rattle.mat_log.proofs.logs.MatLog.lasts.Goals as goal

pub returns : goal.returns
returns c =
    let merged : IfOk c.merge_pieces.result (λ ps. ps ≡ all_merged c.in_ok-pieces.pieces) = subst (λ (qs : List Piece). IfOk c.merge_pieces.result (λ ps. ps ≡ all_merged qs)) c.items.ensures.items c.merge_pieces.ensures in
    record {
      lasts = subst (λ (l : LogValue). IfOk c.merge_pieces.result (AreLasts l.width (last_at l))) c.self.view_is
          (lasts_as _ _ _ c.all_buckets.result c.in_ok-pieces.pieces c.merge_pieces.result c.self.invariant.bounds c.self.invariant.one_refreshed c.all_buckets.ensures.value (λ t. refl) c.in_ok-pieces.ensures.values c.in_ok-pieces.ensures.rising merged);
    }
