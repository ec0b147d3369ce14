-- The pieces of the log are the last refreshes of the history.
use Rattle.std.proofs.Common.{◌≡◌, List, map, subst}
use Rattle.std.specs.Prelude.{IfOk}
use Rattle.span_map.specs.declared.pieces.Piece.{Piece}
use Rattle.mat_log.specs.Lasts.{AreLasts as AreLastPieces}
use Rattle.mat_log.specs.Logs.{LogValue, last_at}
use Rattle.base_image.specs.Taking.{AreLasts}
use Rattle.ts_model.specs.declared.views.ViewDef.{ViewDef}
use Rattle.ts_model.specs.Roster.{roster}
use Rattle.engine_state.specs.Images.{last_of}
use Rattle.engine_state.proofs.ImageFacts.{lasts_taken, mapped_ok, one_def}
use Rattle.engine_state.proofs.parts.StateParts.lasts.Goals as goal

pub returns : goal.returns
returns c = record {
  lasts = λ h def st there.
      let seen = c.view_seen-seen.result in
      let is = c.view_seen-seen.ensures.view h st in
      let same = one_def (roster h) c.args.view seen.def.now def is.there there in
      let pieces = subst (λ (l : LogValue). AreLastPieces l.width (last_at l) c.in_ok-pieces.pieces) c.log.ensures.log c.in_ok-pieces.ensures.lasts in
      let made : IfOk c.saved_lasts.result (λ lasts. lasts ≡ map last_of c.in_ok-pieces.pieces) = subst (λ (ps : List Piece). IfOk c.saved_lasts.result (λ lasts. lasts ≡ map last_of ps)) c.items.ensures.items c.saved_lasts.ensures in
      mapped_ok c.saved_lasts.result last_of c.in_ok-pieces.pieces (AreLasts c.args.view def h)
      (subst (λ (d : ViewDef). AreLasts c.args.view d h (map last_of c.in_ok-pieces.pieces)) same (lasts_taken h c.args.view seen.rows.position seen.def.now seen.state.now seen.rows.table.now c.in_ok-pieces.pieces st.consistent is pieces)) made;
}
