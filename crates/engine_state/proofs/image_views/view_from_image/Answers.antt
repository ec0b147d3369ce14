-- The ranges of an image determine what is pending and what was refreshed.
use Rattle.std.proofs.Common.{◌≡◌, ◌∙◌, List, ℤ, ℕ, Option, Some, None, cond, map, ap, refl, sym, subst}
use Rattle.std.specs.Prelude.{◌&&◌, is_none}
use Rattle.std.specs.List.{AllByRecursion}
use Rattle.std.proofs.lemmas.Result.{IfOk-weaker}
use Rattle.ts_bucket.specs.Ranges.{IsWholeRange, lies_in}
use Rattle.ts_bucket.specs.Spans.{in_span}
use Rattle.ts_bucket.specs.WholeSpans.{whole_span}
use Rattle.ts_bucket.specs.declared.spans.Span.{Span}
use Rattle.span_map.specs.declared.pieces.Piece.{Piece}
use Rattle.span_map.specs.Pieces.{ArePieces, piece_at}
use Rattle.mat_log.specs.Logs.{last_at, pending_at}
use Rattle.ts_model.specs.History.{resumed}
use Rattle.engine_state.specs.Images.{piece_of}
use Rattle.engine_state.specs.Views.{ViewStands, ViewValue}
use Rattle.engine_state.proofs.ResumedViews.{dirty_whole, kept_parts, pieces_are, pieces_whole, view_resumed}
use Rattle.engine_state.proofs.image_views.view_from_image.Goals as goal

pub from_lasts-requires-clause-rise : goal.from_lasts-requires-clause-rise
from_lasts-requires-clause-rise c =
    let of = c.requires.saved.3.is_kept in
    let i = c.requires.saved.0 in
    let pieces : c.items-2.result.now ≡ map piece_of c.args.saved.now.lasts = c.items-2.ensures.items ∙ c.in_ok-pieces.ensures {u = tt} ∙ ap (map piece_of) c.items.ensures.items in
    let rise = pieces_are i c.args.def.now c.args.saved.now (kept_parts i c.requires.saved.1 c.args.def.now c.args.saved.now of.ok of.there of.kept_is) in
    (rise.0, rise.1, subst (λ (ps : List Piece). ArePieces rise.0 rise.1 ps) (sym pieces) rise.2)

pub from_lasts-requires-clause-lasts : goal.from_lasts-requires-clause-lasts
from_lasts-requires-clause-lasts c =
    let of = c.requires.saved.3.is_kept in
    let i = c.requires.saved.0 in
    let pieces : c.items-2.result.now ≡ map piece_of c.args.saved.now.lasts = c.items-2.ensures.items ∙ c.in_ok-pieces.ensures {u = tt} ∙ ap (map piece_of) c.items.ensures.items in
    subst (λ (ps : List Piece). AllByRecursion (λ (p : Piece). IsWholeRange c.args.def.now.fold.width p.span) ps) (sym pieces)
    (pieces_whole i.pos c.args.def.now c.args.saved.now (kept_parts i c.requires.saved.1 c.args.def.now c.args.saved.now of.ok of.there of.kept_is))

pub from_lasts-requires-clause-dirty : goal.from_lasts-requires-clause-dirty
from_lasts-requires-clause-dirty c =
    let of = c.requires.saved.3.is_kept in
    let i = c.requires.saved.0 in
    subst (λ (ss : List Span). AllByRecursion (IsWholeRange c.args.def.now.fold.width) ss) (sym c.items-3.ensures.items)
    (dirty_whole i.pos c.args.def.now c.args.saved.now (kept_parts i c.requires.saved.1 c.args.def.now c.args.saved.now of.ok of.there of.kept_is))

pub returns : goal.returns
returns c = record {
  stands = λ i n at of.
      let def = c.args.def.now in
      let v = c.args.saved.now in
      let table = c.args.table.now in
      let log = c.in_ok-log.log in
      let back = sym at in
      let whole : ℤ → Option ℕ → Option ℕ = λ b o. cond (lies_in v.dirty b) (Some i.pos) (cond (in_span (whole_span def.fold.width) b && is_none o) (Some 0) None) in
      let pieces : c.items-2.result.now ≡ map piece_of c.args.saved.now.lasts = c.items-2.ensures.items ∙ c.in_ok-pieces.ensures {u = tt} ∙ ap (map piece_of) c.items.ensures.items in
      let pending : (b : ℤ) → pending_at c.in_ok-log.log b ≡ cond (lies_in c.args.saved.now.dirty b) (Some i.pos) (cond (in_span (whole_span c.args.def.now.fold.width) b && is_none (piece_at (map piece_of c.args.saved.now.lasts) b)) (Some 0) None) = λ b.
      c.in_ok-log.ensures.pending b
      ∙ (λ k. cond (lies_in (c.items-3.ensures.items k) b) (Some (back k)) (cond (in_span (whole_span def.fold.width) b && is_none (piece_at (pieces k) b)) (Some 0) None)) in
      let refreshed : (b : ℤ) → last_at c.in_ok-log.log b ≡ piece_at (map piece_of c.args.saved.now.lasts) b = λ b. c.in_ok-log.ensures.refreshed b ∙ ap (λ (ps : List Piece). piece_at ps b) pieces in
      let made : ViewValue = record { table = def.table; log = log; groups = c.in_ok-groups.groups; mark = v.mark } in
      let stands : ViewStands (resumed i) n def table.log made = view_resumed i n def v c.args.anew.now of.is_kept table of.threshold_is of.entries_are made refl c.in_ok-log.ensures.width refl pending refreshed (c.in_ok-groups.ensures.groups i n def of.is_kept) in
      IfOk-weaker c.of.result (λ x. x ≡ made) (ViewStands (resumed i) n def table.log) (λ x is. subst (ViewStands (resumed i) n def table.log) (sym is) stands) c.of.ensures.parts;
}
