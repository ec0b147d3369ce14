use Rattle.std.proofs.Common.{◌≡◌, ◌∙◌, int_le, FitsSigned}
use Rattle.std.specs.Int.{w64}
use Rattle.std.specs.List.{prefix_len}
use Rattle.std.proofs.lemmas.Int.{to_z-of_z}
use Rattle.ts_bucket.specs.Spans.{in_span}
use Rattle.ts_model.specs.declared.images.SavedLast.{SavedLast}
use Rattle.base_image.proofs.Searching.{found_none, found_there, lasts_any, spans_searched}
use Rattle.base_image.proofs.searches.has_last.Goals as goal

pub returns-in-Some : goal.returns-in-Some
returns-in-Some c =
    let fits : FitsSigned w64 c.args.b = c.ranges.b in
    let place : c.lasts_below.result ≡ prefix_len (λ (s : SavedLast). int_le s.span.hi c.args.b) c.args.lasts.now = simp to_z-of_z at c.lasts_below.ensures.place in
    let searched = spans_searched (λ (s : SavedLast). s.span) c.args.b c.args.lasts.now (c.requires.rising) in
    let held : c.holds.result ≡ in_span c.in-Some.last.now.span c.args.b = simp to_z-of_z at c.holds.ensures in
    held ∙ found_there _ _ c.args.lasts.now c.lasts_below.result c.in-Some.last.now searched place c.in-Some.ensures.lookup.0 c.in-Some.ensures.lookup.1 ∙ lasts_any c.args.lasts.now c.args.b

pub returns-in-None : goal.returns-in-None
returns-in-None c =
    let fits : FitsSigned w64 c.args.b = c.ranges.b in
    let place : c.lasts_below.result ≡ prefix_len (λ (s : SavedLast). int_le s.span.hi c.args.b) c.args.lasts.now = simp to_z-of_z at c.lasts_below.ensures.place in
    let searched = spans_searched (λ (s : SavedLast). s.span) c.args.b c.args.lasts.now (c.requires.rising) in
    found_none _ _ c.args.lasts.now c.lasts_below.result searched place c.in-None.ensures.lookup.0 ∙ lasts_any c.args.lasts.now c.args.b
