use Rattle.std.proofs.Common.{◌≡◌, ◌∙◌, int_le, FitsSigned}
use Rattle.std.specs.Int.{w64}
use Rattle.std.specs.List.{prefix_len}
use Rattle.std.proofs.lemmas.Int.{to_z-of_z}
use Rattle.ts_bucket.specs.Spans.{in_span}
use Rattle.ts_bucket.specs.declared.spans.Span.{Span}
use Rattle.base_image.proofs.Searching.{found_none, found_there, rising_same, spans_searched}
use Rattle.base_image.proofs.searches.is_inside.Goals as goal

pub returns-in-Some : goal.returns-in-Some
returns-in-Some c =
    let fits : FitsSigned w64 c.args.b = c.ranges.b in
    let place : c.spans_below.result ≡ prefix_len (λ (s : Span). int_le s.hi c.args.b) c.args.spans.now = simp to_z-of_z at c.spans_below.ensures.place in
    let searched = spans_searched (λ (s : Span). s) c.args.b c.args.spans.now (rising_same c.args.spans.now c.requires.rising) in
    let held : c.holds.result ≡ in_span c.in-Some.span.now c.args.b = simp to_z-of_z at c.holds.ensures in
    held ∙ found_there _ _ c.args.spans.now c.spans_below.result c.in-Some.span.now searched place c.in-Some.ensures.lookup.0 c.in-Some.ensures.lookup.1

pub returns-in-None : goal.returns-in-None
returns-in-None c =
    let fits : FitsSigned w64 c.args.b = c.ranges.b in
    let place : c.spans_below.result ≡ prefix_len (λ (s : Span). int_le s.hi c.args.b) c.args.spans.now = simp to_z-of_z at c.spans_below.ensures.place in
    let searched = spans_searched (λ (s : Span). s) c.args.b c.args.spans.now (rising_same c.args.spans.now c.requires.rising) in
    found_none _ _ c.args.spans.now c.spans_below.result searched place c.in-None.ensures.lookup.0
