use Rattle.std.proofs.Common.{◌≡◌, ◌∙◌, ap, FitsSigned, rules}
use Rattle.std.specs.Int.{w64}
use Rattle.std.proofs.lemmas.Int.{to_z-of_z}
use Rattle.ts_bucket.specs.Spans.{SpanValue}
use Rattle.span_map.specs.Edges.{place_below, place_upto}
use Rattle.span_map.proofs.SearchLaws.{places_order as in_order}
use Rattle.span_map.proofs.search.places_within.Goals as goal

pub returns : goal.returns
returns c =
    let es = c.args.edges.now.items in
    let fits_lo : FitsSigned w64 c.span.inside.lo = search rules in
    let fits_hi : FitsSigned w64 c.span.inside.hi = search rules in
    let first : c.place-first.result ≡ place_upto c.span.inside.lo es = simp to_z-of_z at c.place-first.ensures.place in
    let end : c.place-end.result ≡ place_below c.span.inside.hi es = simp to_z-of_z at c.place-end.ensures.place in
    let first_is : c.place-first.result ≡ place_upto c.args.span.lo es = first ∙ ap (λ (s : SpanValue). place_upto s.lo es) c.span.view_is in
    let end_is : c.place-end.result ≡ place_below c.args.span.hi es = end ∙ ap (λ (s : SpanValue). place_below s.hi es) c.span.view_is in
    record {
      start = first_is;
      end = end_is;
      order = rw (first_is, end_is) (in_order c.args.span.lo c.args.span.hi es c.requires.some);
      bound = c.place-end.ensures.bound;
    }
