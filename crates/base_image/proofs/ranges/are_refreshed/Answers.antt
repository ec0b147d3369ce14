use Rattle.std.proofs.Common.{◌≡◌, ◌∙◌, List, drop, int_le, ap, rules}
use Rattle.std.specs.List.{prefix_len}
use Rattle.ts_model.specs.declared.images.SavedLast.{SavedLast}
use Rattle.base_image.specs.Rising.{cover_from, spans_of}
use Rattle.base_image.proofs.Covering.{cover_is, skipped}
use Rattle.base_image.proofs.ranges.are_refreshed.Goals as goal

pub returns : goal.returns
returns c =
    let covers : c.cover.result ≡ cover_from c.args.span.lo c.args.span.hi (spans_of c.lasts_past.result.now) = search rules in
    let past : c.lasts_past.result.now ≡ drop (prefix_len (λ (l : SavedLast). int_le l.span.hi c.args.span.lo) c.args.lasts.now) c.args.lasts.now = search rules in
    covers
    ∙ ap (λ (ls : List SavedLast). cover_from c.args.span.lo c.args.span.hi (spans_of ls)) past
    ∙ skipped c.args.span.lo c.args.span.hi c.args.lasts.now c.requires.rising
    ∙ cover_is c.args.def.now c.args.lasts.now c.args.span c.requires.fits c.requires.rising c.requires.whole
