-- The groups of dirty buckets are the saved ones, and others are those of the rows.
use Rattle.std.proofs.Common.{◌≡◌, ◌∙◌, [], List, map, ap, sym, subst}
use Rattle.std.specs.List.{list_all}
use Rattle.partial_agg.specs.Groups.{AreInOrder}
use Rattle.partial_agg.specs.declared.groups.Group.{Group}
use Rattle.ts_bucket.specs.declared.spans.Span.{Span}
use Rattle.mat_rows.specs.Replacing.{AreSpans, BucketsAreOfBoth, PassAsBoth, SpansRise}
use Rattle.ts_model.specs.declared.images.SavedGroup.{SavedGroup}
use Rattle.ts_model.specs.declared.images.SavedLast.{SavedLast}
use Rattle.ts_model.specs.Saved.{group_of}
use Rattle.ts_model.specs.Valid.{sums_fit}
use Rattle.engine_state.proofs.ResumedViews.{dirty_sized, groups_resumed, kept_parts, lasts_sized, rises_ordered, sums_bounded}
use Rattle.engine_state.proofs.image_views.groups_from_image.Goals as goal

pub replace-requires-clause-sizes : goal.replace-requires-clause-sizes
replace-requires-clause-sizes c =
    let i = c.requires.kept.0 in
    let def = c.requires.kept.2 in
    let of = c.requires.kept.3 in
    subst AreSpans (sym (c.in_ok-ranges.ensures ∙ ap (map (λ (l : SavedLast). l.span)) c.items.ensures.items)) (lasts_sized i.pos def c.args.saved.now (kept_parts i c.requires.kept.1 def c.args.saved.now of.ok of.there of.kept_is)).0

pub replace-requires-clause-rising : goal.replace-requires-clause-rising
replace-requires-clause-rising c =
    let i = c.requires.kept.0 in
    let def = c.requires.kept.2 in
    let of = c.requires.kept.3 in
    subst SpansRise (sym (c.in_ok-ranges.ensures ∙ ap (map (λ (l : SavedLast). l.span)) c.items.ensures.items)) (lasts_sized i.pos def c.args.saved.now (kept_parts i c.requires.kept.1 def c.args.saved.now of.ok of.there of.kept_is)).1

pub groups_of_saved-requires : goal.groups_of_saved-requires
groups_of_saved-requires c =
    let i = c.requires.kept.0 in
    let def = c.requires.kept.2 in
    let of = c.requires.kept.3 in
    let kept = kept_parts i c.requires.kept.1 def c.args.saved.now of.ok of.there of.kept_is in
    record { bounded = ap (list_all (λ (x : SavedGroup). list_all sums_fit x.parts)) c.items-2.ensures.items ∙ sums_bounded def c.args.saved.now.dirty c.args.saved.now.groups kept.groups }

pub of-requires : goal.of-requires
of-requires c =
    let i = c.requires.kept.0 in
    let def = c.requires.kept.2 in
    let of = c.requires.kept.3 in
    let kept = kept_parts i c.requires.kept.1 def c.args.saved.now of.ok of.there of.kept_is in
    record { order = subst AreInOrder (sym (c.in_ok-groups_of_saved.ensures ∙ ap (map group_of) c.items-2.ensures.items)) (rises_ordered (map group_of c.args.saved.now.groups) kept.groups_rise) }

pub replace-requires-2-clause-sizes : goal.replace-requires-2-clause-sizes
replace-requires-2-clause-sizes c =
    let i = c.requires.kept.0 in
    let def = c.requires.kept.2 in
    let of = c.requires.kept.3 in
    (dirty_sized i.pos def c.args.saved.now (kept_parts i c.requires.kept.1 def c.args.saved.now of.ok of.there of.kept_is)).0

pub replace-requires-2-clause-rising : goal.replace-requires-2-clause-rising
replace-requires-2-clause-rising c =
    let i = c.requires.kept.0 in
    let def = c.requires.kept.2 in
    let of = c.requires.kept.3 in
    (dirty_sized i.pos def c.args.saved.now (kept_parts i c.requires.kept.1 def c.args.saved.now of.ok of.there of.kept_is)).1

pub returns : goal.returns
returns c = record {
  groups = λ i n def of.
      let v = c.args.saved.now in
      let ranges_are : c.in_ok-ranges.ranges ≡ map (λ (l : SavedLast). l.span) c.args.saved.now.lasts = c.in_ok-ranges.ensures ∙ ap (map (λ (l : SavedLast). l.span)) c.items.ensures.items in
      let kept_are : c.in_ok-kept.kept ≡ map group_of c.args.saved.now.groups = c.in_ok-kept.ensures.groups ∙ (c.in_ok-groups_of_saved.ensures ∙ ap (map group_of) c.items-2.ensures.items) in
      groups_resumed i n def v c.args.anew.now of c.in_ok-clean.clean c.in_ok-groups.groups c.order.ensures.order
      (subst (λ (ss : List Span). BucketsAreOfBoth ss c.args.anew.now [] c.in_ok-clean.clean) ranges_are (subst (λ (gs : List Group). BucketsAreOfBoth c.in_ok-ranges.ranges c.args.anew.now gs c.in_ok-clean.clean) c.new.ensures.groups c.in_ok-clean.ensures.buckets))
      (subst (λ (gs : List Group). PassAsBoth c.args.anew.now gs c.in_ok-clean.clean) c.new.ensures.groups c.in_ok-clean.ensures.all)
      (subst (λ (gs : List Group). BucketsAreOfBoth v.dirty gs c.in_ok-clean.clean c.in_ok-groups.groups) kept_are c.in_ok-groups.ensures.buckets)
      (subst (λ (gs : List Group). PassAsBoth gs c.in_ok-clean.clean c.in_ok-groups.groups) kept_are c.in_ok-groups.ensures.all);
}
