use Rattle.std.proofs.Common.{◌≡◌, ◌<◌, [], ◌∷◌, length, get_or, set, refl, sym, ap, subst, ◌∙◌, arith}
use Rattle.ts_num.specs.declared.values.Fun.TheVariants.{CountAll}
use Rattle.partial_agg.specs.Summaries.{Summary, summary_of_both, summary}
use Rattle.group_fold.specs.Grouping.{row_parts}
use Rattle.group_fold.proofs.Counts.{length-row_parts, row_part}
use Rattle.group_fold.proofs.Parts.{part_within, part_holds, part_step, parts_whole}
use Rattle.group_fold.proofs.members.add_to_parts.Goals as goal
use Rattle.group_fold.proofs.members.add_to_parts.Goals.{In-loop-k}

many : (c : In-loop-k) → length c.args.parts.now ≡ length (row_parts c.args.aggs.now c.args.row.now)
many c = c.requires.many ∙ sym (length-row_parts c.args.aggs.now c.args.row.now)

turn : (c : In-loop-k) → c.loop-k.k < length c.args.parts.now
turn c = omega (arith, c.requires.many)

pub bounds-parts-k : goal.bounds-parts-k
bounds-parts-k c = part_within c.loop-k.k c.args.parts.now (row_parts c.args.aggs.now c.args.row.now) c.loop-k.parts (many c) c.loop-k.invariant (turn c)

pub add-requires : goal.add-requires
add-requires c =
    subst (λ (s : Summary). s.count < 4611686018427387903) c.index-parts-k.is
    (part_holds (λ s. s.count < 4611686018427387903) c.loop-k.k c.args.parts.now (row_parts c.args.aggs.now c.args.row.now) c.loop-k.parts c.index-parts-k.result
    (many (goal.at.add-requires c).In-loop-k) c.loop-k.invariant (turn (goal.at.add-requires c).In-loop-k) c.index-parts-k.is c.requires.room)

pub loop-k-preserved : goal.loop-k-preserved
loop-k-preserved c =
    let same : length c.args.parts.now ≡ length (row_parts c.args.aggs.now c.args.row.now) = c.requires.many ∙ sym (length-row_parts c.args.aggs.now c.args.row.now) in
    let part = c.index-parts-k.result in
    let made : c.add.new.self ≡ summary_of_both part (get_or (row_parts c.args.aggs.now c.args.row.now) c.loop-k.k part) =
    c.add.ensures.added ∙ (ap (λ s. summary_of_both s (summary (c.field.result ∷ []))) (sym c.index-parts-k.is) ∙ ap (summary_of_both part) (row_part c.args.aggs.now c.args.row.now c.loop-k.k (record { fun = CountAll; col = 0 }) part c.field.result c.loop-k-test.true c.field.ensures.value)) in
    part_step c.loop-k.k c.args.parts.now (row_parts c.args.aggs.now c.args.row.now) c.loop-k.parts (set c.loop-k.parts c.loop-k.k c.add.new.self) part c.add.new.self part part
    same c.loop-k.invariant (omega (arith, c.requires.many)) c.index-parts-k.is made refl

pub returns : goal.returns
returns c =
    parts_whole c.loop-k.k c.args.parts.now (row_parts c.args.aggs.now c.args.row.now) c.loop-k.parts
    (c.requires.many ∙ sym (length-row_parts c.args.aggs.now c.args.row.now)) c.loop-k.invariant (omega (arith, c.requires.many))
