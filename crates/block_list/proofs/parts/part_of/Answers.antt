-- The part at the place found.
use Rattle.std.proofs.Common.{◌≡◌, ◌+◌, ◌<◌, ◌≤◌, ◌∙◌, suc, length, take, sym, subst, ap, arith}
use Rattle.std.proofs.lemmas.List.{length-append}
use Rattle.block_list.specs.Blocks.{PartValue, IsRun, items_of}
use Rattle.block_list.proofs.PartLaws.{starts_at, run_at, taken_more}
use Rattle.block_list.proofs.parts.part_of.Given as given
use Rattle.block_list.proofs.parts.part_of.Goals as goal
use Rattle.block_list.proofs.parts.part_of.Goals.{After-index-parts-place}

-- what the part at the place says of the items
starts : (g : given.Over) (c : After-index-parts-place g) → c.index-parts-place.result.start ≡ length (items_of (take c.place_of-place.result c.args.parts.now))
starts g c =
    let at = ap (λ (b : PartValue g.row.S-Item.Denot). b.start) c.index-parts-place.is ∙ starts_at 0 c.args.parts.now c.place_of-place.result c.index-parts-place.result c.requires.parts c.place_of-place.ensures.place in
    omega arith

ends : (g : given.Over) (c : After-index-parts-place g) → length (items_of (take (c.place_of-place.result + 1) c.args.parts.now)) ≡ length (items_of (take c.place_of-place.result c.args.parts.now)) + length c.index-parts-place.result.items
ends g c =
    let next : c.place_of-place.result + 1 ≡ suc c.place_of-place.result = omega arith in
    ap (λ n. length (items_of (take n c.args.parts.now))) next
    ∙ ap length (taken_more c.args.parts.now c.place_of-place.result c.index-parts-place.result c.place_of-place.ensures.place)
    ∙ length-append (items_of (take c.place_of-place.result c.args.parts.now)) _
    ∙ ap (λ (b : PartValue g.row.S-Item.Denot). length (items_of (take c.place_of-place.result c.args.parts.now)) + length b.items) (sym c.index-parts-place.is)

pub returns-clause-from : goal.returns-clause-from
returns-clause-from g c =
    let at = starts g c in
    let low = c.place_of-place.ensures.from in
    let from : c.index-parts-place.result.start ≤ c.args.i = omega arith in
    from

pub returns-clause-below : goal.returns-clause-below
returns-clause-below g c =
    let at = starts g c in
    let end = ends g c in
    let high = c.place_of-place.ensures.below in
    let below : c.args.i < c.index-parts-place.result.start + length c.index-parts-place.result.items = omega arith in
    below

pub returns-clause-run : goal.returns-clause-run
returns-clause-run g c =
    let at = starts g c in
    let end = ends g c in
    let low = c.place_of-place.ensures.from in
    let high = c.place_of-place.ensures.below in
    let some : 0 < length c.index-parts-place.result.items = omega arith in
    let all = c.args.parts.now in
    let here : IsRun (items_of all) (length (items_of (take c.place_of-place.result all))) (length (items_of all)) c.index-parts-place.result.items =
    subst (λ (b : PartValue g.row.S-Item.Denot). IsRun (items_of all) (length (items_of (take c.place_of-place.result all))) (length (items_of all)) b.items) (sym c.index-parts-place.is)
    (run_at all c.place_of-place.result c.index-parts-place.result c.place_of-place.ensures.place (subst (λ (b : PartValue g.row.S-Item.Denot). 0 < length b.items) c.index-parts-place.is some)) in
    subst (λ n. IsRun (items_of all) n (length (items_of all)) c.index-parts-place.result.items) (sym at) here
