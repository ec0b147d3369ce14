-- The part within the span, framed by its ends, has the values there.
use Rattle.std.proofs.Common.{◌≡◌, ◌∙◌, ◌<ℤ◌, None, Vec, Global, ap, sym, subst, arith}
use Rattle.std.proofs.lemmas.Int.{ints}
use Rattle.std.proofs.lemmas.Result.{IfOk-weaker}
use Rattle.span_map.specs.declared.edges.Edge.{Edge}
use Rattle.span_map.specs.Edges.{IsRising, value_from, value_on, between, edges_between}
use Rattle.span_map.proofs.PieceLaws.{rising-framed, value_from-framed}
use Rattle.span_map.proofs.parts.edges_within.Goals as goal

-- the edges built are those of the part
is : (c : goal.After-edges_of_part) → edges_between c.args.span.lo c.args.span.hi c.part_within-value.result.0 c.part_within-value.result.1.now ≡ edges_between c.args.span.lo c.args.span.hi (value_on c.args.span.lo c.args.edges.now) (between c.args.span.lo c.args.span.hi c.args.edges.now)
is c =
    ap (λ v. edges_between c.args.span.lo c.args.span.hi v c.part_within-value.result.1.now) c.part_within-value.ensures.value
    ∙ ap (edges_between c.args.span.lo c.args.span.hi (value_on c.args.span.lo c.args.edges.now)) c.part_within-value.ensures.edges

pub returns-then-span-clause-values : goal.returns-then-span-clause-values
returns-then-span-clause-values c =
    let some : c.args.span.lo <ℤ c.args.span.hi = grind (arith, ints) in
    IfOk-weaker c.edges_of_part.result _ _ (λ (part : Vec Edge Global) e t. ap (λ es. value_from None es t) (e ∙ is c) ∙ value_from-framed c.args.span c.args.edges.now t some) c.edges_of_part.ensures

pub returns-then-span-clause-rising : goal.returns-then-span-clause-rising
returns-then-span-clause-rising c =
    let some : c.args.span.lo <ℤ c.args.span.hi = grind (arith, ints) in
    IfOk-weaker c.edges_of_part.result _ _ (λ (part : Vec Edge Global) e. subst IsRising (sym (e ∙ is c)) (rising-framed c.args.span.lo c.args.span.hi c.args.edges.now some c.requires)) c.edges_of_part.ensures
