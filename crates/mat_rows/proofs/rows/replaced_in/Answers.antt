-- Each span is passed in turn.
use Rattle.std.proofs.Common.{◌∙◌, ◌-◌, ◌++◌, take, drop, ap, arith}
use Rattle.std.proofs.lemmas.Result.{IfOk-weaker}
use Rattle.block_list.specs.Lists.{ListValue}
use Rattle.partial_agg.specs.declared.groups.Group.{Group}
use Rattle.mat_rows.specs.Replacing.{groups_replaced, within}
use Rattle.mat_rows.proofs.ReplaceLaws.{replacing_at, replacing_end, ahead_at}
use Rattle.mat_rows.proofs.rows.replaced_in.Goals as goal

pub keep-requires-clause-order : goal.keep-requires-clause-order
keep-requires-clause-order c =
    let p = c.places-start.ensures in
    let new = c.args.groups.now.items in
    let old = c.args.old.now.items in
    ahead_at (groups_replaced c.args.spans.now new old) new old c.loop-span.made c.loop-span.at c.args.spans.now c.loop-span.span-index c.span-item.result c.places-start.result.0 c.loop-span-test.true c.span-item.is p.start p.start_parts c.loop-span.invariant

pub loop-span-preserved : goal.loop-span-preserved
loop-span-preserved c =
    let p = c.places-start.ensures in
    let new = c.args.groups.now.items in
    let old = c.args.old.now.items in
    replacing_at (groups_replaced c.args.spans.now new old) new old c.loop-span.made c.loop-span.at c.args.spans.now c.loop-span.span-index c.span-item.result c.places-start.result.0 c.places-start.result.1 c.keep_within.new.made c.loop-span-test.true c.span-item.is p.start p.start_parts p.end p.end_parts
    (c.in_ok-keep_within.ensures ∙ ap (λ xs. xs ++ within c.span-item.result new) c.in_ok-keep.ensures)
    c.loop-span.invariant

pub returns : goal.returns
returns c =
    let new = c.args.groups.now.items in
    let old = c.args.old.now.items in
    let wanted = groups_replaced c.args.spans.now new old in
    IfOk-weaker c.finish.result _ _ (λ (list : ListValue Group) e. e ∙ replacing_end wanted new old c.loop-span.made c.loop-span.at c.args.spans.now c.loop-span.span-index c.keep-2.new.made (omega arith) (c.in_ok-keep-2.ensures ∙ ap (λ n. c.loop-span.made ++ take (n - c.loop-span.at) (drop c.loop-span.at old)) c.len.ensures.len) c.loop-span.invariant) c.finish.ensures.items
