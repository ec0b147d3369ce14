use Rattle.std.proofs.Common.{◌+◌, drop, cond, sym, ap, ◌∙◌, arith}
use Rattle.stmt_tokens.specs.Lines.{comment_at}
use Rattle.stmt_tokens.proofs.Comments.{no_dash_left, dash_found}
use Rattle.stmt_tokens.proofs.lines.comment_start.Goals as goal

pub returns-then-begins_with_dash-clause-start : goal.returns-then-begins_with_dash-clause-start
returns-then-begins_with_dash-clause-start c =
    let line = c.args.line.now in
    let found = dash_found line c.loop-skipped.at c.loop-skipped.invariant.start c.in-Some.skipped c.in-Some.ensures in
    let dash = ap (λ b. cond b 0 (1 + comment_at (drop (c.loop-skipped.at + c.in-Some.skipped + 1) line))) (sym c.begins_with_dash.ensures ∙ c.if-begins_with_dash.true) in
    omega (arith, found.1, dash)

pub loop-skipped-smaller : goal.loop-skipped-smaller
loop-skipped-smaller c =
    let found = dash_found c.args.line.now c.loop-skipped.at c.loop-skipped.invariant.start c.in-Some.skipped c.in-Some.ensures in
    omega (arith, found.0)

pub loop-skipped-preserved : goal.loop-skipped-preserved
loop-skipped-preserved c =
    let line = c.args.line.now in
    let found = dash_found line c.loop-skipped.at c.loop-skipped.invariant.start c.in-Some.skipped c.in-Some.ensures in
    let dash = ap (λ b. cond b 0 (1 + comment_at (drop (c.loop-skipped.at + c.in-Some.skipped + 1) line))) (sym c.begins_with_dash.ensures ∙ c.if-begins_with_dash.false) in
    record { within = found.0; start = omega (arith, found.1, dash) }

pub returns-clause-start : goal.returns-clause-start
returns-clause-start c = no_dash_left c.args.line.now c.loop-skipped.at c.loop-skipped.invariant.start c.loop-skipped.invariant.within c.in_default.ensures
