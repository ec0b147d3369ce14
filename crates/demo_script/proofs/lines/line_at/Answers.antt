-- Each line has the index in the script that its number says.
use Rattle.std.proofs.Common.{◌∙◌, ap, arith}
use Rattle.demo_script.specs.Demo.{demo_lines, line_at}
use Rattle.demo_script.proofs.PlaceLaws.{middle, outside}
use Rattle.demo_script.proofs.lines.line_at.Goals as goal

pub returns-in-1-clause-text : goal.returns-in-1-clause-text
unfolding demo_lines
returns-in-1-clause-text c demo = ap (λ k. line_at (demo_lines demo) k) c.in-1.is

pub returns-in-2-clause-text : goal.returns-in-2-clause-text
unfolding demo_lines
returns-in-2-clause-text c demo = ap (λ k. line_at (demo_lines demo) k) c.in-2.is

pub returns-in-3-clause-text : goal.returns-in-3-clause-text
unfolding demo_lines
returns-in-3-clause-text c demo = ap (λ k. line_at (demo_lines demo) k) c.in-3.is

pub returns-in-284-clause-text : goal.returns-in-284-clause-text
unfolding demo_lines
returns-in-284-clause-text c demo = ap (λ k. line_at (demo_lines demo) k) c.in-284.is

pub returns-in-285-clause-text : goal.returns-in-285-clause-text
unfolding demo_lines
returns-in-285-clause-text c demo = ap (λ k. line_at (demo_lines demo) k) c.in-285.is

pub returns-in-4-to-283-clause-text : goal.returns-in-4-to-283-clause-text
returns-in-4-to-283-clause-text c demo = middle demo c.args.number (omega arith) (omega arith) ∙ c.line_of_round.ensures.text demo

pub returns-in_default-2-clause-text : goal.returns-in_default-2-clause-text
returns-in_default-2-clause-text c demo = outside demo c.args.number (λ low high. omega arith)
