-- The script is written line by line, up to the last.
use Rattle.std.proofs.Common.{◌≡◌, ◌∙◌, ap, ◌+◌, ◌++◌, take, arith}
use Rattle.std.specs.List.{flat_map}
use Rattle.demo_script.specs.Demo.{demo_lines, line_at, with_end}
use Rattle.demo_script.specs.Lines.{line_with_end}
use Rattle.demo_script.proofs.PlaceLaws.{text_more, text_whole}
use Rattle.demo_script.proofs.scripts.demo_script.Goals as goal

pub loop-before-preserved : goal.loop-before-preserved
loop-before-preserved c =
    let before = c.loop-before.before in
    c.in_ok-put_line_at.ensures
    ∙ ap (λ t. t ++ line_with_end (line_at (demo_lines c.args.demo) (before + 1))) c.loop-before.invariant
    ∙ text_more c.args.demo before

pub returns : goal.returns
returns c =
    let last : c.loop-before.before ≡ 285 = omega arith in
    record {
      text = ap (λ v. v.items) c.into_bytes.ensures.value
          ∙ c.loop-before.invariant
          ∙ ap (λ k. flat_map with_end (take k (demo_lines c.args.demo))) last
          ∙ text_whole c.args.demo;
    }
