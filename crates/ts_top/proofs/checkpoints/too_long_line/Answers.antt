-- The line is that of the refusal.
use Rattle.std.proofs.Common.{◌++◌, sym, ◌∙◌, arith}
use Rattle.std.proofs.lemmas.Fmt.{decimal_digit}
use Rattle.std.specs.Prelude.{codes, decimal}
use Rattle.result_text.specs.Refusals.{position_text}
use Rattle.ts_top.proofs.checkpoints.too_long_line.Goals as goal

pub returns : goal.returns
returns c = record {
  line = c.place_and_bytes.ensures.line
      ∙ (λ k. codes "FAULT " ++ (codes "E" ++ sym (decimal_digit 2 (omega arith)) k ++ sym (decimal_digit 5 (omega arith)) k) ++ codes " " ++ codes "image_long" ++ (position_text c.args.pos ++ codes " bytes " ++ decimal c.args.bytes) ++ codes "\n");
}
