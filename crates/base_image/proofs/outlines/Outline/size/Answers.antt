use Rattle.std.proofs.Common.{◌-◌, ◌^◌, min, ap, ◌∙◌}
use Rattle.std.specs.Prelude.{sum_by}
use Rattle.base_image.specs.Outlines.{commit_bytes}
use Rattle.base_image.proofs.OutlineLaws.{outline_sized}
use Rattle.base_image.proofs.outlines.Outline.size.Goals as goal

pub returns : goal.returns
returns c = record {
  size = λ held is.
      outline_sized held c.args.self.now _ _ _ is c.size.ensures.size (c.bytes_of_commits.ensures ∙ ap (λ ts. min (sum_by commit_bytes ts) (2 ^ 64 - 1)) c.items.ensures.items) c.saturating_add.ensures;
}
