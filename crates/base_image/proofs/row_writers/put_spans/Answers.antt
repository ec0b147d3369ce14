use Rattle.std.proofs.Common.{◌≡◌, sym, ◌∙◌, subst}
use Rattle.std.specs.List.{AllByRecursion}
use Rattle.event_codec.specs.Formed.{IsRow}
use Rattle.base_image.proofs.OutlineLaws.{all_in}
use Rattle.base_image.proofs.row_writers.put_spans.Goals as goal

pub put_items-requires : goal.put_items-requires
put_items-requires g c = record {
  fit = subst (AllByRecursion IsRow) (sym (c.items.ensures.items ∙ c.in_ok-rows.ensures.rows)) (all_in IsRow c.span-item.result (g.I.Imaged.held c.args.of.now c.args.table) c.requires.formed);
}
