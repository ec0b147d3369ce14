use Rattle.std.proofs.Common.{◌≡◌, ◌+◌, ◌∙◌, ◌++◌, List, length, take, drop, refl, ap, subst, sym, arith}
use Rattle.ts_schema.specs.declared.rows.Row.{Row}
use Rattle.group_fold.specs.Grouping.{all_rows}
use Rattle.group_fold.specs.Gathering.{IsGathered}
use Rattle.group_fold.proofs.CutRows.{few_parts, length-more, all_rows-more}
use Rattle.group_fold.proofs.pieces.fold_each.Goals as goal

pub take_rows-requires-clause-room : goal.take_rows-requires-clause-room
take_rows-requires-clause-room c =
    let i = c.loop-piece.piece-index in
    let some = few_parts c.args.pieces.now (take (i + 1) c.args.pieces.now) (drop (i + 1) c.args.pieces.now) (i + 1) refl refl c.requires.few in
    let more = length-more c.args.pieces.now i c.piece-item.result c.loop-piece-test.true c.piece-item.is in
    record {
      alike = c.loop-piece.invariant.alike;
      few = omega (arith, some, more, ap length c.items.ensures.items, c.loop-piece.invariant.few);
    }

pub loop-piece-preserved : goal.loop-piece-preserved
loop-piece-preserved c =
    let i = c.loop-piece.piece-index in
    let whole : all_rows (take i c.args.pieces.now) ++ c.items.result.now ≡ all_rows (take (i + 1) c.args.pieces.now) =
    ap (λ rows. all_rows (take i c.args.pieces.now) ++ rows) c.items.ensures.items ∙ sym (all_rows-more c.args.pieces.now i c.piece-item.result c.loop-piece-test.true c.piece-item.is) in
    subst (λ (rows : List Row). IsGathered c.args.plan.now rows c.take_rows.new.self.groups) whole (c.in_ok-take_rows.ensures (all_rows (take i c.args.pieces.now)) c.loop-piece.invariant)
