use Rattle.std.proofs.Common.{◌≡◌, ◌<◌, ◌/◌, ◌∙◌, length, arith, rules}
use Rattle.std.proofs.lemmas.Result.{IfOk-weaker, IfOk-at_ok}
use Rattle.group_fold.specs.Grouping.{all_rows, PiecesAreTimes}
use Rattle.ts_model.specs.Groups.{groups_of}
use Rattle.group_fold.specs.Merging.{with_groups}
use Rattle.group_fold.proofs.CutRows.{back_fits, few_parts, front_fits, parts_can_join, parts_joined}
use Rattle.group_fold.proofs.pieces.+halves.Goals as goal

pub join-mine-requires-after_bounds : goal.join-mine-requires-after_bounds
join-mine-requires-after_bounds g t c κs within =
    let both = few_parts c.args.pieces.now c.split_at.result.0.now c.split_at.result.1.now (length c.args.pieces.now / 2) c.split_at.ensures.front c.split_at.ensures.back c.requires.few in
    let front_fit : PiecesAreTimes c.split_at.result.0.now = front_fits c.args.pieces.now c.split_at.result.0.now (length c.args.pieces.now / 2) c.split_at.ensures.front c.requires.times in
    let back_fit : PiecesAreTimes c.split_at.result.1.now = back_fits c.args.pieces.now c.split_at.result.1.now (length c.args.pieces.now / 2) c.split_at.ensures.back c.requires.times in
    let front : length (all_rows c.split_at.result.0.now) < 4611686018427387904 = omega (arith, both) in
    let back : length (all_rows c.split_at.result.1.now) < 4611686018427387904 = omega (arith, both) in
    search rules

pub join_lists-requires : goal.join_lists-requires
join_lists-requires g t c =
    let mine : c.in_ok-mine.field-0.items ≡ groups_of c.args.plan.now (all_rows c.split_at.result.0.now) = IfOk-at_ok (λ groups. groups.items ≡ groups_of c.args.plan.now (all_rows c.split_at.result.0.now)) c.in_ok-mine.was c.join-mine.ensures.first in
    let theirs : c.in_ok-theirs.field-0.items ≡ groups_of c.args.plan.now (all_rows c.split_at.result.1.now) = IfOk-at_ok (λ groups. groups.items ≡ groups_of c.args.plan.now (all_rows c.split_at.result.1.now)) c.in_ok-theirs.was c.join-mine.ensures.second in
    parts_can_join c.args.plan.now c.requires.width c.args.pieces.now c.split_at.result.0.now c.split_at.result.1.now (length c.args.pieces.now / 2) c.in_ok-mine.field-0.items c.in_ok-theirs.field-0.items
    c.split_at.ensures.front c.split_at.ensures.back c.requires.few mine theirs

pub returns : goal.returns
returns g t c =
    let mine : c.in_ok-mine.field-0.items ≡ groups_of c.args.plan.now (all_rows c.split_at.result.0.now) = IfOk-at_ok (λ groups. groups.items ≡ groups_of c.args.plan.now (all_rows c.split_at.result.0.now)) c.in_ok-mine.was c.join-mine.ensures.first in
    let theirs : c.in_ok-theirs.field-0.items ≡ groups_of c.args.plan.now (all_rows c.split_at.result.1.now) = IfOk-at_ok (λ groups. groups.items ≡ groups_of c.args.plan.now (all_rows c.split_at.result.1.now)) c.in_ok-theirs.was c.join-mine.ensures.second in
    let whole : with_groups c.in_ok-mine.field-0.items c.in_ok-theirs.field-0.items ≡ groups_of c.args.plan.now (all_rows c.args.pieces.now) =
    parts_joined c.args.plan.now c.requires.width c.args.pieces.now c.split_at.result.0.now c.split_at.result.1.now (length c.args.pieces.now / 2) c.in_ok-mine.field-0.items c.in_ok-theirs.field-0.items
    c.split_at.ensures.front c.split_at.ensures.back mine theirs in
    IfOk-weaker c.join_lists.result (λ groups. groups.items ≡ with_groups c.in_ok-mine.field-0.items c.in_ok-theirs.field-0.items) (λ groups. groups.items ≡ groups_of c.args.plan.now (all_rows c.args.pieces.now)) (λ groups is. is ∙ whole) c.join_lists.ensures
