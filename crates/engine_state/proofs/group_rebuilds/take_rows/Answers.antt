-- One more piece of rows is added and counted.
use Rattle.std.proofs.Common.{◌≡◌, length, refl, sym, subst, arith}
use Rattle.std.proofs.lemmas.List.{nil_from_length}
use Rattle.std.proofs.lemmas.Result.{err_from_is_err_and}
use Rattle.group_fold.specs.Grouping.{AreTimes}
use Rattle.engine_state.specs.GroupRebuilds.{rows_of}
use Rattle.engine_state.proofs.RefoldLaws.{all_can_after, all_in_front, count_cut, count_piece, length_cut, nothing_in_front, piece_in_front, times_back, times_front}
use Rattle.engine_state.proofs.group_rebuilds.take_rows.Goals as goal

pub pieces-init : goal.pieces-init
pieces-init g c = record {
  times = c.requires.times;
  can = c.requires.before;
  taken = nothing_in_front c.args.table c.args.rows.now c.args.refolds.now;
  read = refl;
  up = omega arith;
  small = omega (arith, c.count-so_far.type_inv, c.count-so_far.ensures.count);
}

pub take_each-requires : goal.take_each-requires
take_each-requires g c = record {
  times = subst AreTimes (sym c.split_at.ensures.front) (times_front _ c.pieces.left.now c.pieces.invariant.times);
  before = c.pieces.invariant.can;
}

pub returns-in_err-take_each-clause-read : goal.returns-in_err-take_each-clause-read
returns-in_err-take_each-clause-read g c =
    let inv = c.pieces.invariant in
    let parts = length_cut c.pieces.left.now c.split_at.result.0.now c.split_at.result.1.now _ c.split_at.ensures.front c.split_at.ensures.back in
    let p = err_from_is_err_and c.from_residual.result c.from_residual.ensures.1 in
    rw p.1 (count_cut _ _ _ (length c.args.rows.now) c.args.steps.now c.pieces.steps c.count.new.steps parts inv.small c.count.ensures inv.up inv.read)

pub pieces-preserved : goal.pieces-preserved
pieces-preserved g c =
    let inv = c.pieces.invariant in
    let parts = length_cut c.pieces.left.now c.split_at.result.0.now c.split_at.result.1.now _ c.split_at.ensures.front c.split_at.ensures.back in
    record {
      times = subst AreTimes (sym c.split_at.ensures.back) (times_back _ c.pieces.left.now inv.times);
      can = all_can_after (rows_of c.args.table c.split_at.result.0.now) c.pieces.refolds c.take_each.new.refolds inv.can c.in_ok-take_each.ensures;
      taken = piece_in_front c.args.table c.args.rows.now c.args.refolds.now c.pieces.refolds c.take_each.new.refolds c.pieces.left.now c.split_at.result.0.now c.split_at.result.1.now _
          c.split_at.ensures.front c.split_at.ensures.back inv.taken c.in_ok-take_each.ensures;
      read = count_piece _ _ _ (length c.args.rows.now) c.args.steps.now c.pieces.steps c.count.new.steps parts inv.small c.count.ensures inv.read;
      up = omega (arith, c.count.ensures, inv.up, inv.small);
      small = omega (arith, c.count.ensures);
    }

pub returns-clause-taken : goal.returns-clause-taken
returns-clause-taken g c =
    let empty : length c.pieces.left.now ≡ 0 = grind (arith, c.is_empty.ensures, c.pieces-test.false) in
    all_in_front c.args.table c.args.rows.now c.args.refolds.now c.pieces.refolds c.pieces.left.now (nil_from_length c.pieces.left.now empty) c.pieces.invariant.taken

pub returns-clause-read : goal.returns-clause-read
returns-clause-read g c =
    let empty : length c.pieces.left.now ≡ 0 = grind (arith, c.is_empty.ensures, c.pieces-test.false) in
    omega (arith, empty, c.pieces.invariant.read, c.pieces.invariant.small)
