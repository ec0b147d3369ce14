use Rattle.std.proofs.Common.{◌-◌, arith}
use Rattle.std.proofs.lemmas.Result.{err_from_is_err_and}
use Rattle.event_codec.specs.Reading.{items, row_at}
use Rattle.event_codec.proofs.BlockLaws.{all_read, piece_fails, piece_read}
use Rattle.event_codec.proofs.reader.Reader.row_list.Goals as goal

pub returns-in_err-piece_into : goal.returns-in_err-piece_into
returns-in_err-piece_into c =
    let p = err_from_is_err_and c.from_residual-in_err-piece_into.result c.from_residual-in_err-piece_into.ensures.1 in
    rw (p.1, p.2) (piece_fails row_at c.in_err-piece_into.field-0.0 c.pieces.rows.items c.pieces.left c.min-piece.result (c.pieces.left - c.min-piece.result) c.pieces.self c.piece_into.new.self (items c.args.count row_at c.args.self.now) (omega (arith, c.min-piece.ensures)) c.in_err-piece_into.ensures c.pieces.invariant)

pub pieces-preserved : goal.pieces-preserved
pieces-preserved c = piece_read row_at c.pieces.rows.items c.piece_into.new.into.items c.pieces.left c.min-piece.result (c.pieces.left - c.min-piece.result) c.pieces.self c.piece_into.new.self (items c.args.count row_at c.args.self.now) (omega (arith, c.min-piece.ensures)) c.in_ok-piece_into.ensures c.pieces.invariant

pub returns : goal.returns
returns c = all_read row_at c.pieces.rows.items c.pieces.left c.pieces.self (items c.args.count row_at c.args.self.now) (omega (arith, c.pieces-test.false)) c.pieces.invariant
