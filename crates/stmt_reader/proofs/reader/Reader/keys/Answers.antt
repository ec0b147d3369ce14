use Rattle.std.proofs.Common.{[], sym, ◌∙◌}
use Rattle.std.proofs.lemmas.Result.{err_from_is_err_and}
use Rattle.stmt_reader.specs.Cursor.{ahead}
use Rattle.stmt_reader.specs.Reading.{keys_and_function}
use Rattle.stmt_reader.proofs.Loops.{keys_turn, keys_done, keys_fail_at_comma, keys_fail_at_name, keys_fail_at_function, keys_shrink}
use Rattle.stmt_reader.proofs.reader.Reader.keys.Goals as goal

pub returns-in_err-mark : goal.returns-in_err-mark
returns-in_err-mark c =
    let p = err_from_is_err_and c.from_residual.result c.from_residual.ensures.1 in
    rw (p.1, p.2) (keys_fail_at_comma c.in_err-mark.field-0.0 c.loop-keys.keys (ahead c.loop-keys.self) (keys_and_function [] (ahead c.args.self.now)) c.in_err-mark.ensures c.loop-keys.invariant)

pub returns-in_err-name : goal.returns-in_err-name
returns-in_err-name c =
    let p = err_from_is_err_and c.from_residual-in_err-name.result c.from_residual-in_err-name.ensures.1 in
    rw (p.1, p.2) (keys_fail_at_name c.in_err-name.field-0.0 c.loop-keys.keys (ahead c.loop-keys.self) (ahead c.mark.new.self) (keys_and_function [] (ahead c.args.self.now)) c.in_ok-mark.ensures c.in_err-name.ensures c.loop-keys.invariant)

pub returns-in_err-fun : goal.returns-in_err-fun
returns-in_err-fun c =
    let p = err_from_is_err_and c.from_residual-in_err-fun.result c.from_residual-in_err-fun.ensures.1 in
    rw (p.1, p.2) (keys_fail_at_function c.in_err-fun.field-0.0 c.loop-keys.keys c.in_ok-name.name (ahead c.loop-keys.self) (ahead c.mark.new.self) (ahead c.name.new.self) (keys_and_function [] (ahead c.args.self.now)) c.in_ok-mark.ensures c.in_ok-name.ensures
    (sym c.is_at_mark.ensures ∙ c.if-is_at_mark.true) c.in_err-fun.ensures c.loop-keys.invariant)

pub returns-then-is_at_mark : goal.returns-then-is_at_mark
returns-then-is_at_mark c =
    keys_done c.loop-keys.keys c.in_ok-name.name c.in_ok-fun.fun (ahead c.loop-keys.self) (ahead c.mark.new.self) (ahead c.name.new.self) (ahead c.read_function.new.self) (keys_and_function [] (ahead c.args.self.now)) c.in_ok-mark.ensures c.in_ok-name.ensures
    (sym c.is_at_mark.ensures ∙ c.if-is_at_mark.true) c.in_ok-fun.ensures c.loop-keys.invariant

pub loop-keys-smaller : goal.loop-keys-smaller
loop-keys-smaller c = keys_shrink c.loop-keys.keys c.in_ok-name.name (ahead c.loop-keys.self) (ahead c.mark.new.self) (ahead c.name.new.self) c.in_ok-mark.ensures c.in_ok-name.ensures

pub loop-keys-preserved : goal.loop-keys-preserved
loop-keys-preserved c =
    rw c.in_ok-push.ensures.pushed (keys_turn c.loop-keys.keys c.in_ok-name.name (ahead c.loop-keys.self) (ahead c.mark.new.self) (ahead c.name.new.self) (keys_and_function [] (ahead c.args.self.now)) c.in_ok-mark.ensures c.in_ok-name.ensures
    (sym c.is_at_mark.ensures ∙ c.if-is_at_mark.false) c.loop-keys.invariant)
