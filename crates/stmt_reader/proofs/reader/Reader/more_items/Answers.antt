use Rattle.std.proofs.Common.{◌≡◌, ℕ, suc, drop, subst, add-one}
use Rattle.std.specs.Prelude.{Ok}
use Rattle.std.proofs.lemmas.Result.{err_from_is_err_and}
use Rattle.stmt_reader.specs.Cursor.{ahead}
use Rattle.stmt_tokens.specs.Words.{is_item}
use Rattle.stmt_reader.specs.Reading.{Fails, token_parser, items_from}
use Rattle.stmt_reader.proofs.Loops.{drop_at_item, items_turn, items_fail_at_comma, items_fail_at_item}
use Rattle.stmt_reader.proofs.reader.Reader.more_items.Goals as goal

pub returns-in_err-mark : goal.returns-in_err-mark
returns-in_err-mark c =
    let p = err_from_is_err_and c.from_residual.result c.from_residual.ensures.1 in
    let names = c.args.names.now in
    let rest = drop_at_item names c.loop-i.i c.index-names-i.result c.loop-i-test.true c.index-names-i.is in
    rw (p.1, p.2) (items_fail_at_comma c.in_err-mark.field-0.0 (suc c.loop-i.i) c.index-names-i.result (drop (suc c.loop-i.i) names) (ahead c.loop-i.self) (items_from 1 names (ahead c.args.self.now)) c.in_err-mark.ensures
    (subst (λ xs. items_from (suc c.loop-i.i) xs (ahead c.loop-i.self) ≡ items_from 1 names (ahead c.args.self.now)) rest c.loop-i.invariant))

pub returns-in_err-named_item : goal.returns-in_err-named_item
returns-in_err-named_item c =
    let p = err_from_is_err_and c.from_residual-in_err-named_item.result c.from_residual-in_err-named_item.ensures.1 in
    let names = c.args.names.now in
    let rest = drop_at_item names c.loop-i.i c.index-names-i.result c.loop-i-test.true c.index-names-i.is in
    let h = subst (λ (k : ℕ). Fails c.in_err-named_item.field-0.0 (token_parser (is_item k c.index-names-i.result) (ahead c.mark.new.self))) (add-one c.loop-i.i) c.in_err-named_item.ensures in
    rw (p.1, p.2) (items_fail_at_item c.in_err-named_item.field-0.0 (suc c.loop-i.i) c.index-names-i.result (drop (suc c.loop-i.i) names) (ahead c.loop-i.self) (ahead c.mark.new.self) (items_from 1 names (ahead c.args.self.now)) c.in_ok-mark.ensures h
    (subst (λ xs. items_from (suc c.loop-i.i) xs (ahead c.loop-i.self) ≡ items_from 1 names (ahead c.args.self.now)) rest c.loop-i.invariant))

pub loop-i-preserved : goal.loop-i-preserved
loop-i-preserved c =
    let names = c.args.names.now in
    let rest = drop_at_item names c.loop-i.i c.index-names-i.result c.loop-i-test.true c.index-names-i.is in
    let h = subst (λ (k : ℕ). token_parser (is_item k c.index-names-i.result) (ahead c.mark.new.self) ≡ Ok (tt, ahead c.named_item.new.self)) (add-one c.loop-i.i) c.in_ok-named_item.ensures in
    rw (add-one c.loop-i.i) (items_turn (suc c.loop-i.i) c.index-names-i.result (drop (suc c.loop-i.i) names) (ahead c.loop-i.self) (ahead c.mark.new.self) (ahead c.named_item.new.self) (items_from 1 names (ahead c.args.self.now)) c.in_ok-mark.ensures h
    (subst (λ xs. items_from (suc c.loop-i.i) xs (ahead c.loop-i.self) ≡ items_from 1 names (ahead c.args.self.now)) rest c.loop-i.invariant))
