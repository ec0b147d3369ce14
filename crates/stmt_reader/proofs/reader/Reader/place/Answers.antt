use Rattle.std.proofs.Common.{length, sym, ap, subst, ◌∙◌, arith}
use Rattle.stmt_tokens.specs.Scan.{view_ahead, SeenFits}
use Rattle.stmt_tokens.specs.declared.tokens.NextToken.{NextToken}
use Rattle.stmt_reader.proofs.NextTokens.{begins_with, place_of}
use Rattle.stmt_tokens.proofs.Lexemes.{ahead_fits}
use Rattle.stmt_reader.proofs.reader.Reader.place.Goals as goal

pub overflow_cast-result : goal.overflow_cast-result
overflow_cast-result c =
    let f = subst (λ (a : NextToken). SeenFits c.self.inside.at (length c.self.inside.text.now) (view_ahead a)) c.in-Token.is (ahead_fits c.self.inside.text.now c.self.inside.at (view_ahead c.self.inside.ahead) c.self.invariant.1 c.self.invariant.2) in
    omega (arith, f, c.self.invariant.0)

pub overflow_add-result : goal.overflow_add-result
overflow_add-result c =
    let f = subst (λ (a : NextToken). SeenFits c.self.inside.at (length c.self.inside.text.now) (view_ahead a)) c.in-Token.is (ahead_fits c.self.inside.text.now c.self.inside.at (view_ahead c.self.inside.ahead) c.self.invariant.1 c.self.invariant.2) in
    omega (arith, f, c.self.invariant.0)

pub overflow_cast-result-in-Nothing : goal.overflow_cast-result-in-Nothing
overflow_cast-result-in-Nothing c =
    let f = subst (λ (a : NextToken). SeenFits c.self.inside.at (length c.self.inside.text.now) (view_ahead a)) c.in-Nothing.is (ahead_fits c.self.inside.text.now c.self.inside.at (view_ahead c.self.inside.ahead) c.self.invariant.1 c.self.invariant.2) in
    omega (arith, f, c.self.invariant.0)

pub overflow_add-result-in-Nothing : goal.overflow_add-result-in-Nothing
overflow_add-result-in-Nothing c =
    let f = subst (λ (a : NextToken). SeenFits c.self.inside.at (length c.self.inside.text.now) (view_ahead a)) c.in-Nothing.is (ahead_fits c.self.inside.text.now c.self.inside.at (view_ahead c.self.inside.ahead) c.self.invariant.1 c.self.invariant.2) in
    omega (arith, f, c.self.invariant.0)

pub returns-in-Token : goal.returns-in-Token
returns-in-Token c =
    let h = begins_with c.args.self.now c.self.inside.text.now c.self.inside.at (view_ahead c.self.inside.ahead) c.self.view_is c.self.invariant.1 c.self.invariant.2 in
    ap (λ (a : NextToken). place_of c.self.inside.at (view_ahead a)) (sym c.in-Token.is) ∙ h.place

pub returns-in-End : goal.returns-in-End
returns-in-End c =
    let h = begins_with c.args.self.now c.self.inside.text.now c.self.inside.at (view_ahead c.self.inside.ahead) c.self.view_is c.self.invariant.1 c.self.invariant.2 in
    ap (λ (a : NextToken). place_of c.self.inside.at (view_ahead a)) (sym c.in-End.is) ∙ h.place

pub returns-in-Nothing : goal.returns-in-Nothing
returns-in-Nothing c =
    let h = begins_with c.args.self.now c.self.inside.text.now c.self.inside.at (view_ahead c.self.inside.ahead) c.self.view_is c.self.invariant.1 c.self.invariant.2 in
    ap (λ (a : NextToken). place_of c.self.inside.at (view_ahead a)) (sym c.in-Nothing.is) ∙ h.place
