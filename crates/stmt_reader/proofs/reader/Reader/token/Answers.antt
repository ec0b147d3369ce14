use Rattle.std.proofs.Common.{sym, ap, subst, ◌∙◌}
use Rattle.stmt_tokens.specs.Scan.{view_ahead}
use Rattle.stmt_tokens.specs.declared.tokens.NextToken.{NextToken}
use Rattle.stmt_reader.proofs.NextTokens.{begins_with, token_of}
use Rattle.stmt_tokens.proofs.Named.{named_next, IsNamedNext}
use Rattle.stmt_reader.proofs.reader.Reader.token.Goals as goal

pub returns-in-Token-clause-seen : goal.returns-in-Token-clause-seen
returns-in-Token-clause-seen c =
    let h = begins_with c.args.self.now c.self.inside.text.now c.self.inside.at (view_ahead c.self.inside.ahead) c.self.view_is c.self.invariant.1 c.self.invariant.2 in
    ap (λ (a : NextToken). token_of (view_ahead a)) (sym c.in-Token.is) ∙ h.seen

pub returns-in-Token-clause-named : goal.returns-in-Token-clause-named
returns-in-Token-clause-named c =
    subst (λ (a : NextToken). IsNamedNext (view_ahead a)) c.in-Token.is (named_next c.self.inside.text.now c.self.inside.at (view_ahead c.self.inside.ahead) c.self.invariant.2)

pub returns-in-End : goal.returns-in-End
returns-in-End c =
    let h = begins_with c.args.self.now c.self.inside.text.now c.self.inside.at (view_ahead c.self.inside.ahead) c.self.view_is c.self.invariant.1 c.self.invariant.2 in
    record { seen = ap (λ (a : NextToken). token_of (view_ahead a)) (sym c.in-End.is) ∙ h.seen; named = tt }

pub returns-in-Nothing : goal.returns-in-Nothing
returns-in-Nothing c =
    let h = begins_with c.args.self.now c.self.inside.text.now c.self.inside.at (view_ahead c.self.inside.ahead) c.self.view_is c.self.invariant.1 c.self.invariant.2 in
    record { seen = ap (λ (a : NextToken). token_of (view_ahead a)) (sym c.in-Nothing.is) ∙ h.seen; named = tt }
