use Rattle.std.proofs.Common.{sym, ap, ◌∙◌}
use Rattle.stmt_tokens.specs.Scan.{view_ahead}
use Rattle.stmt_tokens.specs.declared.tokens.NextToken.{NextToken}
use Rattle.stmt_reader.proofs.NextTokens.{begins_with, end_of}
use Rattle.stmt_reader.proofs.reader.Reader.is_at_end.Goals as goal

pub returns-in-End : goal.returns-in-End
returns-in-End c =
    let h = begins_with c.args.self.now c.self.inside.text.now c.self.inside.at (view_ahead c.self.inside.ahead) c.self.view_is c.self.invariant.1 c.self.invariant.2 in
    ap (λ (a : NextToken). end_of (view_ahead a)) (sym c.in-End.is) ∙ h.end

pub returns-in-Token : goal.returns-in-Token
returns-in-Token c =
    let h = begins_with c.args.self.now c.self.inside.text.now c.self.inside.at (view_ahead c.self.inside.ahead) c.self.view_is c.self.invariant.1 c.self.invariant.2 in
    ap (λ (a : NextToken). end_of (view_ahead a)) (sym c.in-Token.is) ∙ h.end

pub returns-in-Nothing : goal.returns-in-Nothing
returns-in-Nothing c =
    let h = begins_with c.args.self.now c.self.inside.text.now c.self.inside.at (view_ahead c.self.inside.ahead) c.self.view_is c.self.invariant.1 c.self.invariant.2 in
    ap (λ (a : NextToken). end_of (view_ahead a)) (sym c.in-Nothing.is) ∙ h.end
