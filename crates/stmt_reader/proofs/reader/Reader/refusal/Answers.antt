use Rattle.std.proofs.Common.{ℕ, ap, subst, ◌∙◌}
use Rattle.stmt_reader.specs.Cursor.{ahead}
use Rattle.stmt_tokens.specs.Scan.{view_ahead}
use Rattle.stmt_reader.specs.declared.faults.Fault.TheVariants.{Syntax, NoToken}
use Rattle.stmt_reader.specs.declared.faults.ReadError.TheVariants as errors
use Rattle.stmt_tokens.specs.declared.tokens.NextToken.{NextToken}
use Rattle.stmt_reader.proofs.NextTokens.{begins_with, Refuses}
use Rattle.stmt_reader.proofs.reader.Reader.refusal.Goals as goal

pub returns-in-Token : goal.returns-in-Token
returns-in-Token c =
    let h = begins_with c.args.self.now c.self.inside.text.now c.self.inside.at (view_ahead c.self.inside.ahead) c.self.view_is c.self.invariant.1 c.self.invariant.2 in
    let r = subst (λ (a : NextToken). Refuses (view_ahead a) (ahead c.args.self.now)) c.in-Token.is h.refuses in
    ap (λ (p : ℕ). errors.Fault (Syntax p)) c.place-place.ensures ∙ ap errors.Fault r

pub returns-in-Nothing : goal.returns-in-Nothing
returns-in-Nothing c =
    let h = begins_with c.args.self.now c.self.inside.text.now c.self.inside.at (view_ahead c.self.inside.ahead) c.self.view_is c.self.invariant.1 c.self.invariant.2 in
    let r = subst (λ (a : NextToken). Refuses (view_ahead a) (ahead c.args.self.now)) c.in-Nothing.is h.refuses in
    ap (λ (p : ℕ). errors.Fault (NoToken p)) c.place-place.ensures ∙ ap errors.Fault r

pub returns-in-End : goal.returns-in-End
returns-in-End c =
    let h = begins_with c.args.self.now c.self.inside.text.now c.self.inside.at (view_ahead c.self.inside.ahead) c.self.view_is c.self.invariant.1 c.self.invariant.2 in
    let r = subst (λ (a : NextToken). Refuses (view_ahead a) (ahead c.args.self.now)) c.in-End.is h.refuses in
    ap (λ (p : ℕ). errors.Fault (Syntax p)) c.place-place.ensures ∙ ap errors.Fault r
