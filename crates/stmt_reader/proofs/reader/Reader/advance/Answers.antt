use Rattle.std.proofs.Common.{length, sym, ap, subst, ◌∙◌}
use Rattle.stmt_reader.specs.Cursor.{ahead}
use Rattle.stmt_tokens.specs.Streams.{stream}
use Rattle.stmt_tokens.specs.Scan.{view_ahead, SeenFits}
use Rattle.stmt_tokens.specs.declared.tokens.NextToken.{NextToken}
use Rattle.stmt_reader.proofs.NextTokens.{begins_with, tail_of, Stays}
use Rattle.stmt_tokens.proofs.Lexemes.{ahead_fits}
use Rattle.stmt_reader.proofs.reader.Reader.advance.Goals as goal

pub look-self-inside-requires : goal.look-self-inside-requires
look-self-inside-requires c =
    let f = subst (λ (a : NextToken). SeenFits c.self.inside.at (length c.self.inside.text.now) (view_ahead a)) c.in-Token.is (ahead_fits c.self.inside.text.now c.self.inside.at (view_ahead c.self.inside.ahead) c.self.invariant.1 c.self.invariant.2) in
    record { within = f.2 }

pub invariant_of-self : goal.invariant_of-self
invariant_of-self c =
    let f = subst (λ (a : NextToken). SeenFits c.self.inside.at (length c.self.inside.text.now) (view_ahead a)) c.in-Token.is (ahead_fits c.self.inside.text.now c.self.inside.at (view_ahead c.self.inside.ahead) c.self.invariant.1 c.self.invariant.2) in
    (c.self.invariant.0, f.2, c.look-self-inside.ensures.next)

pub returns-in-Token : goal.returns-in-Token
returns-in-Token c =
    let h = begins_with c.args.self.now c.self.inside.text.now c.self.inside.at (view_ahead c.self.inside.ahead) c.self.view_is c.self.invariant.1 c.self.invariant.2 in
    record { tail = ap (λ (a : NextToken). tail_of c.self.inside.at (stream c.self.inside.text.now) (view_ahead a)) (sym c.in-Token.is) ∙ h.tail }

pub returns-in-End : goal.returns-in-End
returns-in-End c =
    let h = begins_with c.args.self.now c.self.inside.text.now c.self.inside.at (view_ahead c.self.inside.ahead) c.self.view_is c.self.invariant.1 c.self.invariant.2 in
    record { tail = subst (λ (a : NextToken). Stays (view_ahead a) (ahead c.args.self.now)) c.in-End.is h.stays }

pub returns-in-Nothing : goal.returns-in-Nothing
returns-in-Nothing c =
    let h = begins_with c.args.self.now c.self.inside.text.now c.self.inside.at (view_ahead c.self.inside.ahead) c.self.view_is c.self.invariant.1 c.self.invariant.2 in
    record { tail = subst (λ (a : NextToken). Stays (view_ahead a) (ahead c.args.self.now)) c.in-Nothing.is h.stays }
