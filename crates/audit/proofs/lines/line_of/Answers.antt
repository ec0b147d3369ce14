use Rattle.std.proofs.Common.{◌≡◌, ◌≤◌, length, sym, arith}
use Rattle.std.proofs.lemmas.List.{length-take-le}
use Rattle.stmt_tokens.specs.Lines.{line_kind}
use Rattle.stmt_tokens.specs.declared.lines.LineKind.TheVariants.{Stmt}
use Rattle.stmt_tokens.proofs.StatementLines.{statement_line}
use Rattle.audit.proofs.lines.line_of.Goals as goal

pub returns-in-Stmt-clause-within : goal.returns-in-Stmt-clause-within
returns-in-Stmt-clause-within c =
    let line = c.items-line.result.now in
    let m = c.in-Stmt in
    let kind : line_kind line ≡ Stmt m.name_len m.skip m.end = sym m.ensures.kind in
    let parts = statement_line line m.name_len m.skip m.end kind in
    let within : m.end ≤ length line = parts.within in
    let statement : m.skip ≤ m.end = parts.statement in
    omega (arith, statement, length-take-le m.end line within)
