-- A line is sorted by its kind.
use Rattle.std.proofs.Common.{◌+◌, sym, subst, refl, IsTrue, arith}
use Rattle.std.proofs.lemmas.Result.{on_ok_weaker}
use Rattle.ts_schema.specs.Names.{is_name}
use Rattle.stmt_tokens.specs.declared.lines.LineKind.TheVariants.{Blank, NotAscii, NoSession}
use Rattle.ts_model.specs.Numbers.{not_ascii, no_session}
use Rattle.par_lines.specs.Places.{sorted_of}
use Rattle.par_lines.proofs.SortedLaws.{sorted_kind, sorted_refusal, sorted_statement, statement, statement_within}
use Rattle.par_lines.proofs.sorting.SortedLines.add.Goals as goal

pub name_in-requires-clause-within : goal.name_in-requires-clause-within
name_in-requires-clause-within c =
    let line = statement c.args.input.now c.args.from c.args.len c.args.number c.if-len-gt-LINE_LIMIT.false c.args.self.now.refusals.items c.args.self.now.sessions.items c.in-Stmt.name_len c.in-Stmt.skip c.in-Stmt.end c.in-Stmt.ensures.kind in
    omega (arith, line.statement, line.within)

pub add_to-requires : goal.add_to-requires
add_to-requires c =
    let line = statement c.args.input.now c.args.from c.args.len c.args.number c.if-len-gt-LINE_LIMIT.false c.args.self.now.refusals.items c.args.self.now.sessions.items c.in-Stmt.name_len c.in-Stmt.skip c.in-Stmt.end c.in-Stmt.ensures.kind in
    record { name = subst (λ name. IsTrue (is_name name)) (sym c.name_in.ensures.name) line.named }

pub returns-in-Blank-clause-sorted : goal.returns-in-Blank-clause-sorted
returns-in-Blank-clause-sorted c =
    let s = c.args.self.now in
    sorted_kind c.args.input.now c.args.from c.args.len c.args.number c.if-len-gt-LINE_LIMIT.false s.refusals.items s.sessions.items Blank (sorted_of c.args.input.now s) c.in-Blank.ensures.kind refl

pub returns-in-NotAscii-clause-sorted : goal.returns-in-NotAscii-clause-sorted
returns-in-NotAscii-clause-sorted c =
    let s = c.args.self.now in
    let put = c.put_line_fault-in-NotAscii in
    on_ok_weaker put.result
    (sorted_refusal c.args.input.now c.args.from c.args.len c.args.number c.if-len-gt-LINE_LIMIT.false s.refusals.items s.sessions.items NotAscii not_ascii c.bare-in-NotAscii.result put.new.out.items c.in-NotAscii.ensures.kind refl c.bare-in-NotAscii.ensures)
    put.ensures.appended

pub returns-in-NoSession-clause-sorted : goal.returns-in-NoSession-clause-sorted
returns-in-NoSession-clause-sorted c =
    let s = c.args.self.now in
    let put = c.put_line_fault-in-NoSession in
    on_ok_weaker put.result
    (sorted_refusal c.args.input.now c.args.from c.args.len c.args.number c.if-len-gt-LINE_LIMIT.false s.refusals.items s.sessions.items NoSession no_session c.bare-in-NoSession.result put.new.out.items c.in-NoSession.ensures.kind refl c.bare-in-NoSession.ensures)
    put.ensures.appended

pub returns-in-Stmt-clause-sorted : goal.returns-in-Stmt-clause-sorted
returns-in-Stmt-clause-sorted c =
    let s = c.args.self.now in
    let input = c.args.input.now in
    on_ok_weaker c.add_to.result
    (λ put.
    sorted_statement input c.args.from c.args.len c.args.number c.if-len-gt-LINE_LIMIT.false s.refusals.items s.sessions.items c.in-Stmt.name_len c.in-Stmt.skip c.in-Stmt.end c.in-Stmt.ensures.kind c.name_in.result.now (sorted_of input c.add_to.new.self) c.name_in.ensures.name
    (put input))
    c.add_to.ensures.sorted

pub returns-in-Stmt-clause-within : goal.returns-in-Stmt-clause-within
returns-in-Stmt-clause-within c =
    let s = c.args.self.now in
    let within = statement_within c.args.input.now c.args.from c.args.len c.args.number c.if-len-gt-LINE_LIMIT.false s.refusals.items s.sessions.items c.in-Stmt.name_len c.in-Stmt.skip c.in-Stmt.end c.in-Stmt.ensures.kind in
    on_ok_weaker c.add_to.result (λ put. put (c.args.from + c.args.len) within) c.add_to.ensures.within
