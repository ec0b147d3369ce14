-- What a statement does first, by its kind and by the block of its session.
use Rattle.stmt_syntax.specs.declared.statements.Stmt.{Stmt}
use Rattle.stmt_syntax.specs.declared.statements.Stmt.TheVariants as stmts
use Rattle.ts_sessions.specs.declared.blocks.Open.TheVariants as opens
use Rattle.ts_sessions.specs.declared.changes.Change.TheVariants as changes
use Rattle.ts_sessions.specs.declared.deeds.AfterLook.TheVariants as looks_for
use Rattle.ts_sessions.specs.declared.deeds.Deed.TheVariants as deeds
use Rattle.ts_sessions.specs.declared.deeds.Next.TheVariants as nexts
use Rattle.ts_sessions.specs.declared.openings.Opening.{Opening}
use Rattle.ts_sessions.specs.declared.openings.Opening.TheVariants as openings
use Rattle.ts_sessions.specs.Deeds.{end_of_block, hold_of, begin_write_block, said_once}
use Rattle.ts_sessions.specs.Places.{Places}
use Rattle.ts_sessions.specs.Step.{given_up, refresh_meant}

-- what a statement of a session with this state does first
abbrev pub opening_of : {T J : Type 0} → Places → Stmt → Opening T J
opening_of p (stmts.Snap number) = openings.Next (nexts.Deed (hold_of (refresh_meant p number)))
opening_of p (stmts.Finish number) = openings.Finish number
opening_of p stmts.Begin = openings.Next begin_write_block
opening_of p stmts.BeginRead = openings.Next (nexts.Deed (deeds.Look looks_for.BeginRead))
opening_of p stmts.Commit = openings.Next (end_of_block p.block)
opening_of p stmts.Rollback = openings.Next (said_once (given_up p.block) (changes.Enters opens.Nothing))
opening_of p other = openings.Names
