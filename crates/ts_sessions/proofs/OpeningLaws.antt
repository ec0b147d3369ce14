-- What a statement does first, by its opening.
use Rattle.std.proofs.Common.{◌≡◌, true, Some, None, Option, ap, refl, subst}
use Rattle.std.specs.Prelude.{ℤ}
use Rattle.std.proofs.lemmas.Option.{same_Some}
use Rattle.ts_model.specs.declared.snapshots.Shown.{Ghosts as Shown}
use Rattle.ts_model.specs.States.{State}
use Rattle.std.proofs.Common.{ℕ}
use Rattle.stmt_syntax.specs.declared.statements.Stmt.{Stmt}
use Rattle.stmt_syntax.specs.declared.statements.Stmt.TheVariants as stmts
use Rattle.ts_sessions.specs.declared.blocks.Open.{Open}
use Rattle.ts_sessions.specs.declared.deeds.Next.{Next}
use Rattle.ts_sessions.specs.declared.openings.Opening.{Opening}
use Rattle.ts_sessions.specs.declared.openings.Opening.TheVariants as openings
use Rattle.ts_sessions.specs.Held.{HoldsBlock, block_of}
use Rattle.ts_sessions.specs.ResolvedNames.{looks_at_names}
use Rattle.ts_sessions.specs.Openings.{opening_of}
use Rattle.ts_sessions.specs.Places.{Places}
use Rattle.ts_sessions.specs.Step.{block_refusal, kind_of}
use Rattle.ts_sessions.proofs.FirstLaws.{IsFirst, begins_first, closes_first, gives_up_first, reads_first, snaps_first}

-- equal openings have equal next steps
pub same_next : {T J : Type 0} (a b : Next T J) → openings.Next a ≡ openings.Next b → a ≡ b
same_next a b e = cc

-- a statement without names, in its block
pub next_first : {T J : Type 0} (shown : Shown T J) (bytes : ℕ) (s : State) (p : Places) (stmt : Stmt) (next : Next T J) (o : Open T) → opening_of p stmt ≡ openings.Next next → block_refusal p.block (kind_of stmt) ≡ None → p.block ≡ block_of o → HoldsBlock shown.stands o s.history → IsFirst shown bytes s p stmt next
next_first {T} {J} shown bytes s p (stmts.Snap number) next o e pass is held = subst (λ (n : Next T J). IsFirst shown bytes s p (stmts.Snap number) n) (same_next _ next e) (snaps_first shown bytes s p number pass)
next_first {T} {J} shown bytes s p stmts.Begin next o e pass is held = subst (λ (n : Next T J). IsFirst shown bytes s p stmts.Begin n) (same_next _ next e) (begins_first shown bytes s p)
next_first {T} {J} shown bytes s p stmts.BeginRead next o e pass is held = subst (λ (n : Next T J). IsFirst shown bytes s p stmts.BeginRead n) (same_next _ next e) (reads_first shown bytes s p pass)
next_first {T} {J} shown bytes s p stmts.Commit next o e pass is held = subst (λ (n : Next T J). IsFirst shown bytes s p stmts.Commit n) (same_next _ next e) (closes_first shown bytes s p o is held)
next_first {T} {J} shown bytes s p stmts.Rollback next o e pass is held = subst (λ (n : Next T J). IsFirst shown bytes s p stmts.Rollback n) (same_next _ next e) (gives_up_first shown bytes s p)
next_first shown bytes s p other next o e pass is held = absurd cc

-- a statement with names
pub names_first : {T J : Type 0} (p : Places) (stmt : Stmt) → opening_of {T = T} {J = J} p stmt ≡ openings.Names → looks_at_names (kind_of stmt) ≡ true
names_first p (stmts.Snap number) e = absurd cc
names_first p (stmts.Finish number) e = absurd cc
names_first p stmts.Begin e = absurd cc
names_first p stmts.BeginRead e = absurd cc
names_first p stmts.Commit e = absurd cc
names_first p stmts.Rollback e = absurd cc
names_first p other e = refl

-- a statement that finishes a refresh
abbrev number_in : {T J : Type 0} → Opening T J → Option (Option ℤ)
number_in (openings.Finish number) = Some number
number_in other = None

pub finish_first : {T J : Type 0} (p : Places) (stmt : Stmt) (number : Option ℤ) → opening_of {T = T} {J = J} p stmt ≡ openings.Finish number → stmt ≡ stmts.Finish number
finish_first p (stmts.Finish other) number e = ap stmts.Finish (same_Some other number (ap number_in e))
finish_first p other number e = absurd cc
