-- The block that a session is in.
use Rattle.std.proofs.Common.{◌≡◌, [], None, refl, ap, subst}
use Rattle.stmt_syntax.specs.declared.statements.Stmt.{Stmt}
use Rattle.ts_sessions.specs.declared.kinds.StatementKind.{StatementKind}
use Rattle.ts_sessions.specs.declared.kinds.StatementKind.TheVariants as kinds
use Rattle.ts_sessions.specs.Places.{Block, none, writing, reading, Places, enters}
use Rattle.ts_sessions.specs.Step.{block_refusal, kind_of}

-- a session in a block is the same session with that block
pub block_is : (p : Places) (b : Block) → p.block ≡ b → p ≡ enters b p
block_is p b e = ap (λ x. enters x p) e

-- ---- outside a block

only_outside : (b : Block) (k : StatementKind) → (block_refusal (writing [] 0) k ≡ None → ⊥) → (block_refusal (reading 0) k ≡ None → ⊥) → block_refusal b k ≡ None → b ≡ none
only_outside none k f g e = refl
only_outside (writing ops n) k f g e = absurd (f e)
only_outside (reading at) k f g e = absurd (g e)

pub snaps_outside : (b : Block) → block_refusal b kinds.Snaps ≡ None → b ≡ none
snaps_outside b e = only_outside b kinds.Snaps (λ x. absurd cc) (λ x. absurd cc) e

pub finishes_outside : (b : Block) → block_refusal b kinds.Finishes ≡ None → b ≡ none
finishes_outside b e = only_outside b kinds.Finishes (λ x. absurd cc) (λ x. absurd cc) e

pub begins_outside : (b : Block) → block_refusal b kinds.BeginsRead ≡ None → b ≡ none
begins_outside b e = only_outside b kinds.BeginsRead (λ x. absurd cc) (λ x. absurd cc) e

-- ---- statements as they were read

pub passes_as : (b : Block) (stmt like : Stmt) → stmt ≡ like → block_refusal b (kind_of stmt) ≡ None → block_refusal b (kind_of like) ≡ None
passes_as b stmt like e pass = subst (λ x. block_refusal b (kind_of x) ≡ None) e pass

-- ---- queues
