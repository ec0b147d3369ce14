-- Lines that are cut short read no more than all of them.
use Rattle.std.proofs.Common.{ℕ, suc, ◌≤◌, List, [], ◌∷◌, ◌++◌, arith}
use Rattle.ts_sessions.specs.Script.{ScriptState, Semantics, executes, reads_in}
use Rattle.policy_jobs.specs.Laws.{CutLinesReadLess}

pub cut_lines_read_less : {P : Type 0} → CutLinesReadLess P
cut_lines_read_less semantics s n [] rest = omega arith
cut_lines_read_less semantics s n (line ∷ done) rest =
    let later = cut_lines_read_less semantics (executes semantics s n line).script_state (suc n) done rest in
    omega (arith, later)
