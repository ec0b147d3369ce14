-- The effect of a run on an empty store.
use Rattle.std.proofs.Common.{◌≡◌, refl, ap, subst, ◌∙◌, inl, ℕ, ◌≤◌, true, List, [], Option, None, Some, length, arith}
use Rattle.std.specs.Prelude.{IfSome, IsSomeAnd}
use Rattle.ts_schema.specs.Counts.{raised_by}
use Rattle.ts_io.specs.declared.limits.TheConstants.{INPUT_LIMIT}
use Rattle.ts_model.specs.History.{History, start}
use Rattle.ts_sessions.specs.Script.{session_semantics}
use Rattle.ts_store.specs.Stands.{Stands}
use Rattle.script_run.specs.Runs.{Left, Ran, executed_lines, reads_of}
use Rattle.script_run.specs.declared.ends.RunEnd.{RunEnd}
use Rattle.script_run.specs.declared.ends.RunEnd.TheVariants.{Done, Refused, ReadFault, WriteFault, DiskFault, NoMemory, InputLong}
use Rattle.demo_run.specs.Runs.{RanLines, is_whole}

-- an empty file represents the empty history
pub empty_stands : Stands [] start
empty_stands = record { holds = inl (omega arith, refl); sound = record { allowed = refl; formed = tt } }

-- an input within the limit doesn't end beyond it
long_input : (end : RunEnd) (h : History) (input : List ℕ) (rest : Option (List ℕ)) (left : Left) → length input ≤ INPUT_LIMIT → Ran end session_semantics h input rest left → end ≡ InputLong → ⊥
long_input end h input rest left within ran is =
    let past : Ran InputLong session_semantics h input rest left = subst (λ e. Ran e session_semantics h input rest left) is ran in
    omega (arith, past.0, within)

pub not_long : (end : RunEnd) (h : History) (input : Option (List ℕ)) (rest : Option (List ℕ)) (left : Left) → IsSomeAnd input (λ text. length text ≤ INPUT_LIMIT) → IfSome input (λ text. Ran end session_semantics h text rest left) → end ≡ InputLong → ⊥
not_long end h None rest left within ran is = absurd within
not_long end h (Some text) rest left within ran is = long_input end h text rest left within ran is

-- a script that was run to its end led from the first history to the last
led : (end : RunEnd) (h : History) (input : List ℕ) (rest : Option (List ℕ)) (left : Left) → left.read_before ≡ 0 → is_whole end ≡ true → Ran end session_semantics h input rest left
    → RanLines h (executed_lines input) left.read left.store.history
led Done h input rest left zeroth whole ran = record {
  history = ran.1.history;
  reads = ran.1.counted ∙ ap (λ n. raised_by (reads_of session_semantics h (executed_lines input)) n) zeroth;
}
led Refused h input rest left zeroth whole ran = record {
  history = ran.1.history;
  reads = ran.1.counted ∙ ap (λ n. raised_by (reads_of session_semantics h (executed_lines input)) n) zeroth;
}
led ReadFault h input rest left zeroth whole ran = absurd (cc whole)
led WriteFault h input rest left zeroth whole ran = absurd (cc whole)
led DiskFault h input rest left zeroth whole ran = absurd (cc whole)
led NoMemory h input rest left zeroth whole ran = absurd (cc whole)
led InputLong h input rest left zeroth whole ran = absurd (cc whole)

pub ran_lines : (end : RunEnd) (h : History) (input rest : Option (List ℕ)) (left : Left) → left.read_before ≡ 0 → is_whole end ≡ true → IfSome input (λ text. Ran end session_semantics h text rest left)
    → IfSome input (λ text. RanLines h (executed_lines text) left.read left.store.history)
ran_lines end h None rest left zeroth whole ran = tt
ran_lines end h (Some text) rest left zeroth whole ran = led end h text rest left zeroth whole ran
