-- What a statement brings to its session, and what the session holds after it.
use Rattle.std.proofs.Common.{◌≡◌, ℕ, ◌+◌, ◌≤◌, Bool, [], sym, refl, ap, subst, arith}
use Rattle.std.specs.Prelude.{Result, Ok, Err, IsTrue}
use Rattle.ts_schema.specs.declared.memory.NoMemory.{NoMemory}
use Rattle.ts_model.specs.declared.events.Op.{Op}
use Rattle.ts_model.specs.History.{History, position, prefix}
use Rattle.ts_model.specs.States.{State}
use Rattle.ts_model.specs.Allowed.{all_allowed}
use Rattle.ts_model.proofs.HistoryLaws.{prefix_end}
use Rattle.stmt_check.proofs.QueueLaws.{queues_are_sound}
use Rattle.ts_sessions.specs.declared.blocks.Open.TheVariants as opens
use Rattle.ts_sessions.specs.declared.changes.Change.{Change}
use Rattle.ts_sessions.specs.declared.changes.Change.TheVariants as changes
use Rattle.ts_sessions.specs.declared.changes.Completion.{Completion}
use Rattle.ts_sessions.specs.Procedures.{Procedure}
use Rattle.ts_sessions.specs.Held.{GoesOn, HoldsBlock, block_of, most_queued, bytes_queued}
use Rattle.ts_sessions.specs.Places.{Block, none, writing, reading, Places, Turn}
use Rattle.ts_sessions.specs.Sessions.{ChangeFits, ChangeHolds, Ends, EndsAt, places_after, queued_on, turn_of}
use Rattle.ts_sessions.proofs.WalkLaws.{goes_breaks, goes_walks}
use Rattle.ts_model.specs.declared.snapshots.Shown.{Ghosts as Shown}

-- ---- what statements bring

-- the snapshot of a whole history is that at its position
pub whole_holds : {T : Type 0} (stands : T → History → Type 0) (shot : T) (at : ℕ) (h : History) → stands shot h → IsTrue (all_allowed h) → at ≡ position h → HoldsBlock stands (opens.Read at shot) h × (bytes_queued (block_of (opens.Read at shot)) ≡ 0)
whole_holds stands shot at h s ok e =
    let all : prefix h at ≡ h = prefix_end h at (omega (arith, e)) in
    ((subst (stands shot) (sym all) s, omega (arith, e), subst (λ x. IsTrue (all_allowed x)) (sym all) ok), refl)

-- an empty queue
pub empty_holds : {T : Type 0} (stands : T → History → Type 0) (h : History) → HoldsBlock stands (opens.Write (record { ops = []; bytes = 0 })) h × (bytes_queued (block_of {T = T} (opens.Write (record { ops = []; bytes = 0 }))) ≡ 0)
empty_holds stands h = ((queues_are_sound.begins h, omega arith), refl)

-- ---- after a change

-- a queue can hold what a change adds to it
pub change_fits : {T J : Type 0} (shown : Shown T J) (bytes : ℕ) (h : History) (c : Change T J) (b : Block) → bytes_queued b + bytes ≤ most_queued → ChangeHolds shown bytes c h → ChangeFits c b
change_fits shown bytes h changes.Nothing b room k = tt
change_fits shown bytes h (changes.Cuts c) b room k = tt
change_fits shown bytes h (changes.Holds c at job) b room k = tt
change_fits shown bytes h (changes.GivesUp c) b room k = tt
change_fits shown bytes h (changes.Enters o) b room k = tt
change_fits shown bytes h (changes.Queues op more) b room k = let is : more ≡ bytes = k.1 in omega (arith, is, room)

queued_push : (op : Op) (more : ℕ) (b : Block) → bytes_queued (queued_on op more b) ≤ bytes_queued b + more
queued_push op more none = omega arith
queued_push op more (writing ops n) = omega arith
queued_push op more (reading at) = omega arith

-- the queue grows by at most the bytes of the text
pub change_queues : {T J : Type 0} (shown : Shown T J) (bytes : ℕ) (h : History) (c : Change T J) (p : Places) → ChangeHolds shown bytes c h → bytes_queued (places_after c p).block ≤ bytes_queued p.block + bytes
change_queues shown bytes h changes.Nothing p k = omega arith
change_queues shown bytes h (changes.Cuts c) p k = omega arith
change_queues shown bytes h (changes.Holds c at job) p k = omega arith
change_queues shown bytes h (changes.GivesUp c) p k = omega arith
change_queues shown bytes h (changes.Enters o) p k = let e : bytes_queued (block_of o) ≡ 0 = k.1 in omega (arith, e)
change_queues shown bytes h (changes.Queues op more) p k = let is : more ≡ bytes = k.1 in omega (arith, is, queued_push op more p.block)

-- outside a block nothing is queued after the change
pub change_quiet : {T J : Type 0} (shown : Shown T J) (bytes : ℕ) (h : History) (c : Change T J) (p : Places) → p.block ≡ none → ChangeHolds shown bytes c h → bytes_queued (places_after c p).block ≡ 0
change_quiet shown bytes h changes.Nothing p out k = ap bytes_queued out
change_quiet shown bytes h (changes.Cuts c) p out k = ap bytes_queued out
change_quiet shown bytes h (changes.Holds c at job) p out k = ap bytes_queued out
change_quiet shown bytes h (changes.GivesUp c) p out k = ap bytes_queued out
change_quiet shown bytes h (changes.Enters o) p out k = k.1
change_quiet shown bytes h (changes.Queues op more) p out k = ap (λ b. bytes_queued (queued_on op more b)) out

-- ---- continuing

pub goes_ends : {T J : Type 0} (alone : Bool) (old : State) (procedure : Procedure (Turn Places)) (p : Places) (read : ℕ) (result : Result (Completion T J) NoMemory) (new : State) → EndsAt alone old procedure p read result new → GoesOn old new
goes_ends alone old procedure p read (Ok t) new e = goes_walks alone t.failed old procedure new (turn_of p read t) e
goes_ends alone old procedure p read (Err x) new e = goes_breaks alone old procedure new e

pub goes_ended : {T J : Type 0} (alone : Bool) (old : State) (procedure : Procedure (Turn Places)) (p : Places) (result : Result (Completion T J) NoMemory) (new : State) (before after : ℕ) → Ends alone old procedure p result new before after → GoesOn old new
goes_ended alone old procedure p result new before after e = goes_ends alone old procedure p e.read result new e.ends
