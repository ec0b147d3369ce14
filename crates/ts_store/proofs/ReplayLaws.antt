-- Reading the events of a journal.
use Rattle.std.proofs.Common.{◌≡◌, inl, inr, ℕ, List, sym, ◌∙◌, ap, subst}
use Rattle.ts_model.specs.History.{History}
use Rattle.engine_core.specs.Histories.{history_of}
use Rattle.engine_core.specs.Values.{Past}
use Rattle.txn_journal.specs.Frames.{IsDamaged}
use Rattle.txn_journal.specs.Reading.{based_on, with_next}
use Rattle.ts_store.specs.Stands.{IsDamagedAt, IsSound, IsWrong, content_of}
use Rattle.ts_store.specs.Takes.{IsResumed, IsTaken}
use Rattle.ts_store.proofs.HistoryLaws.{sound_push, sound_resumed}
use Rattle.engine_core.proofs.StoreLaws.{history_push}

-- ---- a payload whose event took effect

pub taken_more : (payload : List ℕ) (old new : Past) → IsTaken payload old new → content_of (history_of new) ≡ with_next (content_of (history_of old)) payload
taken_more payload old new taken =
    ap (λ (past : Past). content_of (history_of past)) taken.past
    ∙ ap content_of (history_push old taken.event)
    ∙ ap (with_next (content_of (history_of old))) (sym taken.next.spelled)

pub taken_sound : (payload : List ℕ) (old new : Past) → IsSound (history_of old) → IsTaken payload old new → IsSound (history_of new)
taken_sound payload old new sound taken =
    subst (λ (past : Past). IsSound (history_of past)) (sym taken.past)
    (subst IsSound (sym (history_push old taken.event)) (sound_push (history_of old) taken.event sound taken.next.fits taken.next.formed))

-- ---- a base whose image replaced the earlier history

pub resumed_counts : (payload : List ℕ) (new : Past) → IsResumed payload new → content_of (history_of new) ≡ based_on payload
resumed_counts payload new resumes = ap (λ (past : Past). content_of (history_of past)) resumes.past ∙ ap based_on (sym resumes.spelled)

pub resumed_sound : (payload : List ℕ) (new : Past) → IsResumed payload new → IsSound (history_of new)
resumed_sound payload new resumes = subst (λ (past : Past). IsSound (history_of past)) (sym resumes.past) (sound_resumed resumes.image resumes.formed resumes.is_valid)

-- ---- a payload that isn't the bytes of an event

pub damaged_there : (file : List ℕ) (h : History) (at : ℕ) → IsSound h → IsWrong file h at → IsDamagedAt file at
damaged_there file h at sound wrong = record { history = h; damage = record { sound = sound; broken = inr wrong } }

pub damaged_short : (file : List ℕ) (h : History) (at : ℕ) → IsSound h → IsDamaged file (content_of h) at → IsDamagedAt file at
damaged_short file h at sound damaged = record { history = h; damage = record { sound = sound; broken = inl damaged } }
