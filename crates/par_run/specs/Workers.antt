-- Sessions with their lines of an input.
use Rattle.std.specs.Prelude.{◌≡◌, ◌≤◌, ℕ, Bool, false, List, [], All, length, map, sum_by}
use Rattle.ts_model.specs.States.{State}
use Rattle.ts_sessions.specs.declared.actors.Actor.{Ghosts as Actor}
use Rattle.ts_sessions.specs.Held.{most_queued}
use Rattle.ts_sessions.specs.Script.{SessionScript}
use Rattle.par_laws.specs.Parallel.{SessionReplies}
use Rattle.par_lines.specs.Places.{line_at, IsLineWithin}
use Rattle.par_lines.specs.Sorted.{HasNumber}
use Rattle.par_run.specs.declared.executors.Executor.{Executor}
use Rattle.par_run.specs.declared.workers.SessionWorker.{SessionWorker}
use Rattle.par_run.specs.Replies.{replies_said}

-- the session with a name, before its first line
abbrev pub nothing_said : List ℕ → SessionReplies
nothing_said name = record { name = name; exchanges = []; fault = false; reads = 0 }

module _ {A G : Type 0} where
  module _ (named : A → List ℕ) where
    -- the lines and replies of a session so far
    abbrev pub said_by : Executor A G → SessionReplies
    said_by e = replies_said (named e.actor) e.replies e.steps

    -- the name and the lines of the session
    abbrev pub worker_script : SessionWorker A G → SessionScript
    worker_script w = record { name = named w.executor.actor; lines = map (line_at w.input.now) w.lines.items }

    -- its lines and replies so far
    abbrev pub replies_of : SessionWorker A G → SessionReplies
    replies_of w = said_by w.executor

  -- the number of its session
  abbrev pub number_of : (A → ℕ) → SessionWorker A G → ℕ
  number_of numbered w = numbered w.executor.actor

  -- whether one of its lines ran out of memory
  abbrev pub ran_out : SessionWorker A G → Bool
  ran_out w = w.out_of_memory

  -- it has the number of its session among those that have appeared
  abbrev pub IsNumbered : (A → List ℕ) → (A → ℕ) → List SessionScript → SessionWorker A G → Type 0
  IsNumbered named numbered appeared w = HasNumber appeared (worker_script named w) (number_of numbered w)

  -- a session is before its first line
  pub record IsReady {T J : Type 0} (actors : Actor A T J) (w : SessionWorker A G) : Type 0 where
    pub lines : All (IsLineWithin (length w.input.now)) w.lines.items
    -- its lines together have at most as many bytes as a queue may have
    pub room : sum_by (λ line. line.len) w.lines.items ≤ most_queued
    pub fresh : actors.places w.executor.actor ≡ actors.semantics.opening 0
    pub idle : actors.waiting w.executor.actor ≡ 0
    pub holds : (s : State) → actors.holds w.executor.actor s
    pub unanswered : replies_of actors.named w ≡ nothing_said (actors.named w.executor.actor)
