-- Replies of several sessions that report a stopped store.
use Rattle.std.specs.Prelude.{ℕ, List, Option}
use Rattle.std.specs.List.{AllByRecursion}
use Rattle.ts_sessions.specs.Places.{Turn}
use Rattle.ts_sessions.specs.Stopped.{ReplyStopsAt}
use Rattle.par_laws.specs.Answered.{LineAnswer}

-- each reply of several sessions is E24 only if the store had stopped, with that position
abbrev pub RepliesStopAt : {P : Type 0} → Option ℕ → List (List (LineAnswer (Turn P))) → Type 0
RepliesStopAt stop sessions = AllByRecursion (λ answers. AllByRecursion (λ a. ReplyStopsAt stop a.end) answers) sessions
