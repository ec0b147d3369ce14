-- Replies that name the events of their lines.
use Rattle.std.specs.Prelude.{◌≡◌, List}
use Rattle.std.specs.List.{AllByRecursion}
use Rattle.ts_sessions.specs.Gives.{numbers}
use Rattle.ts_sessions.specs.Made.{made_in}
use Rattle.ts_sessions.specs.Places.{Turn}
use Rattle.par_laws.specs.Answered.{LineAnswer}

-- a reply names the numbers of its line's events, in order
abbrev pub NamesEvents : {P : Type 0} → LineAnswer (Turn P) → Type 0
NamesEvents answer = numbers answer.given ≡ made_in answer.end.said

-- each reply of several sessions does
abbrev pub RepliesNameEvents : {P : Type 0} → List (List (LineAnswer (Turn P))) → Type 0
RepliesNameEvents sessions = AllByRecursion (λ answers. AllByRecursion NamesEvents answers) sessions
