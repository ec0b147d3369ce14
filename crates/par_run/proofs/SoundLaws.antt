-- The transcript of a run of an input is sound.
use Rattle.std.proofs.Common.{◌≡◌, ℕ, Bool, true, ◌&&◌, List, [], ◌∷◌, ◌++◌, map, Option, refl, sym, ap, ◌∙◌, subst}
use Rattle.std.specs.List.{AllByRecursion, list_all}
use Rattle.std.proofs.lemmas.List.{map-append}
use Rattle.ts_model.specs.History.{History}
use Rattle.ts_model.specs.States.{stop_of}
use Rattle.ts_sessions.specs.Places.{Turn}
use Rattle.ts_sessions.specs.Procedures.{Procedure}
use Rattle.ts_sessions.specs.Script.{SessionLine, SessionScript}
use Rattle.par_laws.specs.Answered.{LineAnswer, ends_of}
use Rattle.par_laws.specs.Parallel.{AreReplies, SessionReplies, exchanges_of, lines_in, places_after}
use Rattle.par_laws.specs.Phases.{AllExplained}
use Rattle.par_lines.specs.Sorted.{at_once, final, only, setup, sorted_lines}
use Rattle.transcript.specs.Shape.{are_apart, is_line_of, is_session_name, is_sound, is_sound_talk}
use Rattle.transcript.specs.declared.transcripts.SessionTranscript.{SessionTranscript}
use Rattle.par_run.specs.Laws.{RunsAreSound}
use Rattle.par_run.specs.Outputs.{talk_of}
use Rattle.par_run.proofs.NameLaws.{all_appended, apart_told, names_apart, names_of}
use Rattle.par_run.proofs.ScriptLaws.{IsOwn, IsSoundScript, sound_filter, sound_input}

-- ---- one session

lines_own : {P : Type 0} (name : List ℕ) (lines : List SessionLine) (turns : List (Turn P)) → AllByRecursion (IsOwn name) lines → list_all (λ e. is_line_of name e.line) (exchanges_of name lines turns) ≡ true
lines_own name [] turns all = refl
lines_own name (line ∷ lines) [] all = refl
lines_own name (line ∷ lines) (turn ∷ turns) all = λ i. all.0.spoken i && lines_own name lines turns all.1 i

talk_sound : {P : Type 0} (session : SessionScript) (replies : SessionReplies) (turns : List (Turn P)) → IsSoundScript session → AreReplies session replies turns → is_sound_talk (talk_of replies) ≡ true
talk_sound session replies turns sound are =
    (λ i. is_session_name (are.name i) && list_all (λ e. is_line_of (are.name i) e.line) (are.exchanges i))
    ∙ (λ i. sound.named i && lines_own session.name session.lines turns sound.lines i)

-- ---- the sessions of a phase

module _ {P : Type 0} (reply : P → List ℕ → ℕ → Procedure (Turn P)) (all : History) (stop : Option ℕ) (from to : ℕ) (p : P) where
  talks_sound : (sessions : List SessionScript) (replies : List SessionReplies) (answers : List (List (LineAnswer (Turn P)))) → AllByRecursion IsSoundScript sessions → AllExplained lines_in AreReplies reply places_after all stop from to p sessions replies answers
      → AllByRecursion (λ r. is_sound_talk (talk_of r) ≡ true) replies
  talks_sound [] [] [] sound e = tt
  talks_sound [] [] (a ∷ answers) sound e = absurd e
  talks_sound [] (r ∷ replies) answers sound e = absurd e
  talks_sound (s ∷ sessions) [] answers sound e = absurd e
  talks_sound (s ∷ sessions) (r ∷ replies) [] sound e = absurd e
  talks_sound (s ∷ sessions) (r ∷ replies) (a ∷ answers) sound e = (talk_sound s r (ends_of a) sound.0 e.0.replied, talks_sound sessions replies answers sound.1 e.1)

-- ---- all sessions

all_sound : (replies : List SessionReplies) → AllByRecursion (λ r. is_sound_talk (talk_of r) ≡ true) replies → list_all is_sound_talk (map talk_of replies) ≡ true
all_sound [] all = refl
all_sound (r ∷ replies) all = λ i. all.0 i && all_sound replies all.1 i

pub runs_sound : {P : Type 0} → RunsAreSound P
runs_sound reply p opening input new out reads start ran =
    let scripts = (sorted_lines input).sessions in
    let first = only setup scripts in
    let middle = at_once scripts in
    let last = only final scripts in
    let r = ran.ran in
    let said = ran.before ++ ran.between ++ ran.after in
    let each = sound_input input in
    let talks : list_all is_sound_talk (map talk_of said) ≡ true =
    all_sound said
    (all_appended (λ x. is_sound_talk (talk_of x) ≡ true) (ran.before ++ ran.between) ran.after
    (all_appended (λ x. is_sound_talk (talk_of x) ≡ true) ran.before ran.between
    (talks_sound reply new.history (stop_of new) _ _ p first ran.before r.setup_ran.phase.answers (sound_filter _ scripts each) r.setup_ran.phase.explained)
    (talks_sound reply new.history (stop_of new) _ _ p middle ran.between r.others_ran.phase.answers (sound_filter _ scripts each) r.others_ran.phase.explained))
    (talks_sound reply new.history (stop_of new) _ _ p last ran.after r.final_ran.phase.answers (sound_filter _ scripts each) r.final_ran.phase.explained)) in
    let names : map (λ (talk : SessionTranscript). talk.name) out.sessions ≡ names_of first ++ names_of middle ++ names_of last =
    ran.names ∙ map-append (λ s. s.name) (first ++ middle) last ∙ ap (λ l. l ++ names_of last) (map-append (λ s. s.name) first middle) in
    let apart = ap are_apart names ∙ apart_told _ (names_apart input) in
    (λ i. list_all is_sound_talk (ran.says.sessions i) && apart i) ∙ ap (λ b. b && true) talks
