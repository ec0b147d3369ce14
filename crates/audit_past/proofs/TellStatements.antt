-- Statements over a whole history, by the block of their session.
use Rattle.std.proofs.Common.{◌≡◌, ℕ, ◌≤◌, ◌==◌, Bool, true, false, cond, List, [], ◌∷◌, length, Option, Some, None, sym, refl, ap, ◌∙◌, subst, arith}
use Rattle.std.specs.Prelude.{ℤ, Result, Ok}
use Rattle.std.proofs.lemmas.Bool.{true≢false}
use Rattle.std.proofs.lemmas.Bool.Decides.{nat_tests}
use Rattle.ts_schema.specs.declared.memory.NoMemory.{NoMemory}
use Rattle.ts_model.specs.declared.events.Op.{Op}
use Rattle.ts_model.specs.declared.outcomes.Refusal.{Refusal}
use Rattle.ts_model.specs.declared.rosters.Roster.{Roster}
use Rattle.ts_model.specs.declared.snapshots.Shown.{Ghosts as Shown}
use Rattle.ts_model.specs.Calls.{act_of_finish}
use Rattle.ts_model.specs.History.{History, position, prefix}
use Rattle.ts_model.specs.Roster.{roster}
use Rattle.stmt_syntax.specs.declared.statements.Stmt.{Stmt}
use Rattle.stmt_syntax.specs.declared.statements.Stmt.TheVariants as stmts
use Rattle.stmt_check.specs.declared.actions.Action.{Action}
use Rattle.stmt_check.specs.declared.actions.Action.TheVariants as actions
use Rattle.stmt_check.specs.Check.{action_of, refusal_of}
use Rattle.hier_agg.specs.declared.reads.UpperRead.{UpperRead}
use Rattle.hier_agg.specs.declared.reads.UpperRead.TheVariants as uppers
use Rattle.hier_agg.specs.Reads.{upper_read}
use Rattle.result_text.specs.declared.replies.Said.{Said}
use Rattle.result_text.specs.declared.replies.Said.TheVariants as said
use Rattle.ts_sessions.specs.declared.blocks.Open.TheVariants as opens
use Rattle.ts_sessions.specs.declared.changes.Change.{Change}
use Rattle.ts_sessions.specs.declared.changes.Change.TheVariants as changes
use Rattle.ts_sessions.specs.declared.changes.Completion.{Completion}
use Rattle.ts_sessions.specs.declared.deeds.AfterLook.TheVariants as looks_for
use Rattle.ts_sessions.specs.declared.deeds.Deed.{Deed}
use Rattle.ts_sessions.specs.declared.deeds.Deed.TheVariants as deeds
use Rattle.ts_sessions.specs.declared.deeds.MissingPart.TheVariants as lacks
use Rattle.ts_sessions.specs.declared.deeds.Next.{Next}
use Rattle.ts_sessions.specs.declared.deeds.Next.TheVariants as nexts
use Rattle.ts_sessions.specs.declared.kinds.StatementKind.{StatementKind}
use Rattle.ts_sessions.specs.declared.kinds.StatementKind.TheVariants as kinds
use Rattle.ts_sessions.specs.declared.deeds.FinishSource.TheVariants as finishings
use Rattle.ts_sessions.specs.declared.openings.Opening.TheVariants as openings
use Rattle.ts_sessions.specs.Openings.{opening_of}
use Rattle.ts_sessions.proofs.BlockWalks.{begins_outside, snaps_outside}
use Rattle.ts_sessions.proofs.OpeningLaws.{same_next}
use Rattle.audit_past.specs.declared.deed_replays.StatementOutcome.{StatementOutcome}
use Rattle.audit_past.specs.declared.deed_replays.StepOutcome.{StepOutcome}
use Rattle.ts_sessions.specs.Deeds.{EndFits, NextFits, end_of_block, turn_of_finish, hold_of, with_line, begin_write_block, rest, rest_next, said_once}
use Rattle.ts_sessions.specs.ResolvedNames.{asked_by, checked_as, left_of, looks_at_names, meant_by, meant_left, read_as, IsLeftOf, LeftIn}
use Rattle.ts_sessions.specs.Places.{Block, Places, Turn, enters, held_for, none, reading, refuses, turns, writing}
use Rattle.ts_sessions.specs.Procedures.{Procedure, sees, ends, looks}
use Rattle.ts_sessions.specs.Sessions.{ChangeHolds, turn_of}
use Rattle.ts_sessions.specs.Sound.{kind_of_action}
use Rattle.ts_sessions.specs.Step.{acts, block_refusal, closes, commits, finishes, finishes_held, given_up, kind_of, turn_of_names, named_as, named_here, prints, read_at, refresh_meant, snaps, unless}
use Rattle.audit_past.specs.ReplaySteps.{IsWent, NextStands, ReachesTo, TellsBy, TellsNothing, does_at, ended_of, later_looks, next_look, state_of}
use Rattle.ts_sessions.proofs.HoldLaws.{empty_holds}
use Rattle.ts_sessions.proofs.MeantLaws.{named_left}
use Rattle.ts_sessions.proofs.SoundLaws.{kinds_agree}
use Rattle.audit_past.proofs.TellDeeds.{reaches_then}
use Rattle.audit_past.proofs.TellWalks.{asks_there, end_reached, look_again, look_lies, look_nothing, look_tells, look_unprinted, nothing_then, tells_then}

-- ---- the shape of a statement in its block

-- a statement, in this block
abbrev here_in : Places → ℕ → Stmt → Block → Procedure (Turn Places)
here_in p bytes stmt b = sees (λ h. prints b (kind_of stmt) (roster h) (refusal_of (position h) (roster h) stmt)) (λ h. turn_of_names p bytes stmt (read_at b h))

here_is : (p : Places) (bytes : ℕ) (stmt : Stmt) (b : Block) → p.block ≡ b → named_here p bytes stmt ≡ here_in p bytes stmt b
here_is p bytes stmt b e = ap (here_in p bytes stmt) e

-- an outcome of one procedure is one of an equal procedure
pub reaches_as : {T J : Type 0} (shown : Shown T J) (bytes : ℕ) (all : History) (at : ℕ) (procedure like : Procedure (Turn Places)) (ps : List ℕ) (p : Places) (result : Result (Option (StatementOutcome T J)) NoMemory) → procedure ≡ like → ReachesTo shown bytes all at like ps p result → ReachesTo shown bytes all at procedure ps p result
reaches_as shown bytes all at procedure like ps p result e k = subst (λ d. ReachesTo shown bytes all at d ps p result) (sym e) k

-- a read that isn't printed at any history
unprinted_reaches : {T J : Type 0} (shown : Shown T J) (bytes : ℕ) (all : History) (at : ℕ) (test : History → Bool) (f : History → Procedure (Turn Places)) (ps : List ℕ) (p : Places) (result : Result (Option (StatementOutcome T J)) NoMemory) → ((h : History) → test h ≡ false) → ReachesTo shown bytes all at (f all) ps p result → ReachesTo shown bytes all at (sees test f) ps p result
unprinted_reaches shown bytes all at test f ps p result never k =
    reaches_then shown bytes all at at (sees test f) (f all) ps ps p result (look_unprinted all at test f ps (λ look e. never (prefix all look)) (never all)) (omega arith) k

-- an end, replayed unchanged
pub ends_told : {T J : Type 0} (shown : Shown T J) (bytes : ℕ) (all : History) (at : ℕ) (ps : List ℕ) (p : Places) (read : ℕ) (next : Next T J) (t : Completion T J) → at ≤ position all → next ≡ nexts.End t → EndFits shown bytes t (state_of all) → ReachesTo shown bytes all at (ends (turn_of p read t)) ps p (Ok (ended_of next at))
ends_told {T} {J} shown bytes all at ps p read next t le e k =
    subst (λ (n : Next T J). ReachesTo shown bytes all at (ends (turn_of p read t)) ps p (Ok (ended_of n at))) (sym e) (end_reached shown bytes all at ps p read t le k)

-- a read block is a block
reads_none : (begun : ℕ) → reading begun ≡ none → ⊥
reads_none begun e = absurd cc

-- ---- outside a block

pub begin_stands : {T J : Type 0} (shown : Shown T J) (bytes : ℕ) (all : History) (at : ℕ) (next : Next T J) → next ≡ begin_write_block → NextStands shown bytes all at next
begin_stands {T} {J} shown bytes all at next e = subst (λ (n : Next T J). NextStands shown bytes all at n) (sym e) (record { change = empty_holds shown.stands all; stands = refl })

pub snap_stands : {T J : Type 0} (shown : Shown T J) (bytes : ℕ) (all : History) (at : ℕ) (m : Option ℕ) (deed : Deed T J) → deed ≡ hold_of m → NextStands shown bytes all at (nexts.Deed deed)
snap_stands {T} {J} shown bytes all at None deed e = subst (λ (d : Deed T J). NextStands shown bytes all at (nexts.Deed d)) (sym e) tt
snap_stands {T} {J} shown bytes all at (Some c) deed e = subst (λ (d : Deed T J). NextStands shown bytes all at (nexts.Deed d)) (sym e) tt

module _ {T J : Type 0} (shown : Shown T J) (bytes : ℕ) (all : History) (at : ℕ) (ps : List ℕ) (p : Places) (stmt : Stmt) (result : Result (Option (StatementOutcome T J)) NoMemory) (outside : p.block ≡ none) where
  outside_as : (like : Stmt) (procedure : Procedure (Turn Places)) → stmt ≡ like → here_in p bytes like none ≡ procedure → ReachesTo shown bytes all at procedure ps p result → ReachesTo shown bytes all at (named_here p bytes stmt) ps p result
  outside_as like procedure e same k = reaches_as shown bytes all at (named_here p bytes stmt) procedure ps p result (here_is p bytes stmt none outside ∙ ap (λ s. here_in p bytes s none) e ∙ same) k

  pub begin_told : (next : Next T J) → stmt ≡ stmts.Begin → next ≡ begin_write_block → ((bytes : ℕ) → NextStands shown bytes all at next → ReachesTo shown bytes all at (rest_next p 0 next) ps p result) → ReachesTo shown bytes all at (named_here p bytes stmt) ps p result
  begin_told next e is k =
      outside_as stmts.Begin (here_in p bytes stmts.Begin none) e refl
      (unprinted_reaches shown bytes all at (λ h. false) (λ h. ends (turns (enters (writing [] 0) p) said.Begin)) ps p result (λ h. refl)
      (subst (λ (n : Next T J). ReachesTo shown bytes all at (rest_next p 0 n) ps p result) is (k bytes (begin_stands shown bytes all at next is))))

  pub read_told : stmt ≡ stmts.BeginRead → ReachesTo shown bytes all at (rest_next {T = T} {J = J} p 0 (nexts.Deed (deeds.Look looks_for.BeginRead))) ps p result → ReachesTo shown bytes all at (named_here p bytes stmt) ps p result
  read_told e k = outside_as stmts.BeginRead (rest {T = T} {J = J} p 0 (deeds.Look looks_for.BeginRead)) e refl k

  snap_is : (number : Option ℤ) (m : Option ℕ) → refresh_meant p number ≡ m → here_in p bytes (stmts.Snap number) none ≡ rest {T = T} {J = J} p 0 (hold_of m)
  snap_is number None i = ap (λ m. looks (λ h. ends (snaps p h m))) i
  snap_is number (Some c) i = ap (λ m. looks (λ h. ends (snaps p h m))) i

  pub snap_told : (number : Option ℤ) (deed : Deed T J) → stmt ≡ stmts.Snap number → deed ≡ hold_of (refresh_meant p number) → ReachesTo shown bytes all at (rest_next p 0 (nexts.Deed deed)) ps p result → ReachesTo shown bytes all at (named_here p bytes stmt) ps p result
  snap_told number deed e is k =
      outside_as (stmts.Snap number) (rest {T = T} {J = J} p 0 (hold_of (refresh_meant p number))) e (snap_is number (refresh_meant p number) refl)
      (subst (λ (d : Deed T J). ReachesTo shown bytes all at (rest p 0 d) ps p result) is k)

  pub finish_told : (number : Option ℤ) → stmt ≡ stmts.Finish number → ReachesTo shown bytes all at (looks (λ h. finishes p h (refresh_meant p number))) ps p result → ReachesTo shown bytes all at (named_here p bytes stmt) ps p result
  finish_told number e k = outside_as (stmts.Finish number) (looks (λ h. finishes p h (refresh_meant p number))) e refl k

module _ {T J : Type 0} (shown : Shown T J) (bytes : ℕ) (all : History) (at : ℕ) (ps : List ℕ) (p : Places) (number : Option ℤ) where
  pub finish_unmeant : (result : Result (Option (StatementOutcome T J)) NoMemory) → refresh_meant p number ≡ None → ReachesTo shown bytes all at (rest_next {T = T} {J = J} p 0 (nexts.Deed (deeds.Look looks_for.Unknown))) ps p result → ReachesTo shown bytes all at (looks (λ h. finishes p h (refresh_meant p number))) ps p result
  finish_unmeant result e k = reaches_as shown bytes all at (looks (λ h. finishes p h (refresh_meant p number))) (looks (λ h. finishes p h None)) ps p result (ap (λ m. looks (λ h. finishes p h m)) e) k

  pub finish_unheld : (c : ℕ) (result : Result (Option (StatementOutcome T J)) NoMemory) → refresh_meant p number ≡ Some c → held_for c p.held ≡ None → ReachesTo shown bytes all at (rest_next {T = T} {J = J} p 0 (nexts.Deed (deeds.Look (looks_for.Refuse c lacks.Snapshot)))) ps p result → ReachesTo shown bytes all at (looks (λ h. finishes p h (refresh_meant p number))) ps p result
  finish_unheld c result e f k = reaches_as shown bytes all at (looks (λ h. finishes p h (refresh_meant p number))) (looks (λ h. finishes_held p h c None)) ps p result (ap (λ m. looks (λ h. finishes p h m)) e ∙ ap (λ o. looks (λ h. finishes_held p h c o)) f) k

  pub finish_held : (c at_snap : ℕ) (result : Result (Option (StatementOutcome T J)) NoMemory) → refresh_meant p number ≡ Some c → held_for c p.held ≡ Some at_snap → ReachesTo shown bytes all at (looks (λ h. finishes_held p h c (Some at_snap))) ps p result → ReachesTo shown bytes all at (looks (λ h. finishes p h (refresh_meant p number))) ps p result
  finish_held c at_snap result e f k = reaches_as shown bytes all at (looks (λ h. finishes p h (refresh_meant p number))) (looks (λ h. finishes_held p h c (Some at_snap))) ps p result (ap (λ m. looks (λ h. finishes p h m)) e ∙ ap (λ o. looks (λ h. finishes_held p h c o)) f) k

-- ---- names that are resolved outside a block

-- an end has one replay, whatever read positions are left
ends_again : {A : Type 0} (all : History) (at : ℕ) (y : A) (ps qs : List ℕ) → TellsBy all at (ends y) ps at (ends y) qs
ends_again all at y ps qs = record { given = λ s. s; tells = λ s r t. t }

module _ {T J : Type 0} (shown : Shown T J) (bytes : ℕ) (all : History) (look at : ℕ) (ps : List ℕ) (p : Places) (stmt : Stmt) (told : next_look all at ps ≡ Some look) (outside : p.block ≡ none) (names : looks_at_names (kind_of stmt) ≡ true) where
  -- a statement acts where its names were resolved, since it reads there again
  acts_again : (a : Action) → looks_at_names (kind_of_action a) ≡ true → TellsBy all look (acts p bytes (prefix all look) a) (later_looks ps) look (meant_left {T = T} {J = J} p bytes none (prefix all look) (asked_by (roster (prefix all look)) a)) ps
  acts_again (actions.Table def) k = look_again all at look (λ h. true) (λ h. acts p bytes h (actions.Table def)) ps told refl
  acts_again (actions.Hyper t hyper) k = look_again all at look (λ h. true) (λ h. acts p bytes h (actions.Hyper t hyper)) ps told refl
  acts_again (actions.View def filled) k = look_again all at look (λ h. true) (λ h. acts p bytes h (actions.View def filled)) ps told refl
  acts_again (actions.Mode n only) k = look_again all at look (λ h. true) (λ h. acts p bytes h (actions.Mode n only)) ps told refl
  acts_again (actions.Change op) k = look_again all at look (λ h. true) (λ h. acts p bytes h (actions.Change op)) ps told refl
  acts_again (actions.Refresh n lo hi) k = look_again all at look (λ h. true) _ ps told refl
  acts_again (actions.Cut n lo hi) k = look_again all at look (λ h. true) _ ps told refl
  acts_again (actions.Ask q) k = ends_again all look _ (later_looks ps) ps
  acts_again (actions.Calendar t number unit fold cal) k = ends_again all look _ (later_looks ps) ps
  acts_again other k = absurd (true≢false (sym k))

  checked_again : (o : Option Refusal) → TellsBy all look (unless p o (acts p bytes (prefix all look) (action_of (roster (prefix all look)) stmt))) (later_looks ps) look (meant_left {T = T} {J = J} p bytes none (prefix all look) (checked_as (roster (prefix all look)) stmt o)) ps
  checked_again (Some q) = ends_again all look (refuses p q) (later_looks ps) ps
  checked_again None = acts_again (action_of (roster (prefix all look)) stmt) (subst (λ k. looks_at_names k ≡ true) (sym (kinds_agree (roster (prefix all look)) stmt)) names)

  read_again : (u : UpperRead) → TellsBy all look (named_as p bytes (prefix all look) stmt u) (later_looks ps) look (meant_left {T = T} {J = J} p bytes none (prefix all look) (read_as (position (prefix all look)) (roster (prefix all look)) stmt u)) ps
  read_again (uppers.Plan plan) = ends_again all look _ (later_looks ps) ps
  read_again (uppers.Refused q) = ends_again all look (refuses p q) (later_looks ps) ps
  read_again uppers.NotUpper = checked_again (refusal_of (position (prefix all look)) (roster (prefix all look)) stmt)
  read_again uppers.NoMemory = checked_again (refusal_of (position (prefix all look)) (roster (prefix all look)) stmt)

  left_again : TellsBy all look (turn_of_names p bytes stmt (prefix all look)) (later_looks ps) look (left_of shown p bytes stmt (prefix all look)) ps
  left_again =
      let m = meant_by {T = T} {J = J} (position (prefix all look)) (roster (prefix all look)) stmt in
      subst (λ b. TellsBy all look (turn_of_names p bytes stmt (prefix all look)) (later_looks ps) look (meant_left p bytes b (prefix all look) m) ps) (sym outside) (read_again (upper_read (position (prefix all look)) (roster (prefix all look)) stmt))

  names_printed : (k : StatementKind) → looks_at_names k ≡ true → (r : Roster) (q : Option Refusal) → prints none k r q ≡ true
  names_printed kinds.Defines e r q = refl
  names_printed kinds.Changes e r q = refl
  names_printed kinds.Asks e r q = refl
  names_printed other e r q = absurd (true≢false (sym e))

  pub names_told : (next : Next T J) (result : Result (Option (StatementOutcome T J)) NoMemory) → IsLeftOf shown p bytes stmt (prefix all look) next → ((read : ℕ) → ReachesTo shown bytes all look (rest_next p read next) ps p result) → ReachesTo shown bytes all at (named_here p bytes stmt) ps p result
  names_told next result l k =
      let f : History → Procedure (Turn Places) = λ h. turn_of_names p bytes stmt (read_at none h) in
      let first = look_tells all at look (λ h. prints none (kind_of stmt) (roster h) (refusal_of (position h) (roster h) stmt)) f ps told (names_printed (kind_of stmt) names (roster (prefix all look)) (refusal_of (position (prefix all look)) (roster (prefix all look)) stmt)) in
      let second = tells_then all at look look (here_in p bytes stmt none) (turn_of_names p bytes stmt (prefix all look)) (left_of shown p bytes stmt (prefix all look)) ps (later_looks ps) ps first left_again in
      reaches_as shown bytes all at (named_here p bytes stmt) (here_in p bytes stmt none) ps p result (here_is p bytes stmt none outside)
      (reaches_then shown bytes all at look (here_in p bytes stmt none) (left_of shown p bytes stmt (prefix all look)) ps ps p result second (look_lies all at look ps told).low
      (subst (λ d. ReachesTo shown bytes all look d ps p result) l.rest (k l.read)))

-- names without a read position
pub names_nowhere : (all : History) (at : ℕ) (ps : List ℕ) (p : Places) (bytes : ℕ) (stmt : Stmt) → next_look all at ps ≡ None → p.block ≡ none → looks_at_names (kind_of stmt) ≡ true → TellsNothing all at (named_here p bytes stmt) ps
names_nowhere all at ps p bytes stmt e outside names =
    subst (λ d. TellsNothing all at d ps) (sym (here_is p bytes stmt none outside))
    (look_nothing all at (λ h. prints none (kind_of stmt) (roster h) (refusal_of (position h) (roster h) stmt)) (λ h. turn_of_names p bytes stmt (read_at none h)) ps e (printed (kind_of stmt) names (roster all) (refusal_of (position all) (roster all) stmt)))
  where
    printed : (k : StatementKind) → looks_at_names k ≡ true → (r : Roster) (q : Option Refusal) → prints none k r q ≡ true
    printed kinds.Defines e r q = refl
    printed kinds.Changes e r q = refl
    printed kinds.Asks e r q = refl
    printed other e r q = absurd (true≢false (sym e))

-- the next step fits the history
pub names_stand : {T J : Type 0} (shown : Shown T J) (bytes : ℕ) (all : History) (look : ℕ) (b : Block) (next : Next T J) → b ≡ none → LeftIn b next → NextFits shown bytes next (state_of (prefix all look)) → NextStands shown bytes all look next
names_stand shown bytes all look b (nexts.Deed d) e l k = asks_there shown d (prefix all look) k
names_stand {T} {J} shown bytes all look b (nexts.End t) e l k =
    let same : t.change ≡ changes.Nothing = subst (λ x. LeftIn x (nexts.End t)) e l in
    record { change = subst (λ (c : Change T J). ChangeHolds shown bytes c all) (sym same) tt; stands = k.stands }

-- ---- a snapshot that a session holds

-- the finish with it, at a read position
abbrev pub tells_held : History → ℕ → ℕ → ℕ → Places → ℕ → Procedure (Turn Places)
tells_held all look c snap p read = does_at (prefix all look) (act_of_finish c snap) (λ r. ends (turn_of_finish p read (finishings.Held c snap) r))

held_look : (all : History) (at look : ℕ) (ps : List ℕ) (p : Places) (c snap : ℕ) → next_look all at ps ≡ Some look → TellsBy all at (looks (λ h. finishes_held p h c (Some snap))) ps look (tells_held all look c snap p 0) (later_looks ps)
held_look all at look ps p c snap e = look_tells all at look (λ h. true) (λ h. finishes_held p h c (Some snap)) ps e refl

pub held_nothing : (all : History) (at look : ℕ) (ps : List ℕ) (p : Places) (c snap : ℕ) → next_look all at ps ≡ Some look → ((q : Places) (read : ℕ) (qs : List ℕ) → TellsNothing all look (tells_held all look c snap q read) qs) → TellsNothing all at (looks (λ h. finishes_held p h c (Some snap))) ps
held_nothing all at look ps p c snap e n = nothing_then all at look (looks (λ h. finishes_held p h c (Some snap))) (tells_held all look c snap p 0) ps (later_looks ps) (held_look all at look ps p c snap e) (n p 0 (later_looks ps))

pub held_told : {T J : Type 0} (shown : Shown T J) (bytes : ℕ) (all : History) (at look : ℕ) (ps later : List ℕ) (p : Places) (c snap : ℕ) (w : StepOutcome T J) (result : Result (Option (StatementOutcome T J)) NoMemory) → next_look all at ps ≡ Some look → later ≡ later_looks ps → IsWent shown all look 1 (tells_held all look c snap) w → ((read : ℕ) → ReachesTo shown bytes all w.at (with_line w.said (rest_next p read w.next)) later p result) → ReachesTo shown bytes all at (looks (λ h. finishes_held p h c (Some snap))) ps p result
held_told shown bytes all at look ps later p c snap w result e same went k =
    let first = looks (λ h. finishes_held p h c (Some snap)) in
    let left = with_line w.said (rest_next p (went.read_then 0) w.next) in
    let low : at ≤ look = (look_lies all at look ps e).low in
    let up : look ≤ w.at = went.low in
    reaches_then shown bytes all at w.at first left ps (later_looks ps) p result
    (tells_then all at look w.at first (tells_held all look c snap p 0) left ps (later_looks ps) (later_looks ps) (held_look all at look ps p c snap e) (went.tells p 0 (later_looks ps)))
    (omega (arith, low, up)) (subst (λ qs. ReachesTo shown bytes all w.at left qs p result) same (k (went.read_then 0)))

-- ---- blocks that end

-- the end of a block, by its queue
closing_by : {T J : Type 0} (C : Next T J → Type 0) (ops : List Op) (n : ℕ) → (ops ≡ [] → C (said_once said.CommitEmpty (changes.Enters opens.Nothing))) → ((op : Op) (more : List Op) → ops ≡ op ∷ more → C (nexts.Deed (deeds.Commit (op ∷ more) true))) → C (end_of_block (writing ops n))
closing_by C [] n empty some = empty refl
closing_by {T} {J} C (op ∷ ops) n empty some =
    let there : (length (op ∷ ops) == 0) ≡ false = grind (arith, nat_tests) in
    subst (λ t. C (cond t (said_once said.CommitEmpty (changes.Enters opens.Nothing)) (nexts.Deed (deeds.Commit (op ∷ ops) true)))) (sym there) (some op ops refl)

pub closing_stands : {T J : Type 0} (shown : Shown T J) (bytes : ℕ) (all : History) (at : ℕ) (b : Block) (next : Next T J) → next ≡ end_of_block b → NextStands shown bytes all at next
closing_stands {T} {J} shown bytes all at none next e = subst (λ (n : Next T J). NextStands shown bytes all at n) (sym e) (record { change = (tt, refl); stands = refl })
closing_stands {T} {J} shown bytes all at (writing ops n) next e = subst (λ (n : Next T J). NextStands shown bytes all at n) (sym e) (closing_by (λ (m : Next T J). NextStands shown bytes all at m) ops n (λ i. record { change = (tt, refl); stands = refl }) (λ op more i. tt))
closing_stands {T} {J} shown bytes all at (reading begun) next e = subst (λ (n : Next T J). NextStands shown bytes all at n) (sym e) (record { change = (tt, refl); stands = refl })

-- a block that is given up
pub given_up_stands : {T J : Type 0} (shown : Shown T J) (bytes : ℕ) (all : History) (at : ℕ) (line : Said) (next : Next T J) → next ≡ said_once line (changes.Enters opens.Nothing) → NextStands shown bytes all at next
given_up_stands {T} {J} shown bytes all at line next e = subst (λ (n : Next T J). NextStands shown bytes all at n) (sym e) (record { change = (tt, refl); stands = refl })

-- COMMIT, in this block
abbrev close_in : Places → Block → Procedure (Turn Places)
close_in p b = sees (λ h. prints b kinds.Commits (roster h) (refusal_of (position h) (roster h) stmts.Commit)) (λ h. closes p (read_at b h) b)

module _ {T J : Type 0} (shown : Shown T J) (bytes : ℕ) (all : History) (at : ℕ) (ps : List ℕ) (p : Places) (stmt : Stmt) (result : Result (Option (StatementOutcome T J)) NoMemory) where
  close_as : (b : Block) → p.block ≡ b → stmt ≡ stmts.Commit → ReachesTo shown bytes all at (close_in p b) ps p result → ReachesTo shown bytes all at (named_here p bytes stmt) ps p result
  close_as b e i k = reaches_as shown bytes all at (named_here p bytes stmt) (close_in p b) ps p result (ap (named_here p bytes) i ∙ ap (close_in p) e) k

  pub close_writing : (ops : List Op) (n : ℕ) (next : Next T J) → p.block ≡ writing ops n → stmt ≡ stmts.Commit → next ≡ end_of_block (writing ops n) → ReachesTo shown bytes all at (rest_next p 0 next) ps p result → ReachesTo shown bytes all at (named_here p bytes stmt) ps p result
  close_writing ops n next e i is k =
      close_as (writing ops n) e i
      (closing_by (λ (m : Next T J). ReachesTo shown bytes all at (rest_next p 0 m) ps p result → ReachesTo shown bytes all at (close_in p (writing ops n)) ps p result) ops n
      (λ none_wait. subst (λ os. ReachesTo shown bytes all at (ends (turns (enters none p) said.CommitEmpty)) ps p result → ReachesTo shown bytes all at (close_in p (writing os n)) ps p result) (sym none_wait) (unprinted_reaches shown bytes all at (λ h. false) (λ h. ends (turns (enters none p) said.CommitEmpty)) ps p result (λ h. refl)))
      (λ op more some_wait. subst (λ os. ReachesTo shown bytes all at (looks (λ h. commits p (enters none p) h (op ∷ more))) ps p result → ReachesTo shown bytes all at (close_in p (writing os n)) ps p result) (sym some_wait) (λ r. r))
      (subst (λ (m : Next T J). ReachesTo shown bytes all at (rest_next p 0 m) ps p result) is k))

  pub close_reading : (begun : ℕ) (next : Next T J) → p.block ≡ reading begun → stmt ≡ stmts.Commit → next ≡ end_of_block (reading begun) → ReachesTo shown bytes all at (rest_next p 0 next) ps p result → ReachesTo shown bytes all at (named_here p bytes stmt) ps p result
  close_reading begun next e i is k =
      close_as (reading begun) e i (unprinted_reaches shown bytes all at (λ h. false) (λ h. ends (turns (enters none p) said.End)) ps p result (λ h. refl) (subst (λ (m : Next T J). ReachesTo shown bytes all at (rest_next p 0 m) ps p result) is k))

  -- a block is given up
  pub given_up_told : (b : Block) (next : Next T J) → p.block ≡ b → ((h : History) → prints b kinds.RollsBack (roster h) (refusal_of (position h) (roster h) stmts.Rollback) ≡ false) → stmt ≡ stmts.Rollback → next ≡ said_once (given_up p.block) (changes.Enters opens.Nothing) → ReachesTo shown bytes all at (rest_next p 0 next) ps p result → ReachesTo shown bytes all at (named_here p bytes stmt) ps p result
  given_up_told b next e never i is k =
      reaches_as shown bytes all at (named_here p bytes stmt) (sees (λ h. prints b kinds.RollsBack (roster h) (refusal_of (position h) (roster h) stmts.Rollback)) (λ h. ends (turns (enters none p) (given_up p.block)))) ps p result (ap (named_here p bytes) i ∙ ap (λ x. sees (λ h. prints x kinds.RollsBack (roster h) (refusal_of (position h) (roster h) stmts.Rollback)) (λ h. ends (turns (enters none p) (given_up p.block)))) e)
      (unprinted_reaches shown bytes all at (λ h. prints b kinds.RollsBack (roster h) (refusal_of (position h) (roster h) stmts.Rollback)) (λ h. ends (turns (enters none p) (given_up p.block))) ps p result never (subst (λ (m : Next T J). ReachesTo shown bytes all at (rest_next p 0 m) ps p result) is k))

  -- a query in a read block
  pub query_read : (begun : ℕ) (next : Next T J) → p.block ≡ reading begun → looks_at_names (kind_of stmt) ≡ true → block_refusal p.block (kind_of stmt) ≡ None → IsLeftOf shown p bytes stmt (prefix all begun) next → ((read : ℕ) → ReachesTo shown bytes all at (rest_next p read next) ps p result) → ReachesTo shown bytes all at (named_here p bytes stmt) ps p result
  query_read begun next e names pass l k =
      reaches_as shown bytes all at (named_here p bytes stmt) (here_in p bytes stmt (reading begun)) ps p result (here_is p bytes stmt (reading begun) e)
      (unprinted_reaches shown bytes all at (λ h. false) (λ h. turn_of_names p bytes stmt (prefix h begun)) ps p result (λ h. refl)
      (reaches_as shown bytes all at (turn_of_names p bytes stmt (prefix all begun)) (rest_next p l.read next) ps p result (left_is ∙ sym l.rest) (k l.read)))
    where
      left_is : turn_of_names p bytes stmt (prefix all begun) ≡ left_of shown p bytes stmt (prefix all begun)
      left_is = named_left shown p bytes p.block (prefix all begun) stmt names pass (λ i. absurd (reads_none begun (sym e ∙ i)))

-- the next step of a query fits the history
pub query_stands : {T J : Type 0} (shown : Shown T J) (bytes : ℕ) (all : History) (at begun : ℕ) (b : Block) (next : Next T J) → b ≡ reading begun → LeftIn b next → NextFits shown bytes next (state_of all) → NextStands shown bytes all at next
query_stands {T} {J} shown bytes all at begun b (nexts.Deed d) e l k = absurd (subst (λ x. LeftIn {T = T} {J = J} x (nexts.Deed d)) e l)
query_stands {T} {J} shown bytes all at begun b (nexts.End t) e l k = k

-- ---- the first step

begins_none : (b : Block) → block_refusal b kinds.Begins ≡ None → b ≡ none
begins_none none pass = refl
begins_none (writing ops n) pass = absurd cc
begins_none (reading begun) pass = absurd cc

module _ {T J : Type 0} (shown : Shown T J) (bytes : ℕ) (all : History) (at : ℕ) (ps : List ℕ) (p : Places) where
  pub opening_stands : (bytes : ℕ) (stmt : Stmt) (next : Next T J) → opening_of p stmt ≡ openings.Next next → NextStands shown bytes all at next
  opening_stands bytes (stmts.Snap number) next e = subst (λ (n : Next T J). NextStands shown bytes all at n) (same_next _ next e) (snap_stands shown bytes all at (refresh_meant p number) (hold_of (refresh_meant p number)) refl)
  opening_stands bytes stmts.Begin next e = begin_stands shown bytes all at next (sym (same_next _ next e))
  opening_stands bytes stmts.BeginRead next e = subst (λ (n : Next T J). NextStands shown bytes all at n) (same_next _ next e) tt
  opening_stands bytes stmts.Commit next e = closing_stands shown bytes all at p.block next (sym (same_next _ next e))
  opening_stands bytes stmts.Rollback next e = given_up_stands shown bytes all at (given_up p.block) next (sym (same_next _ next e))
  opening_stands bytes other next e = absurd cc

  commit_told : (b : Block) (next : Next T J) (result : Result (Option (StatementOutcome T J)) NoMemory) → p.block ≡ b → block_refusal b kinds.Commits ≡ None → next ≡ end_of_block b → ReachesTo shown bytes all at (rest_next p 0 next) ps p result → ReachesTo shown bytes all at (named_here p bytes stmts.Commit) ps p result
  commit_told none next result i pass e k = absurd cc
  commit_told (writing ops n) next result i pass e k = close_writing shown bytes all at ps p stmts.Commit result ops n next i refl e k
  commit_told (reading begun) next result i pass e k = close_reading shown bytes all at ps p stmts.Commit result begun next i refl e k

  rollback_told : (b : Block) (next : Next T J) (result : Result (Option (StatementOutcome T J)) NoMemory) → p.block ≡ b → block_refusal b kinds.RollsBack ≡ None → next ≡ said_once (given_up p.block) (changes.Enters opens.Nothing) → ReachesTo shown bytes all at (rest_next p 0 next) ps p result → ReachesTo shown bytes all at (named_here p bytes stmts.Rollback) ps p result
  rollback_told none next result i pass e k = absurd cc
  rollback_told (writing ops n) next result i pass e k = given_up_told shown bytes all at ps p stmts.Rollback result (writing ops n) next i (λ h. refl) refl e k
  rollback_told (reading begun) next result i pass e k = given_up_told shown bytes all at ps p stmts.Rollback result (reading begun) next i (λ h. refl) refl e k

  -- the first step of a statement that resolves no names
  pub opening_told : (stmt : Stmt) (next : Next T J) (result : Result (Option (StatementOutcome T J)) NoMemory) → opening_of p stmt ≡ openings.Next next → block_refusal p.block (kind_of stmt) ≡ None → ((n : ℕ) → NextStands shown n all at next → ReachesTo shown n all at (rest_next p 0 next) ps p result) → ReachesTo shown bytes all at (named_here p bytes stmt) ps p result
  opening_told (stmts.Snap number) next result e pass k =
      let is : next ≡ nexts.Deed (hold_of (refresh_meant p number)) = sym (same_next _ next e) in
      snap_told shown bytes all at ps p (stmts.Snap number) result (snaps_outside p.block pass) number (hold_of (refresh_meant p number)) refl refl
      (subst (λ (n : Next T J). ReachesTo shown bytes all at (rest_next p 0 n) ps p result) is (k bytes (opening_stands bytes (stmts.Snap number) next e)))
  opening_told stmts.Begin next result e pass k = begin_told shown bytes all at ps p stmts.Begin result (begins_none p.block pass) next refl (sym (same_next _ next e)) k
  opening_told stmts.BeginRead next result e pass k =
      read_told shown bytes all at ps p stmts.BeginRead result (begins_outside p.block pass) refl
      (subst (λ (n : Next T J). ReachesTo shown bytes all at (rest_next p 0 n) ps p result) (sym (same_next _ next e)) (k bytes (opening_stands bytes stmts.BeginRead next e)))
  opening_told stmts.Commit next result e pass k = commit_told p.block next result refl pass (sym (same_next _ next e)) (k bytes (opening_stands bytes stmts.Commit next e))
  opening_told stmts.Rollback next result e pass k = rollback_told p.block next result refl pass (sym (same_next _ next e)) (k bytes (opening_stands bytes stmts.Rollback next e))
  opening_told other next result e pass k = absurd cc
