-- What follows a store call leaves what the call left.
use Rattle.std.proofs.Common.{◌≡◌, ℕ, ◌≤◌, ◌<◌, ◌^◌, sym, refl, ap, ◌∙◌, subst, arith}
use Rattle.std.specs.Prelude.{Result, Ok, Err, IfOk}
use Rattle.ts_schema.specs.Counts.{raised_by}
use Rattle.ts_schema.specs.declared.memory.NoMemory.{NoMemory}
use Rattle.ts_model.specs.declared.outcomes.Refusal.{Refusal}
use Rattle.ts_model.specs.declared.snapshots.Shown.{Ghosts as Shown}
use Rattle.ts_model.specs.History.{History}
use Rattle.result_text.specs.declared.replies.Said.{Said}
use Rattle.ts_sessions.specs.declared.calls.CallOutcome.{CallOutcome}
use Rattle.ts_sessions.specs.declared.calls.CallOutcome.TheVariants as outcomes
use Rattle.ts_sessions.specs.declared.changes.Change.{Change}
use Rattle.ts_sessions.specs.declared.deeds.AfterLook.{AfterLook}
use Rattle.ts_sessions.specs.declared.deeds.AfterCut.TheVariants as after_cuts
use Rattle.ts_sessions.specs.declared.deeds.Deed.TheVariants as deeds
use Rattle.ts_sessions.specs.declared.deeds.Next.{Next}
use Rattle.ts_sessions.specs.declared.deeds.Next.TheVariants as nexts
use Rattle.ts_sessions.specs.declared.refreshes.RefreshRequest.{RefreshRequest}
use Rattle.ts_sessions.specs.declared.refreshes.SnapOutcome.{SnapOutcome}
use Rattle.ts_sessions.specs.Calls.{Follows, FollowsSnapshot, FollowsTo, IsFollowed, spent_after}
use Rattle.ts_sessions.specs.Deeds.{IsAsked, look_left, look_meets, said_once}
use Rattle.ts_sessions.specs.Places.{Places, Turn, turns}
use Rattle.ts_sessions.specs.Procedures.{Procedure, ends}
use Rattle.ts_sessions.specs.Sessions.{ChangeHolds, FitsSnapped, IsTakenAs, places_after, read_by, taken_as}
use Rattle.ts_sessions.specs.Step.{Taken, snapshot_taken}

-- an outcome that equals another
pub outcome_follows : {T J : Type 0} (shown : Shown T J) (h : History) (outcome like : CallOutcome T) (result : Result (Next T J) NoMemory) (before after : ℕ) → outcome ≡ like → FollowsTo shown h like result before after → FollowsTo shown h outcome result before after
outcome_follows {T} shown h outcome like result before after e w = subst (λ (o : CallOutcome T). FollowsTo shown h o result before after) (sym e) w

-- what follows a call after which no more rows are read
follows_like : {T J : Type 0} (shown : Shown T J) (h : History) (like : CallOutcome T) (result : Result (Next T J) NoMemory) (n : ℕ) → IfOk result (Follows shown h like) → FollowsTo shown h like result n n
follows_like shown h like (Ok next) n w = record {
  read_then = λ read. spent_after read like;
  rest_so = w.rest_so;
  fits = λ s bytes e. w.fits s bytes;
  spent_so = w.spent_so;
  shorter = w.shorter;
  counted = λ read from had. had;
  rose = omega arith;
}
follows_like shown h like (Err e) n w = let rose : n ≤ n = omega arith in rose

pub follows_to : {T J : Type 0} (shown : Shown T J) (h : History) (outcome like : CallOutcome T) (result : Result (Next T J) NoMemory) (n : ℕ) → outcome ≡ like → IfOk result (Follows shown h like) → FollowsTo shown h outcome result n n
follows_to shown h outcome like result n e w = outcome_follows shown h outcome like result n n e (follows_like shown h like result n w)

-- an aggregate that was found is refreshed
pub found_follows : {T J : Type 0} (shown : Shown T J) (h : History) (outcome : CallOutcome T) (asked : RefreshRequest) (n : ℕ) → outcome ≡ outcomes.Found asked → IsAsked h asked → IsFollowed {T = T} {J = J} shown h outcome (nexts.Deed (deeds.Cut asked after_cuts.Refresh)) n n
found_follows {T} {J} shown h outcome asked n e asks =
    subst (λ (o : CallOutcome T). IsFollowed {T = T} {J = J} shown h o (nexts.Deed (deeds.Cut asked after_cuts.Refresh)) n n) (sym e)
    (record {
      read_then = λ read. 0;
      rest_so = λ p read. refl;
      fits = λ s bytes i. subst (λ g. IsAsked g asked) (sym i) asks;
      spent_so = λ read. refl;
      shorter = omega arith;
      counted = λ read from had. had;
      rose = omega arith;
    })

-- ---- looks

raised_twice : (from before after r : ℕ) → before ≡ raised_by 0 from → after ≡ raised_by r before → after ≡ raised_by r from
raised_twice from before after r had counted = omega (arith, had, counted)

raised_more : (before after r : ℕ) → before < 2 ^ 64 → after ≡ raised_by r before → before ≤ after
raised_more before after r short counted = omega (arith, short, counted)

-- one line is said
said_looks : {T J : Type 0} (shown : Shown T J) (h : History) (then : AfterLook) (shot : T) (line : Said) (change : Change T J) (n : ℕ) → look_meets then ≡ 1 → ((p : Places) → ends (turns (places_after change p) line) ≡ look_left p h then) → ((bytes : ℕ) → ChangeHolds shown bytes change h) → IsFollowed shown h (outcomes.Look then shot) (said_once line change) n n
said_looks shown h then shot line change n one same k = record {
  read_then = λ read. 0;
  rest_so = λ p read. same p;
  fits = λ s bytes e. record { change = subst (λ g. ChangeHolds shown bytes change g) (sym e) (k bytes); stands = refl };
  spent_so = λ read. refl;
  shorter = omega (arith, one);
  counted = λ read from had. had;
  rose = omega arith;
}

pub look_says : {T J : Type 0} (shown : Shown T J) (h : History) (then like : AfterLook) (shot : T) (result : Result (Next T J) NoMemory) (line : Said) (change : Change T J) (n : ℕ) → then ≡ like → look_meets like ≡ 1 → IfOk result (λ x. x ≡ said_once line change) → ((p : Places) → ends (turns (places_after change p) line) ≡ look_left p h like) → ((bytes : ℕ) → ChangeHolds shown bytes change h) → FollowsTo shown h (outcomes.Look then shot) result n n
look_says {T} {J} shown h then like shot (Ok x) line change n e one is same k =
    subst (λ (a : AfterLook). IsFollowed shown h (outcomes.Look a shot) x n n) (sym e) (subst (λ (y : Next T J). IsFollowed shown h (outcomes.Look like shot) y n n) (sym is) (said_looks shown h like shot line change n one same k))
look_says shown h then like shot (Err x) line change n e one is same k = let rose : n ≤ n = omega arith in rose

-- a snapshot for a refresh
pub look_snaps : {T J : Type 0} (shown : Shown T J) (h : History) (then like : AfterLook) (shot : T) (c : ℕ) (k : Places → Result Taken Refusal → Procedure (Turn Places)) (s : SnapOutcome J) (result : Result (Next T J) NoMemory) (before after : ℕ) → before < 2 ^ 64 → then ≡ like → ((p : Places) → k p (snapshot_taken c h) ≡ look_left p h like) → IfOk result (FollowsSnapshot shown c (look_meets like) s k) → IsTakenAs h c s before after → FitsSnapped shown c h s → FollowsTo shown h (outcomes.Look then shot) result before after
look_snaps {T} {J} shown h then like shot c k s (Ok x) before after short e same follows t fits =
    subst (λ (a : AfterLook). IsFollowed shown h (outcomes.Look a shot) x before after) (sym e)
    (record {
      read_then = λ read. read_by t.read s;
      rest_so = λ p read. follows.rest_so p t.read ∙ ap (k p) t.is ∙ same p;
      fits = λ u bytes i. follows.fits u bytes (subst (λ g. FitsSnapped shown c g s) (sym i) fits);
      spent_so = λ read. follows.spent_so t.read;
      shorter = follows.shorter;
      counted = λ read from had. raised_twice from before after (read_by t.read s) had t.counted;
      rose = raised_more before after (read_by t.read s) short t.counted;
    })
look_snaps shown h then like shot c k s (Err x) before after short e same follows t fits = raised_more before after (read_by t.read s) short t.counted
