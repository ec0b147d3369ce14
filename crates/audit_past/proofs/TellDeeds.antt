-- Store calls over a whole history: each is made at its read position, and a statement continues after its outcome.
use Rattle.std.proofs.Common.{◌≡◌, ℕ, ◌≤◌, true, List, Option, Some, None, sym, refl, ap, ◌∙◌, subst, arith}
use Rattle.std.specs.Prelude.{Result, Ok, Err, IfOk}
use Rattle.ts_schema.specs.declared.memory.NoMemory.{NoMemory}
use Rattle.ts_model.specs.declared.snapshots.Shown.{Ghosts as Shown}
use Rattle.ts_model.specs.History.{History, Begins, position, prefix}
use Rattle.ts_model.proofs.HistoryLaws.{begins_prefix, prefix_prefix}
use Rattle.result_text.specs.declared.replies.Said.{Said}
use Rattle.ts_sessions.specs.declared.changes.Completion.{Completion}
use Rattle.ts_sessions.specs.declared.deeds.Deed.{Deed}
use Rattle.ts_sessions.specs.declared.deeds.Deed.TheVariants as deeds
use Rattle.ts_sessions.specs.declared.deeds.Next.{Next}
use Rattle.ts_sessions.specs.declared.deeds.Next.TheVariants as nexts
use Rattle.audit_past.specs.declared.deed_replays.OutcomeAt.{OutcomeAt}
use Rattle.audit_past.specs.declared.deed_replays.StatementOutcome.{StatementOutcome}
use Rattle.audit_past.specs.declared.deed_replays.StepOutcome.{StepOutcome}
use Rattle.ts_sessions.specs.declared.refreshes.RefreshRequest.{RefreshRequest}
use Rattle.ts_sessions.specs.Deeds.{IsAsked, with_line, left, rest, rest_next}
use Rattle.ts_sessions.specs.Places.{Places, Turn}
use Rattle.ts_sessions.specs.Procedures.{Procedure, ends, looks}
use Rattle.ts_sessions.specs.Sessions.{turn_of}
use Rattle.audit_past.specs.ReplaySteps.{AsksThere, GoesTo, IsWent, LedTo, MeetsAt, NextStands, ReachesTo, TellsBy, TellsNothing, after_look, later_looks, next_look, state_of}
use Rattle.audit_past.proofs.TellWalks.{end_reached, led_nothing, led_reached, look_lies, look_nothing, look_tells, nothing_then, reached_then, tells_then}
use Rattle.ts_sessions.proofs.ViewWalks.{view_stays}

-- ---- where a store call is made

-- a statement reads before its store call
rest_looks : {T J : Type 0} (p : Places) (read : ℕ) (d : Deed T J) → rest p read d ≡ looks (λ g. after_look g (rest p read d))
rest_looks p read (deeds.Cut asked then) = refl
rest_looks p read other = refl

deed_nothing : {T J : Type 0} (p : Places) (read : ℕ) (all : History) (at : ℕ) (ps : List ℕ) (d : Deed T J) → next_look all at ps ≡ None → TellsNothing all at (rest p read d) ps
deed_nothing p read all at ps d e = subst (λ x. TellsNothing all at x ps) (sym (rest_looks p read d)) (look_nothing all at (λ h. true) (λ g. after_look g (rest p read d)) ps e refl)

deed_meets : {T J : Type 0} (p : Places) (read : ℕ) (all : History) (at look : ℕ) (ps : List ℕ) (d : Deed T J) → next_look all at ps ≡ Some look → TellsBy all at (rest p read d) ps look (after_look (prefix all look) (rest p read d)) (later_looks ps)
deed_meets p read all at look ps d e = subst (λ x. TellsBy all at x ps look (after_look (prefix all look) (rest p read d)) (later_looks ps)) (sym (rest_looks p read d)) (look_tells all at look (λ h. true) (λ g. after_look g (rest p read d)) ps e refl)

prefix_later : (all : History) (a b : ℕ) → a ≤ b → Begins (prefix all a) (prefix all b)
prefix_later all a b le = subst (λ g. Begins g (prefix all b)) (prefix_prefix all a b le) (begins_prefix (prefix all b) a)

asked_later : (all : History) (a b : ℕ) (asked : RefreshRequest) → a ≤ b → IsAsked (prefix all a) asked → IsAsked (prefix all b) asked
asked_later all a b asked le k = record { view = view_stays (prefix all a) (prefix all b) asked.view (prefix_later all a b le) k.view; low = k.low; high = k.high }

-- an aggregate that exists still exists where the store call is made
pub deed_asks : {T J : Type 0} (all : History) (at look : ℕ) (ps : List ℕ) (d : Deed T J) → next_look all at ps ≡ Some look → AsksThere d (prefix all at) → AsksThere d (prefix all look)
deed_asks all at look ps (deeds.Cut asked then) e k = asked_later all at look asked (look_lies all at look ps e).low k
deed_asks all at look ps other e k = tt

-- the same for what comes next
pub next_asks : {T J : Type 0} (shown : Shown T J) (bytes : ℕ) (all : History) (at : ℕ) (next : Next T J) (d : Deed T J) → next ≡ nexts.Deed d → NextStands shown bytes all at next → AsksThere d (prefix all at)
next_asks shown bytes all at next d e k = subst (NextStands shown bytes all at) e k

-- the outcome of a store call that equals another
pub deed_met : {T J : Type 0} (shown : Shown T J) (all : History) (at : ℕ) (deed like : Deed T J) (o : Option (OutcomeAt T)) → deed ≡ like → MeetsAt shown all at (left like) (λ p read. after_look (prefix all at) (rest p read like)) o → MeetsAt shown all at (left deed) (λ p read. after_look (prefix all at) (rest p read deed)) o
deed_met {T} {J} shown all at deed like o e w = subst (λ (d : Deed T J). MeetsAt shown all at (left d) (λ p read. after_look (prefix all at) (rest p read d)) o) (sym e) w

pub deed_goes : {T J : Type 0} (shown : Shown T J) (all : History) (at : ℕ) (deed like : Deed T J) (result : Result (Option (OutcomeAt T)) NoMemory) → deed ≡ like → IfOk result (MeetsAt shown all at (left like) (λ p read. after_look (prefix all at) (rest p read like))) → IfOk result (MeetsAt shown all at (left deed) (λ p read. after_look (prefix all at) (rest p read deed)))
deed_goes shown all at deed like (Ok o) e w = deed_met shown all at deed like o e w
deed_goes shown all at deed like (Err x) e w = tt

-- the outcome of a store call
pub went_is : {T J : Type 0} (shown : Shown T J) (all : History) (at before : ℕ) (procedure : Places → ℕ → Procedure (Turn Places)) (o : Option (StepOutcome T J)) (w : StepOutcome T J) → o ≡ Some w → GoesTo shown all at before procedure (Ok o) → IsWent shown all at before procedure w
went_is {T} {J} shown all at before procedure o w e k = subst (λ (x : Option (StepOutcome T J)). GoesTo shown all at before procedure (Ok x)) e k

pub nothing_is : {T J : Type 0} (shown : Shown T J) (all : History) (at before : ℕ) (procedure : Places → ℕ → Procedure (Turn Places)) (o : Option (StepOutcome T J)) → o ≡ None → GoesTo shown all at before procedure (Ok o) → (p : Places) (read : ℕ) (ps : List ℕ) → TellsNothing all at (procedure p read) ps
nothing_is {T} {J} shown all at before procedure o e k = subst (λ (x : Option (StepOutcome T J)). GoesTo shown all at before procedure (Ok x)) e k

-- ---- the outcome of a statement

pub reaches_then : {T J : Type 0} (shown : Shown T J) (bytes : ℕ) (all : History) (a b : ℕ) (first second : Procedure (Turn Places)) (ps qs : List ℕ) (p : Places) (result : Result (Option (StatementOutcome T J)) NoMemory) → TellsBy all a first ps b second qs → a ≤ b → ReachesTo shown bytes all b second qs p result → ReachesTo shown bytes all a first ps p result
reaches_then shown bytes all a b first second ps qs p (Ok (Some r)) v le i = reached_then shown bytes all a b first second ps qs p r v le i
reaches_then shown bytes all a b first second ps qs p (Ok None) v le n = nothing_then all a b first second ps qs v n
reaches_then shown bytes all a b first second ps qs p (Err e) v le n = tt

-- the same after an earlier line of the reply
pub led_reaches : {T J : Type 0} (shown : Shown T J) (bytes : ℕ) (line : Option Said) (all : History) (at : ℕ) (procedure : Procedure (Turn Places)) (ps : List ℕ) (p : Places) (o : Option (StatementOutcome T J)) (result : Result (Option (StatementOutcome T J)) NoMemory) → LedTo line o result → ReachesTo shown bytes all at procedure ps p (Ok o) → ReachesTo shown bytes all at (with_line line procedure) ps p result
led_reaches shown bytes line all at procedure ps p None (Ok x) w n = subst (λ y. ReachesTo shown bytes all at (with_line line procedure) ps p (Ok y)) (sym w) (led_nothing line all at procedure ps n)
led_reaches shown bytes line all at procedure ps p (Some r) (Ok (Some q)) w i = led_reached shown bytes line all at procedure ps p r q w.0 w.1 i
led_reaches shown bytes line all at procedure ps p (Some r) (Ok None) w i = absurd w
led_reaches shown bytes line all at procedure ps p None (Err e) w n = tt
led_reaches shown bytes line all at procedure ps p (Some r) (Err e) w i = tt

-- ---- a statement continues

-- its end
pub went_ends : {T J : Type 0} (shown : Shown T J) (bytes : ℕ) (line : Option Said) (all : History) (at : ℕ) (ps : List ℕ) (p : Places) (read : ℕ) (next : Next T J) (t : Completion T J) (result : Result (Option (StatementOutcome T J)) NoMemory) → next ≡ nexts.End t → at ≤ position all → NextStands shown bytes all at next → LedTo line (Some (record { completion = t; last = at })) result → ReachesTo shown bytes all at (with_line line (rest_next p read next)) ps p result
went_ends {T} {J} shown bytes line all at ps p read next t result e within k w =
    subst (λ (n : Next T J). ReachesTo shown bytes all at (with_line line (rest_next p read n)) ps p result) (sym e)
    (led_reaches shown bytes line all at (ends (turn_of p read t)) ps p (Some (record { completion = t; last = at })) result w
    (end_reached shown bytes all at ps p read t within (subst (NextStands shown bytes all at) e k)))

-- a store call that has no position
pub went_nowhere : {T J : Type 0} (line : Option Said) (all : History) (at : ℕ) (ps : List ℕ) (p : Places) (read : ℕ) (next : Next T J) (d : Deed T J) → next ≡ nexts.Deed d → next_look all at ps ≡ None → TellsNothing all at (with_line line (rest_next p read next)) ps
went_nowhere {T} {J} line all at ps p read next d e none =
    subst (λ (n : Next T J). TellsNothing all at (with_line line (rest_next p read n)) ps) (sym e)
    (led_nothing line all at (rest p read d) ps (deed_nothing p read all at ps d none))

-- a store call that the history doesn't explain
pub went_to_nothing : {T J : Type 0} (line : Option Said) (all : History) (at look : ℕ) (ps : List ℕ) (p : Places) (read : ℕ) (next : Next T J) (d : Deed T J) → next ≡ nexts.Deed d → next_look all at ps ≡ Some look → TellsNothing all look (after_look (prefix all look) (rest p read d)) (later_looks ps) → TellsNothing all at (with_line line (rest_next p read next)) ps
went_to_nothing {T} {J} line all at look ps p read next d e is none =
    subst (λ (n : Next T J). TellsNothing all at (with_line line (rest_next p read n)) ps) (sym e)
    (led_nothing line all at (rest p read d) ps
    (nothing_then all at look (rest p read d) (after_look (prefix all look) (rest p read d)) ps (later_looks ps) (deed_meets p read all at look ps d is) none))

-- a store call, and the rest of the statement after it
pub went_on : {T J : Type 0} (shown : Shown T J) (bytes : ℕ) (line : Option Said) (all : History) (at look before : ℕ) (ps later : List ℕ) (p : Places) (read : ℕ) (next : Next T J) (d : Deed T J) (w : StepOutcome T J) (o : Option (StatementOutcome T J)) (result : Result (Option (StatementOutcome T J)) NoMemory) → at ≤ position all → next ≡ nexts.Deed d → next_look all at ps ≡ Some look → later ≡ later_looks ps → IsWent shown all look before (λ q n. after_look (prefix all look) (rest q n d)) w → ((n : ℕ) → ReachesTo shown bytes all w.at (with_line w.said (rest_next p n w.next)) later p (Ok o)) → LedTo line o result → ReachesTo shown bytes all at (with_line line (rest_next p read next)) ps p result
went_on {T} {J} shown bytes line all at look before ps later p read next d w o result within e is same went reaches l =
    let procedure = rest p read d in
    let left = with_line w.said (rest_next p (went.read_then read) w.next) in
    let from_here = tells_then all at look w.at procedure (after_look (prefix all look) (rest p read d)) left ps (later_looks ps) (later_looks ps) (deed_meets p read all at look ps d is) (went.tells p read (later_looks ps)) in
    let low : at ≤ look = (look_lies all at look ps is).low in
    let up : look ≤ w.at = went.low in
    subst (λ (n : Next T J). ReachesTo shown bytes all at (with_line line (rest_next p read n)) ps p result) (sym e)
    (led_reaches shown bytes line all at procedure ps p o result l
    (reaches_then shown bytes all at w.at procedure left ps (later_looks ps) p (Ok o) from_here (omega (arith, low, up)) (subst (λ qs. ReachesTo shown bytes all w.at left qs p (Ok o)) same (reaches (went.read_then read)))))
