-- Statements with names: the rest is what was resolved, and it fits the state of the store.
use Rattle.std.proofs.Common.{◌≡◌, ℕ, ◌+◌, ◌<◌, ◌^◌, ◌++◌, Bool, true, false, ◌∷◌, [], Some, None, Option, sym, refl, ap, ◌∙◌, subst}
use Rattle.std.specs.Prelude.{Result, IfOk, IsTrue, is_some}
use Rattle.ts_schema.specs.declared.memory.NoMemory.{NoMemory}
use Rattle.ts_model.specs.declared.events.Op.{Op}
use Rattle.ts_model.specs.declared.outcomes.Refusal.{Refusal}
use Rattle.ts_model.specs.declared.rosters.Roster.{Roster}
use Rattle.ts_model.specs.declared.snapshots.Shown.{Ghosts as Shown}
use Rattle.ts_model.specs.Allowed.{all_allowed}
use Rattle.ts_model.specs.Answers.{can_ask}
use Rattle.ts_model.specs.Calls.{act_of_cut}
use Rattle.ts_model.specs.History.{History, position}
use Rattle.ts_model.specs.Roster.{roster}
use Rattle.ts_model.specs.States.{State}
use Rattle.stmt_syntax.specs.declared.statements.Stmt.{Stmt}
use Rattle.stmt_check.specs.declared.actions.Action.{Action}
use Rattle.stmt_check.specs.declared.actions.Action.TheVariants as actions
use Rattle.stmt_check.specs.Check.{action_of, refusal_of}
use Rattle.stmt_check.specs.Sound.{IsOperation, IsSound}
use Rattle.hier_agg.specs.declared.reads.UpperRead.{UpperRead}
use Rattle.hier_agg.specs.declared.reads.UpperRead.TheVariants as uppers
use Rattle.hier_agg.specs.Reads.{upper_read}
use Rattle.hier_agg.proofs.Fitting.{plans_ask}
use Rattle.result_text.specs.declared.replies.Said.TheVariants as said
use Rattle.ts_sessions.specs.declared.deeds.Deed.{Deed}
use Rattle.ts_sessions.specs.declared.deeds.Next.{Next}
use Rattle.ts_sessions.specs.declared.deeds.Next.TheVariants as nexts
use Rattle.ts_sessions.specs.declared.kinds.StatementKind.{StatementKind}
use Rattle.ts_sessions.specs.declared.kinds.StatementKind.TheVariants as kinds
use Rattle.ts_sessions.specs.declared.name_checks.Resolved.{Resolved}
use Rattle.ts_sessions.specs.declared.name_checks.Resolved.TheVariants as meant
use Rattle.ts_sessions.specs.declared.queries.Plan.{Plan}
use Rattle.ts_sessions.specs.Deeds.{DeedFits, IsFormed, Leads, NextFits, Opens, OpensTo, rest, rest_next}
use Rattle.ts_sessions.specs.ResolvedNames.{asked_by, change_left, change_next, checked_as, left_of, looks_at_names, meant_by, meant_left, read_as}
use Rattle.ts_sessions.specs.Places.{Block, Places, enters, none, reading, turns, writing, refuses}
use Rattle.ts_sessions.specs.Procedures.{ending_as, ends, followed_by, looks, tries_at}
use Rattle.ts_sessions.specs.Sessions.{queued_on}
use Rattle.ts_sessions.specs.Sound.{AsksSoundly, kind_of_action}
use Rattle.ts_sessions.specs.Step.{acts, after_cut, block_refusal, changes, cut_turn, kind_of, makes_event, turn_of_names, named_as, named_first, named_here, performs, prints, read_at, looks_twice, unless}
use Rattle.ts_sessions.specs.Walks.{Breaks, Sees}
use Rattle.ts_sessions.proofs.CalendarLaws.{calendar_asked, rows_asked}
use Rattle.ts_sessions.proofs.DeedWalks.{leads_then, looks_leads}
use Rattle.ts_sessions.proofs.FirstLaws.{opens_as, opens_here, opens_if, saw_leads}
use Rattle.ts_sessions.proofs.HeldDeeds.{leads_same}
use Rattle.ts_sessions.proofs.NamedLaws.{not_upper, once_outside, performs_holds, twice_outside}
use Rattle.ts_sessions.proofs.NameWalks.{least_stays}
use Rattle.ts_sessions.proofs.SoundLaws.{kinds_agree}
use Rattle.ts_sessions.proofs.WalkLaws.{not_begun}

-- ---- statements resolved by the names of a snapshot

-- a plan fits a roster
pub record PlanFits (r : Roster) (plan : Plan) : Type 0 where
  pub formed : IsFormed r plan plan.form
  pub asks : IsTrue (can_ask r plan.query)

-- a statement of this kind resolves to this by the names of a roster
abbrev pub IsMeant : {T J : Type 0} → Roster → StatementKind → Resolved T J → Type 0
IsMeant r kind (meant.Refused q) = Unit {0}
IsMeant r kind (meant.Shows plan) = PlanFits r plan
IsMeant r kind (meant.Changes op) = kind ≡ kinds.Changes
IsMeant r kind (meant.Does deed) = Unit {0}

asked_meant : {T J : Type 0} (shown : Shown T J) (h : History) (bytes : ℕ) (a : Action) → IsSound h bytes a → IsMeant {T = T} {J = J} (roster h) (kind_of_action a) (asked_by (roster h) a)
asked_meant shown h bytes (actions.Ask q) k = record { formed = tt; asks = k }
asked_meant shown h bytes (actions.Calendar t number unit at fold) k = record { formed = calendar_asked h t number unit at fold k; asks = rows_asked h t number unit at fold k }
asked_meant shown h bytes (actions.Change op) k = refl
asked_meant shown h bytes other k = tt

module _ {T J : Type 0} (shown : Shown T J) (bytes : ℕ) (stmt : Stmt) (h : History) (sound : AsksSoundly bytes stmt) (ok : IsTrue (all_allowed h)) where
  checked_meant : (o : Option Refusal) → refusal_of (position h) (roster h) stmt ≡ o → IsMeant {T = T} {J = J} (roster h) (kind_of stmt) (checked_as (roster h) stmt o)
  checked_meant (Some q) e = tt
  checked_meant None e = subst (λ k. IsMeant {T = T} {J = J} (roster h) k (asked_by (roster h) (action_of (roster h) stmt))) (kinds_agree (roster h) stmt) (asked_meant shown h bytes (action_of (roster h) stmt) (sound h ok e))

  read_meant : (u : UpperRead) → upper_read (position h) (roster h) stmt ≡ u → IsMeant {T = T} {J = J} (roster h) (kind_of stmt) (read_as (position h) (roster h) stmt u)
  read_meant (uppers.Plan plan) e = record { formed = refl; asks = plans_ask (position h) (roster h) stmt plan e }
  read_meant (uppers.Refused q) e = tt
  read_meant uppers.NotUpper e = checked_meant (refusal_of (position h) (roster h) stmt) refl
  read_meant uppers.NoMemory e = checked_meant (refusal_of (position h) (roster h) stmt) refl

  -- the same by a snapshot's position and roster
  is_meant : (pos : ℕ) (r : Roster) (m : Resolved T J) → pos ≡ position h → r ≡ roster h → m ≡ meant_by pos r stmt → IsMeant (roster h) (kind_of stmt) m
  is_meant pos r m e f i = subst (IsMeant (roster h) (kind_of stmt)) (sym (i ∙ ap (λ x. meant_by x r stmt) e ∙ ap (λ x. meant_by (position h) x stmt) f)) (read_meant (upper_read (position h) (roster h) stmt) refl)

  -- a plan fits each history of the snapshot
  pub plan_fits : (g : History) (pos : ℕ) (r : Roster) (m : Resolved T J) (plan : Plan) → pos ≡ position h → r ≡ roster h → r ≡ roster g → m ≡ meant_by pos r stmt → m ≡ meant.Shows plan → PlanFits (roster g) plan
  plan_fits g pos r m plan e f k i is = subst (λ x. PlanFits x plan) (sym f ∙ k) (subst (IsMeant (roster h) (kind_of stmt)) is (is_meant pos r m e f i))

  -- a statement resolves to an operation only if the block lets changes pass
  pub change_passes : (b : Block) (pos : ℕ) (r : Roster) (m : Resolved T J) (op : Op) → block_refusal b (kind_of stmt) ≡ None → pos ≡ position h → r ≡ roster h → m ≡ meant_by pos r stmt → m ≡ meant.Changes op → block_refusal b kinds.Changes ≡ None
  change_passes b pos r m op pass e f i is =
      let kind : kind_of stmt ≡ kinds.Changes = subst (IsMeant (roster h) (kind_of stmt)) is (is_meant pos r m e f i) in
      subst (λ k. block_refusal b k ≡ None) kind pass

-- ---- store calls and operations

-- a resolved statement fits the state of the store
abbrev pub MeantFits : {T J : Type 0} → Shown T J → Block → ℕ → State → Resolved T J → Type 0
MeantFits shown b bytes s (meant.Refused q) = Unit {0}
MeantFits shown b bytes s (meant.Shows plan) = Unit {0}
MeantFits shown b bytes s (meant.Changes op) = IsOperation s.history bytes op
MeantFits shown b bytes s (meant.Does deed) = DeedFits shown deed s × (b ≡ none)

-- an action that the block of its session lets pass
asked_fits : {T J : Type 0} (shown : Shown T J) (b : Block) (bytes : ℕ) (s : State) (a : Action) → looks_at_names (kind_of_action a) ≡ true → block_refusal b (kind_of_action a) ≡ None → IsSound (read_at b s.history) bytes a → MeantFits shown b bytes s (asked_by (roster (read_at b s.history)) a)
asked_fits shown none bytes s (actions.Table def) look pass k = (k.is_sound, refl)
asked_fits shown none bytes s (actions.Hyper t hyper) look pass k = (k.is_sound, refl)
asked_fits shown none bytes s (actions.View def filled) look pass k = (k.event.is_sound, refl)
asked_fits shown none bytes s (actions.Mode n only) look pass k = (k.is_sound, refl)
asked_fits shown none bytes s (actions.Change op) look pass k = k
asked_fits shown none bytes s (actions.Refresh n lo hi) look pass k = (record { view = k.there; low = k.low; high = k.high }, refl)
asked_fits shown none bytes s (actions.Cut n lo hi) look pass k = (record { view = k.there; low = k.low; high = k.high }, refl)
asked_fits shown (writing ops n) bytes s (actions.Change op) look pass k = k
asked_fits shown b bytes s (actions.Ask q) look pass k = tt
asked_fits shown b bytes s (actions.Calendar t number unit at fold) look pass k = tt
asked_fits shown none bytes s other look pass k = absurd cc
asked_fits shown (writing ops n) bytes s other look pass k = absurd cc
asked_fits shown (reading at) bytes s other look pass k = absurd cc

checked_fits : {T J : Type 0} (shown : Shown T J) (b : Block) (bytes : ℕ) (s : State) (stmt : Stmt) (o : Option Refusal) → looks_at_names (kind_of stmt) ≡ true → block_refusal b (kind_of stmt) ≡ None → AsksSoundly bytes stmt → IsTrue (all_allowed (read_at b s.history)) → refusal_of (position (read_at b s.history)) (roster (read_at b s.history)) stmt ≡ o → MeantFits shown b bytes s (checked_as (roster (read_at b s.history)) stmt o)
checked_fits shown b bytes s stmt (Some q) look pass sound ok e = tt
checked_fits shown b bytes s stmt None look pass sound ok e =
    let h = read_at b s.history in
    let kind : kind_of stmt ≡ kind_of_action (action_of (roster h) stmt) = sym (kinds_agree (roster h) stmt) in
    asked_fits shown b bytes s (action_of (roster h) stmt) (subst (λ k. looks_at_names k ≡ true) kind look) (subst (λ k. block_refusal b k ≡ None) kind pass) (sound h ok e)

read_fits : {T J : Type 0} (shown : Shown T J) (b : Block) (bytes : ℕ) (s : State) (stmt : Stmt) (u : UpperRead) → looks_at_names (kind_of stmt) ≡ true → block_refusal b (kind_of stmt) ≡ None → AsksSoundly bytes stmt → IsTrue (all_allowed (read_at b s.history)) → upper_read (position (read_at b s.history)) (roster (read_at b s.history)) stmt ≡ u → MeantFits shown b bytes s (read_as (position (read_at b s.history)) (roster (read_at b s.history)) stmt u)
read_fits shown b bytes s stmt (uppers.Plan plan) look pass sound ok e = tt
read_fits shown b bytes s stmt (uppers.Refused q) look pass sound ok e = tt
read_fits shown b bytes s stmt uppers.NotUpper look pass sound ok e = checked_fits shown b bytes s stmt (refusal_of (position (read_at b s.history)) (roster (read_at b s.history)) stmt) look pass sound ok refl
read_fits shown b bytes s stmt uppers.NoMemory look pass sound ok e = checked_fits shown b bytes s stmt (refusal_of (position (read_at b s.history)) (roster (read_at b s.history)) stmt) look pass sound ok refl

-- the same by a snapshot's position and roster
pub meant_fits : {T J : Type 0} (shown : Shown T J) (b : Block) (bytes : ℕ) (s : State) (stmt : Stmt) (pos : ℕ) (r : Roster) (m : Resolved T J) → IsTrue (looks_at_names (kind_of stmt)) → block_refusal b (kind_of stmt) ≡ None → AsksSoundly bytes stmt → IsTrue (all_allowed (read_at b s.history)) → pos ≡ position (read_at b s.history) → r ≡ roster (read_at b s.history) → m ≡ meant_by pos r stmt → MeantFits shown b bytes s m
meant_fits shown b bytes s stmt pos r m look pass sound ok e f i =
    let h = read_at b s.history in
    subst (MeantFits shown b bytes s) (sym (i ∙ ap (λ x. meant_by x r stmt) e ∙ ap (λ x. meant_by (position h) x stmt) f))
    (read_fits shown b bytes s stmt (upper_read (position h) (roster h) stmt) look pass sound ok refl)

-- ---- the rest is the resolved statement

-- an action that appends no event directly after the read, or appends it there
acts_left : {T J : Type 0} (shown : Shown T J) (p : Places) (bytes : ℕ) (b : Block) (h : History) (a : Action) → looks_at_names (kind_of_action a) ≡ true → block_refusal b (kind_of_action a) ≡ None → (b ≡ none → makes_event (kind_of_action a) ≡ false) → acts p bytes h a ≡ meant_left {T = T} {J = J} p bytes b h (asked_by (roster h) a)
acts_left shown p bytes b h (actions.Ask q) look pass k = refl
acts_left shown p bytes b h (actions.Calendar t number unit at fold) look pass k = refl
acts_left shown p bytes (writing ops n) h (actions.Change op) look pass k = refl
acts_left shown p bytes none h other look pass k = let e = k refl in absurd cc
acts_left shown p bytes (writing ops n) h other look pass k = absurd cc
acts_left shown p bytes (reading at) h other look pass k = absurd cc

pub named_left : {T J : Type 0} (shown : Shown T J) (p : Places) (bytes : ℕ) (b : Block) (h : History) (stmt : Stmt) → looks_at_names (kind_of stmt) ≡ true → block_refusal b (kind_of stmt) ≡ None → (b ≡ none → makes_event (kind_of stmt) ≡ false) → turn_of_names p bytes stmt h ≡ meant_left {T = T} {J = J} p bytes b h (meant_by (position h) (roster h) stmt)
named_left {T} {J} shown p bytes b h stmt look pass k = read_left (upper_read (position h) (roster h) stmt)
  where
    checked_left : (o : Option Refusal) → unless p o (acts p bytes h (action_of (roster h) stmt)) ≡ meant_left {T = T} {J = J} p bytes b h (checked_as (roster h) stmt o)
    checked_left (Some q) = refl
    checked_left None =
        let kind : kind_of stmt ≡ kind_of_action (action_of (roster h) stmt) = sym (kinds_agree (roster h) stmt) in
        acts_left shown p bytes b h (action_of (roster h) stmt) (subst (λ x. looks_at_names x ≡ true) kind look) (subst (λ x. block_refusal b x ≡ None) kind pass) (λ e. subst (λ x. makes_event x ≡ false) kind (k e))

    read_left : (u : UpperRead) → named_as p bytes h stmt u ≡ meant_left {T = T} {J = J} p bytes b h (read_as (position h) (roster h) stmt u)
    read_left (uppers.Plan plan) = refl
    read_left (uppers.Refused q) = refl
    read_left uppers.NotUpper = checked_left (refusal_of (position h) (roster h) stmt)
    read_left uppers.NoMemory = checked_left (refusal_of (position h) (roster h) stmt)

-- an event outside a block, with a separate read
event_left : {T J : Type 0} (shown : Shown T J) (alone : Bool) (s : State) (p : Places) (bytes : ℕ) (a : Action) → makes_event (kind_of_action a) ≡ true → IsSound s.history bytes a → Leads alone false s (looks (λ h. acts p bytes h a)) s (meant_left {T = T} {J = J} p bytes none s.history (asked_by (roster s.history) a))
event_left shown alone s p bytes (actions.Table def) e k = leads_same alone s (looks (λ h. acts p bytes h (actions.Table def)))
event_left shown alone s p bytes (actions.Hyper t hyper) e k = leads_same alone s (looks (λ h. acts p bytes h (actions.Hyper t hyper)))
event_left shown alone s p bytes (actions.View def filled) e k = leads_same alone s (looks (λ h. acts p bytes h (actions.View def filled)))
event_left shown alone s p bytes (actions.Mode n only) e k = leads_same alone s (looks (λ h. acts p bytes h (actions.Mode n only)))
event_left shown alone s p bytes (actions.Change op) e k = leads_same alone s (looks (λ h. acts p bytes h (actions.Change op)))
event_left shown alone s p bytes (actions.Refresh n lo hi) e k = looks_leads alone s (λ h. true) (λ h. acts p bytes h (actions.Refresh n lo hi)) _ (λ h on. ap (λ m. followed_by (tries_at h (act_of_cut n lo hi h)) (after_cut p m)) (least_stays s.history h n on k.there))
event_left shown alone s p bytes (actions.Cut n lo hi) e k = looks_leads alone s (λ h. true) (λ h. acts p bytes h (actions.Cut n lo hi)) _ (λ h on. ap (λ m. ending_as (cut_turn p m) (tries_at h (act_of_cut n lo hi h))) (least_stays s.history h n on k.there))
event_left shown alone s p bytes other e k = absurd cc

first_left : {T J : Type 0} (shown : Shown T J) (alone : Bool) (s : State) (p : Places) (bytes : ℕ) (stmt : Stmt) (o : Option Refusal) → makes_event (kind_of stmt) ≡ true → AsksSoundly bytes stmt → IsTrue (all_allowed s.history) → refusal_of (position s.history) (roster s.history) stmt ≡ o → Leads alone false s (unless p o (looks (λ h. acts p bytes h (action_of (roster s.history) stmt)))) s (meant_left {T = T} {J = J} p bytes none s.history (checked_as (roster s.history) stmt o))
first_left shown alone s p bytes stmt (Some q) e sound ok i = leads_same alone s (ends (refuses p q))
first_left shown alone s p bytes stmt None e sound ok i = event_left shown alone s p bytes (action_of (roster s.history) stmt) (ap makes_event (kinds_agree (roster s.history) stmt) ∙ e) (sound s.history ok i)

here_leads : {T J : Type 0} (shown : Shown T J) (alone : Bool) (old mid : State) (p : Places) (bytes : ℕ) (stmt : Stmt) → looks_at_names (kind_of stmt) ≡ true → block_refusal p.block (kind_of stmt) ≡ None → (p.block ≡ none → makes_event (kind_of stmt) ≡ false) → Sees alone old mid → Leads alone false old (named_here p bytes stmt) mid (left_of shown p bytes stmt (read_at p.block mid.history))
here_leads {T} {J} shown alone old mid p bytes stmt look pass k s =
    let h = read_at p.block mid.history in
    subst (λ d. Leads alone false old (named_here p bytes stmt) mid d) (named_left shown p bytes p.block h stmt look pass k)
    (saw_leads alone old mid (λ g. prints p.block (kind_of stmt) (roster g) (refusal_of (position g) (roster g) stmt)) (λ g. turn_of_names p bytes stmt (read_at p.block g)) s)

first_leads : {T J : Type 0} (shown : Shown T J) (alone : Bool) (old mid : State) (p : Places) (bytes : ℕ) (stmt : Stmt) → makes_event (kind_of stmt) ≡ true → AsksSoundly bytes stmt → IsTrue (all_allowed mid.history) → Sees alone old mid → Leads alone false old (named_first p bytes stmt) mid (meant_left {T = T} {J = J} p bytes none mid.history (meant_by (position mid.history) (roster mid.history) stmt))
first_leads {T} {J} shown alone old mid p bytes stmt e sound ok s =
    let h = mid.history in
    let r = refusal_of (position h) (roster h) stmt in
    subst (λ u. Leads alone false old (named_first p bytes stmt) mid (meant_left {T = T} {J = J} p bytes none h (read_as (position h) (roster h) stmt u))) (sym (not_upper (position h) (roster h) stmt e))
    (leads_then alone false old (named_first p bytes stmt) mid (unless p r (looks (λ k. acts p bytes k (action_of (roster h) stmt)))) mid (meant_left {T = T} {J = J} p bytes none h (checked_as (roster h) stmt r))
    (saw_leads alone old mid (λ g. is_some (refusal_of (position g) (roster g) stmt)) (λ g. unless p (refusal_of (position g) (roster g) stmt) (looks (λ k. acts p bytes k (action_of (roster g) stmt)))) s)
    (first_left shown alone mid p bytes stmt r e sound ok refl))

-- a statement continues from the history in which its names were resolved
pub looked_leads : {T J : Type 0} (shown : Shown T J) (alone : Bool) (old mid : State) (p : Places) (bytes : ℕ) (stmt : Stmt) → IsTrue (looks_at_names (kind_of stmt)) → block_refusal p.block (kind_of stmt) ≡ None → AsksSoundly bytes stmt → IsTrue (all_allowed (read_at p.block mid.history)) → Sees alone old mid → Leads alone false old (performs p bytes stmt) mid (left_of shown p bytes stmt (read_at p.block mid.history))
looked_leads {T} {J} shown alone old mid p bytes stmt look pass sound ok s =
    performs_holds (λ d. Leads alone false old d mid (left_of shown p bytes stmt (read_at p.block mid.history))) p bytes stmt first
    (λ once. here_leads shown alone old mid p bytes stmt look pass (once_outside p.block (kind_of stmt) once) s)
  where
    first : looks_twice p.block (kind_of stmt) ≡ true → Leads alone false old (named_first p bytes stmt) mid (left_of shown p bytes stmt (read_at p.block mid.history))
    first twice =
        let outside = twice_outside p.block (kind_of stmt) twice in
        subst (λ b. Leads alone false old (named_first p bytes stmt) mid (meant_left {T = T} {J = J} p bytes b (read_at b mid.history) (meant_by (position (read_at b mid.history)) (roster (read_at b mid.history)) stmt))) (sym outside.0)
        (first_leads shown alone old mid p bytes stmt outside.1 sound (subst (λ b. IsTrue (all_allowed (read_at b mid.history))) outside.0 ok) s)

-- out of memory for the snapshot
pub looked_broken : (alone : Bool) (old mid : State) (p : Places) (bytes : ℕ) (stmt : Stmt) → Sees alone old mid → Breaks alone old (performs p bytes stmt) mid
looked_broken alone old mid p bytes stmt s =
    performs_holds (λ d. Breaks alone old d mid) p bytes stmt
    (λ twice. record { mid = mid; first = s; rest = not_begun alone mid (unless p (refusal_of (position mid.history) (roster mid.history) stmt) (looks (λ h. acts p bytes h (action_of (roster mid.history) stmt)))) })
    (λ once. record { mid = mid; first = s; rest = not_begun alone mid (turn_of_names p bytes stmt (read_at p.block mid.history)) })

-- ---- what comes next

-- the rest of a resolved statement, by a snapshot's position and roster
pub seen_opens : {T J : Type 0} (shown : Shown T J) (bytes : ℕ) (alone : Bool) (s : State) (p : Places) (stmt : Stmt) (h : History) (pos : ℕ) (r : Roster) (m like : Resolved T J) (result : Result (Next T J) NoMemory) (before after : ℕ) → pos ≡ position h → r ≡ roster h → m ≡ meant_by pos r stmt → m ≡ like → OpensTo shown bytes alone s (meant_left p bytes p.block h like) p result s before after → OpensTo shown bytes alone s (left_of shown p bytes stmt h) p result s before after
seen_opens shown bytes alone s p stmt h pos r m like result before after e f i is o =
    opens_as shown bytes alone s (left_of shown p bytes stmt h) (meant_left p bytes p.block h like) p result s before after
    (ap (meant_left p bytes p.block h) (sym (i ∙ ap (λ x. meant_by x r stmt) e ∙ ap (λ x. meant_by (position h) x stmt) f) ∙ is)) o

-- a store call
pub does_opens : {T J : Type 0} (shown : Shown T J) (bytes : ℕ) (alone : Bool) (s : State) (p : Places) (deed : Deed T J) (n : ℕ) → n < 2 ^ 64 → DeedFits shown deed s × (p.block ≡ none) → Opens shown bytes alone s (rest p 0 deed) p (nexts.Deed deed) s n n
does_opens shown bytes alone s p deed n short k =
    opens_here shown bytes alone s (rest p 0 deed) p (nexts.Deed deed) n short (leads_same alone s (rest p 0 deed)) k.0

-- an operation
pub change_opens : {T J : Type 0} (shown : Shown T J) (bytes : ℕ) (alone : Bool) (s : State) (p : Places) (op : Op) (result : Result (Next T J) NoMemory) (n : ℕ) → n < 2 ^ 64 → IsOperation s.history bytes op → block_refusal p.block kinds.Changes ≡ None → IfOk result (λ m. m ≡ change_next p.block bytes op) → OpensTo shown bytes alone s (change_left p bytes op p.block (read_at p.block s.history)) p result s n n
change_opens {T} {J} shown bytes alone s p op result n short is pass e = opens_if shown bytes alone s (change_left p bytes op p.block (read_at p.block s.history)) p result (change_next p.block bytes op) n short e (leads p.block refl) (fits p.block)
  where
    leads : (b : Block) → p.block ≡ b → Leads alone false s (change_left p bytes op b (read_at b s.history)) s (rest_next {T = T} {J = J} p 0 (change_next b bytes op))
    leads none i = looks_leads alone s (λ h. true) (λ h. changes p bytes h op p.block) _ (λ h on. ap (changes p bytes h op) i)
    leads (writing ops m) i = subst (λ b. Leads alone false s (changes p bytes s.history op b) s (ends (turns (enters (queued_on op bytes b) p) said.Queued))) (sym i) (leads_same alone s (ends (turns (enters (writing (ops ++ op ∷ []) (m + bytes)) p) said.Queued)))
    leads (reading at) i = let f : block_refusal (reading at) kinds.Changes ≡ None = subst (λ b. block_refusal b kinds.Changes ≡ None) i pass in absurd cc

    fits : (b : Block) → NextFits shown bytes (change_next b bytes op) s
    fits none = is.event.is_sound
    fits (writing ops m) = record { change = (is, refl); stands = refl }
    fits (reading at) = is.event.is_sound
