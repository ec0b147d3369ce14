-- The store calls of a statement, and the rest of its procedure at each.
use Rattle.std.specs.Prelude.{◌≡◌, ℕ, ◌==◌, ◌≤◌, ◌<◌, ℤ, Bool, true, false, cond, ◌||◌, List, [], ◌∷◌, length, Option, Some, None, option_map, Result, Ok, Err, IfSome, IsSome, IsTrue, ⊤}
use Rattle.std.specs.Option.{ForSome}
use Rattle.std.specs.Map.{remove_entry}
use Rattle.std.specs.Ordering.{nat_cmp}
use Rattle.std.specs.BTreeMap.{is_at}
use Rattle.ts_schema.specs.Counts.{raised_by}
use Rattle.ts_schema.specs.declared.memory.NoMemory.{NoMemory}
use Rattle.ts_bucket.specs.Bucket.{first_of, is_time}
use Rattle.ts_model.specs.declared.events.Event.{Event}
use Rattle.ts_model.specs.declared.events.Event.TheVariants as events
use Rattle.ts_model.specs.Numbers.{no_refresh, no_snapshot}
use Rattle.result_text.specs.declared.replies.Said.{Said}
use Rattle.result_text.specs.declared.replies.Said.TheVariants as said
use Rattle.ts_model.specs.declared.outcomes.CutDone.{CutDone}
use Rattle.ts_model.specs.declared.outcomes.Refusal.{Refusal}
use Rattle.ts_model.specs.declared.queries.Answer.{Answer}
use Rattle.ts_model.specs.declared.rosters.Roster.{Roster}
use Rattle.ts_model.specs.declared.snapshots.Shown.{Ghosts as Shown}
use Rattle.ts_model.specs.declared.views.Fold.{Fold}
use Rattle.ts_model.specs.History.{History, position}
use Rattle.ts_model.specs.States.{State}
use Rattle.ts_model.specs.Calls.{Act, act_of_commit, making_hyper, making_table, making_view, refusal, setting_mode}
use Rattle.ts_model.specs.Sound.{sound}
use Rattle.ts_model.specs.Pending.{pending}
use Rattle.ts_model.specs.Roster.{roster, hyper_of, view_of}
use Rattle.ts_sessions.specs.declared.blocks.Open.TheVariants as opens
use Rattle.ts_sessions.specs.declared.changes.Change.{Change}
use Rattle.ts_sessions.specs.declared.changes.Change.TheVariants as changes
use Rattle.ts_sessions.specs.declared.changes.Completion.{Completion}
use Rattle.ts_sessions.specs.declared.deeds.DeedOutcome.{DeedOutcome}
use Rattle.ts_sessions.specs.declared.deeds.AfterCut.{AfterCut}
use Rattle.ts_sessions.specs.declared.deeds.AfterCut.TheVariants as after_cuts
use Rattle.ts_sessions.specs.declared.deeds.AfterLook.{AfterLook}
use Rattle.ts_sessions.specs.declared.deeds.AfterLook.TheVariants as looks_for
use Rattle.ts_sessions.specs.declared.deeds.Deed.{Deed}
use Rattle.ts_sessions.specs.declared.deeds.Deed.TheVariants as deeds
use Rattle.ts_sessions.specs.declared.deeds.FinishSource.{FinishSource}
use Rattle.ts_sessions.specs.declared.deeds.FinishSource.TheVariants as finishing
use Rattle.ts_sessions.specs.declared.deeds.MissingPart.{MissingPart}
use Rattle.ts_sessions.specs.declared.deeds.MissingPart.TheVariants as lacks
use Rattle.ts_sessions.specs.declared.deeds.ChangeLine.{ChangeLine}
use Rattle.ts_sessions.specs.declared.deeds.ChangeLine.TheVariants as lines
use Rattle.ts_sessions.specs.declared.deeds.RelationChange.{RelationChange}
use Rattle.ts_sessions.specs.declared.deeds.RelationChange.TheVariants as making
use Rattle.ts_sessions.specs.declared.deeds.Next.{Next}
use Rattle.ts_sessions.specs.declared.deeds.Next.TheVariants as nexts
use Rattle.ts_sessions.specs.declared.queries.Form.{Form}
use Rattle.ts_sessions.specs.declared.queries.Form.TheVariants as forms
use Rattle.ts_sessions.specs.declared.queries.Plan.{Plan}
use Rattle.hier_agg.specs.Plans.{lower_query}
use Rattle.hier_agg.specs.Stale.{AreWholeRanges}
use Rattle.hier_agg.specs.Wholes.{AreRowsOf}
use Rattle.cal_bucket.specs.declared.plans.CalPlan.{CalPlan}
use Rattle.cal_bucket.specs.Buckets.{IsNumber}
use Rattle.cal_bucket.specs.Rows.{ShowARow}
use Rattle.ts_model.specs.declared.queries.Query.{Query}
use Rattle.ts_model.specs.declared.queries.Query.TheVariants.{Rows}
use Rattle.ts_model.specs.Answers.{columns_are_there}
use Rattle.ts_model.specs.Limits.{most_columns}
use Rattle.std.specs.List.{AllByRecursion}
use Rattle.ts_sessions.specs.declared.refreshes.RefreshRequest.{RefreshRequest}
use Rattle.ts_sessions.specs.declared.sessions.Session.{Session}
use Rattle.ts_sessions.specs.Held.{GoesOn, HoldsOf, IsJobOf, is_lost, places_in}
use Rattle.ts_sessions.specs.Places.{Block, Places, Turn, cuts, enters, none, reading, refuses, turns, writing}
use Rattle.ts_sessions.specs.Procedures.{Procedure, ending_as, ends, followed_by, looks, tries, tries_at}
use Rattle.ts_sessions.specs.Sessions.{ChangeHolds, EndsAt, Spares, turn_of}
use Rattle.ts_sessions.specs.Step.{after_cut, after_line, after_snapshot, after_view, turn_of_commit, cut_turn, cuts_refresh, finish_turn, finishes_refresh, lost_code, turn_of_refresh, turn_of_line, snap_turn, snapshot_taken, unfinished_refusal}
use Rattle.ts_sessions.specs.Walks.{Walks, Breaks}

-- ---- the rest of a procedure

-- the refresh that is finished, and the position of its snapshot
abbrev pub cut_in : FinishSource → ℕ
cut_in (finishing.Begun begun at) = begun.cut
cut_in (finishing.Held cut at) = cut

abbrev pub at_in : FinishSource → ℕ
at_in (finishing.Begun begun at) = at
at_in (finishing.Held cut at) = at

-- the result of a finish, in a statement that read this many rows
abbrev pub turn_of_finish : Places → ℕ → FinishSource → Result ℕ Refusal → Turn Places
turn_of_finish p read (finishing.Begun begun at) r =
    turn_of_refresh (cuts begun.cut p) begun.cut begun.span begun.min (record { at = at; reads = read }) r
turn_of_finish p read (finishing.Held cut at) r = finish_turn p cut at r

-- what creates a table or sets one property of a relation: its event, and the line that reports it
abbrev pub making_of : RelationChange → History → Act ℕ
making_of (making.Table def) = making_table def
making_of (making.Hyper table hyper) = making_hyper table hyper
making_of (making.Mode view only) = setting_mode view only

abbrev pub event_of : RelationChange → Event
event_of (making.Table def) = events.Table def
event_of (making.Hyper table hyper) = events.Hyper table hyper
event_of (making.Mode view only) = events.Mode view only

abbrev pub line_of : RelationChange → ChangeLine
line_of (making.Table def) = lines.Table
line_of (making.Hyper table hyper) = lines.Hyper
line_of (making.Mode view only) = lines.Mode

abbrev pub says : ChangeLine → ℕ → Said
says lines.Table = said.Table
says lines.Hyper = said.Hypertable
says lines.Mode = said.Mode
says lines.View = said.View

-- the session state after a commit, which may end a block
abbrev pub left_by : Bool → Places → Places
left_by true p = enters none p
left_by false p = p

-- why a refresh that waits can't be finished if its session lacks this
abbrev pub lack_code : MissingPart → History → ℕ
lack_code lacks.Snapshot h = no_snapshot
lack_code lacks.Job h = lost_code h

-- the end of a statement with a reply of one line
abbrev pub said_once : {T J : Type 0} → Said → Change T J → Next T J
said_once line change = nexts.End (record { said = line ∷ []; change = change; failed = false })

-- the start of a write block
abbrev pub begin_write_block : {T J : Type 0} → Next T J
begin_write_block = said_once said.Begin (changes.Enters (opens.Write (record { ops = []; bytes = 0 })))

-- the end of a block: a commit of the queue, unless it is empty
abbrev pub end_of_block : {T J : Type 0} → Block → Next T J
end_of_block none = said_once said.End (changes.Enters opens.Nothing)
end_of_block (writing ops bytes) =
    cond (length ops == 0) (said_once said.CommitEmpty (changes.Enters opens.Nothing)) (nexts.Deed (deeds.Commit ops true))
end_of_block (reading at) = said_once said.End (changes.Enters opens.Nothing)

-- the snapshot for a refresh, if the statement names one
abbrev pub hold_of : {T J : Type 0} → Option ℕ → Deed T J
hold_of None = deeds.Look looks_for.Unknown
hold_of (Some c) = deeds.Look (looks_for.Hold c)

-- the rest after a cut. The first bucket of the aggregate starts at the given time
abbrev pub cut_left : Places → ℤ → AfterCut → Result CutDone Refusal → Procedure (Turn Places)
cut_left p min after_cuts.Refresh r = after_cut p min r
cut_left p min after_cuts.End r = ends (cut_turn p min r)

-- the rest after a read at a history, by the purpose of the read
abbrev pub look_left : Places → History → AfterLook → Procedure (Turn Places)
look_left p h looks_for.BeginRead =
    ends (turns (enters (reading (position h)) p) (said.BeginRead (position h)))
look_left p h (looks_for.Snapshot begun) =
    after_snapshot (cuts begun.cut p) begun.cut begun.span begun.min (snapshot_taken begun.cut h)
look_left p h (looks_for.Hold cut) = ends (snap_turn p cut (snapshot_taken cut h))
look_left p h (looks_for.Refuse cut lack) = ends (refuses p (unfinished_refusal (lack_code lack h) h (pending h cut)))
look_left p h looks_for.Unknown = ends (refuses p (refusal no_refresh h 0))

-- what is left of a statement at a store call, for a session in this state that has read this many rows: the call,
-- and what its outcome leaves
abbrev pub rest : {T J : Type 0} → Places → ℕ → Deed T J → Procedure (Turn Places)
rest p read (deeds.Cut asked then) =
    followed_by (cuts_refresh asked.view asked.lo asked.hi) (cut_left p asked.min then)
rest p read (deeds.Finish job f) =
    followed_by (finishes_refresh (cut_in f) (at_in f)) (λ r. ends (turn_of_finish p read f r))
rest p read (deeds.Make m) = followed_by (tries (making_of m)) (λ r. ends (turn_of_line p (says (line_of m)) r))
rest p read (deeds.Commit ops leaves) =
    followed_by (tries (act_of_commit ops)) (λ r. ends (turn_of_commit p (left_by leaves p) r))
rest p read (deeds.View def filled) =
    looks (λ g. followed_by (tries_at g (making_view def g)) (after_view p (length (roster g).views) def filled))
rest p read (deeds.Look then) = looks (λ g. look_left p g then)

-- the same of what comes next
abbrev pub rest_next : {T J : Type 0} → Places → ℕ → Next T J → Procedure (Turn Places)
rest_next p read (nexts.Deed d) = rest p read d
rest_next p read (nexts.End t) = ends (turn_of p read t)

-- at most how many store calls are left
abbrev pub cut_meets : AfterCut → ℕ
cut_meets after_cuts.Refresh = 3
cut_meets after_cuts.End = 1

abbrev pub look_meets : AfterLook → ℕ
look_meets (looks_for.Snapshot begun) = 2
look_meets other = 1

abbrev pub left : {T J : Type 0} → Deed T J → ℕ
left (deeds.Cut asked then) = cut_meets then
left (deeds.Finish job f) = 1
left (deeds.Make m) = 1
left (deeds.Commit ops leaves) = 1
left (deeds.View def filled) = 4
left (deeds.Look then) = look_meets then

-- the rest after a line of the reply that is already known
abbrev pub with_line : Option Said → Procedure (Turn Places) → Procedure (Turn Places)
with_line None procedure = procedure
with_line (Some line) procedure = ending_as (after_line line) procedure

abbrev pub led_lines : Option Said → List Said → List Said
led_lines None said = said
led_lines (Some line) said = line ∷ said

-- the end of a statement, with the line of the reply and the disk fault that came before it
abbrev pub Joins : {T J : Type 0} → Option Said → Bool → Completion T J → Result (Completion T J) NoMemory → Type 0
Joins said failed t (Ok u) =
    (u.said ≡ led_lines said t.said) × (u.change ≡ t.change) × (u.failed ≡ (failed || t.failed))
Joins said failed t (Err e) = ⊤

abbrev pub left_next : {T J : Type 0} → Next T J → ℕ
left_next (nexts.Deed d) = left d
left_next (nexts.End t) = 0

-- how many of the rows read the rest of the statement still counts
abbrev pub spent_by : ℕ → FinishSource → ℕ
spent_by read (finishing.Begun begun at) = read
spent_by read (finishing.Held cut at) = 0

abbrev pub spent : {T J : Type 0} → ℕ → Deed T J → ℕ
spent read (deeds.Finish job f) = spent_by read f
spent read other = 0

abbrev pub spent_next : {T J : Type 0} → ℕ → Next T J → ℕ
spent_next read (nexts.Deed d) = spent read d
spent_next read (nexts.End t) = read

-- ---- what must fit the state of the store

pub record IsAsked (h : History) (asked : RefreshRequest) : Type 0 where
  pub view : IsSome (view_of (roster h) asked.view)
  pub low : ForSome asked.lo (λ t. IsTrue (is_time t))
  pub high : ForSome asked.hi (λ t. IsTrue (is_time t))

-- what a store call needs of the state at which it is made: the aggregate of a refresh exists and its bounds are times,
-- a job is that of its refresh and snapshot, and an event is sound
abbrev pub DeedFits : {T J : Type 0} → Shown T J → Deed T J → State → Type 0
DeedFits shown (deeds.Cut asked then) s = IsAsked s.history asked
DeedFits shown (deeds.Finish job f) s = IsJobOf shown (cut_in f) (at_in f) s.history job
DeedFits shown (deeds.Make m) s = IsTrue (sound s.history (event_of m))
DeedFits shown (deeds.Commit ops leaves) s = IsTrue (sound s.history (events.Commit ops))
DeedFits shown (deeds.View def filled) s = IsTrue (sound s.history (events.View def))
DeedFits shown other s = ⊤

-- what a statement brings to its session if the disk hasn't failed
pub record EndFits {T J : Type 0} (shown : Shown T J) (bytes : ℕ) (t : Completion T J) (s : State) : Type 0 where
  pub change : ChangeHolds shown bytes t.change s.history
  pub stands : t.failed ≡ false

-- what comes next fits the state, in a statement whose text has this many bytes
abbrev pub NextFits : {T J : Type 0} → Shown T J → ℕ → Next T J → State → Type 0
NextFits shown bytes (nexts.Deed d) s = DeedFits shown d s
NextFits shown bytes (nexts.End t) s = EndFits shown bytes t s

-- the job of a snapshot that a session held was taken: its refresh can't be finished any more
abbrev pub IsLostBy : {T J : Type 0} → Deed T J → State → Type 0
IsLostBy (deeds.Finish job f) s = IsTrue (is_lost s (cut_in f))
IsLostBy other s = ⊤

abbrev pub IsLostNext : {T J : Type 0} → Next T J → State → Type 0
IsLostNext (nexts.Deed d) s = IsLostBy d s
IsLostNext (nexts.End t) s = ⊤

-- ---- steps

-- a procedure was walked up to the point where another is left
pub record Leads {A : Type 0} (alone failed : Bool) (old : State) (procedure : Procedure A) (mid : State)
    (left : Procedure A) : Type 0 where
  pub walks : (failed_then : Bool) (new : State) (y : A)
      → Walks alone failed_then mid left new y → Walks alone (failed || failed_then) old procedure new y
  pub breaks : (new : State) → Breaks alone mid left new → Breaks alone old procedure new

-- a store call had this outcome
pub record Goes {T J : Type 0} (alone : Bool) (old : State) (p : Places) (read : ℕ) (deed : Deed T J)
    (a : DeedOutcome T J) (new : State) (before after : ℕ) : Type 0 where
  pub read_then : ℕ
  pub leads : Leads alone a.failed old (rest p read deed) new (with_line a.said (rest_next p read_then a.next))
  pub spent_then : spent_next read_then a.next ≡ read_then
  pub counted : (from : ℕ) → before ≡ raised_by (spent read deed) from → after ≡ raised_by read_then from
  pub rose : before ≤ after

-- the same, or the statement ran out of memory
abbrev pub Advances :
    {T J : Type 0} → Bool → State → Places → ℕ → Deed T J → Result (DeedOutcome T J) NoMemory → State → ℕ → ℕ → Type 0
Advances alone old p read deed (Ok a) new before after = Goes alone old p read deed a new before after
Advances alone old p read deed (Err e) new before after =
    Breaks alone old (rest p read deed) new × (before ≤ after)

-- the rows that were read were counted
abbrev pub CountsFrom : {A : Type 0} → Result A NoMemory → ℕ → ℕ → ℕ → ℕ → Type 0
CountsFrom (Ok a) had total before after = (from : ℕ) → before ≡ raised_by had from → after ≡ raised_by total from
CountsFrom (Err e) had total before after = ⊤

-- a statement was carried out from what comes next on
pub record CarriesOut {T J : Type 0} (alone : Bool) (old : State) (p : Places) (read : ℕ) (next : Next T J)
    (result : Result (Completion T J) NoMemory) (new : State) (before after : ℕ) : Type 0 where
  pub total : ℕ
  pub ends : EndsAt alone old (rest_next p read next) p total result new
  pub counted : CountsFrom result (spent_next read next) total before after
  pub rose : before ≤ after

-- ---- jobs that a session held

-- the refresh whose held job the finish takes
abbrev pub held_in : FinishSource → Option ℕ
held_in (finishing.Begun begun at) = None
held_in (finishing.Held cut at) = Some cut

abbrev pub taken_by : {T J : Type 0} → Deed T J → Option ℕ
taken_by (deeds.Finish job f) = held_in f
taken_by other = None

abbrev pub taken_next : {T J : Type 0} → Next T J → Option ℕ
taken_next (nexts.Deed d) = taken_by d
taken_next (nexts.End t) = None

-- entries without that of a refresh, if one is named
abbrev pub without_entry : {X : Type 0} → Option ℕ → List (ℕ × X) → List (ℕ × X)
without_entry None es = es
without_entry (Some c) es = remove_entry (is_at (nat_cmp c)) es

-- a session gave up the snapshot for a refresh, if one is named
pub record Forgets {T J : Type 0} (gone : Option ℕ) (old new : Session T J) : Type 0 where
  pub block : new.block ≡ old.block
  pub cut : new.cut ≡ old.cut
  pub held : new.held.entries ≡ without_entry gone old.held.entries

-- what comes next took what it needs from a session, for the refresh that the statement names. If the statement ends,
-- the session fits the state of the store then. If it breaks off, the session fits once it has given up the snapshot
pub record Takes {T J : Type 0} (shown : Shown T J) (meant : Option ℕ) (next : Next T J)
    (old new : Session T J) : Type 0 where
  pub places : places_in new ≡ places_in old
  pub only : IfSome (taken_next next) (λ cut. meant ≡ Some cut)
  pub holds : (s h : State) → HoldsOf shown old s → GoesOn s h → IsLostNext next h → HoldsOf shown new h
  pub broken : (u : Session T J) → Forgets (taken_next next) new u
      → Spares meant (places_in old) (places_in u)
      × ((s h : State) → HoldsOf shown old s → GoesOn s h → HoldsOf shown u h)

-- what comes next represents this procedure, of a session with state p at this store state
abbrev pub StandsFor : {T J : Type 0} → Next T J → Places → State → Procedure (Turn Places) → Type 0
StandsFor next p s procedure = (alone : Bool) → Leads alone false s procedure s (rest_next p 0 next)

-- ---- what comes first

-- a procedure was walked up to the point where this comes next, in a statement whose text has this many bytes. It fits
-- the state of the store then, and the rows read were counted
pub record Opens {T J : Type 0} (shown : Shown T J) (bytes : ℕ) (alone : Bool) (old : State)
    (procedure : Procedure (Turn Places)) (p : Places) (next : Next T J) (new : State) (before after : ℕ) : Type 0 where
  pub read : ℕ
  pub leads : Leads alone false old procedure new (rest_next p read next)
  pub spent : spent_next read next ≡ read
  pub fits : NextFits shown bytes next new
  pub counted : after ≡ raised_by read before

-- the same, or the statement ran out of memory
abbrev pub OpensTo :
    {T J : Type 0} → Shown T J → ℕ → Bool → State → Procedure (Turn Places) → Places → Result (Next T J) NoMemory
    → State → ℕ → ℕ → Type 0
OpensTo shown bytes alone old procedure p (Ok next) new before after =
    Opens shown bytes alone old procedure p next new before after
OpensTo shown bytes alone old procedure p (Err e) new before after = Breaks alone old procedure new × (before ≤ after)

-- ---- queries

-- a query asks for the rows of a hypertable that match the tests of a grouping by calendar buckets
pub record AsksCalendar (r : Roster) (cal : CalPlan) (query : Query) : Type 0 where
  pub table : ℕ
  pub asks : query ≡ Rows table cal.fold.tests
  pub number : IsNumber cal.number
  pub columns : IsTrue (columns_are_there most_columns cal.fold)
  pub place : option_map (λ hyper. hyper.at) (hyper_of r table) ≡ Some cal.at

-- a plan asks for the answer that its form needs
abbrev pub IsFormed : Roster → Plan → Form → Type 0
IsFormed r plan forms.Own = ⊤
IsFormed r plan (forms.RolledUp upper) = plan.query ≡ lower_query upper
IsFormed r plan (forms.Calendar cal) = AsksCalendar r cal plan.query

-- an answer has rows that fit a grouping by calendar buckets
pub record FitsCalendar (cal : CalPlan) (shown : Answer) : Type 0 where
  pub number : IsNumber cal.number
  pub columns : IsTrue (columns_are_there most_columns cal.fold)
  pub rows : AllByRecursion (ShowARow cal.at) shown.rows

-- an answer is one of an aggregate: its rows show groups of the fold, and its stale ranges are of whole buckets
pub record FitsRollUp (fold : Fold) (shown : Answer) : Type 0 where
  pub rows : AreRowsOf fold shown.rows
  pub stale : AreWholeRanges fold.width shown.stale

-- an answer fits the form
abbrev pub FormFits : Roster → Form → Answer → Type 0
FormFits r forms.Own shown = ⊤
FormFits r (forms.RolledUp upper) shown = ForSome (view_of r upper.view) (λ def. FitsRollUp def.fold shown)
FormFits r (forms.Calendar cal) shown = FitsCalendar cal shown
