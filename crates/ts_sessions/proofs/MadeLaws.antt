-- A reply names exactly the events that its line appended.
use Rattle.std.proofs.Common.{◌≡◌, ℕ, suc, Bool, true, false, cond, nat_lt, List, [], ◌∷◌, ◌++◌, length, Option, Some, None, sym, refl, ap, ◌∙◌, subst, inl, inr}
use Rattle.std.specs.Prelude.{Result, Ok, Err, ℤ, is_some, ⊤}
use Rattle.std.proofs.lemmas.List.{append_assoc, append-nil}
use Rattle.ts_bucket.specs.Bucket.{first_of}
use Rattle.ts_bucket.specs.declared.spans.Span.{Span}
use Rattle.ts_model.specs.declared.events.Event.{Event}
use Rattle.ts_model.specs.declared.events.Event.TheVariants.{Hyper as HyperMade, Table as TableMade, View as ViewMade, Cut as CutEvent, Built as BuiltEvent, Commit as CommitEvent, Mode as ModeEvent}
use Rattle.ts_model.specs.declared.events.Op.{Op}
use Rattle.ts_model.specs.declared.outcomes.Committed.{Committed}
use Rattle.ts_model.specs.declared.outcomes.CutDone.{CutDone}
use Rattle.ts_model.specs.declared.outcomes.CutDone.TheVariants.{Cut as CutMade, Nothing as NothingDone}
use Rattle.ts_model.specs.declared.outcomes.Refusal.{Refusal}
use Rattle.ts_model.specs.declared.refreshes.Pending.{Pending}
use Rattle.ts_model.specs.declared.refreshes.Pending.TheVariants.{Waiting, Finished, Unknown}
use Rattle.ts_model.specs.declared.refreshes.Window.{Window}
use Rattle.ts_model.specs.declared.refreshes.Window.TheVariants.{Whole, NoBucket, Nothing}
use Rattle.ts_model.specs.declared.tables.Hyper.{Hyper}
use Rattle.ts_model.specs.declared.views.ViewDef.{ViewDef}
use Rattle.ts_model.specs.History.{History, ◌▸◌, position, prefix}
use Rattle.ts_model.specs.States.{State}
use Rattle.ts_model.specs.Limits.{most_relations}
use Rattle.ts_model.specs.Roster.{roster, hyper_of, is_taken, view_of}
use Rattle.ts_model.specs.Pending.{pending}
use Rattle.ts_model.specs.Windows.{window}
use Rattle.ts_model.specs.Timely.{has_room}
use Rattle.ts_model.specs.Calls.{Act, commit_result as calls_committed, act_of_event, refuses as refuses_call, returns as completes_call, makes, act_of_commit, cut_of_view, cut_over, act_of_cut, finish_of, act_of_finish, making_hyper, making_table, making_view, new_relation, act_with_number, refusal, setting_mode}
use Rattle.ts_model.specs.Numbers.{name_taken, too_many, history_full}
use Rattle.stmt_reader.specs.declared.faults.Fault.{Fault}
use Rattle.stmt_syntax.specs.declared.statements.Stmt.{Stmt}
use Rattle.stmt_syntax.specs.declared.statements.Stmt.TheVariants as stmts
use Rattle.stmt_reader.specs.Reading.{statement}
use Rattle.stmt_tokens.specs.Streams.{Stream, stream}
use Rattle.stmt_check.specs.declared.actions.Action.{Action}
use Rattle.stmt_check.specs.declared.actions.Action.TheVariants as actions
use Rattle.stmt_check.specs.Check.{action_of, refusal_of}
use Rattle.result_text.specs.declared.replies.Said.{Said}
use Rattle.result_text.specs.declared.replies.Said.TheVariants as said
use Rattle.ts_sessions.specs.Procedures.{Procedure, sees, adds, ends, ending_as, followed_by, tries_at, looks}
use Rattle.ts_sessions.specs.Made.{made_by, made_in}
use Rattle.ts_sessions.specs.Places.{Block, none, writing, reading, Places, Turn, cuts, enters, held_for}
use Rattle.ts_sessions.specs.Replies.{reply_to, replies}
use Rattle.ts_sessions.specs.Step.{Taken, acts, after_cut, after_line, after_snapshot, after_view, block_refusal, changes, closes, commits, turn_of_commit, cut_turn, finish_turn, finishes, finishes_held, given_up, kind_of, least_start, turn_of_names, named_first, named_here, read_at, refresh_meant, turn_of_refresh, refreshes, refusal_reading, snap_turn, snaps, step, snapshot_taken, takes_snapshot, turn_of_line, view_made, as_read, passes_block, performs}
use Rattle.ts_sessions.specs.Walks.{Walks, Sees}
use Rattle.ts_sessions.proofs.NamedLaws.{named_holds, performs_holds, read_holds, unless_holds}

-- ---- procedures

-- a procedure at a history, after these events: its result names all events that were appended by its end
abbrev pub Names : {A : Type 0} → (List ℕ → A → Type 0) → List ℕ → History → Procedure A → Type 0
Names N made h (sees shown f) = (g : History) → Names N made g (f g)
Names N made h (adds e next stop) = Names N (made ++ suc (position h) ∷ []) (h ▸ e) next × Names N made h stop
Names N made h (ends a) = N made a

-- the events after the first of these numbers, with the proof that the outcome names them
record Made {A : Type 0} (N : List ℕ → A → Type 0) (base new : List ℕ) (y : A) : Type 0 where
  all : List ℕ
  is : new ≡ base ++ all
  names : N all y

pub seen_made : (alone : Bool) (old found : State) → Sees alone old found → found.made ≡ old.made
seen_made alone old found (inl e) = ap (λ s. s.made) e
seen_made alone old found (inr f) = f.made

walks_made : {A : Type 0} (N : List ℕ → A → Type 0) (alone failed : Bool) (old : State) (procedure : Procedure A) (new : State) (y : A) (base made : List ℕ) → old.made ≡ base ++ made → Names N made old.history procedure → Walks alone failed old procedure new y → Made N base new.made y
walks_made N alone failed old (sees shown f) new y base made is n w = walks_made N alone failed w.mid (f w.mid.history) new y base made (seen_made alone old w.mid w.first ∙ is) (n w.mid.history) w.rest
walks_made N alone failed old (adds e next stop) new y base made is n (inl w) = walks_made N alone failed old stop new y base made is n.1 w.1
walks_made N alone failed old (adds e next stop) new y base made is n (inr (inl w)) =
    let more : List ℕ = suc (position old.history) ∷ [] in
    let all : w.mid.made ≡ base ++ (made ++ more) = w.first.made ∙ ap (λ l. l ++ more) is ∙ append_assoc base made more in
    walks_made N alone failed w.mid next new y base (made ++ more) all (subst (λ g. Names N (made ++ more) g next) (sym w.first.history) n.0) w.rest
walks_made N alone failed old (adds e next stop) new y base made is n (inr (inr w)) =
    walks_made N alone false w.1.mid stop new y base made (w.1.first.made ∙ is) (subst (λ g. Names N made g stop) (sym w.1.first.history) n.1) w.1.rest
walks_made N alone failed old (ends a) new y base made is n w = record { all = made; is = ap (λ s. s.made) w.1 ∙ is; names = subst (N made) (sym w.2) n }

-- one procedure after another
names_then : {A B : Type 0} (N : List ℕ → A → Type 0) (M : List ℕ → B → Type 0) (made : List ℕ) (h : History) (first : Procedure A) (next : A → Procedure B) → Names N made h first → ((all : List ℕ) (g : History) (a : A) → N all a → Names M all g (next a)) → Names M made h (followed_by first next)
names_then N M made h (sees shown f) next n k = λ g. names_then N M made g (f g) next (n g) k
names_then N M made h (adds e go stop) next n k = (names_then N M (made ++ suc (position h) ∷ []) (h ▸ e) go next n.0 k, names_then N M made h stop next n.1 k)
names_then N M made h (ends a) next n k = k made h a n

names_as : {A B : Type 0} (N : List ℕ → A → Type 0) (M : List ℕ → B → Type 0) (made : List ℕ) (h : History) (procedure : Procedure A) (g : A → B) → Names N made h procedure → ((all : List ℕ) (a : A) → N all a → M all (g a)) → Names M made h (ending_as g procedure)
names_as N M made h procedure g n k = names_then N M made h procedure (λ a. ends (g a)) n (λ all x a. k all a)

-- ---- calls

-- a call names exactly the events that it appended
abbrev Numbers : {A : Type 0} → (A → List ℕ) → History → Act A → Type 0
Numbers of h (refuses_call r) = ⊤
Numbers of h (completes_call a) = of a ≡ []
Numbers of h (makes e a) = of a ≡ suc (position h) ∷ []

abbrev made_of : {A : Type 0} → (A → List ℕ) → Result A Refusal → List ℕ
made_of of (Ok a) = of a
made_of of (Err r) = []

-- after the earlier events, the outcome of a call names the rest
abbrev Adds : {A : Type 0} → (A → List ℕ) → List ℕ → List ℕ → Result A Refusal → Type 0
Adds of before all y = all ≡ before ++ made_of of y

-- after the earlier events, the lines of a turn name the rest
abbrev pub Lists : List ℕ → List ℕ → Turn Places → Type 0
Lists before all t = all ≡ before ++ made_in t.said

tries_named : {A : Type 0} (of : A → List ℕ) (before : List ℕ) (h : History) (act : Act A) → Numbers of h act → Names (Adds of before) before h (tries_at h act)
tries_named of before h (refuses_call r) n = sym (append-nil before)
tries_named of before h (completes_call a) n = sym (ap (λ l. before ++ l) n ∙ append-nil before)
tries_named of before h (makes e a) n = (ap (λ l. before ++ l) (sym n), sym (append-nil before))

call_named : {A : Type 0} (of : A → List ℕ) (h : History) (act : Act A) (turn : Result A Refusal → Turn Places) → Numbers of h act → ((y : Result A Refusal) → made_in (turn y).said ≡ made_of of y) → Names (Lists []) [] h (ending_as turn (tries_at h act))
call_named of h act turn n t = names_as (Adds of []) (Lists []) [] h (tries_at h act) turn (tries_named of [] h act n) (λ all y e. e ∙ sym (t y))

-- the number of one event
abbrev one : ℕ → List ℕ
one k = k ∷ []

abbrev of_commit : Committed → List ℕ
of_commit done = done.pos ∷ []

abbrev of_cut : CutDone → List ℕ
of_cut (CutMade c span) = c ∷ []
of_cut (NothingDone at) = []

-- an event that is appended, or refused at the end of a history
made_numbers : {A : Type 0} (of : A → List ℕ) (h : History) (e : Event) (a : A) → of a ≡ suc (position h) ∷ [] → Numbers of h (act_of_event h e a)
made_numbers of h e a is = elim (has_room h) as (λ t. Numbers of h (cond t (makes e a) (refuses_call (refusal history_full h 0)))) [ true ↦ is | false ↦ tt ]

new_numbers : (h : History) (snapshot_taken : Bool) (many : ℕ) (e : Event) → Numbers one h (new_relation h snapshot_taken many e)
new_numbers h true many e = tt
new_numbers h false many e = elim (nat_lt many most_relations) as (λ t. Numbers one h (cond t (act_with_number h e) (refuses_call (refusal too_many h (suc most_relations))))) [ true ↦ made_numbers one h e (suc (position h)) refl | false ↦ tt ]

hyper_numbers : (t : ℕ) (hyper : Hyper) (h : History) → Numbers one h (making_hyper t hyper h)
hyper_numbers t hyper h = elim (is_some (hyper_of (roster h) t)) as (λ b. Numbers one h (cond b (refuses_call (refusal name_taken h 0)) (act_with_number h (HyperMade t hyper)))) [ true ↦ tt | false ↦ made_numbers one h (HyperMade t hyper) (suc (position h)) refl ]

over_numbers : (n : ℕ) (h : History) (w : Window) → Numbers of_cut h (cut_over n h w)
over_numbers n h (Whole span) = made_numbers of_cut h (CutEvent n span) (CutMade (suc (position h)) span) refl
over_numbers n h NoBucket = tt
over_numbers n h Nothing = refl

view_numbers : (n : ℕ) (lo hi : Option ℤ) (h : History) (o : Option ViewDef) → Numbers of_cut h (cut_of_view n lo hi h o)
view_numbers n lo hi h None = refl
view_numbers n lo hi h (Some def) = over_numbers n h (window n def h lo hi)

cut_numbers : (n : ℕ) (lo hi : Option ℤ) (h : History) → Numbers of_cut h (act_of_cut n lo hi h)
cut_numbers n lo hi h = view_numbers n lo hi h (view_of (roster h) n)

pending_numbers : (c at : ℕ) (h : History) (p : Pending) → Numbers one h (finish_of c at h p)
pending_numbers c at h (Waiting n) = made_numbers one h (BuiltEvent c at) (suc (position h)) refl
pending_numbers c at h (Finished f) = tt
pending_numbers c at h Unknown = tt

finish_numbers : (c at : ℕ) (h : History) → Numbers one h (act_of_finish c at h)
finish_numbers c at h = pending_numbers c at h (pending h c)

-- ---- replies to one call

reported_completes : (p : Places) (line : ℕ → Said) → ((k : ℕ) → made_by (line k) ≡ one k) → (y : Result ℕ Refusal) → made_in (turn_of_line p line y).said ≡ made_of one y
reported_completes p line e (Ok k) = ap (λ l. l ++ []) (e k)
reported_completes p line e (Err r) = refl

cut_completes : (p : Places) (min : ℤ) (y : Result CutDone Refusal) → made_in (cut_turn p min y).said ≡ made_of of_cut y
cut_completes p min (Ok (CutMade c span)) = refl
cut_completes p min (Ok (NothingDone at)) = refl
cut_completes p min (Err r) = refl

commit_completes : (p after : Places) (y : Result Committed Refusal) → made_in (turn_of_commit p after y).said ≡ made_of of_commit y
commit_completes p after (Ok done) = refl
commit_completes p after (Err r) = refl

finish_completes : (p : Places) (c at : ℕ) (y : Result ℕ Refusal) → made_in (finish_turn p c at y).said ≡ made_of one y
finish_completes p c at (Ok k) = refl
finish_completes p c at (Err r) = refl

-- ---- refreshes

refreshed_lists : (before all : List ℕ) (p : Places) (c : ℕ) (span : Span) (min : ℤ) (t : Taken) (y : Result ℕ Refusal) → Adds one (before ++ c ∷ []) all y → Lists before all (turn_of_refresh p c span min t y)
refreshed_lists before all p c span min t (Ok k) e = e ∙ append_assoc before (c ∷ []) (k ∷ [])
refreshed_lists before all p c span min t (Err r) e = e ∙ append_assoc before (c ∷ []) []

after_snapshot_named : (before : List ℕ) (p : Places) (c : ℕ) (span : Span) (min : ℤ) (h : History) (y : Result Taken Refusal) → Names (Lists before) (before ++ c ∷ []) h (after_snapshot p c span min y)
after_snapshot_named before p c span min h (Ok t) = λ g.
    let made : List ℕ = before ++ c ∷ [] in
    names_as (Adds one made) (Lists before) made g (tries_at g (act_of_finish c t.at g)) (turn_of_refresh p c span min t) (tries_named one made g (act_of_finish c t.at g) (finish_numbers c t.at g)) (λ all y e. refreshed_lists before all p c span min t y e)
after_snapshot_named before p c span min h (Err r) = refl

after_cut_named : (before all : List ℕ) (p : Places) (min : ℤ) (h : History) (y : Result CutDone Refusal) → Adds of_cut before all y → Names (Lists before) all h (after_cut p min y)
after_cut_named before all p min h (Ok (CutMade c span)) e =
    let made : List ℕ = before ++ c ∷ [] in
    let next = after_snapshot (cuts c p) c span min in
    subst (λ m. Names (Lists before) m h (followed_by (takes_snapshot c) next)) (sym e)
    (names_then (λ m y. m ≡ made) (Lists before) made h (takes_snapshot c) next (λ g. refl) (λ m g y i. subst (λ x. Names (Lists before) x g (next y)) (sym i) (after_snapshot_named before (cuts c p) c span min g y)))
after_cut_named before all p min h (Ok (NothingDone at)) e = e
after_cut_named before all p min h (Err r) e = e

cut_then_named : (before : List ℕ) (p : Places) (n : ℕ) (lo hi : Option ℤ) (min : ℤ) (h : History) → Names (Lists before) before h (followed_by (tries_at h (act_of_cut n lo hi h)) (after_cut p min))
cut_then_named before p n lo hi min h = names_then (Adds of_cut before) (Lists before) before h (tries_at h (act_of_cut n lo hi h)) (after_cut p min) (tries_named of_cut before h (act_of_cut n lo hi h) (cut_numbers n lo hi h)) (λ all g y e. after_cut_named before all p min g y e)

refreshes_named : (before : List ℕ) (p : Places) (n : ℕ) (lo hi : Option ℤ) (min : ℤ) (h : History) → Names (Lists before) before h (refreshes p n lo hi min)
refreshes_named before p n lo hi min h = λ g. cut_then_named before p n lo hi min g

-- ---- aggregates

view_made_named : (p : Places) (n : ℕ) (min : ℤ) (k : ℕ) (filled : Bool) (h : History) → Names (Lists []) (one k) h (view_made p n min k filled)
view_made_named p n min k false h = refl
view_made_named p n min k true h = names_as (Lists (one k)) (Lists []) (one k) h (refreshes p n None None min) (after_line (said.View k)) (refreshes_named (one k) p n None None min h) (λ all t e. e)

after_view_named : (p : Places) (n : ℕ) (def : ViewDef) (filled : Bool) (all : List ℕ) (h : History) (y : Result ℕ Refusal) → Adds one [] all y → Names (Lists []) all h (after_view p n def filled y)
after_view_named p n def filled all h (Ok k) e = subst (λ m. Names (Lists []) m h (view_made p n (first_of def.fold.width) k filled)) (sym e) (view_made_named p n (first_of def.fold.width) k filled h)
after_view_named p n def filled all h (Err r) e = e

-- ---- snapshots and finishes

snap_completes : (p : Places) (c : ℕ) (y : Result Taken Refusal) → [] ≡ made_in (snap_turn p c y).said
snap_completes p c (Ok t) = refl
snap_completes p c (Err r) = refl

snaps_named : (p : Places) (h : History) (o : Option ℕ) → [] ≡ made_in (snaps p h o).said
snaps_named p h None = refl
snaps_named p h (Some c) = snap_completes p c (snapshot_taken c h)

finishes_held_named : (p : Places) (h : History) (c : ℕ) (o : Option ℕ) → Names (Lists []) [] h (finishes_held p h c o)
finishes_held_named p h c None = refl
finishes_held_named p h c (Some at) = call_named one h (act_of_finish c at h) (finish_turn p c at) (finish_numbers c at h) (finish_completes p c at)

finishes_named : (p : Places) (h : History) (o : Option ℕ) → Names (Lists []) [] h (finishes p h o)
finishes_named p h None = refl
finishes_named p h (Some c) = finishes_held_named p h c (held_for c p.held)

-- ---- blocks

commits_named : (p after : Places) (h : History) (ops : List Op) → Names (Lists []) [] h (commits p after h ops)
commits_named p after h ops = call_named of_commit h (act_of_commit ops h) (turn_of_commit p after) (made_numbers of_commit h (CommitEvent ops) (calls_committed ops h) refl) (commit_completes p after)

changes_named : (p : Places) (bytes : ℕ) (h : History) (op : Op) (b : Block) → Names (Lists []) [] h (changes p bytes h op b)
changes_named p bytes h op none = commits_named p p h (op ∷ [])
changes_named p bytes h op (writing ops n) = refl
changes_named p bytes h op (reading at) = commits_named p p h (op ∷ [])

closes_named : (p : Places) (h : History) (b : Block) → Names (Lists []) [] h (closes p h b)
closes_named p h none = refl
closes_named p h (writing [] n) = refl
closes_named p h (writing (op ∷ ops) n) = commits_named p (enters none p) h (op ∷ ops)
closes_named p h (reading at) = refl

given_up_completes : (b : Block) → [] ≡ made_in (given_up b ∷ [])
given_up_completes none = refl
given_up_completes (writing ops n) = refl
given_up_completes (reading at) = refl

-- ---- statements

acts_named : (p : Places) (bytes : ℕ) (h : History) (action : Action) → Names (Lists []) [] h (acts p bytes h action)
acts_named p bytes h (actions.Table def) = call_named one h (making_table def h) (turn_of_line p said.Table) (new_numbers h (is_taken (roster h) def.name) (length (roster h).tables) (TableMade def)) (reported_completes p said.Table (λ k. refl))
acts_named p bytes h (actions.Hyper t hyper) = call_named one h (making_hyper t hyper h) (turn_of_line p said.Hypertable) (hyper_numbers t hyper h) (reported_completes p said.Hypertable (λ k. refl))
acts_named p bytes h (actions.View def filled) =
    let n = length (roster h).views in
    names_then (Adds one []) (Lists []) [] h (tries_at h (making_view def h)) (after_view p n def filled) (tries_named one [] h (making_view def h) (new_numbers h (is_taken (roster h) def.name) n (ViewMade def))) (λ all g y e. after_view_named p n def filled all g y e)
acts_named p bytes h (actions.Mode n only) = call_named one h (setting_mode n only h) (turn_of_line p said.Mode) (made_numbers one h (ModeEvent n only) (suc (position h)) refl) (reported_completes p said.Mode (λ k. refl))
acts_named p bytes h (actions.Change op) = changes_named p bytes h op p.block
acts_named p bytes h (actions.Refresh n lo hi) = cut_then_named [] p n lo hi (least_start (view_of (roster h) n)) h
acts_named p bytes h (actions.Cut n lo hi) =
    let min = least_start (view_of (roster h) n) in
    call_named of_cut h (act_of_cut n lo hi h) (cut_turn p min) (cut_numbers n lo hi h) (cut_completes p min)
acts_named p bytes h (actions.Snap cut) = snaps_named p h (refresh_meant p cut)
acts_named p bytes h (actions.Finish cut) = finishes_named p h (refresh_meant p cut)
acts_named p bytes h actions.Begin = refl
acts_named p bytes h actions.BeginRead = refl
acts_named p bytes h actions.Commit = closes_named p h p.block
acts_named p bytes h actions.Rollback = given_up_completes p.block
acts_named p bytes h (actions.Calendar table number unit at fold) = refl
acts_named p bytes h (actions.Ask q) = refl

-- a statement that a read block lets pass appends no event, whatever history it reads
shown_named : (p : Places) (bytes : ℕ) (g h : History) (at : ℕ) (stmt : Stmt) → p.block ≡ reading at → refusal_reading (kind_of stmt) ≡ None → Names (Lists []) [] g (acts p bytes h (action_of (roster h) stmt))
shown_named p bytes g h at (stmts.Table name cols) b e = absurd cc
shown_named p bytes g h at (stmts.Hyper table col interval) b e = absurd cc
shown_named p bytes g h at (stmts.View name only filled fold) b e = absurd cc
shown_named p bytes g h at (stmts.Mode view only) b e = absurd cc
shown_named p bytes g h at (stmts.Insert table cols rows) b e = absurd cc
shown_named p bytes g h at (stmts.Delete table tests) b e = absurd cc
shown_named p bytes g h at (stmts.Drop table below) b e = absurd cc
shown_named p bytes g h at (stmts.Refresh view lo hi) b e = absurd cc
shown_named p bytes g h at (stmts.Cut view lo hi) b e = absurd cc
shown_named p bytes g h at (stmts.Snap cut) b e = absurd cc
shown_named p bytes g h at (stmts.Finish cut) b e = absurd cc
shown_named p bytes g h at stmts.Begin b e = absurd cc
shown_named p bytes g h at stmts.BeginRead b e = absurd cc
shown_named p bytes g h at stmts.Commit b e = subst (λ x. Names (Lists []) [] g (closes p h x)) (sym b) refl
shown_named p bytes g h at stmts.Rollback b e = given_up_completes p.block
shown_named p bytes g h at (stmts.Buckets fold) b e = refl
shown_named p bytes g h at (stmts.Calendar number unit fold) b e = refl
shown_named p bytes g h at (stmts.Rows table tests) b e = refl

here_named : (p : Places) (bytes : ℕ) (h : History) (stmt : Stmt) (b : Block) → p.block ≡ b → block_refusal b (kind_of stmt) ≡ None → Names (Lists []) [] h (turn_of_names p bytes stmt (read_at b h))
here_named p bytes h stmt none e pass = named_holds (Names (Lists []) [] h) p bytes h stmt (λ r e. refl) (λ plan. refl) (λ r e. refl) (λ e. acts_named p bytes h (action_of (roster h) stmt))
here_named p bytes h stmt (writing ops n) e pass = named_holds (Names (Lists []) [] h) p bytes h stmt (λ r e. refl) (λ plan. refl) (λ r e. refl) (λ e. acts_named p bytes h (action_of (roster h) stmt))
here_named p bytes h stmt (reading at) e pass = named_holds (Names (Lists []) [] h) p bytes (prefix h at) stmt (λ r e. refl) (λ plan. refl) (λ r e. refl) (λ _. shown_named p bytes h (prefix h at) at stmt e pass)

one_look : (p : Places) (bytes : ℕ) (h : History) (stmt : Stmt) → block_refusal p.block (kind_of stmt) ≡ None → Names (Lists []) [] h (named_here p bytes stmt)
one_look p bytes h stmt pass = λ g. here_named p bytes g stmt p.block refl pass

two_looks : (p : Places) (bytes : ℕ) (h : History) (stmt : Stmt) → Names (Lists []) [] h (named_first p bytes stmt)
two_looks p bytes h stmt = λ g.
    unless_holds (Names (Lists []) [] g) p (refusal_of (position g) (roster g) stmt) (looks (λ k. acts p bytes k (action_of (roster g) stmt))) (λ r e. refl) (λ e k. acts_named p bytes k (action_of (roster g) stmt))

-- ---- lines

statement_named : (p : Places) (bytes : ℕ) (h : History) (stmt : Stmt) → Names (Lists []) [] h (passes_block p bytes stmt)
statement_named p bytes h stmt =
    unless_holds (Names (Lists []) [] h) p (block_refusal p.block (kind_of stmt)) (performs p bytes stmt) (λ r e. refl)
    (λ pass. performs_holds (Names (Lists []) [] h) p bytes stmt (λ twice. two_looks p bytes h stmt) (λ once. one_look p bytes h stmt pass))

read_named : (p : Places) (bytes : ℕ) (h : History) (read : Result (Stmt × Stream) Fault) → Names (Lists []) [] h (as_read p (passes_block p bytes) read)
read_named p bytes h read = read_holds (Names (Lists []) [] h) p (passes_block p bytes) read (λ f. refl) (statement_named p bytes h)

-- a line appended the events whose numbers its reply names, and no others
pub step_made : (alone failed : Bool) (old : State) (p : Places) (text : List ℕ) (skip : ℕ) (new : State) (y : Turn Places) → Walks alone failed old (step p text skip) new y → new.made ≡ old.made ++ made_in y.said
step_made alone failed old p text skip new y w =
    let m = walks_made (Lists []) alone failed old (step p text skip) new y old.made [] (sym (append-nil old.made)) (read_named p (length text) old.history (statement (stream text skip))) w in
    m.is ∙ ap (λ l. old.made ++ l) m.names

-- ---- replies

-- so does the reply to a statement with one read
reply_in_named : (p : Places) (bytes : ℕ) (h : History) (stmt : Stmt) → Names (Lists []) [] h (replies p bytes stmt)
reply_in_named p bytes h stmt = unless_holds (Names (Lists []) [] h) p (block_refusal p.block (kind_of stmt)) (named_here p bytes stmt) (λ r e. refl) (λ pass. one_look p bytes h stmt pass)

pub reply_named : (p : Places) (text : List ℕ) (skip : ℕ) (h : History) → Names (Lists []) [] h (reply_to p text skip)
reply_named p text skip h = read_holds (Names (Lists []) [] h) p (replies p (length text)) (statement (stream text skip)) (λ f. refl) (reply_in_named p (length text) h)
