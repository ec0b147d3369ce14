-- Calls create only allowed events, and the history after a call on an allowed one is allowed.
use Rattle.std.proofs.Common.{◌≡◌, ℕ, suc, Bool, true, false, ◌&&◌, cond, nat_lt, length, ℤ, pos, negsuc, ◌+ℤ◌, ◌-ℤ◌, ◌≤ℤ◌, ◌<ℤ◌, int_le, int_lt, Option, Some, None, refl, ap, ◌∙◌, arith}
use Rattle.std.specs.Prelude.{is_some, is_none, MatchOption, IfSome, IsTrue}
use Rattle.std.specs.Option.{ForSome}
use Rattle.std.specs.Int.{int_max}
use Rattle.std.proofs.lemmas.Bool.{true≢false, and_parts, and_from, not_from_false}
use Rattle.std.proofs.lemmas.Int.{ints}
use Rattle.ts_num.specs.Aggregates.{greater}
use Rattle.ts_bucket.specs.Bucket.{IsWidth, is_bucket, is_time, max_step, min_time, max_time, first_of, bucket_of}
use Rattle.ts_bucket.proofs.BucketLaws.{bucket_of_meets}
use Rattle.ts_bucket.specs.Windows.{IsInscribed, HasNoBucket, start_from, window_start, inscribed}
use Rattle.ts_bucket.specs.declared.widths.Width.{Width}
use Rattle.ts_bucket.proofs.WindowLaws.{inscribed_meets}
use Rattle.ts_model.specs.declared.events.Event.{Event}
use Rattle.ts_model.specs.declared.events.Event.TheVariants.{Table, Hyper, View, Mode, Commit, Cut, Built}
use Rattle.ts_model.specs.declared.outcomes.Outcome.{Outcome}
use Rattle.ts_model.specs.declared.outcomes.Outcome.TheVariants.{Done, Refused, DiskFault, NoMemory}
use Rattle.ts_model.specs.declared.refreshes.Pending.{Pending}
use Rattle.ts_model.specs.declared.refreshes.Pending.TheVariants.{Waiting, Finished, Unknown}
use Rattle.ts_model.specs.declared.refreshes.Window.{Window}
use Rattle.ts_model.specs.declared.refreshes.Window.TheVariants.{Whole, NoBucket, Nothing}
use Rattle.ts_model.specs.declared.views.ViewDef.{ViewDef}
use Rattle.ts_model.specs.History.{History, position}
use Rattle.ts_model.specs.Roster.{roster, hyper_of, view_of, is_taken}
use Rattle.ts_model.specs.Rows.{rows}
use Rattle.ts_model.specs.Refreshes.{watermark}
use Rattle.ts_model.specs.Allowed.{allowed, all_allowed, all_consistent}
use Rattle.ts_model.specs.Limits.{most_relations, is_word}
use Rattle.ts_model.specs.Timely.{timely_at, has_room}
use Rattle.ts_model.specs.declared.outcomes.CutDone.TheVariants.{Cut as CutMade}
use Rattle.ts_model.specs.Sound.{sound, span_fits}
use Rattle.ts_model.specs.Pending.{is_waiting, pending}
use Rattle.ts_model.specs.Windows.{whole_or, window_up_to, window, last_end}
use Rattle.ts_model.specs.Calls.{act_of_event, act_with_number, commit_result, Act, refuses, returns, makes, refusal, new_relation, cut_over, cut_of_view, act_of_cut, finish_of, Answered}
use Rattle.ts_model.specs.Numbers.{name_taken, too_many, history_full}
use Rattle.ts_model.specs.States.{State}
use Rattle.ts_model.specs.Laws.{SoundCut, MakesAllowed, CallsMakeAllowed}
use Rattle.ts_bucket.specs.WholeSpans.{IsMark}
use Rattle.ts_model.proofs.SoundLaws.{view_width}
use Rattle.ts_model.proofs.RosterLaws.{is_of_itself}
use Rattle.ts_model.proofs.MarkLaws.{window_ends}
use Rattle.ts_schema.proofs.Cases.{le-int_le}

-- an event that is created is allowed
made_allowed : {A : Type 0} (h : History) (e : Event) (a : A) → sound h e ≡ true → timely_at h e ≡ true → MakesAllowed h (act_of_event h e a)
made_allowed h e a is_sound is_timely =
    elim (has_room h) as (λ t. has_room h ≡ t → MakesAllowed h (cond t (makes e a) (refuses (refusal history_full h 0)))) [
      | true ↦ λ room. and_from _ _ is_sound (and_from _ _ is_timely room)
      | false ↦ λ _. tt
    ] refl

-- a new relation is allowed if its name is free and its kind hasn't reached its limit
relation_allowed : (h : History) (taken : Bool) (many : ℕ) (e : Event) → (taken ≡ false → nat_lt many most_relations ≡ true → MakesAllowed h (act_with_number h e)) → MakesAllowed h (new_relation h taken many e)
relation_allowed h true many e ok = tt
relation_allowed h false many e ok =
    elim (nat_lt many most_relations) as (λ t. nat_lt many most_relations ≡ t → MakesAllowed h (cond t (act_with_number h e) (refuses (refusal too_many h (suc most_relations))))) [
      | true ↦ λ room. ok refl room
      | false ↦ λ _. tt
    ] refl

hyper_allowed : (h : History) (e : Event) (was : Bool) → (was ≡ false → MakesAllowed h (act_with_number h e)) → MakesAllowed h (cond was (refuses (refusal name_taken h 0)) (act_with_number h e))
hyper_allowed h e true ok = tt
hyper_allowed h e false ok = ok refl

not_some : {X : Type 0} (o : Option X) → is_some o ≡ false → is_none o ≡ true
not_some None e = refl
not_some (Some x) e = absurd (true≢false e)

-- ---- cuts

starts_from_first : (w : Width) (lo : Option ℤ) → int_le (first_of w) (window_start w lo) ≡ true
starts_from_first w None = grind (arith, ints)
starts_from_first w (Some lo) = above (first_of w) (start_from w lo)
  where
    above : (x y : ℤ) → int_le x (int_max x y) ≡ true
    above x y = grind (arith, ints)

-- ends of windows have 64 bits
window_start_low : (w : Width) (lo : Option ℤ) → IsWidth w → negsuc 4611687117939015679 ≤ℤ window_start w lo
window_start_low w lo width =
    let first : int_le (first_of w) (window_start w lo) ≡ true = starts_from_first w lo in
    let held = bucket_of_meets w min_time width in
    let above : min_time <ℤ (first_of w +ℤ w.step) = held.end_above in
    let step : w.step ≤ℤ max_step = width.bounded in
    low (first_of w) (window_start w lo) w.step first above step
  where
    low : (f s d : ℤ) → int_le f s ≡ true → min_time <ℤ (f +ℤ d) → d ≤ℤ max_step → negsuc 4611687117939015679 ≤ℤ s
    low f s d e above step = let l : f ≤ℤ s = grind (arith, ints) in omega (arith, ints)

words_between : (lo hi : ℤ) → negsuc 4611687117939015679 ≤ℤ lo → lo <ℤ hi → hi ≤ℤ pos 4611687117939015679 → (is_word lo ≡ true) × (is_word hi ≡ true)
words_between lo hi low below high =
    let from : negsuc 9223372036854775807 ≤ℤ lo = omega (arith, ints) in
    let to : lo ≤ℤ pos 9223372036854775807 = omega (arith, ints) in
    let after : negsuc 9223372036854775807 ≤ℤ hi = omega (arith, ints) in
    let up_to : hi ≤ℤ pos 9223372036854775807 = omega (arith, ints) in
    (and_from _ _ (le-int_le _ _ from) (le-int_le _ _ to), and_from _ _ (le-int_le _ _ after) (le-int_le _ _ up_to))

-- a number up to the greatest end of a bucket that holds a time
abbrev IsNear : ℤ → Type 0
IsNear hi = hi ≤ℤ pos 4611687117939015679

near_time : (t : ℤ) → is_time t ≡ true → IsNear t
near_time t e =
    let parts = and_parts _ _ e in
    up t parts.1
  where
    up : (t : ℤ) → int_le t max_time ≡ true → IsNear t
    up t e = let l : t ≤ℤ max_time = grind (arith, ints) in omega (arith, ints)

near_end : (w : Width) (mark : ℤ) → IsWidth w → IsMark w mark → IsNear mark
near_end w mark width end =
    let start : (mark -ℤ w.step) ≤ℤ max_time = end.starts_at_or_below_a_time in
    let step : w.step ≤ℤ max_step = width.bounded in
    omega (arith, ints)

-- the whole buckets of a window are a span that may be cut
nonempty_fits : (n : ℕ) (def : ViewDef) (h : History) (lo : Option ℤ) (hi : ℤ) (other : Window) → view_of (roster h) n ≡ Some def → IsWidth def.fold.width → IsNear hi → SoundCut n h other → SoundCut n h (whole_or other (inscribed def.fold.width lo hi))
nonempty_fits n def h lo hi other there width near ok =
    let w = def.fold.width in
    let a = window_start w lo in
    let z = bucket_of w hi in
    elim (int_lt a z) as (λ t. int_lt a z ≡ t → MatchOption (cond t (Some (record { lo = a; hi = z })) None) (HasNoBucket w lo hi) (IsInscribed w lo hi) → SoundCut n h (whole_or other (cond t (Some (record { lo = a; hi = z })) None))) [
      | true ↦ λ below inside.
          let held = bucket_of_meets w hi width in
          let at_or_below : z ≤ℤ hi = held.at_or_below in
          let less : a <ℤ z = inside.some in
          let words = words_between a z (window_start_low w lo width) less (omega (arith, ints, near)) in
          let whole : (is_bucket w a && is_bucket w z) ≡ true = and_from _ _ inside.starts inside.ends in
          let fits : span_fits (record { lo = a; hi = z }) (Some def) ≡ true = and_from _ _ (and_from _ _ (and_from _ _ (and_from _ _ whole below) (starts_from_first w lo)) words.0) words.1 in
          let is_sound : span_fits (record { lo = a; hi = z }) (view_of (roster h) n) ≡ true = ap (span_fits (record { lo = a; hi = z })) there ∙ fits in
          and_from _ _ is_sound refl
      | false ↦ λ _ _. ok
    ] refl (inscribed_meets w lo hi width)

up_to_fits : (n : ℕ) (def : ViewDef) (h : History) (lo : Option ℤ) (end : Option ℤ) → view_of (roster h) n ≡ Some def → IsWidth def.fold.width → IfSome end (IsMark def.fold.width) → SoundCut n h (window_up_to def.fold.width lo end)
up_to_fits n def h lo None there width ends = tt
up_to_fits n def h lo (Some hi) there width ends = nonempty_fits n def h lo hi Nothing there width (near_end def.fold.width hi width ends) tt

window_fits : (n : ℕ) (def : ViewDef) (h : History) (lo hi : Option ℤ) → all_consistent h ≡ true → view_of (roster h) n ≡ Some def → ForSome hi (λ t. IsTrue (is_time t)) → SoundCut n h (window n def h lo hi)
window_fits n def h lo (Some hi) ok there time = nonempty_fits n def h lo hi NoBucket there (view_width h n def ok there) (near_time hi (time hi refl)) tt
window_fits n def h lo None ok there time =
    let width = view_width h n def ok there in
    up_to_fits n def h lo (greater (watermark n def h) (last_end def.fold.width (rows def.table h))) there width (window_ends n def h width (is_of_itself def (view_of (roster h) n) there) ok)

-- a call with a window whose cut is sound creates an allowed event
over_allowed : (n : ℕ) (h : History) (w : Window) → SoundCut n h w → MakesAllowed h (cut_over n h w)
over_allowed n h (Whole span) e = made_allowed h (Cut n span) (CutMade (suc (position h)) span) e refl
over_allowed n h NoBucket e = tt
over_allowed n h Nothing e = tt

cut_allowed : (n : ℕ) (lo hi : Option ℤ) (h : History) → all_consistent h ≡ true → ForSome hi (λ t. IsTrue (is_time t)) → MakesAllowed h (act_of_cut n lo hi h)
cut_allowed n lo hi h ok time = of_view (view_of (roster h) n) refl
  where
    of_view : (o : Option ViewDef) → view_of (roster h) n ≡ o → MakesAllowed h (cut_of_view n lo hi h o)
    of_view None there = tt
    of_view (Some def) there = over_allowed n h (window n def h lo hi) (window_fits n def h lo hi ok there time)

-- ---- finishes

finish_allowed : (cut snap : ℕ) (h : History) (p : Pending) → pending h cut ≡ p → sound h (Built cut snap) ≡ true → MakesAllowed h (finish_of cut snap h p)
finish_allowed cut snap h (Waiting n) is e = made_allowed h (Built cut snap) (suc (position h)) e (ap is_waiting is)
finish_allowed cut snap h (Finished f) is e = tt
finish_allowed cut snap h Unknown is e = tt

pub calls_make_allowed : CallsMakeAllowed
calls_make_allowed = record {
  tables = λ def h e. relation_allowed h (is_taken (roster h) def.name) (length (roster h).tables) (Table def) (λ free room. made_allowed h (Table def) (suc (position h)) e (and_from _ _ (not_from_false _ free) room));
  hypers = λ t hyper h e. hyper_allowed h (Hyper t hyper) (is_some (hyper_of (roster h) t)) (λ free. made_allowed h (Hyper t hyper) (suc (position h)) e (not_some (hyper_of (roster h) t) free));
  views = λ def h e. relation_allowed h (is_taken (roster h) def.name) (length (roster h).views) (View def) (λ free room. made_allowed h (View def) (suc (position h)) e (and_from _ _ (not_from_false _ free) room));
  modes = λ n only h e. made_allowed h (Mode n only) (suc (position h)) e refl;
  commits = λ ops h e. made_allowed h (Commit ops) (commit_result ops h) e refl;
  cuts = cut_allowed;
  windows = window_fits;
  finishes = λ cut snap h e. finish_allowed cut snap h (pending h cut) refl e;
}

-- the history after a call on an allowed history is allowed
pub allowed_answered : {A : Type 0} (act : Act A) (found : State) (outcome : Outcome A) (new : State) → MakesAllowed found.history act → all_allowed found.history ≡ true → Answered act found outcome new → all_allowed new.history ≡ true
allowed_answered (refuses r) found (Done a) new m ok w = absurd w
allowed_answered (refuses r) found (Refused q) new m ok w = ap all_allowed w.1.history ∙ ok
allowed_answered (refuses r) found DiskFault new m ok w = absurd w
allowed_answered (refuses r) found NoMemory new m ok w = ap all_allowed w.history ∙ ok
allowed_answered (returns a) found (Done b) new m ok w = ap all_allowed w.1.history ∙ ok
allowed_answered (returns a) found (Refused q) new m ok w = absurd w
allowed_answered (returns a) found DiskFault new m ok w = absurd w
allowed_answered (returns a) found NoMemory new m ok w = ap all_allowed w.history ∙ ok
allowed_answered (makes e a) found (Done b) new m ok w = ap all_allowed w.1.history ∙ and_from _ _ ok m
allowed_answered (makes e a) found (Refused q) new m ok w = ap all_allowed w.2.history ∙ ok
allowed_answered (makes e a) found DiskFault new m ok w = ap all_allowed w.history ∙ ok
allowed_answered (makes e a) found NoMemory new m ok w = ap all_allowed w.history ∙ ok
