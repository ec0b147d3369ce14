-- How an event is written to the disk and counts from then on.
use Rattle.std.proofs.Common.{◌≡◌, ◌≢◌, Bool, inl, ℕ, ◌≤◌, ◌<◌, ◌^◌, List, Option, Some, None, IsSomeAnd, suc, refl, sym, ◌∙◌, ap, subst, arith}
use Rattle.std.specs.Prelude.{IsTrue, is_some}
use Rattle.std.proofs.lemmas.Bool.{true≢false}
use Rattle.ts_schema.specs.Faults.{Rose}
use Rattle.ts_model.specs.declared.events.Event.{Event}
use Rattle.ts_model.specs.declared.outcomes.Committed.{Committed}
use Rattle.ts_model.specs.declared.outcomes.Outcome.{Outcome}
use Rattle.ts_model.specs.declared.outcomes.Outcome.TheVariants.{Done as DoneCall, DiskFault as FailedCall}
use Rattle.ts_model.specs.Allowed.{allowed}
use Rattle.ts_model.specs.Calls.{Act}
use Rattle.ts_model.specs.History.{History, ◌▸◌, position, Begins, same, further}
use Rattle.event_codec.specs.Formed.{IsFormed}
use Rattle.event_codec.specs.Spelling as spelling
use Rattle.engine_core.specs.Acts.{making_event}
use Rattle.engine_core.specs.Effects.{effect_of}
use Rattle.engine_core.specs.Histories.{history_of, with_event}
use Rattle.engine_core.specs.Values.{EngineValue, Past}
use Rattle.ts_disk.specs.CrashImage.{LeavesOnly}
use Rattle.ts_disk.proofs.Told.{some_also}
use Rattle.txn_journal.specs.Calls.{IfDone, IfStopped, IsAtRest, IsTold}
use Rattle.txn_journal.specs.declared.journals.Append.{Append}
use Rattle.txn_journal.specs.declared.journals.Append.TheVariants.{Done, DiskFault, Stopped}
use Rattle.ts_store.specs.Arming.{armed_after}
use Rattle.txn_journal.specs.Contents.{Content, with_payload}
use Rattle.txn_journal.specs.Frames.{StandsFor, WithOrWithout}
use Rattle.txn_journal.specs.declared.journals.JournalState.TheVariants.{Bare, Ready, Still}
use Rattle.txn_journal.proofs.Moments.{weaker}
use Rattle.ts_store.specs.Drafts.{IsDraft}
use Rattle.ts_store.specs.Images.{StandsForEither, latest}
use Rattle.ts_store.specs.Recorders.{store_of, ArmsSafely, DoesIn, IsKeptIn, IsSafeIn, RestsIn, TellsIn}
use Rattle.ts_store.specs.Safe.{IsSafe}
use Rattle.ts_store.specs.Stands.{Stands, IsSound, content_of}
use Rattle.ts_store.specs.Stores.{is_still}
use Rattle.ts_store.specs.declared.drafts.FramedEvent.{FramedEvent}
use Rattle.ts_store.specs.declared.recorders.Recorder.{Recorder}
use Rattle.ts_store.proofs.CallLaws.{does_failed, does_made, fails_state, makes_state}
use Rattle.ts_store.proofs.HistoryLaws.{event_counts, sound_push}
use Rattle.ts_store.proofs.ImageLaws.{begin_on, either_stands, shown_told}
use Rattle.ts_store.proofs.KeptLaws.{kept_after, ready_headed, still_headed, rose_above, rose_from, rose_none, safe_of}
use Rattle.engine_core.proofs.StoreLaws.{history_push}

module _ {D : Type 0} (bytes : D → Option (List ℕ)) (may_leave : D → List ℕ → Type 0) (moment : D → ℕ) (left_since : D → ℕ → List ℕ → Type 0) (faults : D → ℕ) where
  module _ (old new : Recorder D) (e : Event) (frame : List ℕ) (sound : IsSound (history_of old.engine.past)) (fits : IsTrue (allowed (history_of old.engine.past) e)) (formed : IsFormed e) (framed : frame ≡ spelling.event e) (going : old.failed ≡ None)
      (run : (content : Content) → IsAtRest bytes may_leave old.journal content → LeavesOnly moment left_since old.journal.disk new.journal.disk (WithOrWithout old.journal.version content frame)) where
    abbrev before : History
    before = history_of old.engine.past

    sound_after : IsSound (before ▸ e)
    sound_after = sound_push before e sound fits formed

    -- each image is that of the history, or of it with the event
    run_of : (last : History) → last ≡ (before ▸ e) → RestsIn bytes may_leave old → LeavesOnly moment left_since old.journal.disk new.journal.disk (StandsForEither before last)
    run_of last is rest = weaker moment left_since old.journal.disk new.journal.disk (WithOrWithout old.journal.version (content_of before) frame) (StandsForEither before last) (run (content_of before) rest)
        (λ c either. subst (λ (h : History). StandsForEither before h c) (sym is) (either_stands old.journal.version before e frame c sound sound_after framed either))

    -- ---- the event is on the disk

    module _ (with : new.engine.past ≡ with_event old.engine.past e) (goes : new.failed ≡ None) (ready : new.journal.standing ≡ Ready) (count : faults new.journal.disk ≡ faults old.journal.disk)
        (done : (content : Content) → IsTold bytes old.journal content → IsAtRest bytes may_leave new.journal (with_payload old.journal.version content frame)) where
      now : history_of new.engine.past ≡ (before ▸ e)
      now = ap history_of with ∙ history_push old.engine.past e

      latest_now : latest (history_of new.engine.past) new.failed ≡ (before ▸ e)
      latest_now = ap (λ (o : Option Event). latest (history_of new.engine.past) o) goes ∙ now

      rests_now : TellsIn bytes old → RestsIn bytes may_leave new
      rests_now tells =
          let counts : with_payload old.journal.version (content_of before) frame ≡ content_of (before ▸ e) = ap (with_payload old.journal.version (content_of before)) framed ∙ event_counts old.journal.version before e in
          subst (λ (h : History). IsAtRest bytes may_leave new.journal (content_of h)) (sym now) (subst (IsAtRest bytes may_leave new.journal) counts (done (content_of before) tells))

      goes_on : Begins before (history_of new.engine.past)
      goes_on = subst (λ (h : History). Begins before h) (sym now) (further same)

      longer : position (history_of new.engine.past) ≡ suc (position (history_of old.engine.past))
      longer = ap position now

      one_more : (h : History) → h ≡ (h ▸ e) → ⊥
      one_more h is = absurd (omega (arith, ap position is))

      pub safe_done : IsSafeIn bytes may_leave moment left_since old new
      safe_done begun opened armed = safe_of bytes may_leave moment left_since faults (store_of old begun opened armed) (store_of new begun opened armed)
          (run_of (latest (history_of new.engine.past) new.failed) latest_now)
          goes_on
          (λ tells none. (rests_now tells).tells)
          (λ rest none. rests_now rest.tells)
          (λ kept _. absurd (one_more before (sym (sym now ∙ kept))))

      pub kept_done : (begun : D) (opened : ℕ) (armed : Bool) → IsKeptIn bytes may_leave moment left_since faults old begun opened armed → IsKeptIn bytes may_leave moment left_since faults new begun opened armed
      kept_done begun opened armed kept =
          let sound_now : IsSound (history_of new.engine.past) = subst IsSound (sym now) sound_after in
          kept_after bytes may_leave moment left_since faults (store_of old begun opened armed) (store_of new begun opened armed) kept going (safe_done begun opened armed).any_moment (safe_done begun opened armed).tells (safe_done begun opened armed).rests refl refl
          goes_on sound_now
          (omega (arith, longer))
          (omega (arith, kept.counted, count))
          (rose_none new.failed (faults begun) (faults new.journal.disk) goes)
          (ap is_some goes ∙ ap is_still (sym ready))
          (λ is. is) (λ _. ready_headed new.journal.standing ready)
          (λ tells. some_also (bytes new.journal.disk) (λ file. Stands file (history_of new.engine.past)) (StandsForEither (history_of new.engine.past) (latest (history_of new.engine.past) new.failed)) (λ file is. inl is)
          (shown_told bytes new.journal (history_of new.engine.past) sound_now (rests_now tells).tells))

      pub does_done : (effect : Committed) → effect ≡ effect_of before e → (begun : D) (opened : ℕ) (armed : Bool) → IsKeptIn bytes may_leave moment left_since faults old begun opened armed → DoesIn faults moment (making_event e) begun opened armed old (DoneCall effect) new
      does_done effect told begun opened armed kept = does_made bytes may_leave moment left_since faults (store_of old begun opened armed) (store_of new begun opened armed) e effect kept fits told
          (makes_state bytes may_leave moment left_since faults (store_of old begun opened armed) (store_of new begun opened armed) e kept going goes with count refl refl)

    -- ---- the disk failed

    module _ (events : new.engine.past ≡ old.engine.past) (failed : new.failed ≡ Some e) (still : new.journal.standing ≡ Still) (rose : Rose (faults old.journal.disk) (faults new.journal.disk))
        (shown : (content : Content) → IsTold bytes old.journal content → IsSomeAnd (bytes new.journal.disk) (WithOrWithout old.journal.version content frame)) where
      same_history : history_of new.engine.past ≡ before
      same_history = ap history_of events

      latest_failed : latest (history_of new.engine.past) new.failed ≡ (before ▸ e)
      latest_failed = ap (λ (o : Option Event). latest (history_of new.engine.past) o) failed ∙ ap (λ (h : History). h ▸ e) same_history

      stays : Begins before (history_of new.engine.past)
      stays = subst (λ (h : History). Begins before h) (sym same_history) same

      not_none : new.failed ≡ None → ⊥
      not_none none = absurd (cc (sym failed ∙ none))

      pub safe_failed : IsSafeIn bytes may_leave moment left_since old new
      safe_failed begun opened armed = safe_of bytes may_leave moment left_since faults (store_of old begun opened armed) (store_of new begun opened armed)
          (run_of (latest (history_of new.engine.past) new.failed) latest_failed)
          stays
          (λ tells none. absurd (not_none none))
          (λ rest none. absurd (not_none none))
          (λ _ kept. absurd (not_none (kept ∙ going)))

      pub kept_failed : (begun : D) (opened : ℕ) (armed : Bool) → IsKeptIn bytes may_leave moment left_since faults old begun opened armed → IsKeptIn bytes may_leave moment left_since faults new begun opened armed
      kept_failed begun opened armed kept =
          let risen : Rose (faults begun) (faults new.journal.disk) = rose_from (faults begun) (faults old.journal.disk) (faults new.journal.disk) kept.counted rose in
          kept_after bytes may_leave moment left_since faults (store_of old begun opened armed) (store_of new begun opened armed) kept going (safe_failed begun opened armed).any_moment (safe_failed begun opened armed).tells (safe_failed begun opened armed).rests refl refl
          stays (subst IsSound (sym same_history) sound)
          (omega (arith, ap position same_history))
          (rose_above (faults begun) (faults new.journal.disk) kept.bounded risen)
          (λ _. risen)
          (ap is_some failed ∙ ap is_still (sym still))
          (λ is. is) (λ _. still_headed new.journal.standing still)
          (λ tells. some_also (bytes new.journal.disk) (WithOrWithout old.journal.version (content_of before) frame) (StandsForEither (history_of new.engine.past) (latest (history_of new.engine.past) new.failed))
          (λ file either. subst (λ (h : History). StandsForEither h (latest (history_of new.engine.past) new.failed) file) (sym same_history) (subst (λ (h : History). StandsForEither before h file) (sym latest_failed) (either_stands old.journal.version before e frame file sound sound_after framed either)))
          (shown (content_of before) tells))

      pub does_fail : (begun : D) (opened : ℕ) (armed : Bool) → IsKeptIn bytes may_leave moment left_since faults old begun opened armed → DoesIn faults moment (making_event e) begun opened armed old FailedCall new
      does_fail begun opened armed kept = does_failed bytes may_leave moment left_since faults (store_of old begun opened armed) (store_of new begun opened armed) e kept fits
          (fails_state bytes may_leave moment left_since faults (store_of old begun opened armed) (store_of new begun opened armed) e going failed events rose refl refl)

  -- ---- a store that stopped has a failed event

  pub stopped_apart : (old : Recorder D) (begun : D) (opened : ℕ) (armed : Bool) → IsKeptIn bytes may_leave moment left_since faults old begun opened armed → old.failed ≡ None → old.journal.standing ≡ Still → ⊥
  stopped_apart old begun opened armed kept going still =
      absurd (true≢false (sym (ap is_some (sym going) ∙ kept.still ∙ ap is_still still)))

  -- ---- only the room of the engine changed before

  pub does_room : {A : Type 0} (act other : History → Act A) (old new : Recorder D) (engine : EngineValue) (outcome : Outcome A) (begun : D) (opened : ℕ) (armed : Bool) → engine.past ≡ old.engine.past → act ≡ other
      → DoesIn faults moment act begun opened armed (record { engine = engine; journal = old.journal; failed = old.failed }) outcome new → DoesIn faults moment other begun opened armed old outcome new
  does_room act other old new engine outcome begun opened armed events same_act does =
      subst (λ (a : History → Act _). DoesIn faults moment a begun opened armed old outcome new) same_act
      (subst (λ (past : Past). DoesIn faults moment act begun opened armed (record { engine = record { past = past; room = engine.room }; journal = old.journal; failed = old.failed }) outcome new) events does)

  pub safe_room : (old new : Recorder D) (engine : EngineValue) → engine.past ≡ old.engine.past
      → IsSafeIn bytes may_leave moment left_since (record { engine = engine; journal = old.journal; failed = old.failed }) new → IsSafeIn bytes may_leave moment left_since old new
  safe_room old new engine events safe begun opened armed =
      let moved : IsSafe bytes may_leave moment left_since (store_of (record { engine = record { past = old.engine.past; room = engine.room }; journal = old.journal; failed = old.failed }) begun opened armed) (store_of new begun opened armed) =
      subst (λ (past : Past). IsSafe bytes may_leave moment left_since (store_of (record { engine = record { past = past; room = engine.room }; journal = old.journal; failed = old.failed }) begun opened armed) (store_of new begun opened armed)) events (safe begun opened armed) in
      record { any_moment = moved.any_moment; earlier = moved.earlier; tells = moved.tells; rests = moved.rests; untouched = moved.untouched }

  -- ---- a header was written

  module _ (old new : Recorder D) (sound : IsSound (history_of old.engine.past)) (events : new.engine ≡ old.engine)
      (run : (content : Content) → IsAtRest bytes may_leave old.journal content → LeavesOnly moment left_since old.journal.disk new.journal.disk (λ file. StandsFor file content)) where
    abbrev there : History
    there = history_of old.engine.past

    same_there : history_of new.engine.past ≡ there
    same_there = ap (λ (engine : EngineValue). history_of engine.past) events

    pub armed_run : RestsIn bytes may_leave old → LeavesOnly moment left_since old.journal.disk new.journal.disk (λ file. Stands file there)
    armed_run rest = weaker moment left_since old.journal.disk new.journal.disk (λ file. StandsFor file (content_of there)) (λ file. Stands file there) (run (content_of there) rest) (λ c stands. record { holds = stands; sound = sound })

    pub arms_safely : (answer : Append) → (TellsIn bytes old → IfDone answer (TellsIn bytes new)) → (RestsIn bytes may_leave old → IfDone answer (RestsIn bytes may_leave new))
        → ((content : Content) → IsTold bytes old.journal content → IsSomeAnd (bytes new.journal.disk) (λ file. StandsFor file content)) → ArmsSafely bytes may_leave moment left_since answer old new
    arms_safely answer tells done shown = record {
      tells = tells;
      done = done;
      any_moment = armed_run;
      shown = λ told. some_also (bytes new.journal.disk) (λ file. StandsFor file (content_of there)) (λ file. Stands file there) (λ file stands. record { holds = stands; sound = sound }) (shown (content_of there) told);
      earlier = λ t h rest begins le begin. begin_on bytes may_leave moment left_since old.journal.disk new.journal.disk (λ file. Stands file there) t h (armed_run rest) (λ c stands. record { all = there; stands = stands; begins = begins }) le begin;
    }

    pub kept_armed : old.failed ≡ None → (TellsIn bytes old → new.failed ≡ None → TellsIn bytes new) → (RestsIn bytes may_leave old → new.failed ≡ None → RestsIn bytes may_leave new)
        → ((begun : D) → faults begun < 2 ^ 64 → faults begun ≤ faults old.journal.disk → faults begun ≤ faults new.journal.disk)
        → ((begun : D) → faults begun ≤ faults old.journal.disk → IsTrue (is_some new.failed) → Rose (faults begun) (faults new.journal.disk))
        → is_some new.failed ≡ is_still new.journal.standing → new.journal.standing ≢ Bare
        → ((content : Content) → IsTold bytes old.journal content → IsSomeAnd (bytes new.journal.disk) (λ file. StandsFor file content))
        → (begun : D) (opened : ℕ) (armed : Bool) → IsKeptIn bytes may_leave moment left_since faults old begun opened armed → IsKeptIn bytes may_leave moment left_since faults new begun opened armed
    kept_armed going tells rests counted fell still headed shown begun opened armed kept =
        let last : History = latest (history_of new.engine.past) new.failed in
        kept_after bytes may_leave moment left_since faults (store_of old begun opened armed) (store_of new begun opened armed) kept going
        (λ rest. weaker moment left_since old.journal.disk new.journal.disk (λ file. Stands file there) (StandsForEither there (latest (history_of new.engine.past) new.failed)) (armed_run rest) (λ c stands. inl stands))
        tells rests refl refl
        (subst (λ (h : History). Begins there h) (sym same_there) same)
        (subst IsSound (sym same_there) sound)
        (omega (arith, ap position same_there))
        (counted begun kept.bounded kept.counted)
        (fell begun kept.counted)
        still (λ is. is) (λ _. headed)
        (λ told. some_also (bytes new.journal.disk) (λ file. StandsFor file (content_of there)) (StandsForEither (history_of new.engine.past) (latest (history_of new.engine.past) new.failed))
        (λ file stands. inl (subst (λ (h : History). Stands file h) (sym same_there) (record { holds = stands; sound = sound }))) (shown (content_of there) told))

-- a draft is a draft of its event
pub own_draft : (h : History) (e : Event) (draft : FramedEvent) → IsDraft h e draft → IsDraft h draft.prepared.event draft
own_draft h e draft is = record {
  event = refl;
  fits = subst (λ (x : Event). IsTrue (allowed h x)) (sym is.event) is.fits;
  formed = subst IsFormed (sym is.event) is.formed;
  framed = is.framed ∙ ap spelling.event (sym is.event);
  prepared = is.prepared;
}

-- a store that is armed after it had stopped doesn't change
pub stopped_same : {D : Type 0} (answer : Append) (old new : Recorder D) (begun : D) (opened : ℕ) (before now : Bool) → now ≡ armed_after before answer → IfStopped answer (new ≡ old) → IfStopped answer (store_of new begun opened now ≡ store_of old begun opened before)
stopped_same Done old new begun opened before now armed same_recorder = tt
stopped_same DiskFault old new begun opened before now armed same_recorder = tt
stopped_same Stopped old new begun opened before now armed same_recorder = λ k. store_of (same_recorder k) begun opened (armed k)
