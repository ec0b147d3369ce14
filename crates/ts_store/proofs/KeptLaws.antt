-- The invariant of a store is kept.
use Rattle.std.proofs.Common.{◌≡◌, Bool, ◌≢◌, inl, ⊎_elim, ℕ, ◌+◌, ◌-◌, ◌^◌, ◌≤◌, ◌<◌, true, false, min, List, Option, Some, None, IsSomeAnd, refl, sym, ◌∙◌, ap, subst, arith}
use Rattle.std.specs.Prelude.{IsSome, IsTrue, is_some}
use Rattle.std.proofs.lemmas.Bool.{true≢false}
use Rattle.std.proofs.Math.Nat.{min-le_left, min-le_right, le-min}
use Rattle.ts_schema.specs.Faults.{Rose}
use Rattle.ts_model.specs.declared.events.Event.{Event}
use Rattle.ts_model.specs.History.{History, position, prefix, Begins, same}
use Rattle.ts_model.proofs.HistoryLaws.{begins_prefix, begins_trans, prefix_end, prefix_stays}
use Rattle.engine_core.specs.Histories.{history_of}
use Rattle.engine_core.specs.Values.{EngineValue, Past}
use Rattle.ts_disk.specs.CrashImage.{LeavesOnly, Only}
use Rattle.ts_disk.specs.Disk.{Keeps}
use Rattle.ts_disk.proofs.Told.{some_also, some_is, the_told}
use Rattle.txn_journal.specs.Calls.{Logged, IsAtRest, IsTold}
use Rattle.txn_journal.specs.declared.journals.JournalState.{JournalState}
use Rattle.txn_journal.specs.declared.journals.JournalState.TheVariants.{Bare, Ready, Still}
use Rattle.txn_journal.proofs.JournalLaws.{lies_ready, lies_stands}
use Rattle.ts_store.specs.Images.{HasHeader, IsBetween, IsDurable, StandsForEither, latest}
use Rattle.ts_store.specs.Safe.{IsSafe}
use Rattle.ts_store.specs.Stands.{Stands, IsSound, content_of}
use Rattle.ts_store.specs.Stores.{StoreValue, IsKept, Rests, Tells, is_still, opening_history, history_seen}
use Rattle.ts_store.proofs.ImageLaws.{begin_on, begins_latest, between_either, between_on, either_more, holds_header, shown_told}

-- ---- counts of faults

pub rose_from : (a b c : ℕ) → a ≤ b → Rose b c → Rose a c
rose_from a b c le rose =
    let most : min (a + 1) (2 ^ 64 - 1) ≤ b + 1 = omega (arith, min-le_left (a + 1) (2 ^ 64 - 1)) in
    let mono : min (a + 1) (2 ^ 64 - 1) ≤ min (b + 1) (2 ^ 64 - 1) = le-min most (min-le_right (a + 1) (2 ^ 64 - 1)) in
    omega (arith, mono, rose)

pub rose_above : (a b : ℕ) → a < 2 ^ 64 → Rose a b → a ≤ b
rose_above a b few rose =
    let last : a ≤ 2 ^ 64 - 1 = omega arith in
    let here : a ≤ a + 1 = omega arith in
    let le : a ≤ min (a + 1) (2 ^ 64 - 1) = le-min here last in
    omega (arith, le, rose)

-- ---- journals

pub not_still : (s : JournalState) → s ≢ Still → false ≡ is_still s
not_still Bare going = refl
not_still Ready going = refl
not_still Still going = absurd (going refl)

-- a journal with a header, or one that stopped, isn't bare
ready_apart : Ready ≡ Bare → ⊥
ready_apart is = cc is

still_apart : Still ≡ Bare → ⊥
still_apart is = cc is

pub ready_headed : (s : JournalState) → s ≡ Ready → s ≢ Bare
ready_headed s ready bare = ready_apart (sym ready ∙ bare)

pub still_headed : (s : JournalState) → s ≡ Still → s ≢ Bare
still_headed s still bare = still_apart (sym still ∙ bare)

-- a store failed if and only if its journal stopped
pub none_of_going : (failed : Option Event) (s : JournalState) → is_some failed ≡ is_still s → s ≢ Still → failed ≡ None
none_of_going None s is going = refl
none_of_going (Some e) s is going = absurd (true≢false (is ∙ sym (not_still s going)))

pub some_of_still : (failed : Option Event) (s : JournalState) → is_some failed ≡ is_still s → s ≡ Still → is_some failed ≡ true
some_of_still failed s is still = is ∙ ap is_still still

-- ---- histories

-- an opening stays the same
pub opening_stays : (g h : History) (opened : ℕ) → Begins g h → opened ≤ position g → prefix h opened ≡ prefix g opened
opening_stays g h opened goes le = prefix_stays opened goes le

pub rose_none : (failed : Option Event) (a b : ℕ) → failed ≡ None → IsTrue (is_some failed) → Rose a b
rose_none failed a b none some = absurd (true≢false (sym (subst (λ (o : Option Event). is_some o ≡ true) none some)))

module _ {D : Type 0} (bytes : D → Option (List ℕ)) (may_leave : D → List ℕ → Type 0) (moment : D → ℕ) (left_since : D → ℕ → List ℕ → Type 0) (faults : D → ℕ) where
  abbrev Kept : StoreValue D → Type 0
  Kept s = IsKept bytes may_leave moment left_since faults s

  abbrev Safe : StoreValue D → StoreValue D → Type 0
  Safe old new = IsSafe bytes may_leave moment left_since old new

  -- a call is safe if its images are those of the history at entry, or of that history with its event
  pub safe_of : (old new : StoreValue D) → (Rests bytes may_leave old → LeavesOnly moment left_since old.journal.disk new.journal.disk (StandsForEither (history_seen old) (latest (history_seen new) new.failed)))
      → Begins (history_seen old) (history_seen new) → (Tells bytes old → new.failed ≡ None → Tells bytes new) → (Rests bytes may_leave old → new.failed ≡ None → Rests bytes may_leave new)
      → (history_seen new ≡ history_seen old → new.failed ≡ old.failed → new.journal ≡ old.journal) → Safe old new
  safe_of old new run goes tells rests untouched = record {
    any_moment = run;
    earlier = λ t h rest begins le begin.
        begin_on bytes may_leave moment left_since old.journal.disk new.journal.disk (StandsForEither (history_seen old) (latest (history_seen new) new.failed)) t h (run rest)
        (λ c either. either_more h (history_seen old) (latest (history_seen new) new.failed) c begins (begins_trans begins (begins_trans goes (begins_latest (history_seen new) new.failed))) either)
        le begin;
    tells = tells;
    rests = rests;
    untouched = untouched;
  }

  -- nothing happened on the disk: its crash images are the same
  pub stood : (disk : D) (P : List ℕ → Type 0) → ((c : List ℕ) → left_since disk (moment disk) c → P c) → LeavesOnly moment left_since disk disk P
  stood disk P here = record { later = omega arith; each = here; before = λ t c le left. inl left; keeps = λ t c le left. left }

  -- a call that doesn't change events, journal and failure
  pub safe_same : ((disk : D) (c : List ℕ) → left_since disk (moment disk) c → may_leave disk c) → (old new : StoreValue D) → IsSound (history_seen old)
      → new.engine.past ≡ old.engine.past → new.journal ≡ old.journal → new.failed ≡ old.failed → Safe old new
  safe_same only_now old new sound events journal failed =
      let same_history : history_seen new ≡ history_seen old = ap history_of events in
      let run : Rests bytes may_leave old → LeavesOnly moment left_since old.journal.disk old.journal.disk (StandsForEither (history_seen old) (latest (history_seen new) new.failed)) = λ rest.
      stood old.journal.disk (StandsForEither (history_seen old) (latest (history_seen new) new.failed))
      (λ c left. inl (subst (λ (file : List ℕ). Stands file (history_seen old)) (sym (rest.durable c (only_now old.journal.disk c left))) (stands_at_rest old sound rest))) in
      safe_of old new
      (λ rest. subst (λ (j : Logged D). LeavesOnly moment left_since old.journal.disk j.disk (StandsForEither (history_seen old) (latest (history_seen new) new.failed))) (sym journal) (run rest))
      (subst (λ (h : History). Begins (history_seen old) h) (sym same_history) same)
      (λ tells none. subst (λ (h : History). IsTold bytes new.journal (content_of h)) (sym same_history) (subst (λ (j : Logged D). IsTold bytes j (content_of (history_seen old))) (sym journal) tells))
      (λ rest none. subst (λ (h : History). IsAtRest bytes may_leave new.journal (content_of h)) (sym same_history) (subst (λ (j : Logged D). IsAtRest bytes may_leave j (content_of (history_seen old))) (sym journal) rest))
      (λ _ _. journal)
    where
      stands_at_rest : (s : StoreValue D) (sound : IsSound (history_seen s)) (rest : Rests bytes may_leave s) → Stands rest.tells.file (history_seen s)
      stands_at_rest s sound rest = record { holds = lies_stands s.journal.standing s.journal.version rest.tells.file s.journal.end (content_of (history_seen s)) rest.tells.lies; sound = sound }

  -- ---- a safe call keeps the invariant of a store

  pub kept_after : (old new : StoreValue D) → Kept old → old.failed ≡ None
      → (Rests bytes may_leave old → LeavesOnly moment left_since old.journal.disk new.journal.disk (StandsForEither (history_seen old) (latest (history_seen new) new.failed)))
      → (Tells bytes old → new.failed ≡ None → Tells bytes new)
      → (Rests bytes may_leave old → new.failed ≡ None → Rests bytes may_leave new) → new.begun ≡ old.begun → new.opened ≡ old.opened
      → Begins (history_seen old) (history_seen new) → IsSound (history_seen new) → position (history_seen old) ≤ position (history_seen new)
      → faults old.begun ≤ faults new.journal.disk → (IsTrue (is_some new.failed) → Rose (faults old.begun) (faults new.journal.disk))
      → is_some new.failed ≡ is_still new.journal.standing → (new.armed ≡ true → old.armed ≡ true) → (old.journal.standing ≢ Bare → new.journal.standing ≢ Bare)
      → (Tells bytes old → IsSomeAnd (bytes new.journal.disk) (StandsForEither (history_seen new) (latest (history_seen new) new.failed)))
      → Kept new
  kept_after old new kept going runs told_on rested_on begun opened goes sound longer counted fell still armed headed shown =
      let durable : IsDurable bytes may_leave new.begun → IsDurable bytes may_leave old.begun = subst (λ (d : D). IsDurable bytes may_leave d) begun in
      let known : IsSome (bytes new.begun) → IsSome (bytes old.begun) = subst (λ (d : D). IsSome (bytes d)) begun in
      let told : IsSome (bytes new.begun) → Tells bytes old = λ some. kept.tells (known some) going in
      let rested : IsDurable bytes may_leave new.begun → Rests bytes may_leave old = λ d. kept.rests (durable d) going in
      let within : old.opened ≤ position (history_seen old) = kept.from in
      let same_opening : opening_history new ≡ opening_history old = ap (λ (n : ℕ). prefix (history_seen new) n) opened ∙ opening_stays (history_seen old) (history_seen new) old.opened goes within in
      record {
        sound = sound;
        from = omega (arith, opened, kept.from, longer);
        bounded = subst (λ (d : D). faults d < 2 ^ 64) (sym begun) kept.bounded;
        counted = subst (λ (d : D). faults d ≤ faults new.journal.disk) (sym begun) counted;
        fell = λ some. subst (λ (d : D). Rose (faults d) (faults new.journal.disk)) (sym begun) (fell some);
        still = still;
        headed = λ is. headed (kept.headed (armed is));
        later = λ d. subst (λ (b : D). moment b ≤ moment new.journal.disk) (sym begun) (omega (arith, kept.later (durable d), (runs (rested d)).later));
        tells = λ some none. told_on (told some) none;
        rests = λ d none. rested_on (rested d) none;
        shown = λ some. shown (told some);
        images = λ d c left.
            let run = runs (rested d) in
            let since : left_since new.journal.disk (moment old.begun) c = subst (λ (b : D). left_since new.journal.disk (moment b) c) begun left in
            ⊎_elim
            (λ past. between_on (opening_history old) (opening_history new) (history_seen old) (history_seen new) new.failed c same_opening goes
            (subst (λ (o : Option Event). IsBetween (opening_history old) (history_seen old) o c) going (kept.images (durable d) c past)))
            (λ now. between_either (opening_history new) (history_seen old) (history_seen new) new.failed c (subst (λ (h : History). Begins h (history_seen old)) (sym same_opening) (begins_prefix (history_seen old) old.opened)) goes now)
            (run.before (moment old.begun) c (kept.later (durable d)) since);
      }

  -- only the room of its engine changed
  pub kept_room : (s : StoreValue D) (engine : EngineValue) → engine.past ≡ s.engine.past → Kept s → Kept (record s { engine = engine })
  kept_room s engine is kept =
      let P : Past → Type 0 = λ past. Kept (record s { engine = record { past = past; room = engine.room } }) in
      subst P (sym is) (record {
        sound = kept.sound;
        from = kept.from;
        bounded = kept.bounded;
        counted = kept.counted;
        fell = kept.fell;
        still = kept.still;
        headed = kept.headed;
        later = kept.later;
        tells = kept.tells;
        rests = kept.rests;
        shown = kept.shown;
        images = kept.images;
      })

  -- it was armed
  pub kept_armed_now : (s : StoreValue D) (armed : Bool) → (armed ≡ true → s.journal.standing ≢ Bare) → Kept s → Kept (record s { armed = armed })
  kept_armed_now s armed headed kept = record {
    sound = kept.sound;
    from = kept.from;
    bounded = kept.bounded;
    counted = kept.counted;
    fell = kept.fell;
    still = kept.still;
    headed = headed;
    later = kept.later;
    tells = kept.tells;
    rests = kept.rests;
    shown = kept.shown;
    images = kept.images;
  }

  -- the content of reads of a journal with a header
  pub shows_header : (s : StoreValue D) → Kept s → s.armed ≡ true → s.failed ≡ None → IsSome (bytes s.begun) → IsSomeAnd (bytes s.journal.disk) HasHeader
  shows_header s kept armed going some =
      let tells = kept.tells some going in
      some_is (bytes s.journal.disk) tells.file HasHeader tells.told (holds_header tells.file (content_of (history_seen s)) (lies_ready s.journal.standing s.journal.version tells.file s.journal.end (content_of (history_seen s)) (kept.headed armed) tells.lies).holds)

  -- all of that content is on the disk, if it was at the start and the disk didn't fail
  pub durable_still : (s : StoreValue D) → Kept s → s.failed ≡ None → IsDurable bytes may_leave s.begun → IsDurable bytes may_leave s.journal.disk
  durable_still s kept going durable =
      let rests = kept.rests durable going in
      record { file = rests.tells.file; told = rests.tells.told; durable = rests.durable }

  -- ---- the start

  pub kept_at_start : ((disk : D) (c : List ℕ) → left_since disk (moment disk) c → may_leave disk c) → (begun : D) (journal : Logged D) (engine : EngineValue)
      → faults begun < 2 ^ 64 → Keeps bytes may_leave moment left_since begun journal.disk → faults journal.disk ≡ faults begun → IsSound (history_of engine.past) → journal.standing ≢ Still
      → ((file : List ℕ) → bytes begun ≡ Some file → Stands file (history_of engine.past))
      → ((file : List ℕ) → bytes begun ≡ Some file → IsTold bytes journal (content_of (history_of engine.past)))
      → ((file : List ℕ) → bytes begun ≡ Some file → Only file (may_leave begun) → IsAtRest bytes may_leave journal (content_of (history_of engine.past)))
      → Kept (record { engine = engine; journal = journal; failed = None; begun = begun; opened = position (history_of engine.past); armed = false })
  kept_at_start only_now begun journal engine few keeps count sound goes_on stands told at_rest =
      let h = history_of engine.past in
      let opened_is : prefix (history_of engine.past) (position (history_of engine.past)) ≡ history_of engine.past = prefix_end (history_of engine.past) (position (history_of engine.past)) (omega arith) in
      record {
        sound = sound;
        from = omega arith;
        bounded = few;
        counted = omega (arith, count);
        fell = λ failed. absurd (true≢false (sym failed));
        still = not_still journal.standing goes_on;
        headed = λ is. absurd (true≢false (sym is));
        later = λ d. omega (arith, keeps.at_moment);
        tells = λ some none. let known = the_told (bytes begun) some in told known.0 known.1;
        rests = λ d none. at_rest d.file d.told d.durable;
        shown = λ some. let known = the_told (bytes begun) some in some_also (bytes journal.disk) (λ file. Stands file (history_of engine.past)) (StandsForEither (history_of engine.past) (history_of engine.past)) (λ file is. inl is)
            (shown_told bytes journal (history_of engine.past) sound (told known.0 known.1));
        images = λ d c left.
            let was : left_since begun (moment begun) c = keeps.past (moment begun) c left in
            let is : c ≡ d.file = d.durable c (only_now begun c was) in
            record {
              history = history_of engine.past;
              stands = subst (λ (file : List ℕ). Stands file (history_of engine.past)) (sym is) (stands d.file d.told);
              from = subst (λ (g : History). Begins g (history_of engine.past)) (sym opened_is) same;
              upto = inl same;
            };
      }
