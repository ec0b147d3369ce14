-- The roster of a consistent history is sound: all that it names exists and is in range.
use Rattle.std.proofs.Common.{◌≡◌, ℕ, zero, suc, ◌+◌, ◌<◌, ◌≤◌, Bool, true, ◌&&◌, nat_lt, nat_le, ◌==◌, List, [], ◌∷◌, ◌++◌, length, length-append, pos, int_lt, int_le, Option, Some, None, ◌⊎◌, inl, inr, ⊎_elim, sym, refl, ap, ◌∙◌, subst, arith}
use Rattle.std.specs.Prelude.{slice_get, unwrap_or}
use Rattle.std.proofs.lemmas.Bool.{true≢false, and_parts, and_from, ltb-true}
use Rattle.ts_bucket.specs.Bucket.{IsWidth, max_step, is_width}
use Rattle.ts_bucket.specs.declared.widths.Width.{Width}
use Rattle.ts_model.specs.declared.events.Event.{Event}
use Rattle.ts_model.specs.declared.events.Event.TheVariants.{Table, Hyper, View, Mode, Commit, Cut, Built}
use Rattle.ts_schema.specs.Names.{is_name}
use Rattle.ts_model.specs.declared.rosters.Roster.{Roster}
use Rattle.ts_model.specs.declared.tables.Hyper.{Hyper as HyperInfo}
use Rattle.ts_model.specs.declared.tables.TableDef.{TableDef}
use Rattle.ts_model.specs.declared.tables.TableInfo.{TableInfo}
use Rattle.ts_model.specs.declared.views.ViewDef.{ViewDef}
use Rattle.ts_model.specs.History.{History, start, resumed, ◌▸◌}
use Rattle.ts_model.specs.Roster.{no_relations, change_at, made_hyper, set_only, roster_after, roster_over, roster, table_of, of_hyper, of_table, view_of}
use Rattle.ts_model.specs.Limits.{most_relations, most_columns}
use Rattle.ts_model.specs.Sound.{are_names, fold_fits, output_count, hyper_fits, view_fits, sound_in, sound_at, sound}
use Rattle.ts_model.specs.Timely.{timely_in, timely_at}
use Rattle.ts_model.specs.Valid.{may_follow, make_views, make_relations}
use Rattle.ts_model.specs.Allowed.{all_consistent, consistent}
use Rattle.ts_model.specs.Laws.{is_hyper_sound, is_table_sound, IsSoundRoster, RostersAreSound, WidthsAreSound}
use Rattle.ts_model.proofs.ValidLaws.{valid_is}
use Rattle.ts_model.proofs.RosterLaws.{relations_further, length-change_at}
use Rattle.ts_model.proofs.AllowedLaws.{sound_in_stays}
use Rattle.ts_schema.proofs.Cases.{int_le-true, le-int_le, int_lt-true, lt-int_lt}

-- ---- widths

pub width_is : (w : Width) → is_width w ≡ true → IsWidth w
width_is w e =
    let shift = and_parts _ (int_lt w.shift w.step) e in
    let zero_on = and_parts _ (int_le (pos 0) w.shift) shift.0 in
    let step = and_parts (int_lt (pos 0) w.step) (int_le w.step max_step) zero_on.0 in
    record { positive = int_lt-true (pos 0) w.step step.0; bounded = int_le-true w.step max_step step.1; from_zero = int_le-true (pos 0) w.shift zero_on.1; below_step = int_lt-true w.shift w.step shift.1 }

pub width_from : (w : Width) → IsWidth w → is_width w ≡ true
width_from w width =
    and_from _ _ (and_from _ _ (and_from _ _ (lt-int_lt (pos 0) w.step width.positive) (le-int_le w.step max_step width.bounded)) (le-int_le (pos 0) w.shift width.from_zero)) (lt-int_lt w.shift w.step width.below_step)

-- ---- the items of a list that grew at its end, or in which one item changed

pub get_pushed : {X : Type 0} (xs : List X) (y : X) (i : ℕ) (x : X) → slice_get (xs ++ (y ∷ [])) i ≡ Some x → (slice_get xs i ≡ Some x) ⊎ (y ≡ x)
get_pushed [] y zero x e = inr (cc)
get_pushed [] y (suc i) x e = absurd (cc)
get_pushed (z ∷ xs) y zero x e = inl e
get_pushed (z ∷ xs) y (suc i) x e = get_pushed xs y i x e

-- the item at a place of a changed list is the old one, or the changed one at the place of the change
pub data Stood {X : Type 0} (xs : List X) (j i : ℕ) (f : X → X) (x : X) : Type 0 where
  as_before : slice_get xs i ≡ Some x → Stood xs j i f x
  changed : (was : X) → slice_get xs i ≡ Some was → j ≡ i → x ≡ f was → Stood xs j i f x

stood_further : {X : Type 0} (z : X) (xs : List X) (j i : ℕ) (f : X → X) (x : X) → Stood xs j i f x → Stood (z ∷ xs) (suc j) (suc i) f x
stood_further z xs j i f x (as_before e) = as_before e
stood_further z xs j i f x (changed was e here is) = changed was e (ap suc here) is

pub get_changed : {X : Type 0} (xs : List X) (j i : ℕ) (f : X → X) (x : X) → slice_get (change_at xs j f) i ≡ Some x → Stood xs j i f x
get_changed [] j i f x e = absurd (cc)
get_changed (z ∷ xs) zero zero f x e = changed z refl refl (cc)
get_changed (z ∷ xs) zero (suc i) f x e = as_before e
get_changed (z ∷ xs) (suc j) zero f x e = as_before e
get_changed (z ∷ xs) (suc j) (suc i) f x e = stood_further z xs j i f x (get_changed xs j i f x e)

-- ---- one event

made_sound : (info : TableInfo) (was : Option HyperInfo) (hyper : HyperInfo) → is_hyper_sound info was ≡ true → hyper_fits hyper (Some info) ≡ true → hyper_fits (unwrap_or was hyper) (Some info) ≡ true
made_sound info None hyper e f = f
made_sound info (Some old) hyper e f = e

-- an aggregate of the roster before an event is sound after it
views_stay : (r : Roster) (e : Event) (n : ℕ) (def : ViewDef) → IsSoundRoster r → view_of r n ≡ Some def → sound_in (roster_after r e) (View def) ≡ true
views_stay r e n def ok there = sound_in_stays r (roster_after r e) (View def) (relations_further r e) (ok.views n def there)

room_for_one : (m most : ℕ) → nat_lt m most ≡ true → m + 1 ≤ most
room_for_one m most e = let l : m < most = ltb-true m most e in omega arith

after_table : (r : Roster) (def : TableDef) → sound_in r (Table def) ≡ true → nat_lt (length r.tables) most_relations ≡ true → IsSoundRoster r → IsSoundRoster (roster_after r (Table def))
after_table r def fits room ok = record {
  tables = λ t info e. ⊎_elim
      (λ old. ok.tables t info old)
      (λ (new : record { def = def; hyper = None } ≡ info). subst (λ i. is_table_sound i ≡ true) new (and_from _ _ fits refl))
      (get_pushed r.tables (record { def = def; hyper = None }) t info e);
  views = λ n view e. views_stay r (Table def) n view ok e;
  few_tables =
      let longer : length (r.tables ++ (record { def = def; hyper = None } ∷ [])) ≡ length r.tables + 1 = length-append r.tables (record { def = def; hyper = None } ∷ []) in
      subst (λ m. m ≤ most_relations) (sym longer) (room_for_one (length r.tables) most_relations room);
  few_views = ok.few_views;
}

after_hyper : (r : Roster) (u : ℕ) (hyper : HyperInfo) → hyper_fits hyper (table_of r u) ≡ true → IsSoundRoster r → IsSoundRoster (roster_after r (Hyper u hyper))
after_hyper r u hyper fits ok = record {
  tables = λ t info e. of_stood t info (get_changed r.tables u t (made_hyper hyper) info e);
  views = λ n view e. views_stay r (Hyper u hyper) n view ok e;
  few_tables = subst (λ m. m ≤ most_relations) (sym (length-change_at r.tables u (made_hyper hyper))) ok.few_tables;
  few_views = ok.few_views;
}
  where
    of_changed : (info was : TableInfo) → table_of r u ≡ Some was → is_table_sound was ≡ true → info ≡ made_hyper hyper was → is_table_sound info ≡ true
    of_changed info was there e is =
        let parts = and_parts (sound_in no_relations (Table was.def)) (is_hyper_sound was was.hyper) e in
        subst (λ i. is_table_sound i ≡ true) (sym is)
        (and_from _ _ parts.0 (made_sound was was.hyper hyper parts.1 (sym (ap (hyper_fits hyper) there) ∙ fits)))

    of_stood : (t : ℕ) (info : TableInfo) → Stood r.tables u t (made_hyper hyper) info → is_table_sound info ≡ true
    of_stood t info (as_before e) = ok.tables t info e
    of_stood t info (changed was e here is) = of_changed info was (ap (λ k. slice_get r.tables k) here ∙ e) (ok.tables t was e) is

after_view : (r : Roster) (def : ViewDef) → sound_in r (View def) ≡ true → nat_lt (length r.views) most_relations ≡ true → IsSoundRoster r → IsSoundRoster (roster_after r (View def))
after_view r def fits room ok = record {
  tables = ok.tables;
  views = λ n view e. ⊎_elim
      (λ old. views_stay r (View def) n view ok old)
      (λ (new : def ≡ view). subst (λ v. sound_in (roster_after r (View def)) (View v) ≡ true) new fits)
      (get_pushed r.views def n view e);
  few_tables = ok.few_tables;
  few_views =
      let longer : length (r.views ++ (def ∷ [])) ≡ length r.views + 1 = length-append r.views (def ∷ []) in
      subst (λ m. m ≤ most_relations) (sym longer) (room_for_one (length r.views) most_relations room);
}

after_mode : (r : Roster) (v : ℕ) (only : Bool) → IsSoundRoster r → IsSoundRoster (roster_after r (Mode v only))
after_mode r v only ok = record {
  tables = ok.tables;
  views = λ n view e. of_stood n view (get_changed r.views v n (set_only only) view e);
  few_tables = ok.few_tables;
  few_views = subst (λ m. m ≤ most_relations) (sym (length-change_at r.views v (set_only only))) ok.few_views;
}
  where
    of_stood : (n : ℕ) (view : ViewDef) → Stood r.views v n (set_only only) view → sound_in (roster_after r (Mode v only)) (View view) ≡ true
    of_stood n view (as_before e) = views_stay r (Mode v only) n view ok e
    of_stood n view (changed was e here is) = subst (λ d. sound_in (roster_after r (Mode v only)) (View d) ≡ true) (sym is) (views_stay r (Mode v only) n was ok e)

sound_after : (r : Roster) (e : Event) → sound_in r e ≡ true → timely_in r e ≡ true → IsSoundRoster r → IsSoundRoster (roster_after r e)
sound_after r (Table def) fits next ok = after_table r def fits (and_parts _ (nat_lt (length r.tables) most_relations) next).1 ok
sound_after r (Hyper t hyper) fits next ok = after_hyper r t hyper fits ok
sound_after r (View def) fits next ok = after_view r def fits (and_parts _ (nat_lt (length r.views) most_relations) next).1 ok
sound_after r (Mode v only) fits next ok = after_mode r v only ok
sound_after r e fits next ok = ok

-- ---- many events

views_sound : (r : Roster) (es : List Event) → make_views r es ≡ true → IsSoundRoster r → IsSoundRoster (roster_over r es)
views_sound r [] e ok = ok
views_sound r (View def ∷ es) e ok =
    let parts = and_parts (may_follow r (View def)) (make_views (roster_after r (View def)) es) e in
    let now = and_parts (sound_in r (View def)) (timely_in r (View def)) parts.0 in
    views_sound (roster_after r (View def)) es parts.1 (sound_after r (View def) now.0 now.1 ok)
views_sound r (x ∷ es) e ok = absurd (true≢false (sym e))

pub relations_sound : (r : Roster) (es : List Event) → make_relations r es ≡ true → IsSoundRoster r → IsSoundRoster (roster_over r es)
relations_sound r [] e ok = ok
relations_sound r (Table def ∷ es) e ok =
    let parts = and_parts (may_follow r (Table def)) (make_relations (roster_after r (Table def)) es) e in
    let now = and_parts (sound_in r (Table def)) (timely_in r (Table def)) parts.0 in
    relations_sound (roster_after r (Table def)) es parts.1 (sound_after r (Table def) now.0 now.1 ok)
relations_sound r (Hyper t hyper ∷ es) e ok =
    let parts = and_parts (suc t == length r.tables && may_follow r (Hyper t hyper)) (make_relations (roster_after r (Hyper t hyper)) es) e in
    let now = and_parts (sound_in r (Hyper t hyper)) (timely_in r (Hyper t hyper)) (and_parts (suc t == length r.tables) (may_follow r (Hyper t hyper)) parts.0).1 in
    relations_sound (roster_after r (Hyper t hyper)) es parts.1 (sound_after r (Hyper t hyper) now.0 now.1 ok)
relations_sound r (View def ∷ es) e ok = views_sound r (View def ∷ es) e ok
relations_sound r (x ∷ es) e ok = absurd (true≢false (sym e))

no_relations_sound : IsSoundRoster no_relations
no_relations_sound = record {
  tables = λ t info e. absurd (cc);
  views = λ n def e. absurd (cc);
  few_tables = omega arith;
  few_views = omega arith;
}

-- ---- histories

-- a consistent event is sound and timely in the roster
pub sound_in_roster : (h : History) (e : Event) → sound_at h e ≡ true → sound_in (roster h) e ≡ true
sound_in_roster h (Table def) s = s
sound_in_roster h (Hyper t hyper) s = s
sound_in_roster h (View def) s = s
sound_in_roster h (Mode v only) s = s
sound_in_roster h (Commit ops) s = s
sound_in_roster h (Cut v span) s = s
sound_in_roster h (Built cut snap) s = refl

pub timely_in_roster : (h : History) (e : Event) → timely_at h e ≡ true → timely_in (roster h) e ≡ true
timely_in_roster h (Table def) s = s
timely_in_roster h (Hyper t hyper) s = s
timely_in_roster h (View def) s = s
timely_in_roster h (Mode v only) s = s
timely_in_roster h (Commit ops) s = s
timely_in_roster h (Cut v span) s = s
timely_in_roster h (Built cut snap) s = refl

pub rosters_are_sound : RostersAreSound
rosters_are_sound start ok = no_relations_sound
rosters_are_sound (resumed i) ok = relations_sound no_relations i.roster (valid_is i ok).relations no_relations_sound
rosters_are_sound (h ▸ e) ok =
    let parts = and_parts (all_consistent h) (consistent h e) ok in
    let now = and_parts (sound h e) (timely_at h e) parts.1 in
    let fits = sound_in_roster h e (and_parts (sound_at h e) _ now.0).0 in
    sound_after (roster h) e fits (timely_in_roster h e now.1) (rosters_are_sound h parts.0)

-- the width of an aggregate of a sound roster
width_of_table : (def : ViewDef) (o : Option TableInfo) → of_table (view_fits def) o ≡ true → IsWidth def.fold.width
width_of_table def None e = absurd (true≢false (sym e))
width_of_table def (Some info) e = width_of_hyper info.hyper e
  where
    width_of_hyper : (o : Option HyperInfo) → of_hyper (view_fits def) info.def o ≡ true → IsWidth def.fold.width
    width_of_hyper None e = absurd (true≢false (sym e))
    width_of_hyper (Some hyper) e =
        let names = and_parts _ (are_names def.names) e in
        let count = and_parts _ (length def.names == output_count def.fold) names.0 in
        let most = and_parts _ (nat_le (output_count def.fold) most_columns) count.0 in
        let some = and_parts _ (nat_lt 0 (length def.fold.aggs)) most.0 in
        let fold = and_parts _ (fold_fits (length info.def.cols) def.fold) some.0 in
        width_is def.fold.width (and_parts (is_name def.name) (is_width def.fold.width) fold.0).1

pub view_width : WidthsAreSound
view_width h n def ok there = width_of_table def (table_of (roster h) def.table) ((rosters_are_sound h ok).views n def there)
