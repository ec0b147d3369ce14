-- No two relations of an allowed history have the same name, and the events that create its roster may follow
-- one another.
use Rattle.std.proofs.Common.{◌≡◌, ℕ, zero, suc, ◌+◌, ◌<◌, ◌≤◌, Bool, true, false, ◌&&◌, ◌||◌, not, cond, nat_lt, ◌==◌, List, [], ◌∷◌, ◌++◌, map, length, length-append, Option, Some, None, sym, refl, ap, ◌∙◌, subst, arith}
use Rattle.std.specs.Prelude.{is_some, is_none, slice_get, option_and_then, position as place}
use Rattle.std.specs.List.{list_any, list_all, position_or_len}
use Rattle.std.proofs.lemmas.Bool.{true≢false, and_parts, and_from, or_parts, or_from, lt-ltb, ltb-true, not-true, eq-eqb}
use Rattle.std.proofs.lemmas.Bool.Decides.{nat_tests}
use Rattle.std.proofs.lemmas.Cmp.{nat_list_eq_equiv}
use Rattle.std.proofs.lemmas.List.{append-nil, append_assoc}
use Rattle.ts_model.specs.declared.events.Event.{Event}
use Rattle.ts_model.specs.declared.events.Event.TheVariants.{Table, Hyper, View, Mode, Commit, Cut, Built}
use Rattle.ts_model.specs.declared.rosters.Roster.{Roster}
use Rattle.ts_model.specs.declared.tables.Hyper.{Hyper as HyperInfo}
use Rattle.ts_model.specs.declared.tables.TableDef.{TableDef}
use Rattle.ts_model.specs.declared.tables.TableInfo.{TableInfo}
use Rattle.ts_model.specs.declared.views.ViewDef.{ViewDef}
use Rattle.ts_model.specs.History.{History, start, resumed, ◌▸◌}
use Rattle.ts_model.specs.Roster.{no_relations, change_at, made_hyper, set_only, roster_after, roster_over, roster, table_of, hyper_of, view_of, same_name, table_named, view_named, is_taken}
use Rattle.ts_model.specs.Limits.{most_relations}
use Rattle.ts_model.specs.Laws.{is_hyper_sound, is_table_sound, IsSoundRoster}
use Rattle.ts_model.specs.Allowed.{allowed, all_allowed}
use Rattle.ts_model.specs.Sound.{all_apart, hyper_fits, sound_in, sound}
use Rattle.ts_model.specs.Timely.{timely_in, timely_at}
use Rattle.ts_model.specs.Valid.{may_follow, make_views, make_relations}
use Rattle.image_laws.specs.Images.{hyper_events, table_events, roster_events}
use Rattle.ts_model.proofs.ValidLaws.{valid_is}
use Rattle.ts_model.proofs.AllowedLaws.{consistent_next, consistent_of}
use Rattle.ts_model.proofs.SoundLaws.{timely_in_roster, rosters_are_sound}
use Rattle.ts_model.proofs.UntouchedLaws.{list_any-append}

-- ---- names

abbrev pub table_names : List TableInfo → List (List ℕ)
table_names ts = map (λ (info : TableInfo). info.def.name) ts

abbrev pub view_names : List ViewDef → List (List ℕ)
view_names vs = map (λ (def : ViewDef). def.name) vs

-- no two relations have the same name
abbrev pub NamesApart : Roster → Type 0
NamesApart r = all_apart (table_names r.tables ++ view_names r.views) ≡ true

name_turned : (a b : List ℕ) → same_name a b ≡ same_name b a
name_turned a b = nat_list_eq_equiv.symm a b

some_cond : {X : Type 0} (t : Bool) (x : X) → is_some (cond t (Some x) None) ≡ t
some_cond true x = refl
some_cond false x = refl

place_below : {X : Type 0} (p : X → Bool) (xs : List X) → nat_lt (position_or_len p xs) (length xs) ≡ list_any p xs
place_below p [] = refl
place_below p (x ∷ xs) =
    elim (p x) as (λ t. nat_lt (cond (not t) (1 + position_or_len p xs) 0) (length (x ∷ xs)) ≡ (t || list_any p xs)) [
      | true ↦ lt-ltb 0 (length (x ∷ xs)) (omega arith)
      | false ↦ shifted (position_or_len p xs) (length xs) ∙ place_below p xs
    ]
  where
    shifted : (a n : ℕ) → nat_lt (1 + a) (suc n) ≡ nat_lt a n
    shifted a n = grind (arith, nat_tests)

pub place_any : {X : Type 0} (p : X → Bool) (xs : List X) → is_some (place p xs) ≡ list_any p xs
place_any p xs = some_cond (nat_lt (position_or_len p xs) (length xs)) (position_or_len p xs) ∙ place_below p xs

any_table : (name : List ℕ) (ts : List TableInfo) → list_any (λ info. same_name info.def.name name) ts ≡ list_any (same_name name) (table_names ts)
any_table name [] = refl
any_table name (t ∷ ts) = ap (λ b. b || list_any (λ info. same_name info.def.name name) ts) (name_turned t.def.name name) ∙ ap (λ b. same_name name t.def.name || b) (any_table name ts)

any_view : (name : List ℕ) (vs : List ViewDef) → list_any (λ def. same_name def.name name) vs ≡ list_any (same_name name) (view_names vs)
any_view name [] = refl
any_view name (v ∷ vs) = ap (λ b. b || list_any (λ def. same_name def.name name) vs) (name_turned v.name name) ∙ ap (λ b. same_name name v.name || b) (any_view name vs)

-- a name is taken if a relation has it
pub taken_is : (r : Roster) (name : List ℕ) → is_taken r name ≡ (list_any (same_name name) (table_names r.tables) || list_any (same_name name) (view_names r.views))
taken_is r name =
    ap (λ b. b || is_some (view_named r name)) (place_any (λ info. same_name info.def.name name) r.tables ∙ any_table name r.tables)
    ∙ ap (λ b. list_any (same_name name) (table_names r.tables) || b) (place_any (λ def. same_name def.name name) r.views ∙ any_view name r.views)

-- ---- one more name

no_other : (n x : List ℕ) (xs ys : List (List ℕ)) → same_name n x ≡ false → list_any (same_name x) (xs ++ ys) ≡ false → list_any (same_name x) (xs ++ (n ∷ ys)) ≡ false
no_other n x [] ys e f = or_from _ _ (name_turned x n ∙ e) f
no_other n x (y ∷ xs) ys e f = let parts = or_parts (same_name x y) (list_any (same_name x) (xs ++ ys)) f in or_from _ _ parts.0 (no_other n x xs ys e parts.1)

apart_inserted : (n : List ℕ) (xs ys : List (List ℕ)) → all_apart (xs ++ ys) ≡ true → list_any (same_name n) xs ≡ false → list_any (same_name n) ys ≡ false → all_apart (xs ++ (n ∷ ys)) ≡ true
apart_inserted n [] ys all e f = and_from _ _ (ap not f) all
apart_inserted n (x ∷ xs) ys all e f =
    let parts = and_parts (not (list_any (same_name x) (xs ++ ys))) (all_apart (xs ++ ys)) all in
    let own = or_parts (same_name n x) (list_any (same_name n) xs) e in
    and_from _ _ (ap not (no_other n x xs ys own.0 (not-true _ parts.0))) (apart_inserted n xs ys parts.1 own.1 f)

names_pushed : (xs : List TableInfo) (x : TableInfo) → table_names (xs ++ (x ∷ [])) ≡ table_names xs ++ (x.def.name ∷ [])
names_pushed [] x = refl
names_pushed (y ∷ xs) x = ap (λ ns. y.def.name ∷ ns) (names_pushed xs x)

views_pushed : (xs : List ViewDef) (x : ViewDef) → view_names (xs ++ (x ∷ [])) ≡ view_names xs ++ (x.name ∷ [])
views_pushed [] x = refl
views_pushed (y ∷ xs) x = ap (λ ns. y.name ∷ ns) (views_pushed xs x)

hyper_names : (xs : List TableInfo) (t : ℕ) (hyper : HyperInfo) → table_names (change_at xs t (made_hyper hyper)) ≡ table_names xs
hyper_names [] t hyper = refl
hyper_names (x ∷ xs) zero hyper = refl
hyper_names (x ∷ xs) (suc t) hyper = ap (λ ns. x.def.name ∷ ns) (hyper_names xs t hyper)

mode_names : (xs : List ViewDef) (n : ℕ) (only : Bool) → view_names (change_at xs n (set_only only)) ≡ view_names xs
mode_names [] n only = refl
mode_names (x ∷ xs) zero only = refl
mode_names (x ∷ xs) (suc n) only = ap (λ ns. x.name ∷ ns) (mode_names xs n only)

free_parts : (r : Roster) (name : List ℕ) → not (is_taken r name) ≡ true → (list_any (same_name name) (table_names r.tables) ≡ false) × (list_any (same_name name) (view_names r.views) ≡ false)
free_parts r name e = or_parts _ _ (sym (taken_is r name) ∙ not-true _ e)

names_after : (r : Roster) (e : Event) → timely_in r e ≡ true → NamesApart r → NamesApart (roster_after r e)
names_after r (Table def) e apart =
    let free = free_parts r def.name (and_parts (not (is_taken r def.name)) (nat_lt (length r.tables) most_relations) e).0 in
    ap (λ ns. all_apart (ns ++ view_names r.views)) (names_pushed r.tables (record { def = def; hyper = None }))
    ∙ ap all_apart (append_assoc (table_names r.tables) (def.name ∷ []) (view_names r.views))
    ∙ apart_inserted def.name (table_names r.tables) (view_names r.views) apart free.0 free.1
names_after r (Hyper t hyper) e apart = ap (λ ns. all_apart (ns ++ view_names r.views)) (hyper_names r.tables t hyper) ∙ apart
names_after r (View def) e apart =
    let free = free_parts r def.name (and_parts (not (is_taken r def.name)) (nat_lt (length r.views) most_relations) e).0 in
    ap (λ ns. all_apart (table_names r.tables ++ ns)) (views_pushed r.views def)
    ∙ ap all_apart (sym (append_assoc (table_names r.tables) (view_names r.views) (def.name ∷ [])))
    ∙ apart_inserted def.name (table_names r.tables ++ view_names r.views) [] (ap all_apart (append-nil (table_names r.tables ++ view_names r.views)) ∙ apart)
    (list_any-append (same_name def.name) (table_names r.tables) (view_names r.views) ∙ or_from _ _ free.0 free.1) refl
names_after r (Mode v only) e apart = ap (λ ns. all_apart (table_names r.tables ++ ns)) (mode_names r.views v only) ∙ apart
names_after r (Commit ops) e apart = apart
names_after r (Cut v span) e apart = apart
names_after r (Built cut snap) e apart = apart

views_apart : (r : Roster) (es : List Event) → make_views r es ≡ true → NamesApart r → NamesApart (roster_over r es)
views_apart r [] e apart = apart
views_apart r (View def ∷ es) e apart =
    let parts = and_parts (may_follow r (View def)) (make_views (roster_after r (View def)) es) e in
    views_apart (roster_after r (View def)) es parts.1 (names_after r (View def) (and_parts (sound_in r (View def)) (timely_in r (View def)) parts.0).1 apart)
views_apart r (x ∷ es) e apart = absurd (true≢false (sym e))

relations_apart : (r : Roster) (es : List Event) → make_relations r es ≡ true → NamesApart r → NamesApart (roster_over r es)
relations_apart r [] e apart = apart
relations_apart r (Table def ∷ es) e apart =
    let parts = and_parts (may_follow r (Table def)) (make_relations (roster_after r (Table def)) es) e in
    relations_apart (roster_after r (Table def)) es parts.1 (names_after r (Table def) (and_parts (sound_in r (Table def)) (timely_in r (Table def)) parts.0).1 apart)
relations_apart r (Hyper t hyper ∷ es) e apart =
    let parts = and_parts (suc t == length r.tables && may_follow r (Hyper t hyper)) (make_relations (roster_after r (Hyper t hyper)) es) e in
    relations_apart (roster_after r (Hyper t hyper)) es parts.1 (names_after r (Hyper t hyper) (and_parts (sound_in r (Hyper t hyper)) (timely_in r (Hyper t hyper)) (and_parts (suc t == length r.tables) (may_follow r (Hyper t hyper)) parts.0).1).1 apart)
relations_apart r (View def ∷ es) e apart = views_apart r (View def ∷ es) e apart
relations_apart r (x ∷ es) e apart = absurd (true≢false (sym e))

-- no two relations of an allowed history have the same name
pub names_apart : (h : History) → all_allowed h ≡ true → NamesApart (roster h)
names_apart start ok = refl
names_apart (resumed i) ok = relations_apart no_relations i.roster (valid_is i ok).relations refl
names_apart (h ▸ e) ok =
    let parts = and_parts (all_allowed h) (allowed h e) ok in
    names_after (roster h) e (timely_in_roster h e (and_parts (sound h e) (timely_at h e) (consistent_next h e parts.1)).1) (names_apart h parts.0)

-- ---- the events that create a roster

apart_first : (n : List ℕ) (xs ys : List (List ℕ)) → all_apart (xs ++ (n ∷ ys)) ≡ true → list_any (same_name n) xs ≡ false
apart_first n [] ys e = refl
apart_first n (x ∷ xs) ys e =
    let parts = and_parts (not (list_any (same_name x) (xs ++ (n ∷ ys)))) (all_apart (xs ++ (n ∷ ys))) e in
    let split = or_parts (list_any (same_name x) xs) (same_name x n || list_any (same_name x) ys) (sym (list_any-append (same_name x) xs (n ∷ ys)) ∙ not-true _ parts.0) in
    or_from _ _ (name_turned n x ∙ (or_parts (same_name x n) (list_any (same_name x) ys) split.1).0) (apart_first n xs ys parts.1)

get_last : {X : Type 0} (xs : List X) (x : X) → slice_get (xs ++ (x ∷ [])) (length xs) ≡ Some x
get_last [] x = refl
get_last (y ∷ xs) x = get_last xs x

pub views_follow : (r : Roster) (defs : List ViewDef) → ((def : ViewDef) (n : ℕ) → slice_get defs n ≡ Some def → sound_in r (View def) ≡ true) → all_apart (table_names r.tables ++ (view_names r.views ++ view_names defs)) ≡ true → length r.views + length defs ≤ most_relations → make_views r (map View defs) ≡ true
views_follow r [] sound apart few = refl
views_follow r (def ∷ defs) sound apart few =
    let again : all_apart ((table_names r.tables ++ view_names r.views) ++ (def.name ∷ view_names defs)) ≡ true = ap all_apart (append_assoc (table_names r.tables) (view_names r.views) (def.name ∷ view_names defs)) ∙ apart in
    let free = apart_first def.name (table_names r.tables ++ view_names r.views) (view_names defs) again in
    let two = or_parts (list_any (same_name def.name) (table_names r.tables)) (list_any (same_name def.name) (view_names r.views)) (sym (list_any-append (same_name def.name) (table_names r.tables) (view_names r.views)) ∙ free) in
    let untaken : not (is_taken r def.name) ≡ true = ap not (taken_is r def.name ∙ or_from _ _ two.0 two.1) in
    let room : nat_lt (length r.views) most_relations ≡ true = lt-ltb (length r.views) most_relations (omega arith) in
    let now : Roster = roster_after r (View def) in
    let longer : length now.views ≡ length r.views + 1 = length-append r.views (def ∷ []) in
    let rest_apart : all_apart (table_names r.tables ++ (view_names now.views ++ view_names defs)) ≡ true =
    ap (λ ns. all_apart (table_names r.tables ++ (ns ++ view_names defs))) (views_pushed r.views def)
    ∙ ap (λ ns. all_apart (table_names r.tables ++ ns)) (append_assoc (view_names r.views) (def.name ∷ []) (view_names defs))
    ∙ apart
    in
    and_from _ _ (and_from _ _ (sound def 0 refl) (and_from _ _ untaken room))
    (views_follow now defs (λ d n e. sound d (suc n) e) rest_apart (omega (arith, longer, few)))

changed_last : (xs : List TableInfo) (x : TableInfo) (f : TableInfo → TableInfo) → change_at (xs ++ (x ∷ [])) (length xs) f ≡ xs ++ (f x ∷ [])
changed_last [] x f = refl
changed_last (y ∷ xs) x f = ap (λ ys. y ∷ ys) (changed_last xs x f)

-- what makes a table a hypertable may follow the table
hyper_follows : (r : Roster) (t : ℕ) (def : TableDef) (o : Option HyperInfo) (rest : List Event) → length r.tables ≡ t → is_hyper_sound (record { def = def; hyper = None }) o ≡ true → make_relations (record { tables = r.tables ++ (record { def = def; hyper = o } ∷ []); views = r.views }) rest ≡ true → make_relations (roster_after r (Table def)) (hyper_events t o ++ rest) ≡ true
hyper_follows r t def None rest e fits more = more
hyper_follows r t def (Some hyper) rest e fits more =
    let x : TableInfo = record { def = def; hyper = None } in
    let now : Roster = roster_after r (Table def) in
    let longer : suc t ≡ length now.tables = omega (arith, length-append r.tables (x ∷ []), e) in
    let at : table_of now t ≡ Some x = ap (slice_get (r.tables ++ (x ∷ []))) (sym e) ∙ get_last r.tables x in
    let after : make_relations (roster_after now (Hyper t hyper)) rest ≡ true = ap (λ k. make_relations (record { tables = change_at (r.tables ++ (x ∷ [])) k (made_hyper hyper); views = r.views }) rest) (sym e) ∙ ap (λ ts. make_relations (record { tables = ts; views = r.views }) rest) (changed_last r.tables x (made_hyper hyper)) ∙ more in
    and_from _ _ (and_from _ _ (eq-eqb (suc t) (length now.tables) longer) (and_from _ _ (ap (hyper_fits hyper) at ∙ fits) (ap (λ (f : Option TableInfo). is_none (option_and_then (λ (i : TableInfo). i.hyper) f)) at))) after

pub tables_follow : (r : Roster) (t : ℕ) (infos : List TableInfo) (more : List Event) → length r.tables ≡ t → r.views ≡ [] → ((info : TableInfo) (n : ℕ) → slice_get infos n ≡ Some info → is_table_sound info ≡ true) → all_apart (table_names r.tables ++ table_names infos) ≡ true → length r.tables + length infos ≤ most_relations → ((s : Roster) → s.tables ≡ r.tables ++ infos → s.views ≡ [] → make_relations s more ≡ true) → make_relations r (table_events t infos ++ more) ≡ true
tables_follow r t [] more e none well apart few rest = rest r (sym (append-nil r.tables)) none
tables_follow r t (info ∷ infos) more e none well apart few rest =
    let own = and_parts (sound_in no_relations (Table info.def)) (is_hyper_sound info info.hyper) (well info 0 refl) in
    let free : list_any (same_name info.def.name) (table_names r.tables) ≡ false = apart_first info.def.name (table_names r.tables) (table_names infos) apart in
    let untaken : not (is_taken r info.def.name) ≡ true = ap not (taken_is r info.def.name ∙ or_from _ _ free (ap (λ vs. list_any (same_name info.def.name) (view_names vs)) none)) in
    let room : nat_lt (length r.tables) most_relations ≡ true = lt-ltb (length r.tables) most_relations (omega arith) in
    let now : Roster = record { tables = r.tables ++ (info ∷ []); views = r.views } in
    let longer : length now.tables ≡ length r.tables + 1 = length-append r.tables (info ∷ []) in
    let now_apart : all_apart (table_names now.tables ++ table_names infos) ≡ true =
    ap (λ ns. all_apart (ns ++ table_names infos)) (names_pushed r.tables info) ∙ ap all_apart (append_assoc (table_names r.tables) (info.def.name ∷ []) (table_names infos)) ∙ apart
    in
    let after : make_relations now (table_events (suc t) infos ++ more) ≡ true =
    tables_follow now (suc t) infos more (omega (arith, longer, e)) none (λ i n at. well i (suc n) at) now_apart (omega (arith, longer, few))
    (λ s ts vs. rest s (ts ∙ append_assoc r.tables (info ∷ []) infos) vs)
    in
    ap (λ es. may_follow r (Table info.def) && make_relations (roster_after r (Table info.def)) es) (append_assoc (hyper_events t info.hyper) (table_events (suc t) infos) more)
    ∙ and_from _ _ (and_from _ _ own.0 (and_from _ _ untaken room)) (hyper_follows r t info.def info.hyper (table_events (suc t) infos ++ more) e (same_sound info.hyper own.1) after)
  where
    same_sound : (o : Option HyperInfo) → is_hyper_sound info o ≡ true → is_hyper_sound (record { def = info.def; hyper = None }) o ≡ true
    same_sound None e = refl
    same_sound (Some hyper) e = e

views_only : (r : Roster) (defs : List ViewDef) → make_views r (map View defs) ≡ true → make_relations r (map View defs) ≡ true
views_only r [] e = refl
views_only r (def ∷ defs) e = e

-- the events that create a sound roster with different names may follow one another
pub roster_follows : (r : Roster) → IsSoundRoster r → NamesApart r → make_relations no_relations (roster_events r) ≡ true
roster_follows r ok apart =
    tables_follow no_relations 0 r.tables (map View r.views) refl refl (λ info n e. ok.tables n info e) (tables_part (table_names r.tables) (view_names r.views) apart) (let l : length r.tables ≤ most_relations = ok.few_tables in omega arith)
    (λ s tables none. views_only s r.views (views_follow s r.views (λ def n e. ap (λ ts. sound_in (record { tables = ts; views = s.views }) (View def)) tables ∙ ok.views n def e)
    (ap (λ ts. all_apart (table_names ts ++ (view_names s.views ++ view_names r.views))) tables ∙ ap (λ vs. all_apart (table_names r.tables ++ (view_names vs ++ view_names r.views))) none ∙ apart)
    (let l : length r.views ≤ most_relations = ok.few_views in let z : length s.views ≡ 0 = ap length none in omega arith)))
  where
    tables_part : (xs ys : List (List ℕ)) → all_apart (xs ++ ys) ≡ true → all_apart xs ≡ true
    tables_part [] ys e = refl
    tables_part (x ∷ xs) ys e =
        let parts = and_parts (not (list_any (same_name x) (xs ++ ys))) (all_apart (xs ++ ys)) e in
        and_from _ _ (ap not (or_parts (list_any (same_name x) xs) (list_any (same_name x) ys) (sym (list_any-append (same_name x) xs ys) ∙ not-true _ parts.0)).0) (tables_part xs ys parts.1)
