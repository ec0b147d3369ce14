-- What a session holds fits the state of its store.
use Rattle.std.proofs.Common.{◌≡◌, ℕ, ◌≤◌, ◌==◌, Bool, true, false, cond, nat_le, length, List, [], ◌∷◌, Option, Some, None, sym, refl, ap, ◌∙◌, subst, arith}
use Rattle.std.specs.Prelude.{IsTrue, ◌||◌, is_some, not, option_and_then, suc}
use Rattle.std.specs.List.{list_all}
use Rattle.std.proofs.lemmas.Bool.{true≢false, and_from, and_parts, leb-true, le-ltb, ltb-false, not-true}
use Rattle.ts_model.specs.Timely.{has_room}
use Rattle.ts_model.specs.Limits.{last_position}
use Rattle.std.proofs.lemmas.Bool.Decides.{nat_tests}
use Rattle.ts_model.specs.declared.events.Event.{Event}
use Rattle.ts_model.specs.declared.events.Event.TheVariants.{Table, Hyper, View, Mode, Commit, Cut, Built}
use Rattle.ts_model.specs.declared.events.Op.{Op}
use Rattle.ts_model.specs.declared.events.Op.TheVariants.{Insert, Delete}
use Rattle.ts_model.specs.declared.refreshes.Pending.{Pending}
use Rattle.ts_model.specs.declared.refreshes.Pending.TheVariants.{Waiting, Finished, Unknown}
use Rattle.ts_model.specs.declared.rosters.Roster.{Roster}
use Rattle.ts_model.specs.declared.tables.Hyper.{Hyper as HyperInfo}
use Rattle.ts_model.specs.declared.tables.TableDef.{TableDef}
use Rattle.ts_model.specs.declared.tables.TableInfo.{TableInfo}
use Rattle.ts_model.specs.Allowed.{all_allowed}
use Rattle.ts_model.specs.Roster.{of_hyper, of_table, roster, table_of}
use Rattle.ts_model.specs.Sound.{op_fits, rows_fit, test_fits}
use Rattle.ts_model.specs.Pending.{finished_by, is_known, pending}
use Rattle.ts_model.specs.History.{History, start, resumed, ◌▸◌, position, prefix, Begins, same, further}
use Rattle.ts_model.specs.Saved.{pending_among}
use Rattle.ts_model.specs.States.{State, stands_still}
use Rattle.ts_model.proofs.HistoryLaws.{position_begins, prefix_further}
use Rattle.ts_sessions.specs.declared.blocks.Open.{Open}
use Rattle.ts_sessions.specs.declared.blocks.Open.TheVariants.{Nothing, Write, Read}
use Rattle.ts_sessions.specs.declared.sessions.Session.{Session}
use Rattle.ts_sessions.specs.declared.sessions.Snapshot.{Snapshot}
use Rattle.ts_sessions.specs.Held.{GoesOn, HoldsBlock, block_of, HoldsJob, HoldsSnapshots, HoldsOf, WaitsInside, is_finished, is_lost, bytes_queued}
use Rattle.ts_sessions.specs.LineLaws.{BegunBy}
use Rattle.ts_sessions.specs.Places.{Block, none, writing, reading, block_kind}
use Rattle.ts_sessions.specs.Step.{is_on_hypertable, on_hypertables}
use Rattle.stmt_check.proofs.QueueLaws.{queues_are_sound}
use Rattle.ts_model.specs.declared.snapshots.Shown.{Ghosts as Shown}

pub prefix_on : {g h : History} (p : ℕ) → Begins g h → p ≤ position g → prefix h p ≡ prefix g p
prefix_on p same le = refl
prefix_on p (further {h} {e} b) le = prefix_further h e p (omega (arith, le, position_begins b)) ∙ prefix_on p b le

-- ---- a finished refresh stays finished

-- a refresh that is known has a number up to the position
finished_known : (p : Pending) → is_finished p ≡ true → is_known p ≡ true
finished_known (Waiting n) e = absurd (true≢false (sym e))
finished_known (Finished f) e = refl
finished_known Unknown e = absurd (true≢false (sym e))

known_by : (k : ℕ) (p : Pending) → is_known (finished_by k p) ≡ true → is_known p ≡ true
known_by k (Waiting n) e = refl
known_by k (Finished f) e = refl
known_by k Unknown e = e

known_within : (h : History) (k : ℕ) → is_known (pending h k) ≡ true → k ≤ position h
known_within start k e = absurd (true≢false (sym e))
known_within (resumed i) k e =
    elim (nat_le k i.pos) as (λ t. nat_le k i.pos ≡ t → is_known (cond t (pending_among i.waiting i.done k) Unknown) ≡ true → k ≤ i.pos) [
      | true ↦ λ l _. leb-true k i.pos l
      | false ↦ λ _ f. absurd (true≢false (sym f))
    ] refl e
known_within (h ▸ Table def) k e = omega (arith, known_within h k e)
known_within (h ▸ Hyper t hyper) k e = omega (arith, known_within h k e)
known_within (h ▸ View def) k e = omega (arith, known_within h k e)
known_within (h ▸ Mode v only) k e = omega (arith, known_within h k e)
known_within (h ▸ Commit ops) k e = omega (arith, known_within h k e)
known_within (h ▸ Cut v span) k e =
    elim (k == suc (position h)) as (λ t. (k == suc (position h)) ≡ t → is_known (cond t (Waiting v) (pending h k)) ≡ true → k ≤ suc (position h)) [
      | true ↦ λ t _. grind (arith, nat_tests)
      | false ↦ λ _ f. omega (arith, known_within h k f)
    ] refl e
known_within (h ▸ Built cut snap) k e =
    elim (k == cut) as (λ t. is_known (cond t (finished_by (suc (position h)) (pending h k)) (pending h k)) ≡ true → k ≤ suc (position h)) [
      | true ↦ λ f. omega (arith, known_within h k (known_by (suc (position h)) (pending h k) f))
      | false ↦ λ f. omega (arith, known_within h k f)
    ] e

finished_twice : (k : ℕ) (p : Pending) → is_finished p ≡ true → is_finished (finished_by k p) ≡ true
finished_twice k (Waiting n) e = refl
finished_twice k (Finished f) e = e
finished_twice k Unknown e = e

finished_further :
    (h : History) (x : Event) (k : ℕ) → is_finished (pending h k) ≡ true → is_finished (pending (h ▸ x) k) ≡ true
finished_further h (Table def) k f = f
finished_further h (Hyper t hyper) k f = f
finished_further h (View def) k f = f
finished_further h (Mode v only) k f = f
finished_further h (Commit ops) k f = f
finished_further h (Cut v span) k f =
    let within : k ≤ position h = known_within h k (finished_known (pending h k) f) in
    let no : (k == suc (position h)) ≡ false = grind (arith, nat_tests) in
    rw no f
finished_further h (Built cut snap) k f =
    elim (k == cut) as (λ t. is_finished (cond t (finished_by (suc (position h)) (pending h k)) (pending h k)) ≡ true)
    [ true ↦ finished_twice (suc (position h)) (pending h k) f | false ↦ f ]

finished_stays :
    {g h : History} (k : ℕ) → Begins g h → is_finished (pending g k) ≡ true → is_finished (pending h k) ≡ true
finished_stays k same f = f
finished_stays k (further {h = h} {e = x} q) f = finished_further h x k (finished_stays k q f)

either : (a b c d : Bool) → (a ≡ true → c ≡ true) → (b ≡ true → d ≡ true) → (a || b) ≡ true → (c || d) ≡ true
either true b c d f g e = rw (f refl) refl
either false b true d f g e = refl
either false b false d f g e = g e

-- a full history stays full
full_stays : {g h : History} → Begins g h → not (has_room g) ≡ true → not (has_room h) ≡ true
full_stays {g} {h} b f =
    let full : last_position ≤ position g = ltb-false (position g) last_position (not-true (has_room g) f) in
    ap not (le-ltb (position h) last_position (omega (arith, full, position_begins b)))

pub lost_stays : (g h : State) (c : ℕ) → GoesOn g h → IsTrue (is_lost g c) → IsTrue (is_lost h c)
lost_stays g h c on l =
    either (is_finished (pending g.history c)) (stands_still g || not (has_room g.history)) (is_finished (pending h.history c)) (stands_still h || not (has_room h.history))
    (finished_stays c on.begins)
    (either (stands_still g) (not (has_room g.history)) (stands_still h) (not (has_room h.history)) on.still (full_stays on.begins)) l

-- ---- what a session holds

pub block_on :
    {T : Type 0} (stands : T → History → Type 0) (b : Open T) (g h : History) → Begins g h → HoldsBlock stands b g
    → HoldsBlock stands b h
block_on stands Nothing g h on k = tt
block_on stands (Write queue) g h on k = (queues_are_sound.stays g h queue.bytes queue.ops on k.1 k.0, k.1)
block_on stands (Read at shot) g h on k =
    let same_there : prefix h at ≡ prefix g at = prefix_on at on k.1 in
    (subst (stands shot) (sym same_there) k.0, omega (arith, k.1, position_begins on), subst (λ x. IsTrue (all_allowed x)) (sym same_there) k.2)

pub job_on :
    {T J : Type 0} (shown : Shown T J)
    (fits_on : (job : J) (g h : History) → Begins g h → shown.fits job g → shown.fits job h) (g h : State)
    (c at : ℕ) (job : Option J)
    → GoesOn g h → HoldsJob shown g c at job → HoldsJob shown h c at job
job_on shown fits_on g h c at None on k = lost_stays g h c on k
job_on shown fits_on g h c at (Some job) on k = (fits_on job g.history h.history on.begins k.0, k.1, k.2)

pub snapshots_on :
    {T J : Type 0} (shown : Shown T J)
    (fits_on : (job : J) (g h : History) → Begins g h → shown.fits job g → shown.fits job h) (g h : State)
    (entries : List (ℕ × Snapshot J))
    → GoesOn g h → HoldsSnapshots shown g entries → HoldsSnapshots shown h entries
snapshots_on shown fits_on g h [] on k = tt
snapshots_on shown fits_on g h (e ∷ es) on k =
    (job_on shown fits_on g h e.0 e.1.at e.1.job on k.0, snapshots_on shown fits_on g h es on k.1)

-- what a session holds still fits the state of its store when the store continues
pub holds_on :
    {T J : Type 0} (shown : Shown T J)
    (fits_on : (job : J) (g h : History) → Begins g h → shown.fits job g → shown.fits job h)
    (session : Session T J) (g h : State)
    → GoesOn g h → HoldsOf shown session g → HoldsOf shown session h
holds_on shown fits_on session g h on k = record {
  block = block_on shown.stands session.block g.history h.history on.begins k.block;
  snapshots = snapshots_on shown fits_on g h session.held.entries on k.snapshots;
}

-- ---- queued operations

pub waits_inside : (b : Block) → WaitsInside (block_kind b) (bytes_queued b)
waits_inside none = refl
waits_inside (writing ops n) = tt
waits_inside (reading at) = refl

-- ---- when blocks began

-- an operation that fits a table is on a hypertable
fits_table :
    (test : TableDef → HyperInfo → Bool) (o : Option TableInfo) → of_table test o ≡ true
    → is_some (option_and_then (λ (info : TableInfo). info.hyper) o) ≡ true
fits_table test None e = absurd (true≢false (sym e))
fits_table test (Some info) e = fits_hyper info.hyper e
  where
    fits_hyper : (o : Option HyperInfo) → of_hyper test info.def o ≡ true → is_some o ≡ true
    fits_hyper None e = absurd (true≢false (sym e))
    fits_hyper (Some hyper) e = refl

fits_on_hypertable : (r : Roster) (op : Op) → op_fits r op ≡ true → is_on_hypertable r op ≡ true
fits_on_hypertable r (Insert t new) e = fits_table (λ def hyper. rows_fit def hyper new) (table_of r t) e
fits_on_hypertable r (Delete t tests) e =
    fits_table (λ def hyper. list_all (test_fits (length def.cols)) tests) (table_of r t) e

pub fits_on_hypertables : (r : Roster) (ops : List Op) → list_all (op_fits r) ops ≡ true → on_hypertables r ops ≡ true
fits_on_hypertables r [] e = refl
fits_on_hypertables r (op ∷ ops) e =
    let parts = and_parts (op_fits r op) (list_all (op_fits r) ops) e in
    and_from _ _ (fits_on_hypertable r op parts.0) (fits_on_hypertables r ops parts.1)

-- the block of a session that fits its store began by the end of the history
pub had_begun :
    {T : Type 0} (stands : T → History → Type 0) (block : Open T) (h : History) → HoldsBlock stands block h
    → BegunBy (block_of block) h
had_begun stands Nothing h holds = tt
had_begun stands (Write queue) h holds = fits_on_hypertables (roster h) queue.ops holds.0.fits
had_begun stands (Read at shot) h holds = holds.1
