-- A session before and after a statement.
use Rattle.std.proofs.Common.{◌≡◌, ℕ, ◌+◌, ◌≤◌, true, false, cond, List, [], ◌∷◌, Option, Some, None, sym, refl, ap, ◌∙◌, subst}
use Rattle.std.specs.Prelude.{Result, Ok, Err, IfSome, IsTrue, OnOk, OnErr}
use Rattle.std.specs.Map.{remove_entry}
use Rattle.std.specs.Ordering.{is_eq, nat_cmp, match_ordering}
use Rattle.std.specs.declared.cmp.Ordering.{Ordering}
use Rattle.std.specs.declared.cmp.Ordering.TheVariants.{Less, Equal, Greater}
use Rattle.std.specs.BTreeMap.{insert_entry, is_at}
use Rattle.ts_schema.specs.declared.memory.NoMemory.{NoMemory}
use Rattle.ts_model.specs.History.{History, Begins}
use Rattle.ts_model.specs.States.{State}
use Rattle.ts_model.specs.declared.events.Op.{Op}
use Rattle.stmt_check.specs.Sound.{IsOperation}
use Rattle.stmt_check.proofs.QueueLaws.{queues_are_sound}
use Rattle.ts_sessions.specs.declared.blocks.Open.{Open}
use Rattle.ts_sessions.specs.declared.blocks.Open.TheVariants as opens
use Rattle.ts_sessions.specs.declared.sessions.Session.{Session}
use Rattle.ts_sessions.specs.declared.sessions.Snapshot.{Snapshot}
use Rattle.ts_sessions.specs.Held.{Carries, GoesOn, HoldsBlock, HoldsJob, HoldsOf, HoldsSnapshots, block_of, is_lost, most_queued, places_in, positions, open_with, bytes_queued, IsJobOf}
use Rattle.ts_sessions.specs.Holding.{block_on, snapshots_on}
use Rattle.ts_sessions.specs.Jobs.{without_job}
use Rattle.ts_sessions.specs.Places.{Places, gives_up, held_for, holds}
use Rattle.stmt_reader.specs.Answers.{IsRead}
use Rattle.stmt_tokens.specs.Streams.{Stream}
use Rattle.stmt_reader.specs.declared.faults.Fault.{Fault}
use Rattle.stmt_syntax.specs.declared.statements.Stmt.{Stmt}
use Rattle.ts_sessions.specs.Sessions.{Spares, finish_meant, finish_read, queued_on}
use Rattle.ts_sessions.proofs.JobLaws.{removed_holds, removed_positions, same_key, taken_holds, taken_positions}
use Rattle.ts_model.specs.declared.snapshots.Shown.{Ghosts as Shown}

-- ---- session state

pub same_places : {T J : Type 0} (s t : Session T J) → t.block ≡ s.block → t.cut ≡ s.cut → positions t.held.entries ≡ positions s.held.entries → places_in t ≡ places_in s
same_places s t b c h = ap (λ x. record { block = block_of x; cut = t.cut; held = positions t.held.entries }) b ∙ ap (λ x. record { block = block_of s.block; cut = x; held = positions t.held.entries }) c ∙ ap (λ x. record { block = block_of s.block; cut = s.cut; held = x }) h

pub taken_places : {T J : Type 0} (s t : Session T J) (c at : ℕ) (job : Option J) → t.block ≡ s.block → t.cut ≡ s.cut → held_for c s.held.entries ≡ Some (record { at = at; job = job }) → t.held.entries ≡ without_job c at s.held.entries → places_in t ≡ places_in s
taken_places s t c at job b k h e = same_places s t b k (ap positions e ∙ taken_positions c at s.held.entries job h)

pub forgotten_places : {T J : Type 0} (s t u : Session T J) (c at : ℕ) → t.block ≡ s.block → t.cut ≡ s.cut → t.held.entries ≡ without_job c at s.held.entries → u.block ≡ t.block → u.cut ≡ t.cut → u.held.entries ≡ remove_entry (is_at (nat_cmp c)) t.held.entries → Spares (Some c) (places_in s) (places_in u)
forgotten_places s t u c at b k e x y z = record {
  gone = Some c;
  only = refl;
  same =
      ap (λ q. record { block = block_of q; cut = u.cut; held = positions u.held.entries }) (x ∙ b) ∙ ap (λ q. record { block = block_of s.block; cut = q; held = positions u.held.entries }) (y ∙ k)
      ∙ ap (λ q. record { block = block_of s.block; cut = s.cut; held = positions q }) (z ∙ ap (remove_entry (is_at (nat_cmp c))) e)
      ∙ ap (λ q. record { block = block_of s.block; cut = s.cut; held = q }) (removed_positions c at s.held.entries);
}

pub spared : (meant : Option ℕ) (p q : Places) → q ≡ p → Spares meant p q
spared meant p q e = record { gone = None; only = tt; same = e }

-- the snapshot that is given up is the one that was taken, for the refresh that the statement names
pub spares_meant : (taken meant : Option ℕ) (p q : Places) → IfSome taken (λ cut. meant ≡ Some cut) → Spares taken p q → Spares meant p q
spares_meant taken meant p q m s = record { gone = s.gone; only = only s.gone s.only; same = s.same }
  where
    only : (gone : Option ℕ) → IfSome gone (λ cut. taken ≡ Some cut) → IfSome gone (λ cut. meant ≡ Some cut)
    only None k = tt
    only (Some c) k = subst (λ t. IfSome t (λ cut. meant ≡ Some cut)) k m

pub taken_none : (taken meant : Option ℕ) → taken ≡ None → IfSome taken (λ cut. meant ≡ Some cut)
taken_none taken meant e = subst (λ t. IfSome t (λ cut. meant ≡ Some cut)) (sym e) tt

pub on_err : {A : Type 0} (P : Type 0) (result : Result A NoMemory) → P → OnErr result P
on_err P (Ok a) p = tt
on_err P (Err e) p = p

-- ---- what a session holds

module _ {T J : Type 0} (shown : Shown T J) (fits_on : (job : J) (g h : History) → Begins g h → shown.fits job g → shown.fits job h) where
  pub taken_held : (s t : Session T J) (c at : ℕ) (g h : State) → t.block ≡ s.block → t.held.entries ≡ without_job c at s.held.entries → GoesOn g h → IsTrue (is_lost h c) → HoldsOf shown s g → HoldsOf shown t h
  taken_held s t c at g h b e on lost k = record {
    block = subst (λ x. HoldsBlock shown.stands x h.history) (sym b) (block_on shown.stands s.block g.history h.history on.begins k.block);
    snapshots = subst (λ x. HoldsSnapshots shown h x) (sym e) (taken_holds shown fits_on g h c at s.held.entries on lost k.snapshots);
  }

  pub forgotten_held : (s t u : Session T J) (c at : ℕ) (g h : State) → t.block ≡ s.block → t.held.entries ≡ without_job c at s.held.entries → u.block ≡ t.block → u.held.entries ≡ remove_entry (is_at (nat_cmp c)) t.held.entries → GoesOn g h → HoldsOf shown s g → HoldsOf shown u h
  forgotten_held s t u c at g h b e x z on k = record {
    block = subst (λ q. HoldsBlock shown.stands q h.history) (sym (x ∙ b)) (block_on shown.stands s.block g.history h.history on.begins k.block);
    snapshots = subst (λ q. HoldsSnapshots shown h q) (sym (z ∙ ap (remove_entry (is_at (nat_cmp c))) e)) (removed_holds shown fits_on g h c at s.held.entries on k.snapshots);
  }

  pub kept_held : (s t : Session T J) (g h : State) → t.block ≡ s.block → t.held.entries ≡ s.held.entries → GoesOn g h → HoldsOf shown s g → HoldsOf shown t h
  kept_held s t g h b e on k = record {
    block = subst (λ x. HoldsBlock shown.stands x h.history) (sym b) (block_on shown.stands s.block g.history h.history on.begins k.block);
    snapshots = subst (λ x. HoldsSnapshots shown h x) (sym e) (snapshots_on shown fits_on g h s.held.entries on k.snapshots);
  }

-- a session that stayed the same
pub carried_places : {T J : Type 0} (s t : Session T J) → Carries s t → places_in t ≡ places_in s
carried_places s t k = same_places s t k.block k.cut (ap positions k.held)

pub carried_held : {T J : Type 0} (shown : Shown T J) (s t : Session T J) (g : State) → Carries s t → HoldsOf shown s g → HoldsOf shown t g
carried_held shown s t g k h = record {
  block = subst (λ x. HoldsBlock shown.stands x g.history) (sym k.block) h.block;
  snapshots = subst (λ x. HoldsSnapshots shown g x) (sym k.held) h.snapshots;
}

-- ---- changes

-- positions after an insertion
ordered : {X Y : Type 0} (f : X → Y) (o : Ordering) (a b c : X) → f (match_ordering o a b c) ≡ match_ordering o (f a) (f b) (f c)
ordered f Less a b c = refl
ordered f Equal a b c = refl
ordered f Greater a b c = refl

pub put_positions : {J : Type 0} (es : List (ℕ × Snapshot J)) (c : ℕ) (s : Snapshot J) → positions (insert_entry nat_cmp es c s) ≡ insert_entry nat_cmp (positions es) c s.at
put_positions [] c s = refl
put_positions (e ∷ es) c s =
    ordered positions (nat_cmp c e.0) ((c, s) ∷ e ∷ es) ((e.0, s) ∷ es) (e ∷ insert_entry nat_cmp es c s)
    ∙ ap (λ x. match_ordering (nat_cmp c e.0) ((c, s.at) ∷ (e.0, e.1.at) ∷ positions es) ((e.0, s.at) ∷ positions es) ((e.0, e.1.at) ∷ x)) (put_positions es c s)

pub gone_positions : {J : Type 0} (es : List (ℕ × Snapshot J)) (c : ℕ) → positions (remove_entry (is_at (nat_cmp c)) es) ≡ remove_entry (is_at (nat_cmp c)) (positions es)
gone_positions [] c = refl
gone_positions (e ∷ es) c = elim (is_at (nat_cmp c) e.0) as (λ t. positions (cond t es (e ∷ remove_entry (is_at (nat_cmp c)) es)) ≡ cond t (positions es) ((e.0, e.1.at) ∷ remove_entry (is_at (nat_cmp c)) (positions es))) [ true ↦ refl | false ↦ ap (λ x. (e.0, e.1.at) ∷ x) (gone_positions es c) ]

by_order : (o : Ordering) (P : Ordering → Type 0) → P Less → P Equal → P Greater → P o
by_order Less P a b c = a
by_order Equal P a b c = b
by_order Greater P a b c = c

equal_keys : (c k : ℕ) → nat_cmp c k ≡ Equal → k ≡ c
equal_keys c k e = same_key c k (ap is_eq e)

pub put_holds : {T J : Type 0} (shown : Shown T J) (g : State) (es : List (ℕ × Snapshot J)) (c : ℕ) (s : Snapshot J) → HoldsJob shown g c s.at s.job → HoldsSnapshots shown g es → HoldsSnapshots shown g (insert_entry nat_cmp es c s)
put_holds shown g [] c s j k = (j, tt)
put_holds shown g (e ∷ es) c s j k =
    by_order (nat_cmp c e.0) (λ o. nat_cmp c e.0 ≡ o → HoldsSnapshots shown g (match_ordering o ((c, s) ∷ e ∷ es) ((e.0, s) ∷ es) (e ∷ insert_entry nat_cmp es c s)))
    (λ _. (j, k))
    (λ is. (subst (λ n. HoldsJob shown g n s.at s.job) (sym (equal_keys c e.0 is)) j, k.1))
    (λ _. (k.0, put_holds shown g es c s j k.1))
    refl

pub gone_holds : {T J : Type 0} (shown : Shown T J) (g : State) (es : List (ℕ × Snapshot J)) (c : ℕ) → HoldsSnapshots shown g es → HoldsSnapshots shown g (remove_entry (is_at (nat_cmp c)) es)
gone_holds shown g [] c k = tt
gone_holds shown g (e ∷ es) c k = elim (is_at (nat_cmp c) e.0) as (λ t. HoldsSnapshots shown g (cond t es (e ∷ remove_entry (is_at (nat_cmp c)) es))) [ true ↦ k.1 | false ↦ (k.0, gone_holds shown g es c k.1) ]

-- one more operation
pub pushed_holds : {T : Type 0} (stands : T → History → Type 0) (o : Open T) (op : Op) (more : ℕ) (h : History) → bytes_queued (block_of o) + more ≤ most_queued → IsOperation h more op → HoldsBlock stands o h → HoldsBlock stands (open_with op more o) h
pushed_holds stands opens.Nothing op more h room i k = k
pushed_holds stands (opens.Write q) op more h room i k = (queues_are_sound.grows h q.bytes more q.ops op k.0 i, room)
pushed_holds stands (opens.Read at shot) op more h room i k = k

pub pushed_block : {T : Type 0} (o : Open T) (op : Op) (more : ℕ) → block_of (open_with op more o) ≡ queued_on op more (block_of o)
pushed_block opens.Nothing op more = refl
pushed_block (opens.Write q) op more = refl
pushed_block (opens.Read at shot) op more = refl

-- one more snapshot
pub put_places : {T J : Type 0} (s t : Session T J) (c at : ℕ) (job : J) → t.block ≡ s.block → t.cut ≡ s.cut → t.held.entries ≡ insert_entry nat_cmp s.held.entries c (record { at = at; job = Some job }) → places_in t ≡ holds c at (places_in s)
put_places s t c at job b k e =
    ap (λ x. record { block = block_of x; cut = t.cut; held = positions t.held.entries }) b ∙ ap (λ x. record { block = block_of s.block; cut = x; held = positions t.held.entries }) k
    ∙ ap (λ x. record { block = block_of s.block; cut = s.cut; held = x }) (ap positions e ∙ put_positions s.held.entries c (record { at = at; job = Some job }))

pub put_held : {T J : Type 0} (shown : Shown T J) (s t : Session T J) (g : State) (c at : ℕ) (job : J) → t.block ≡ s.block → t.held.entries ≡ insert_entry nat_cmp s.held.entries c (record { at = at; job = Some job }) → HoldsOf shown s g → IsJobOf shown c at g.history job → HoldsOf shown t g
put_held shown s t g c at job b e h j = record {
  block = subst (λ x. HoldsBlock shown.stands x g.history) (sym b) h.block;
  snapshots = subst (λ x. HoldsSnapshots shown g x) (sym e) (put_holds shown g s.held.entries c (record { at = at; job = Some job }) j h.snapshots);
}

-- one snapshot fewer
pub gone_places : {T J : Type 0} (s t : Session T J) (c : ℕ) → t.block ≡ s.block → t.cut ≡ s.cut → t.held.entries ≡ remove_entry (is_at (nat_cmp c)) s.held.entries → places_in t ≡ gives_up c (places_in s)
gone_places s t c b k e =
    ap (λ x. record { block = block_of x; cut = t.cut; held = positions t.held.entries }) b ∙ ap (λ x. record { block = block_of s.block; cut = x; held = positions t.held.entries }) k
    ∙ ap (λ x. record { block = block_of s.block; cut = s.cut; held = x }) (ap positions e ∙ gone_positions s.held.entries c)

pub gone_held : {T J : Type 0} (shown : Shown T J) (s t : Session T J) (g : State) (c : ℕ) → t.block ≡ s.block → t.held.entries ≡ remove_entry (is_at (nat_cmp c)) s.held.entries → HoldsOf shown s g → HoldsOf shown t g
gone_held shown s t g c b e h = record {
  block = subst (λ x. HoldsBlock shown.stands x g.history) (sym b) h.block;
  snapshots = subst (λ x. HoldsSnapshots shown g x) (sym e) (gone_holds shown g s.held.entries c h.snapshots);
}

pub on_ok_by : {A : Type 0} (result : Result A NoMemory) (P Q : Type 0) → (P → Q) → OnOk result P → OnOk result Q
on_ok_by (Ok a) P Q f p = f p
on_ok_by (Err e) P Q f p = tt

pub held_either : {A : Type 0} (result : Result A NoMemory) (R P Q : Type 0) → (P → R) → (Q → R) → OnOk result P → OnErr result Q → R
held_either (Ok a) R P Q f h p q = f p
held_either (Err e) R P Q f h p q = h q

-- the refresh that a line names to finish is that of the statement that was read
pub read_meant : (p : Places) (stmt : Stmt) (r : Result (Stmt × Stream) Fault) → IsRead stmt r → finish_read p r ≡ finish_meant p stmt
read_meant p stmt (Ok read) e = ap (finish_meant p) e
read_meant p stmt (Err f) e = absurd e
