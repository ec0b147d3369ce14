-- What a statement does first.
use Rattle.std.proofs.Common.{◌≡◌, ℕ, ◌==◌, ◌<◌, ◌≤◌, ◌^◌, Bool, true, false, cond, List, [], ◌∷◌, length, Option, Some, None, sym, refl, ap, ◌∙◌, subst, inl, arith}
use Rattle.std.specs.Prelude.{ℤ, ◌||◌, Result, Ok, Err, IfOk}
use Rattle.std.specs.Result.{IsErr}
use Rattle.std.proofs.lemmas.Bool.{true≢false}
use Rattle.std.proofs.lemmas.Bool.Decides.{nat_tests}
use Rattle.ts_schema.specs.Counts.{raised_by}
use Rattle.ts_schema.specs.declared.memory.NoMemory.{NoMemory}
use Rattle.ts_model.specs.declared.events.Op.{Op}
use Rattle.ts_model.specs.declared.outcomes.Refusal.{Refusal}
use Rattle.ts_model.specs.declared.snapshots.Shown.{Ghosts as Shown}
use Rattle.ts_model.specs.History.{History, Begins, position}
use Rattle.ts_model.specs.Roster.{roster}
use Rattle.ts_model.specs.States.{State}
use Rattle.ts_model.specs.declared.queries.Answer.{Answer}
use Rattle.ts_model.specs.Answers.{answer}
use Rattle.ts_sessions.specs.declared.kinds.StatementKind.TheVariants as kinds
use Rattle.ts_model.specs.Reads.{reads as reads_of}
use Rattle.result_text.specs.declared.replies.Said.{Said}
use Rattle.result_text.specs.declared.replies.Said.TheVariants as said
use Rattle.ts_sessions.specs.declared.blocks.Open.{Open}
use Rattle.ts_sessions.specs.declared.blocks.Open.TheVariants as opens
use Rattle.ts_sessions.specs.declared.changes.Change.TheVariants as changes
use Rattle.ts_sessions.specs.declared.queries.Plan.{Plan}
use Rattle.stmt_syntax.specs.declared.statements.Stmt.{Stmt}
use Rattle.stmt_syntax.specs.declared.statements.Stmt.TheVariants as stmts
use Rattle.stmt_check.specs.Check.{refusal_of}
use Rattle.stmt_check.specs.Sound.{IsQueue}
use Rattle.stmt_check.proofs.QueueLaws.{queues_are_sound}
use Rattle.ts_sessions.specs.declared.changes.Completion.{Completion}
use Rattle.ts_sessions.specs.declared.deeds.AfterLook.TheVariants as looks_for
use Rattle.ts_sessions.specs.declared.deeds.Deed.TheVariants as deeds
use Rattle.ts_sessions.specs.declared.deeds.Next.{Next}
use Rattle.ts_sessions.specs.declared.deeds.Next.TheVariants as nexts
use Rattle.ts_sessions.specs.Deeds.{CarriesOut, CountsFrom, Leads, NextFits, Opens, OpensTo, StandsFor, end_of_block, hold_of, begin_write_block, rest_next, said_once, spent_next, taken_next}
use Rattle.ts_sessions.specs.Places.{Block, none, writing, reading, Places, Turn, enters, queue_count, refuses, turns}
use Rattle.ts_sessions.specs.Procedures.{Procedure, sees, looks, ends}
use Rattle.ts_sessions.specs.Held.{HoldsBlock, block_of, most_queued}
use Rattle.ts_sessions.specs.Sessions.{Counts, Ends, EndsAt, turn_of}
use Rattle.ts_sessions.specs.Step.{answers, block_refusal, closes, commits, given_up, in_form, kind_of, makes_event, turn_of_names, named_first, named_here, performs, prints, read_at, refresh_meant, shown_in, snaps}
use Rattle.ts_sessions.specs.Walks.{Breaks, Sees}
use Rattle.ts_sessions.proofs.NamedLaws.{looks_once}
use Rattle.ts_sessions.proofs.BlockWalks.{begins_outside, snaps_outside}
use Rattle.ts_sessions.proofs.DeedWalks.{leads_then, looks_leads, unspent}
use Rattle.ts_sessions.proofs.EndLaws.{raised_up}
use Rattle.ts_sessions.proofs.HeldDeeds.{leads_same}
use Rattle.ts_sessions.proofs.HoldLaws.{empty_holds}
use Rattle.ts_sessions.proofs.NameCheckWalks.{unraised}
use Rattle.ts_sessions.proofs.WalkLaws.{not_begun}

-- ---- looks

pub saw_leads : {A : Type 0} (alone : Bool) (old mid : State) (shown : History → Bool) (f : History → Procedure A) → Sees alone old mid → Leads alone false old (sees shown f) mid (f mid.history)
saw_leads alone old mid shown f s = record {
  walks = λ failed new y w. record { mid = mid; first = s; rest = w };
  breaks = λ new b. record { mid = mid; first = s; rest = b };
}

-- ---- statements without names

here_in : (p : Places) (bytes : ℕ) (stmt : Stmt) → makes_event (kind_of stmt) ≡ false → performs p bytes stmt ≡ named_here p bytes stmt
here_in p bytes stmt e = ap (λ t. cond t (named_first p bytes stmt) (named_here p bytes stmt)) (looks_once p.block (kind_of stmt) e)

pub performs_looks : (alone : Bool) (s : State) (p : Places) (bytes : ℕ) (stmt : Stmt) (g : History → Procedure (Turn Places)) → makes_event (kind_of stmt) ≡ false → ((h : History) → Begins s.history h → turn_of_names p bytes stmt (read_at p.block h) ≡ g h) → Leads alone false s (performs p bytes stmt) s (looks g)
performs_looks alone s p bytes stmt g e same =
    subst (λ d. Leads alone false s d s (looks g)) (sym (here_in p bytes stmt e))
    (looks_leads alone s (λ h. prints p.block (kind_of stmt) (roster h) (refusal_of (position h) (roster h) stmt)) (λ h. turn_of_names p bytes stmt (read_at p.block h)) g same)

-- a statement that only ends
pub performs_ends : (alone : Bool) (s : State) (p : Places) (bytes : ℕ) (stmt : Stmt) (y : Turn Places) → makes_event (kind_of stmt) ≡ false → turn_of_names p bytes stmt (read_at p.block s.history) ≡ ends y → Leads alone false s (performs p bytes stmt) s (ends y)
performs_ends alone s p bytes stmt y e i =
    subst (λ d. Leads alone false s d s (ends y)) (sym (here_in p bytes stmt e))
    (subst (λ d. Leads alone false s (named_here p bytes stmt) s d) i
    (saw_leads alone s s (λ h. prints p.block (kind_of stmt) (roster h) (refusal_of (position h) (roster h) stmt)) (λ h. turn_of_names p bytes stmt (read_at p.block h)) (inl refl)))

-- ---- what comes first

pub opens_here : {T J : Type 0} (shown : Shown T J) (bytes : ℕ) (alone : Bool) (s : State) (procedure : Procedure (Turn Places)) (p : Places) (next : Next T J) (n : ℕ) → n < 2 ^ 64 → Leads alone false s procedure s (rest_next p 0 next) → NextFits shown bytes next s → Opens shown bytes alone s procedure p next s n n
opens_here shown bytes alone s procedure p next n short w k = record { read = 0; leads = w; spent = unspent next; fits = k; counted = unraised n short }

-- what took no call, or no memory for it
pub opens_if : {T J : Type 0} (shown : Shown T J) (bytes : ℕ) (alone : Bool) (s : State) (procedure : Procedure (Turn Places)) (p : Places) (result : Result (Next T J) NoMemory) (next : Next T J) (n : ℕ) → n < 2 ^ 64 → IfOk result (λ m. m ≡ next) → Leads alone false s procedure s (rest_next p 0 next) → NextFits shown bytes next s → OpensTo shown bytes alone s procedure p result s n n
opens_if shown bytes alone s procedure p (Ok m) next n short e w k = subst (λ x. Opens shown bytes alone s procedure p x s n n) (sym e) (opens_here shown bytes alone s procedure p next n short w k)
opens_if shown bytes alone s procedure p (Err x) next n short e w k = (not_begun alone s procedure, omega arith)

pub opens_broken : {T J : Type 0} (shown : Shown T J) (bytes : ℕ) (alone : Bool) (old : State) (procedure : Procedure (Turn Places)) (p : Places) (result : Result (Next T J) NoMemory) (new : State) (before after : ℕ) → IsErr result → before ≤ after → Breaks alone old procedure new → OpensTo shown bytes alone old procedure p result new before after
opens_broken shown bytes alone old procedure p (Ok n) new before after i le b = absurd (true≢false (sym i))
opens_broken shown bytes alone old procedure p (Err e) new before after i le b = (b, le)

pub opens_then : {T J : Type 0} (shown : Shown T J) (bytes : ℕ) (alone : Bool) (old : State) (procedure : Procedure (Turn Places)) (mid : State) (left : Procedure (Turn Places)) (p : Places) (result : Result (Next T J) NoMemory) (new : State) (before after : ℕ) → Leads alone false old procedure mid left → OpensTo shown bytes alone mid left p result new before after → OpensTo shown bytes alone old procedure p result new before after
opens_then shown bytes alone old procedure mid left p (Ok n) new before after w o = record {
  read = o.read;
  leads = leads_then alone false old procedure mid left new (rest_next p o.read n) w o.leads;
  spent = o.spent;
  fits = o.fits;
  counted = o.counted;
}
opens_then shown bytes alone old procedure mid left p (Err e) new before after w o = (w.breaks new o.0, o.1)

-- a statement that was refused
pub refused_opens : {T J : Type 0} (shown : Shown T J) (bytes : ℕ) (alone : Bool) (s : State) (p : Places) (q : Refusal) (result : Result (Next T J) NoMemory) (n : ℕ) → n < 2 ^ 64 → IfOk result (λ m. m ≡ said_once (said.Fault q) changes.Nothing) → OpensTo shown bytes alone s (ends (refuses p q)) p result s n n
refused_opens shown bytes alone s p q result n short e = opens_if shown bytes alone s (ends (refuses p q)) p result (said_once (said.Fault q) changes.Nothing) n short e (leads_same alone s (ends (refuses p q))) (record { change = tt; stands = refl })

pub opens_as : {T J : Type 0} (shown : Shown T J) (bytes : ℕ) (alone : Bool) (old : State) (procedure like : Procedure (Turn Places)) (p : Places) (result : Result (Next T J) NoMemory) (new : State) (before after : ℕ) → procedure ≡ like → OpensTo shown bytes alone old like p result new before after → OpensTo shown bytes alone old procedure p result new before after
opens_as shown bytes alone old procedure like p result new before after e o = subst (λ d. OpensTo shown bytes alone old d p result new before after) (sym e) o

-- ---- a statement that was carried out

counts_so : {A : Type 0} (result : Result A NoMemory) (read had total before between after : ℕ) → before < 2 ^ 64 → between ≡ raised_by read before → had ≡ read → between ≤ after → CountsFrom result had total between after → Counts result total before after
counts_so (Ok a) read had total before between after short c e up k = k before (subst (λ m. between ≡ raised_by m before) (sym e) c)
counts_so (Err x) read had total before between after short c e up k =
    let low : before ≤ raised_by read before = raised_up read before short in
    let high : raised_by read before ≤ after = subst (λ m. m ≤ after) c up in
    omega (arith, low, high)

carried_at : {T J : Type 0} (alone : Bool) (old : State) (p : Places) (procedure : Procedure (Turn Places)) (mid : State) (left : Procedure (Turn Places)) (total : ℕ) (result : Result (Completion T J) NoMemory) (new : State) → Leads alone false old procedure mid left → EndsAt alone mid left p total result new → EndsAt alone old procedure p total result new
carried_at alone old p procedure mid left total (Ok t) new w e = w.walks t.failed new (turn_of p total t) e
carried_at alone old p procedure mid left total (Err x) new w e = w.breaks new e

pub carried : {T J : Type 0} (shown : Shown T J) (bytes : ℕ) (alone : Bool) (old : State) (p : Places) (procedure : Procedure (Turn Places)) (next : Next T J) (mid : State) (result : Result (Completion T J) NoMemory) (new : State) (before between after : ℕ) → before < 2 ^ 64 → Opens shown bytes alone old procedure p next mid before between → ((had : ℕ) → CarriesOut alone mid p had next result new between after) → Ends alone old procedure p result new before after
carried shown bytes alone old p procedure next mid result new before between after short o c =
    let k = c o.read in
    record {
      read = k.total;
      ends = carried_at alone old p procedure mid (rest_next p o.read next) k.total result new o.leads k.ends;
      counted = counts_so result o.read (spent_next o.read next) k.total before between after short o.counted o.spent k.rose k.counted;
    }

-- ---- statements without names

-- what a statement does first, which fits the state of the store
pub record IsFirst {T J : Type 0} (shown : Shown T J) (bytes : ℕ) (s : State) (p : Places) (stmt : Stmt) (next : Next T J) : Type 0 where
  pub stands : StandsFor next p s (performs p bytes stmt)
  pub fits : NextFits shown bytes next s
  pub taken : taken_next next ≡ None

pub first_opens : {T J : Type 0} (shown : Shown T J) (bytes : ℕ) (alone : Bool) (s : State) (p : Places) (stmt like : Stmt) (result : Result (Next T J) NoMemory) (next : Next T J) (n : ℕ) → n < 2 ^ 64 → stmt ≡ like → IfOk result (λ m. m ≡ next) → IsFirst shown bytes s p like next → OpensTo shown bytes alone s (performs p bytes stmt) p result s n n
first_opens shown bytes alone s p stmt like result next n short e i k = subst (λ x. OpensTo shown bytes alone s (performs p bytes x) p result s n n) (sym e) (opens_if shown bytes alone s (performs p bytes like) p result next n short i (k.stands alone) k.fits)

module _ {T J : Type 0} (shown : Shown T J) (bytes : ℕ) (s : State) (p : Places) where
  pub begins_first : IsFirst shown bytes s p stmts.Begin begin_write_block
  begins_first = record {
    stands = λ alone. performs_ends alone s p bytes stmts.Begin (turns (enters (writing [] 0) p) said.Begin) refl refl;
    fits = record { change = empty_holds shown.stands s.history; stands = refl };
    taken = refl;
  }

  pub reads_first : block_refusal p.block kinds.BeginsRead ≡ None → IsFirst shown bytes s p stmts.BeginRead (nexts.Deed (deeds.Look looks_for.BeginRead))
  reads_first pass = record {
    stands = λ alone. performs_looks alone s p bytes stmts.BeginRead (λ h. ends (turns (enters (reading (position h)) p) (said.BeginRead (position h)))) refl (λ h on. ap (λ b. turn_of_names p bytes stmts.BeginRead (read_at b h)) (begins_outside p.block pass));
    fits = tt;
    taken = refl;
  }

  pub gives_up_first : IsFirst shown bytes s p stmts.Rollback (said_once (given_up p.block) (changes.Enters opens.Nothing))
  gives_up_first = record {
    stands = λ alone. performs_ends alone s p bytes stmts.Rollback (turns (enters none p) (given_up p.block)) refl refl;
    fits = record { change = (tt, refl); stands = refl };
    taken = refl;
  }

  pub snaps_first : (number : Option ℤ) → block_refusal p.block kinds.Snaps ≡ None → IsFirst shown bytes s p (stmts.Snap number) (nexts.Deed (hold_of (refresh_meant p number)))
  snaps_first number pass = of_meant (refresh_meant p number) refl
    where
      of_meant : (m : Option ℕ) → refresh_meant p number ≡ m → IsFirst shown bytes s p (stmts.Snap number) (nexts.Deed (hold_of m))
      of_meant None e = record {
        stands = λ alone. performs_looks alone s p bytes (stmts.Snap number) (λ h. ends (snaps p h None)) refl (λ h on. ap (λ b. turn_of_names p bytes (stmts.Snap number) (read_at b h)) (snaps_outside p.block pass) ∙ ap (λ m. ends (snaps p h m)) e);
        fits = tt;
        taken = refl;
      }
      of_meant (Some c) e = record {
        stands = λ alone. performs_looks alone s p bytes (stmts.Snap number) (λ h. ends (snaps p h (Some c))) refl (λ h on. ap (λ b. turn_of_names p bytes (stmts.Snap number) (read_at b h)) (snaps_outside p.block pass) ∙ ap (λ m. ends (snaps p h m)) e);
        fits = tt;
        taken = refl;
      }

  -- the end of a block of a session that fits its store
  pub closes_first : (o : Open T) → p.block ≡ block_of o → HoldsBlock shown.stands o s.history → IsFirst shown bytes s p stmts.Commit (end_of_block p.block)
  closes_first o e held = subst (λ b. IsFirst shown bytes s p stmts.Commit (end_of_block b)) (sym e) (of_block o e held)
    where
      named_so : (b : Block) → p.block ≡ b → turn_of_names p bytes stmts.Commit (read_at p.block s.history) ≡ closes p (read_at b s.history) b
      named_so b i = ap (λ x. closes p (read_at x s.history) x) i

      of_queue : (ops : List Op) (n : ℕ) → p.block ≡ writing ops n → IsQueue s.history n ops → n ≤ most_queued → IsFirst shown bytes s p stmts.Commit (end_of_block (writing ops n))
      of_queue [] n i q room = record {
        stands = λ alone. performs_ends alone s p bytes stmts.Commit (turns (enters none p) said.CommitEmpty) refl (named_so (writing [] n) i);
        fits = record { change = (tt, refl); stands = refl };
        taken = refl;
      }
      of_queue (op ∷ ops) n i q room =
          let some : (length (op ∷ ops) == 0) ≡ false = grind (arith, nat_tests) in
          subst (λ t. IsFirst shown bytes s p stmts.Commit (cond t (said_once said.CommitEmpty (changes.Enters opens.Nothing)) (nexts.Deed (deeds.Commit (op ∷ ops) true)))) (sym some)
          (record {
            stands = λ alone. performs_looks alone s p bytes stmts.Commit (λ h. commits p (enters none p) h (op ∷ ops)) refl (λ h on. ap (λ x. closes p (read_at x h) x) i);
            fits = (queues_are_sound.commits s.history n (op ∷ ops) q (omega arith) room).is_sound;
            taken = refl;
          })

      of_block : (o : Open T) → p.block ≡ block_of o → HoldsBlock shown.stands o s.history → IsFirst shown bytes s p stmts.Commit (end_of_block (block_of o))
      of_block opens.Nothing i k = record {
        stands = λ alone. performs_ends alone s p bytes stmts.Commit (turns (enters none p) said.End) refl (named_so none i);
        fits = record { change = (tt, refl); stands = refl };
        taken = refl;
      }
      of_block (opens.Write queue) i k = of_queue queue.ops queue.bytes i k.0 k.1
      of_block (opens.Read at shot) i k = record {
        stands = λ alone. performs_ends alone s p bytes stmts.Commit (turns (enters none p) said.End) refl (named_so (reading at) i);
        fits = record { change = (tt, refl); stands = refl };
        taken = refl;
      }

-- ---- queries

-- an answer at a history to a session in a block, which counts the rows that it read
pub answer_opens : {T J : Type 0} (shown : Shown T J) (bytes : ℕ) (alone : Bool) (s : State) (h : History) (p : Places) (b : Block) (plan : Plan) (a : Answer) (pos : ℕ) (queue : Option ℕ) (line : Said) (result : Result (Next T J) NoMemory) (before after : ℕ) → before < 2 ^ 64 → p.block ≡ b → a ≡ in_form (roster h) plan.form (answer plan.query (shown_in b h)) → pos ≡ position h → queue ≡ queue_count b → line ≡ said.Answered a pos queue plan.min → IfOk result (λ n. n ≡ said_once line changes.Nothing) → after ≡ raised_by (reads_of plan.query (shown_in b h)) before → OpensTo shown bytes alone s (ends (answers p h plan)) p result s before after
answer_opens {T} {J} shown bytes alone s h p b plan a pos queue line result before after short in_block e f q i is counted =
    block_opens result is (subst (λ x. a ≡ in_form (roster h) plan.form (answer plan.query (shown_in x h))) (sym in_block) e) (subst (λ x. queue ≡ queue_count x) (sym in_block) q) (subst (λ x. after ≡ raised_by (reads_of plan.query (shown_in x h)) before) (sym in_block) counted)
  where
    block_opens : (result : Result (Next T J) NoMemory) → IfOk result (λ n. n ≡ said_once line changes.Nothing) → a ≡ in_form (roster h) plan.form (answer plan.query (shown_in p.block h)) → queue ≡ queue_count p.block → after ≡ raised_by (reads_of plan.query (shown_in p.block h)) before → OpensTo shown bytes alone s (ends (answers p h plan)) p result s before after
    block_opens (Ok n) is e q counted =
        let read = reads_of plan.query (shown_in p.block h) in
        let in_line = in_form (roster h) plan.form (answer plan.query (shown_in p.block h)) in
        let line_is : line ≡ said.Answered in_line (position h) (queue_count p.block) plan.min = i ∙ ap (λ x. said.Answered x pos queue plan.min) e ∙ ap (λ x. said.Answered in_line x queue plan.min) f ∙ ap (λ x. said.Answered in_line (position h) x plan.min) q in
        let turn : rest_next p read n ≡ ends (answers p h plan) = ap (rest_next p read) is ∙ ap (λ x. ends (record { places = p; said = x ∷ []; reads = read })) line_is in
        record {
          read = read;
          leads = subst (λ d. Leads alone false s (ends (answers p h plan)) s d) (sym turn) (leads_same alone s (ends (answers p h plan)));
          spent = subst (λ x. spent_next read x ≡ read) (sym is) refl;
          fits = subst (λ x. NextFits shown bytes x s) (sym is) (record { change = tt; stands = refl });
          counted = counted;
        }
    block_opens (Err x) is e q counted =
        (not_begun alone s (ends (answers p h plan)), subst (λ m. before ≤ m) (sym counted) (raised_up (reads_of plan.query (shown_in p.block h)) before short))
