-- Statements that were run in order: what was reported, and where they broke off.
use Rattle.std.proofs.Common.{◌≡◌, ◌∙◌, ℕ, ◌+◌, ◌≤◌, ◌<◌, ◌^◌, Bool, true, false, List, [], ◌∷◌, ◌++◌, ◌-◌, length, take, drop, get_or, sym, refl, ap, subst, arith}
use Rattle.std.specs.Prelude.{Ok, Err, Result, OnOk, ◌||◌}
use Rattle.std.specs.Result.{IsErr}
use Rattle.std.proofs.lemmas.Bool.{true≢false}
use Rattle.std.proofs.lemmas.List.{append_assoc, take_all}
use Rattle.ts_schema.specs.Counts.{raised_by}
use Rattle.ts_schema.specs.declared.memory.NoMemory.{NoMemory}
use Rattle.ts_model.specs.States.{State}
use Rattle.result_text.specs.declared.replies.Said.{Said}
use Rattle.result_text.specs.Replies.{reply_text}
use Rattle.ts_sessions.specs.Made.{made_by, made_in}
use Rattle.ts_sessions.specs.Actors.{StaysOutside}
use Rattle.ts_sessions.specs.Places.{Block, none, Turn}
use Rattle.ts_sessions.specs.Procedures.{Procedure, ends, ending_as}
use Rattle.ts_sessions.specs.Script.{has_fault, is_fault, text_of}
use Rattle.ts_sessions.specs.Sessions.{IfAnswered, Reports, Stepped}
use Rattle.ts_sessions.specs.Walks.{Breaks}
use Rattle.ts_sessions.specs.declared.replies.Reply.{Reply}
use Rattle.ts_sessions.specs.declared.replies.StepEnd.{StepEnd}
use Rattle.ts_sessions.specs.declared.replies.StepEnd.TheVariants as steps
use Rattle.ts_sessions.proofs.WalkLaws.{break_together, breaks_first, put_together, walks_as, walks_break}
use Rattle.policy_jobs.specs.declared.runs.TickOutcome.{TickOutcome}
use Rattle.policy_jobs.specs.Runs.{GoesOnBy, IsBehind, IsRunnable, RunsTo}
use Rattle.policy_jobs.specs.Turns.{and_all, and_then, behind}

-- ---- lines in order

pub text_behind : (name : List ℕ) (xs ys : List Said) → text_of name (xs ++ ys) ≡ text_of name xs ++ text_of name ys
text_behind name [] ys = refl
text_behind name (x ∷ xs) ys = ap (λ t. reply_text name x ++ t) (text_behind name xs ys) ∙ sym (append_assoc (reply_text name x) (text_of name xs) (text_of name ys))

pub made_behind : (xs ys : List Said) → made_in (xs ++ ys) ≡ made_in xs ++ made_in ys
made_behind [] ys = refl
made_behind (x ∷ xs) ys = ap (λ m. made_by x ++ m) (made_behind xs ys) ∙ sym (append_assoc (made_by x) (made_in xs) (made_in ys))

pub or_behind : (a b c : Bool) → (a || (b || c)) ≡ ((a || b) || c)
or_behind true b c = refl
or_behind false b c = refl

pub fault_behind : (xs ys : List Said) → has_fault (xs ++ ys) ≡ (has_fault xs || has_fault ys)
fault_behind [] ys = refl
fault_behind (x ∷ xs) ys = ap (λ t. is_fault x || t) (fault_behind xs ys) ∙ or_behind (is_fault x) (has_fault xs) (has_fault ys)

pub or_false : (b : Bool) → (b || false) ≡ b
or_false true = refl
or_false false = refl

or_true : (b : Bool) → (b || true) ≡ true
or_true true = refl
or_true false = refl

raised_twice : (a b n : ℕ) → raised_by b (raised_by a n) ≡ raised_by (a + b) n
raised_twice a b n = omega arith

-- ---- statements in order

module _ {P : Type 0} (does : P → List ℕ → ℕ → Procedure (Turn P)) (alone : Bool) (old : State) (first : Procedure (Turn P)) (name : List ℕ) where
  -- reports of a procedure and of a statement after it are a report of both
  reports_then : (failed then : Bool) (reply more whole : Reply) (mid : State) (p : P) (text : List ℕ) (new : State) (q : P) (before between after : ℕ)
      → Reports alone failed old first name reply mid p before between → Reports alone then mid (does p text 0) name more new q between after → IsBehind reply more whole
      → Reports alone (failed || then) old (and_then does first text) name whole new q before after
  reports_then failed then reply more whole mid p text new q before between after r s is =
      let y : Turn P = record { places = p; said = r.said; reads = r.read } in
      let z : Turn P = record { places = q; said = s.said; reads = s.read } in
      record {
        said = r.said ++ s.said;
        read = r.read + s.read;
        walks = put_together alone failed then old first mid y (λ x. ending_as (behind x) (does x.places text 0)) new (behind y z) r.walks (walks_as (behind y) alone then mid (does p text 0) new z s.walks);
        text = is.text ∙ ap (λ t. t ++ more.text) r.text ∙ ap (λ t. text_of name r.said ++ t) s.text ∙ sym (text_behind name r.said s.said);
        fault = is.fault ∙ ap (λ t. t || more.fault) r.fault ∙ ap (λ t. has_fault r.said || t) s.fault ∙ sym (fault_behind r.said s.said);
        names = is.events ∙ ap (λ t. t ++ more.events) r.names ∙ ap (λ t. made_in r.said ++ t) s.names ∙ sym (made_behind r.said s.said);
        made = s.made ∙ ap (λ m. m ++ more.events) r.made ∙ append_assoc old.made reply.events more.events ∙ ap (λ m. old.made ++ m) (sym is.events);
        counted = s.counted ∙ ap (raised_by s.read) r.counted ∙ raised_twice r.read s.read before;
      }

  -- a procedure that was reported may have broken off there
  reports_break : (failed then : Bool) (reply more : Reply) (mid : State) (p : P) (text : List ℕ) (new : State) (q : P) (before between after : ℕ)
      → Reports alone failed old first name reply mid p before between → Reports alone then mid (does p text 0) name more new q between after
      → Breaks alone old (and_then does first text) new
  reports_break failed then reply more mid p text new q before between after r s =
      let y : Turn P = record { places = p; said = r.said; reads = r.read } in
      let z : Turn P = record { places = q; said = s.said; reads = s.read } in
      break_together alone failed old first mid y (λ x. ending_as (behind x) (does x.places text 0)) new r.walks
      (walks_break alone then mid (ending_as (behind y) (does p text 0)) new (behind y z) (walks_as (behind y) alone then mid (does p text 0) new z s.walks))

  breaks_then : (failed : Bool) (reply : Reply) (mid : State) (p : P) (text : List ℕ) (new : State) (before between : ℕ)
      → Reports alone failed old first name reply mid p before between → Breaks alone mid (does p text 0) new → Breaks alone old (and_then does first text) new
  breaks_then failed reply mid p text new before between r b =
      let y : Turn P = record { places = p; said = r.said; reads = r.read } in
      break_together alone failed old first mid y (λ x. ending_as (behind x) (does x.places text 0)) new r.walks (breaks_first alone mid (does p text 0) (λ z. ends (behind y z)) new b)

  -- a procedure that broke off did so whatever statements would follow it
  pub breaks_all : (texts : List (List ℕ)) (so_far : Procedure (Turn P)) (new : State) → Breaks alone old so_far new → Breaks alone old (and_all does so_far texts) new
  breaks_all [] so_far new b = b
  breaks_all (text ∷ texts) so_far new b = breaks_all texts (and_then does so_far text) new (breaks_first alone old so_far (λ y. ending_as (behind y) (does y.places text 0)) new b)

  -- a run continues by one more statement
  pub run_then : (run : TickOutcome) (end : StepEnd) (result : Result TickOutcome NoMemory) (mid : State) (p : P) (text : List ℕ) (new : State) (q : P) (before between after : ℕ)
      → before < 2 ^ 64 → Reports alone run.failed old first name run.reply mid p before between → Stepped alone mid (does p text 0) name end new q between after → GoesOnBy run end result
      → RunsTo alone old (and_then does first text) name result new q before after
  run_then run (steps.Reply more) (Ok next) mid p text new q before between after short r s g =
      subst (λ f. Reports alone f old (and_then does first text) name next.reply new q before after) (or_false run.failed ∙ sym g.1)
      (reports_then run.failed false run.reply more next.reply mid p text new q before between after r s g.0)
  run_then run (steps.DiskFault more) (Ok next) mid p text new q before between after short r s g =
      subst (λ f. Reports alone f old (and_then does first text) name next.reply new q before after) (or_true run.failed ∙ sym g.1)
      (reports_then run.failed true run.reply more next.reply mid p text new q before between after r s g.0)
  run_then run steps.NoMemory (Ok next) mid p text new q before between after short r s g = absurd g
  run_then run (steps.Reply more) (Err e) mid p text new q before between after short r s g =
      (reports_break run.failed false run.reply more mid p text new q before between after r s, omega (arith, short, r.counted, s.counted))
  run_then run (steps.DiskFault more) (Err e) mid p text new q before between after short r s g =
      (reports_break run.failed true run.reply more mid p text new q before between after r s, omega (arith, short, r.counted, s.counted))
  run_then run steps.NoMemory (Err e) mid p text new q before between after short r s g =
      (breaks_then run.failed run.reply mid p text new before between r s.0, omega (arith, short, r.counted, s.1))

-- the statements that are left, after the first of them
pub all_next : {P : Type 0} (does : P → List ℕ → ℕ → Procedure (Turn P)) (first : Procedure (Turn P)) (texts rest : List (List ℕ)) (item text : List ℕ)
    → 1 ≤ length texts → rest ≡ take (length texts - 1) (drop 1 texts) → item ≡ get_or texts 0 item → text ≡ item → and_all does first texts ≡ and_all does (and_then does first text) rest
all_next does first [] rest item text some r i e = absurd (omega (arith, some))
all_next does first (t ∷ ts) rest item text some r i e =
    let left : ts ≡ rest = sym (r ∙ take_all (length (t ∷ ts) - 1) ts (omega arith)) in
    ap (λ x. and_all does (and_then does first x) ts) (sym (e ∙ i)) ∙ ap (and_all does (and_then does first text)) left

-- a run that broke off
pub broken_run : {P : Type 0} (alone : Bool) (s : State) (d : Procedure (Turn P)) (name : List ℕ) (result : Result TickOutcome NoMemory) (new : State) (q : P) (before after : ℕ) → IsErr result → Breaks alone s d new → before ≤ after → RunsTo alone s d name result new q before after
broken_run alone s d name (Ok run) new q before after i b le = absurd (true≢false (sym i))
broken_run alone s d name (Err e) new q before after i b le = (b, le)

-- ---- the actor after a statement

module _ {P : Type 0} (within : P → Block) (does : P → List ℕ → ℕ → Procedure (Turn P)) where
  outside_after : (alone failed : Bool) (mid : State) (p : P) (text name : List ℕ) (reply : Reply) (new : State) (q : P) (between after : ℕ)
      → StaysOutside within does → within p ≡ none → IsRunnable text → Reports alone failed mid (does p text 0) name reply new q between after → within q ≡ none
  outside_after alone failed mid p text name reply new q between after law out runs s =
      law alone failed mid p text 0 new (record { places = q; said = s.said; reads = s.read }) out runs.event s.walks

  -- it stays outside a block
  pub outside_then : (alone : Bool) (run : TickOutcome) (end : StepEnd) (result : Result TickOutcome NoMemory) (mid : State) (p : P) (text name : List ℕ) (new : State) (q : P) (between after : ℕ)
      → StaysOutside within does → within p ≡ none → IsRunnable text → Stepped alone mid (does p text 0) name end new q between after → GoesOnBy run end result → OnOk result (within q ≡ none)
  outside_then alone run (steps.Reply r) (Ok next) mid p text name new q between after law out runs s g = outside_after alone false mid p text name r new q between after law out runs s
  outside_then alone run (steps.DiskFault r) (Ok next) mid p text name new q between after law out runs s g = outside_after alone true mid p text name r new q between after law out runs s
  outside_then alone run steps.NoMemory (Ok next) mid p text name new q between after law out runs s g = absurd g
  outside_then alone run end (Err e) mid p text name new q between after law out runs s g = tt

-- the same for what is true if it replied
pub held_then : (run : TickOutcome) (end : StepEnd) (result : Result TickOutcome NoMemory) (H : Type 0) → GoesOnBy run end result → IfAnswered end H → OnOk result H
held_then run (steps.Reply r) (Ok next) H g h = h
held_then run (steps.DiskFault r) (Ok next) H g h = h
held_then run steps.NoMemory (Ok next) H g h = absurd g
held_then run end (Err e) H g h = tt
