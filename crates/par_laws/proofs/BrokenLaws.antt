-- Runs until memory runs out: the sessions that took part, and that no others did anything.
use Rattle.std.proofs.Common.{◌≡◌, ℕ, ◌+◌, ◌≤◌, Bool, true, false, not, ◌&&◌, List, [], ◌∷◌, ◌++◌, append_assoc, append-nil, flat_map, map, sum_by, Option, sym, refl, ap, ◌∙◌, subst, inl, inr, arith}
use Rattle.std.specs.Prelude.{◌||◌, ◌⊎◌, IsPermutation}
use Rattle.std.specs.List.{list_any}
use Rattle.std.proofs.lemmas.List.Sorted.{IsPermutation-refl}
use Rattle.std.proofs.lemmas.List.Sums.{sum_by-append, sum_by-cons}
use mathlib.Core.List.{IsPrefix}
use Rattle.ts_schema.specs.Counts.{raised_by}
use Rattle.ts_model.specs.History.{History, ◌▸▸◌, position, Begins, same as itself}
use Rattle.ts_model.specs.States.{State, stop_of}
use Rattle.ts_model.proofs.HistoryLaws.{begins_trans, position_begins}
use Rattle.turn_lock.specs.Pass.{seen_of, closed_of, made_of, StaysIn}
use Rattle.turn_lock.specs.Positions.{positions_between}
use Rattle.turn_lock.proofs.Gathering.{stays_then}
use Rattle.turn_lock.proofs.Lists.{prefix_self, prefix_then}
use Rattle.turn_lock.proofs.Numbers.{positions_none}
use Rattle.shared_store.specs.Stores.{Shared, Ticket, history_of}
use Rattle.par_workers.specs.Outcomes.{begun_at, AllOutcomes, Outcome, Ran}
use Rattle.par_workers.specs.Slots.{Knows}
use Rattle.par_workers.proofs.OutcomeLaws.{begins_seen}
use Rattle.ts_sessions.specs.Places.{Block, Turn}
use Rattle.ts_sessions.specs.Procedures.{Procedure}
use Rattle.ts_sessions.specs.Script.{SessionScript}
use Rattle.par_laws.specs.Broken.{Part, AllTookPart, BrokeOff, PhaseRan, PhasesBegan, PhasesRan, RanAsFar, TookPart, Went, WorkedOrBroke, all_made, all_reads, one_broke}
use Rattle.par_laws.specs.Calls.{Worked}
use Rattle.par_laws.specs.Parallel.{SessionReplies, SessionExecuted}
use Rattle.par_laws.proofs.PhaseLaws.{stops_there}

-- ---- sums and lists of three crews

sum_three : {X : Type 0} (f : X → ℕ) (a b c : List X) → sum_by f (a ++ b ++ c) ≡ sum_by f a + (sum_by f b + sum_by f c)
sum_three f a b c =
    let both = sum_by-append f (a ++ b) c in
    let two = sum_by-append f a b in
    omega (arith, both, two)

one_sum : (f : List Part → ℕ) (a : List Part) → sum_by f (a ∷ []) ≡ f a
one_sum f a =
    let one = sum_by-cons f a [] in
    omega (arith, one)

two_sums : (f : List Part → ℕ) (a b : List Part) → sum_by f (a ∷ b ∷ []) ≡ f a + f b
two_sums f a b =
    let more = sum_by-cons f a (b ∷ []) in
    let one = one_sum f b in
    omega (arith, more, one)

three_sums : (f : List Part → ℕ) (a b c : List Part) → sum_by f (a ∷ b ∷ c ∷ []) ≡ f a + (f b + f c)
three_sums f a b c =
    let more = sum_by-cons f a (b ∷ c ∷ []) in
    let two = two_sums f b c in
    omega (arith, more, two)

-- the events of one part, of two and of three, after no events
one_made : (a m last : List ℕ) → a ≡ m → last ≡ [] ++ m → a ++ [] ≡ last
one_made a m last same all = append-nil a ∙ same ∙ sym all

two_made : (a b m n mid last : List ℕ) → a ≡ m → b ≡ n → mid ≡ [] ++ m → last ≡ mid ++ n → a ++ (b ++ []) ≡ last
two_made a b m n mid last first second one two =
    ap (λ l. a ++ l) (append-nil b) ∙ (λ i. first i ++ second i) ∙ sym (two ∙ ap (λ l. l ++ n) one)

three_made : (a b c m n k mid later last : List ℕ) → a ≡ m → b ≡ n → c ≡ k → mid ≡ [] ++ m → later ≡ mid ++ n → last ≡ later ++ k → a ++ (b ++ (c ++ [])) ≡ last
three_made a b c m n k mid later last first second third one two three =
    ap (λ l. a ++ (b ++ l)) (append-nil c) ∙ (λ i. first i ++ (second i ++ third i)) ∙ sym (append_assoc m n k)
    ∙ sym (three ∙ ap (λ l. l ++ k) (two ∙ ap (λ l. l ++ n) one))

not_false : (b : Bool) → not b ≡ false → b ≡ true
not_false true e = refl
not_false false e = absurd cc

not_true : (b : Bool) → not b ≡ true → b ≡ false
not_true false e = refl
not_true true e = absurd cc

-- if no phase began, nothing was done
pub none_began : {P : Type 0} (within : P → Block) (does : P → List ℕ → ℕ → Procedure (Turn P)) (p : P) (phases : List (List SessionScript)) (old new : State) (count : ℕ) → new ≡ old → count ≡ 0 → RanAsFar within does p old.history phases new count
none_began within does p phases old new count same_state none =
    let here = position old.history in
    subst (λ s. RanAsFar within does p old.history phases s count) (sym same_state)
    (record {
      parts = [];
      begins = itself;
      ran = refl;
      made = subst (λ ns. IsPermutation [] ns) (sym (positions_none here)) (IsPermutation-refl []);
      reads = omega (arith, none);
    })

-- a run of some phases is a run of equal phases
pub far_of_same : {P : Type 0} (within : P → Block) (does : P → List ℕ → ℕ → Procedure (Turn P)) (p : P) (opening : History) (setup setup_too others others_too final final_too : List SessionScript) (new : State) (count : ℕ) → setup ≡ setup_too → others ≡ others_too → final ≡ final_too → RanAsFar within does p opening (setup ∷ others ∷ final ∷ []) new count → RanAsFar within does p opening (setup_too ∷ others_too ∷ final_too ∷ []) new count
far_of_same within does p opening setup setup_too others others_too final final_too new count a b c ran =
    subst (λ phases. RanAsFar within does p opening phases new count) (λ i. a i ∷ b i ∷ c i ∷ []) ran

-- what the lines of the workers' sessions do, and the states of the sessions at their first lines
module _ {P : Type 0} (within : P → Block) (does : P → List ℕ → ℕ → Procedure (Turn P)) (p : P)
    {W : Type 0} (session_of : W → SessionScript) (replies_of : W → SessionReplies) (ran_out : W → Bool) {B : Type 0} (state : B → State) (store : Shared B) where
  -- how many rows a worker has read
  abbrev reads_of : W → ℕ
  reads_of w = (replies_of w).reads

  abbrev at : Ticket B → ℕ
  at pass = position (history_of state store pass)

  -- ---- workers by what they did if there was memory

  worked : (start end : Ticket B) (olds news : List W) (made : List ℕ) → AllOutcomes state store (WorkedOrBroke within does p session_of replies_of ran_out) start end olds news made → AllOutcomes state store (Worked within does p session_of replies_of ran_out) start end olds news made
  worked start end [] [] made os = os
  worked start end [] (new ∷ news) made os = os
  worked start end (old ∷ olds) [] made os = os
  worked start end (old ∷ olds) (new ∷ news) made os = record {
    mine = os.mine;
    others = os.others;
    one = record { left = os.one.left; did = os.one.did.0; begins = os.one.begins; stops = os.one.stops; makes = os.one.makes };
    rest = worked start end olds news os.others os.rest;
    all = os.all;
  }

  pub ran_worked : (start end : Ticket B) (olds news : List W) → Ran state store (WorkedOrBroke within does p session_of replies_of ran_out) start end olds news → Ran state store (Worked within does p session_of replies_of ran_out) start end olds news
  ran_worked start end olds news ran = record { made = ran.made; outcomes = worked start end olds news ran.made ran.outcomes; all = ran.all }

  -- ---- parts

  went : (b : Bool) (old : W) (s : State) (new : W) (t : State) → (b ≡ false → SessionExecuted within does p false (session_of old) s (replies_of new) t) → (b ≡ true → BrokeOff within does p false (session_of old) s (reads_of new) t) → Went within does p b false (session_of old) s (reads_of new) t
  went false old s new t executed broke = record { replies = replies_of new; executed = executed refl; reads = refl }
  went true old s new t executed broke = broke refl

  abbrev part_of : W → List ℕ → Part
  part_of new made = record { broke = ran_out new; made = made; reads = reads_of new }

  -- a state that holds what the last pass has seen
  record IsLeft (new : State) (last : Ticket B) : Type 0 where
    whole : new.history ≡ history_of state store last
    shut : new.failed ≡ closed_of last

  took : (new : State) (start end last : Ticket B) (old now : W) (made : List ℕ) → IsLeft new last → Knows last end → Outcome state store (λ s t. WorkedOrBroke within does p session_of replies_of ran_out false old s now t) start end made → TookPart within does p new.history (stop_of new) (at start) (at end) (session_of old) (part_of now made)
  took new start end last old now made left knows o = record {
    old = begun_at state store start;
    new = o.left;
    found = refl;
    fresh = refl;
    went = went (ran_out now) old (begun_at state store start) now o.left o.did.0 o.did.1;
    begins = subst (λ h. Begins o.left.history h) (sym left.whole) (begins_trans o.begins (begins_seen state store end last knows.0));
    ended = position_begins o.begins;
    stops = stops_there o.left new (λ e is.
        let was = o.stops e is in
        let later = knows.1 e was.0 in
        (left.shut ∙ later.0, left.whole ∙ ap (λ es. (state store.opened.value).history ▸▸ es) later.1 ∙ was.1));
    made = o.makes;
  }

  -- the parts of a crew
  record PartsOf (new : State) (start end : Ticket B) (olds news : List W) (made : List ℕ) : Type 0 where
    parts : List Part
    took : AllTookPart within does p new.history (stop_of new) (at start) (at end) (map session_of olds) parts
    makes : flat_map (λ part. part.made) parts ≡ made
    some : one_broke parts ≡ list_any ran_out news
    reads : sum_by (λ part. part.reads) parts ≡ sum_by reads_of news

  parts_of : (new : State) (start end last : Ticket B) (olds news : List W) (made : List ℕ) → IsLeft new last → Knows last end → AllOutcomes state store (WorkedOrBroke within does p session_of replies_of ran_out) start end olds news made → PartsOf new start end olds news made
  parts_of new start end last [] [] made left knows os = record { parts = []; took = tt; makes = sym os; some = refl; reads = refl }
  parts_of new start end last [] (now ∷ news) made left knows os = absurd os
  parts_of new start end last (old ∷ olds) [] made left knows os = absurd os
  parts_of new start end last (old ∷ olds) (now ∷ news) made left knows os =
      let one = part_of now os.mine in
      let rest = parts_of new start end last olds news os.others left knows os.rest in
      record {
        parts = one ∷ rest.parts;
        took = (took new start end last old now os.mine left knows os.one, rest.took);
        makes = ap (λ ns. os.mine ++ ns) rest.makes ∙ sym os.all;
        some = ap (λ b. ran_out now || b) rest.some;
        reads = sum_by-cons (λ part. part.reads) one rest.parts ∙ ap (λ n. reads_of now + n) rest.reads ∙ sym (sum_by-cons reads_of now news);
      }

  -- ---- crews

  -- a crew ran between two passes if there was memory until then, and otherwise did nothing
  pub record CrewCame (enough : Bool) (start end : Ticket B) (olds news : List W) (sessions : List SessionScript) : Type 0 where
    pub begins : IsPrefix (seen_of start) (seen_of end)
    pub stays : StaysIn end start
    pub idle : enough ≡ false → (end ≡ start) × (news ≡ olds)
    pub ran : enough ≡ true → Ran state store (WorkedOrBroke within does p session_of replies_of ran_out) start end olds news
    pub are : map session_of olds ≡ sessions
    pub unread : sum_by reads_of olds ≡ 0

  -- three crews ran in order, left a state, and read this many rows
  pub record CrewsCame (setup others final : List SessionScript) (new : State) (count : ℕ) : Type 0 where
    pub start : Ticket B
    pub middle : Ticket B
    pub later : Ticket B
    pub last : Ticket B
    pub setup_old : List W
    pub setup_new : List W
    pub others_old : List W
    pub others_new : List W
    pub final_old : List W
    pub final_new : List W
    pub start_seen : seen_of start ≡ []
    pub start_made : made_of start ≡ []
    -- whether there was memory for the first crew, and for the first two
    pub first : Bool
    pub second : Bool
    pub first_is : first ≡ not (list_any ran_out setup_new)
    pub second_is : second ≡ (first && not (list_any ran_out others_new))
    pub setup_came : CrewCame true start middle setup_old setup_new setup
    pub others_came : CrewCame first middle later others_old others_new others
    pub final_came : CrewCame second later last final_old final_new final
    pub history : new.history ≡ history_of state store last
    pub failed : new.failed ≡ closed_of last
    pub made : IsPermutation (made_of last) (positions_between (position (state store.opened.value).history) (position new.history))
    pub counted : count ≡ raised_by (sum_by reads_of (setup_new ++ others_new ++ final_new)) 0

  -- the parts of a crew that ran; the flag says whether it ran out of memory
  record CrewParts (new : State) (broke : Bool) (start end : Ticket B) (news : List W) (sessions : List SessionScript) (made : List ℕ) : Type 0 where
    parts : List Part
    ran : PhaseRan within does p new.history (stop_of new) broke (at start) (at end) sessions parts
    makes : flat_map (λ part. part.made) parts ≡ made
    reads : sum_by (λ part. part.reads) parts ≡ sum_by reads_of news

  crew_parts : (new : State) (broke enough : Bool) (start end last : Ticket B) (olds news : List W) (sessions : List SessionScript) → IsLeft new last → Knows last end → CrewCame enough start end olds news sessions → (ran : Ran state store (WorkedOrBroke within does p session_of replies_of ran_out) start end olds news) → list_any ran_out news ≡ broke → CrewParts new broke start end news sessions ran.made
  crew_parts new broke enough start end last olds news sessions left knows came ran out =
      let all = parts_of new start end last olds news ran.made left knows ran.outcomes in
      record {
        parts = all.parts;
        ran = record {
          order = position_begins (begins_seen state store start end came.begins);
          took = subst (λ ss. AllTookPart within does p new.history (stop_of new) (at start) (at end) ss all.parts) came.are all.took;
          some = all.some ∙ out;
        };
        makes = all.makes;
        reads = all.reads;
      }

  -- a crew that did nothing read nothing
  idle_reads : (start end : Ticket B) (olds news : List W) (sessions : List SessionScript) (enough : Bool) → CrewCame enough start end olds news sessions → enough ≡ false → sum_by reads_of news ≡ 0
  idle_reads start end olds news sessions enough came none = ap (sum_by reads_of) (came.idle none).1 ∙ came.unread

  module _ (setup others final : List SessionScript) (new : State) (count : ℕ) (r : CrewsCame setup others final new count) where
    abbrev opening : History
    opening = (state store.opened.value).history

    abbrev phases : List (List SessionScript)
    phases = setup ∷ others ∷ final ∷ []

    left : IsLeft new r.last
    left = record { whole = r.history; shut = r.failed }

    knows_later : Knows r.last r.later
    knows_later = (r.final_came.begins, r.final_came.stays)

    knows_middle : Knows r.last r.middle
    knows_middle = (prefix_then (seen_of r.middle) (seen_of r.later) (seen_of r.last) r.others_came.begins r.final_came.begins, stays_then r.last r.later r.middle r.others_came.stays r.final_came.stays)

    knows_last : Knows r.last r.last
    knows_last = (prefix_self (seen_of r.last), λ e is. (is, refl))

    read_by_all : ℕ
    read_by_all = sum_by reads_of (r.setup_new ++ r.others_new ++ r.final_new)

    -- parts that appended all events and read all rows are the run
    whole_run : (parts : List (List Part)) → PhasesBegan within does p new.history (stop_of new) (at r.start) (at r.last) phases parts → all_made parts ≡ made_of r.last → all_reads parts ≡ sum_by reads_of (r.setup_new ++ r.others_new ++ r.final_new) → RanAsFar within does p opening phases new count
    whole_run parts ran made reads =
        let from : at r.start ≡ position opening = ap (λ es. position (opening ▸▸ es)) r.start_seen in
        let to : at r.last ≡ position new.history = ap position (sym r.history) in
        let begun = begins_trans (begins_seen state store r.start r.middle r.setup_came.begins) (begins_trans (begins_seen state store r.middle r.later r.others_came.begins) (begins_seen state store r.later r.last r.final_came.begins)) in
        record {
          parts = parts;
          begins = subst (λ h. Begins opening h) (sym r.history) (subst (λ es. Begins (opening ▸▸ es) (history_of state store r.last)) r.start_seen begun);
          ran = subst (λ n. PhasesBegan within does p new.history (stop_of new) n (position new.history) phases parts) from
              (subst (λ n. PhasesBegan within does p new.history (stop_of new) (at r.start) n phases parts) to ran);
          made = subst (λ ns. IsPermutation ns (positions_between (position opening) (position new.history))) (sym made) r.made;
          reads = r.counted ∙ ap (λ n. raised_by n 0) (sym reads);
        }

    first_made : (made : List ℕ) → made_of r.middle ≡ made_of r.start ++ made → made_of r.middle ≡ [] ++ made
    first_made made all = all ∙ ap (λ ns. ns ++ made) r.start_made

    total : sum_by reads_of (r.setup_new ++ r.others_new ++ r.final_new) ≡ sum_by reads_of r.setup_new + (sum_by reads_of r.others_new + sum_by reads_of r.final_new)
    total = sum_three reads_of r.setup_new r.others_new r.final_new

    abbrev part_reads : List Part → ℕ
    part_reads parts = sum_by (λ part. part.reads) parts

    -- the first crew ran out of memory
    after_first : r.first ≡ false → RanAsFar within does p opening phases new count
    after_first none =
        let never : r.second ≡ false = r.second_is ∙ ap (λ b. b && not (list_any ran_out r.others_new)) none in
        let ran = r.setup_came.ran refl in
        let one = crew_parts new true true r.start r.middle r.last r.setup_old r.setup_new setup left knows_middle r.setup_came ran (not_false (list_any ran_out r.setup_new) (sym r.first_is ∙ none)) in
        let same : r.last ≡ r.middle = (r.final_came.idle never).0 ∙ (r.others_came.idle none).0 in
        let others_read = idle_reads r.middle r.later r.others_old r.others_new others r.first r.others_came none in
        let final_read = idle_reads r.later r.last r.final_old r.final_new final r.second r.final_came never in
        let read = one_sum part_reads one.parts in
        let read_one = one.reads in
        let all = total in
        whole_run (one.parts ∷ [])
        (inl (subst (λ t. PhaseRan within does p new.history (stop_of new) true (at r.start) (at t) setup one.parts) (sym same) one.ran, refl))
        (one_made (flat_map (λ part. part.made) one.parts) ran.made (made_of r.last) one.makes (ap made_of same ∙ first_made ran.made ran.all))
        (omega (arith, others_read, final_read, read, read_one, all))

    -- the second crew ran out of memory
    after_second : r.first ≡ true → r.second ≡ false → RanAsFar within does p opening phases new count
    after_second enough none =
        let ran = r.setup_came.ran refl in
        let ran_then = r.others_came.ran enough in
        let broke : not (list_any ran_out r.others_new) ≡ false = sym (r.second_is ∙ ap (λ b. b && not (list_any ran_out r.others_new)) enough) ∙ none in
        let one = crew_parts new false true r.start r.middle r.last r.setup_old r.setup_new setup left knows_middle r.setup_came ran (not_true (list_any ran_out r.setup_new) (sym r.first_is ∙ enough)) in
        let two = crew_parts new true r.first r.middle r.later r.last r.others_old r.others_new others left knows_later r.others_came ran_then (not_false (list_any ran_out r.others_new) broke) in
        let same : r.last ≡ r.later = (r.final_came.idle none).0 in
        let final_read = idle_reads r.later r.last r.final_old r.final_new final r.second r.final_came none in
        let read = two_sums part_reads one.parts two.parts in
        let read_one = one.reads in
        let read_two = two.reads in
        let all = total in
        whole_run (one.parts ∷ two.parts ∷ [])
        (inr (record {
          mid = at r.middle;
          first = one.ran;
          rest = inl (subst (λ t. PhaseRan within does p new.history (stop_of new) true (at r.middle) (at t) others two.parts) (sym same) two.ran, refl);
        }))
        (two_made (flat_map (λ part. part.made) one.parts) (flat_map (λ part. part.made) two.parts) ran.made ran_then.made (made_of r.middle) (made_of r.last) one.makes two.makes (first_made ran.made ran.all) (ap made_of same ∙ ran_then.all))
        (omega (arith, final_read, read, read_one, read_two, all))

    -- the third crew ran out of memory, or none did
    last_phase : (broke : Bool) → (third : List Part) → PhaseRan within does p new.history (stop_of new) broke (at r.later) (at r.last) final third → PhasesRan within does p new.history (stop_of new) (at r.later) (at r.last) (final ∷ []) (third ∷ [])
    last_phase true third ran = inl (ran, refl)
    last_phase false third ran = inr (record { mid = at r.last; first = ran; rest = refl })

    after_third : r.first ≡ true → r.second ≡ true → RanAsFar within does p opening phases new count
    after_third enough still =
        let ran = r.setup_came.ran refl in
        let ran_then = r.others_came.ran enough in
        let ran_last = r.final_came.ran still in
        let sufficed : not (list_any ran_out r.others_new) ≡ true = sym (r.second_is ∙ ap (λ b. b && not (list_any ran_out r.others_new)) enough) ∙ still in
        let broke = list_any ran_out r.final_new in
        let one = crew_parts new false true r.start r.middle r.last r.setup_old r.setup_new setup left knows_middle r.setup_came ran (not_true (list_any ran_out r.setup_new) (sym r.first_is ∙ enough)) in
        let two = crew_parts new false r.first r.middle r.later r.last r.others_old r.others_new others left knows_later r.others_came ran_then (not_true (list_any ran_out r.others_new) sufficed) in
        let three = crew_parts new broke r.second r.later r.last r.last r.final_old r.final_new final left knows_last r.final_came ran_last refl in
        let read = three_sums part_reads one.parts two.parts three.parts in
        let read_one = one.reads in
        let read_two = two.reads in
        let read_three = three.reads in
        let all = total in
        whole_run (one.parts ∷ two.parts ∷ three.parts ∷ [])
        (inr (record {
          mid = at r.middle;
          first = one.ran;
          rest = inr (record { mid = at r.later; first = two.ran; rest = last_phase broke three.parts three.ran });
        }))
        (three_made (flat_map (λ part. part.made) one.parts) (flat_map (λ part. part.made) two.parts) (flat_map (λ part. part.made) three.parts) ran.made ran_then.made ran_last.made (made_of r.middle) (made_of r.later) (made_of r.last) one.makes two.makes three.makes (first_made ran.made ran.all) ran_then.all ran_last.all)
        (omega (arith, read, read_one, read_two, read_three, all))

    pub crews_ran : RanAsFar within does p opening phases new count
    crews_ran = by r.first r.second refl refl
      where
        by : (first second : Bool) → r.first ≡ first → r.second ≡ second → RanAsFar within does p opening phases new count
        by false second f s = after_first f
        by true false f s = after_second f s
        by true true f s = after_third f s
