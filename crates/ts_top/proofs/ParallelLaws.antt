-- What a parallel run has done, by how it stopped and what the closed store reports about its disk.
use Rattle.std.proofs.Common.{◌≡◌, ◌≢◌, inl, inr, ⊎_elim, ℕ, suc, ◌≤◌, ◌<◌, Bool, true, false, List, [], ◌++◌, append-nil, Option, Some, None, IfSome, length, refl, sym, ap, ◌∙◌, subst, arith}
use Rattle.std.specs.Prelude.{cond, is_some}
use Rattle.std.specs.Io.KnownBytes.{Appends, Consumes, IsAtEnd}
use Rattle.ts_io.specs.Faults.{Counted}
use Rattle.ts_io.specs.Whole.{AppendsPart, Passes}
use Rattle.ts_io.specs.declared.limits.TheConstants.{INPUT_LIMIT}
use Rattle.script_run.specs.Runs.{ReadWhole}
use Rattle.ts_model.specs.declared.events.Event.{Event}
use Rattle.ts_model.specs.History.{History, position, Begins, same, further}
use Rattle.ts_model.specs.States.{State, stands_still}
use Rattle.ts_model.proofs.HistoryLaws.{position_begins}
use Rattle.shared_store.specs.Wrapped.{GoesOn}
use Rattle.ts_store.specs.Images.{IsBetween, StandsForEither, latest}
use Rattle.ts_store.specs.Stands.{Stands}
use Rattle.par_lines.specs.Sorted.{sorted_lines}
use Rattle.ts_top.specs.Scripts.{block_in, first_places, program_replies, program_semantics}
use Rattle.par_run.specs.Crews.{LinesRan, LinesRanAsFar}
use Rattle.par_run.specs.Outputs.{Output, transcript_in}
use Rattle.audit_laws.specs.Laws.{ExplainedUnlessPolicies}
use Rattle.audit_laws.proofs.RunLaws.{runs_explained}
use Rattle.par_run.specs.Ends.{is_disk_fault as is_disk_fault_of}
use Rattle.par_run.specs.declared.ends.ParStop.{ParStop}
use Rattle.par_run.specs.declared.ends.ParStop.TheVariants as stops
use Rattle.ts_top.specs.declared.endings.Status.{Status}
use Rattle.ts_top.specs.declared.endings.Status.TheVariants.{Done, Refused, BadWords, ReadFault, WriteFault, DiskFault, Damaged, NoMemory, InputLong}
use Rattle.ts_top.specs.Endings.{is_disk_fault, is_write_fault, status_answered}
use Rattle.ts_top.specs.Openings.{NotOpened}
use Rattle.ts_top.specs.Outcomes.{Holds, IfWentOn, Outside, Untouched}
use Rattle.ts_top.specs.declared.parallel.Replies.{Replies}
use Rattle.ts_top.specs.declared.parallel.Replies.TheVariants.{Plain, Json}
use Rattle.ts_top.specs.Parallel.{Any, ByWorkers, CountedAfterDisk, CountedAfterPrinting, CountedAfterWorkers, GaveUp, InputRan, InputTo, IsPrinted, IsPrintedAfterFault, ParTo, Prints, RanNothing}
use Rattle.ts_top.proofs.OutcomeLaws.{Closed, if_some}
use Rattle.ts_schema.proofs.Cases.{none_there}
use Rattle.ts_disk.proofs.Told.{some_also}

-- ---- histories

-- two histories that begin with each other are the same
same_both : {g h : History} → Begins g h → Begins h g → g ≡ h
same_both same back = refl
same_both (further b) back = absurd (too_long (position_begins b) (position_begins back))
  where
    too_long : {m n : ℕ} → m ≤ n → suc n ≤ m → ⊥
    too_long le more = omega arith

-- a crash image of a store without new events whose disk didn't fail
pub only_one : (h : History) (failed : Option Event) (c : List ℕ) → failed ≡ None → IsBetween h h failed c → Stands c h
only_one h failed c none image =
    let is : image.history ≡ h = ⊎_elim (λ upto. sym (same_both image.from upto)) (λ is. is ∙ ap (latest h) none) image.upto in
    subst (λ g. Stands c g) is image.stands

-- ---- the end of a run

module _ (told : Type 0) (left : List ℕ → Type 0) (sink_failed : Type 0) (h : History) (input : List ℕ) (reads : ℕ) (before written file : Option (List ℕ)) (s : State) (out : Output) (closed : Closed told left h s file) where
  abbrev pub Ran : Type 0
  Ran = LinesRan program_replies first_places h (sorted_lines input) s out reads

  by_workers : (stopped : Bool) (Faulted : Bool → Type 0) (Wrote : History → Output → Type 0) → Ran → stands_still s ≡ stopped → Faulted out.fault → Wrote s.history out → ByWorkers told left h input reads stopped Faulted Wrote file
  by_workers stopped Faulted Wrote ran stops faulted wrote = record {
    state = s;
    out = out;
    ran = ran;
    stops = stops;
    faulted = faulted;
    wrote = wrote;
    holds = closed.shown;
    images = closed.images;
  }

  abbrev pub RanAsFar : Type 0
  RanAsFar = LinesRanAsFar block_in program_semantics.does first_places h (sorted_lines input) s reads

  gave_up : RanAsFar → written ≡ before → GaveUp told left h input reads (written ≡ before) file
  gave_up ran none = record { printed_nothing = none; state = s; ran = ran; holds = closed.shown; images = closed.images }

  -- the history of a run that didn't stop explains its transcript
  explained : Ran → stands_still s ≡ false → ExplainedUnlessPolicies s.history (transcript_in (position h) out)
  explained ran stops = runs_explained h input [] s out reads ran stops

  module _ (replies : Replies) where
    answered : Ran → stands_still s ≡ false → IsPrinted replies (Appends before written) (position h) s.history out → (b : Bool) → out.fault ≡ b → InputTo replies (status_answered b) told left sink_failed h input reads before written file
    answered ran stops wrote true is = by_workers false (λ f. f ≡ true) (IsPrinted replies (Appends before written) (position h)) ran stops is wrote
    answered ran stops wrote false is = by_workers false (λ f. f ≡ false) (IsPrinted replies (Appends before written) (position h)) ran stops is wrote

    printed_whole : Ran → stands_still s ≡ false → (status : Status) → (status ≡ status_answered out.fault) × IsPrinted replies (Appends before written) (position h) s.history out → InputTo replies status told left sink_failed h input reads before written file
    printed_whole ran stops status p = subst (λ x. InputTo replies x told left sink_failed h input reads before written file) (sym p.0) (answered ran stops p.1 out.fault refl)

    printed_part : Ran → stands_still s ≡ false → (status : Status) → (status ≡ WriteFault) × IsPrinted replies (AppendsPart before written) (position h) s.history out → InputTo replies status told left sink_failed h input reads before written file
    printed_part ran stops status p =
        subst (λ x. InputTo replies x told left sink_failed h input reads before written file) (sym p.0) (by_workers false Any (IsPrinted replies (AppendsPart before written) (position h)) ran stops tt p.1)

    disk_failed : Ran → stands_still s ≡ true → (status : Status) → (status ≡ DiskFault) × IsPrintedAfterFault replies sink_failed before written out → InputTo replies status told left sink_failed h input reads before written file
    disk_failed ran stops status p =
        subst (λ x. InputTo replies x told left sink_failed h input reads before written file) (sym p.0) (by_workers true Any (λ all. IsPrintedAfterFault replies sink_failed before written) ran stops tt p.1)

    no_memory : RanAsFar → (status : Status) → (status ≡ NoMemory) × (written ≡ before) → InputTo replies status told left sink_failed h input reads before written file
    no_memory far status p = subst (λ x. InputTo replies x told left sink_failed h input reads before written file) (sym p.0) (gave_up far p.1)

  -- what the run of an input has done after it was printed, by how it stopped
  pub input_to : (replies : Replies) (stop : ParStop) (status : Status) → Prints replies stop (position h) out status sink_failed before written → (stop ≢ stops.NoMemory → Ran) → (stop ≢ stops.NoMemory → stands_still s ≡ is_disk_fault_of stop)
      → RanAsFar → InputTo replies status told left sink_failed h input reads before written file
  input_to Plain stops.Done status (inl p) ran stop far = printed_whole Plain (ran (λ e. cc e)) (stop (λ e. cc e)) status p
  input_to Plain stops.Done status (inr p) ran stop far = printed_part Plain (ran (λ e. cc e)) (stop (λ e. cc e)) status p
  input_to Plain stops.DiskFault status p ran stop far = disk_failed Plain (ran (λ e. cc e)) (stop (λ e. cc e)) status p
  input_to Plain stops.NoMemory status p ran stop far = no_memory Plain far status p
  input_to Json stops.Done status (inl p) ran stop far = printed_whole Json (ran (λ e. cc e)) (stop (λ e. cc e)) status (p.0, (p.1, explained (ran (λ e. cc e)) (stop (λ e. cc e))))
  input_to Json stops.Done status (inr p) ran stop far = printed_part Json (ran (λ e. cc e)) (stop (λ e. cc e)) status (p.0, (p.1, explained (ran (λ e. cc e)) (stop (λ e. cc e))))
  input_to Json stops.DiskFault status p ran stop far = disk_failed Json (ran (λ e. cc e)) (stop (λ e. cc e)) status p
  input_to Json stops.NoMemory status p ran stop far = no_memory Json far status p

-- ---- the input

-- a source that gave bytes and reached its end gave its whole input
pub read_whole : (old new : Option (List ℕ)) (out : List ℕ) → Consumes old new out → IsAtEnd new → length out ≤ INPUT_LIMIT → IfSome old (λ input. ReadWhole input new × (input ≡ out))
read_whole None new out taken end within = tt
read_whole (Some xs) None out taken end within = absurd taken
read_whole (Some xs) (Some ys) out taken end within =
    let is : xs ≡ out = taken ∙ ap (λ l. out ++ l) end ∙ append-nil out in
    (record { within = subst (λ l. length l ≤ INPUT_LIMIT) (sym is) within; at_end = end }, is)

-- a source that gave more than the limit had more
pub too_long : (old new : Option (List ℕ)) (out : List ℕ) → Passes INPUT_LIMIT old new out → IfSome old (λ input. INPUT_LIMIT < length input)
too_long None new out p = tt
too_long (Some xs) None out p = absurd p
too_long (Some xs) (Some ys) out p = p.0

-- ---- the call

module _ (replies : Replies) (told : Type 0) (left : List ℕ → Type 0) (sink_failed : Type 0) (o : Outside) where
  module _ (h : History) (stood : IfSome o.file_before (λ file. Stands file h)) where
    -- no statement was run, and the journal represents the opening history
    pub ran_nothing : o.written ≡ o.written_before → (told → Holds o.file h) → ((c : List ℕ) → left c → Stands c h) → o.reads ≡ 0 → RanNothing told left o
    ran_nothing same_text holds images none = (
      record { opening = h; stood = stood; ran = record { printed_nothing = same_text; holds = holds; images = images } },
      none,
    )

    module _ (input : List ℕ) (read : IfSome o.input (λ i. ReadWhole i o.rest × (i ≡ input))) where
      over_input : (status : Status) → InputTo replies status told left sink_failed h input o.reads o.written_before o.written o.file → InputRan replies status told left sink_failed o
      over_input status to = record {
        opening = h;
        stood = stood;
        ran = if_some o.input (λ i. ReadWhole i o.rest × (i ≡ input)) (λ i. ReadWhole i o.rest × InputTo replies status told left sink_failed h i o.reads o.written_before o.written o.file)
            (λ i r. (r.0, subst (λ x. InputTo replies status told left sink_failed h x o.reads o.written_before o.written o.file) (sym r.1) to)) read;
      }

      pub input_par : (status : Status) → InputTo replies status told left sink_failed h input o.reads o.written_before o.written o.file → ParTo replies status told left sink_failed ⊥ ⊥ ⊥ o
      input_par Done to = over_input Done to
      input_par Refused to = over_input Refused to
      input_par BadWords to = absurd to
      input_par ReadFault to = absurd to
      input_par WriteFault to = over_input WriteFault to
      input_par DiskFault to = inr (over_input DiskFault to)
      input_par (Damaged at) to = absurd to
      input_par NoMemory to = inr (inr (over_input NoMemory to))
      input_par InputLong to = absurd to

  -- a call that did something did something or nothing
  pub par_or_not : (status : Status) (unread unprinted kept : Type 0) → ParTo replies status told left sink_failed ⊥ ⊥ ⊥ o → ParTo replies status told left sink_failed unread unprinted kept o
  par_or_not Done unread unprinted kept ran = ran
  par_or_not Refused unread unprinted kept ran = ran
  par_or_not BadWords unread unprinted kept ran = ran
  par_or_not ReadFault unread unprinted kept ran = ran
  par_or_not WriteFault unread unprinted kept ran = ran
  par_or_not DiskFault unread unprinted kept (inl never) = absurd never.0
  par_or_not DiskFault unread unprinted kept (inr ran) = inr ran
  par_or_not (Damaged at) unread unprinted kept ran = absurd ran.0.0
  par_or_not NoMemory unread unprinted kept (inl never) = absurd never.0
  par_or_not NoMemory unread unprinted kept (inr ran) = inr ran
  par_or_not InputLong unread unprinted kept ran = ran

  -- a call that opened no journal
  pub not_opened_par : (unread unprinted kept : Type 0) → unread × unprinted × (o.reads ≡ 0) → (status : Status) → NotOpened status told left kept o.file_before o.file → ParTo replies status told left sink_failed unread unprinted kept o
  not_opened_par unread unprinted kept still Done n = absurd n
  not_opened_par unread unprinted kept still Refused n = absurd n
  not_opened_par unread unprinted kept still BadWords n = absurd n
  not_opened_par unread unprinted kept still ReadFault n = absurd n
  not_opened_par unread unprinted kept still WriteFault n = absurd n
  not_opened_par unread unprinted kept still DiskFault n = inl (still.0, still.1, n, still.2)
  not_opened_par unread unprinted kept still (Damaged at) n = ((still.0, still.1, n.0, still.2), n.1)
  not_opened_par unread unprinted kept still NoMemory n = inl (still.0, still.1, n, still.2)
  not_opened_par unread unprinted kept still InputLong n = absurd n

-- a call that opened no journal prints nothing, so it reports no fault of the sink
not_opened_plain : (told : Type 0) (left : List ℕ → Type 0) (before after : Option (List ℕ)) (status : Status) (kept : Type 0) (n : ℕ) → NotOpened status told left kept before after → CountedAfterDisk status n n
not_opened_plain told left before after Done kept n e = refl
not_opened_plain told left before after Refused kept n e = refl
not_opened_plain told left before after BadWords kept n e = refl
not_opened_plain told left before after ReadFault kept n e = refl
not_opened_plain told left before after WriteFault kept n e = absurd e
not_opened_plain told left before after DiskFault kept n e = (false, refl)
not_opened_plain told left before after (Damaged at) kept n e = refl
not_opened_plain told left before after NoMemory kept n e = refl
not_opened_plain told left before after InputLong kept n e = refl

not_opened_json : (told : Type 0) (left : List ℕ → Type 0) (before after : Option (List ℕ)) (status : Status) (kept : Type 0) (n : ℕ) → NotOpened status told left kept before after → Counted n n (is_write_fault status)
not_opened_json told left before after Done kept n e = refl
not_opened_json told left before after Refused kept n e = refl
not_opened_json told left before after BadWords kept n e = refl
not_opened_json told left before after ReadFault kept n e = refl
not_opened_json told left before after WriteFault kept n e = absurd e
not_opened_json told left before after DiskFault kept n e = refl
not_opened_json told left before after (Damaged at) kept n e = refl
not_opened_json told left before after NoMemory kept n e = refl
not_opened_json told left before after InputLong kept n e = refl

pub not_opened_sink : (replies : Replies) (told : Type 0) (left : List ℕ → Type 0) (before after : Option (List ℕ)) (status : Status) (kept : Type 0) (n : ℕ) → NotOpened status told left kept before after → CountedAfterPrinting replies status n n
not_opened_sink Plain told left before after status kept n e = not_opened_plain told left before after status kept n e
not_opened_sink Json told left before after status kept n e = not_opened_json told left before after status kept n e

-- ---- counts of the disk's faults

pub counted_by_state : (first now : State) → GoesOn first now → Counted first.faults now.faults (stands_still now)
counted_by_state first now g =
    elim (stands_still now) as (λ b. stands_still now ≡ b → Counted first.faults now.faults b) [
      | true ↦ λ is. g.fell is
      | false ↦ λ is. g.counted (none_there now.failed is)
    ] refl

-- a call reports a disk fault exactly if the store has stopped, unless memory ran out
module _ (first now : State) (g : GoesOn first now) where
  counted_still : (still : Bool) → stands_still now ≡ still → Counted first.faults now.faults still
  counted_still still is = subst (λ b. Counted first.faults now.faults b) is (counted_by_state first now g)

  counted_answered : (status : Status) (fault : Bool) → status ≡ status_answered fault → stands_still now ≡ false → CountedAfterWorkers status first.faults now.faults
  counted_answered status true is still = subst (λ x. CountedAfterWorkers x first.faults now.faults) (sym is) (counted_still false still)
  counted_answered status false is still = subst (λ x. CountedAfterWorkers x first.faults now.faults) (sym is) (counted_still false still)

  counted_write : (status : Status) → status ≡ WriteFault → stands_still now ≡ false → CountedAfterWorkers status first.faults now.faults
  counted_write status is still = subst (λ x. CountedAfterWorkers x first.faults now.faults) (sym is) (counted_still false still)

  counted_disk : (status : Status) → status ≡ DiskFault → stands_still now ≡ true → CountedAfterWorkers status first.faults now.faults
  counted_disk status is still = subst (λ x. CountedAfterWorkers x first.faults now.faults) (sym is) (counted_still true still)

  counted_memory : (status : Status) → status ≡ NoMemory → CountedAfterWorkers status first.faults now.faults
  counted_memory status is = subst (λ x. CountedAfterWorkers x first.faults now.faults) (sym is) (stands_still now, counted_by_state first now g)

pub counted_by : (replies : Replies) (stop : ParStop) (start : ℕ) (out : Output) (status : Status) (sink_failed : Type 0) (before written : Option (List ℕ)) (first now : State) → Prints replies stop start out status sink_failed before written
    → (stop ≢ stops.NoMemory → stands_still now ≡ is_disk_fault_of stop) → GoesOn first now → CountedAfterWorkers status first.faults now.faults
counted_by Plain stops.Done start out status sink_failed before written first now (inl p) is g = counted_answered first now g status out.fault p.0 (is (λ e. cc e))
counted_by Plain stops.Done start out status sink_failed before written first now (inr p) is g = counted_write first now g status p.0 (is (λ e. cc e))
counted_by Plain stops.DiskFault start out status sink_failed before written first now p is g = counted_disk first now g status p.0 (is (λ e. cc e))
counted_by Plain stops.NoMemory start out status sink_failed before written first now p is g = counted_memory first now g status p.0
counted_by Json stops.Done start out status sink_failed before written first now (inl p) is g = counted_answered first now g status out.fault p.0 (is (λ e. cc e))
counted_by Json stops.Done start out status sink_failed before written first now (inr p) is g = counted_write first now g status p.0 (is (λ e. cc e))
counted_by Json stops.DiskFault start out status sink_failed before written first now p is g = counted_disk first now g status p.0 (is (λ e. cc e))
counted_by Json stops.NoMemory start out status sink_failed before written first now p is g = counted_memory first now g status p.0

-- ---- a call that continued

-- unless a call ended with a disk fault or out of memory, its run stopped at its end
module _ (P : Type 0) where
  went_answered : (status : Status) (fault : Bool) → status ≡ status_answered fault → P → IfWentOn status P
  went_answered status true is there = subst (λ x. IfWentOn x P) (sym is) there
  went_answered status false is there = subst (λ x. IfWentOn x P) (sym is) there

  went_so : (status end : Status) → status ≡ end → IfWentOn end P → IfWentOn status P
  went_so status end is there = subst (λ x. IfWentOn x P) (sym is) there

  pub went_by : (replies : Replies) (stop : ParStop) (start : ℕ) (out : Output) (status : Status) (sink_failed : Type 0) (before written : Option (List ℕ)) → Prints replies stop start out status sink_failed before written → (stop ≡ stops.Done → P) → IfWentOn status P
  went_by Plain stops.Done start out status sink_failed before written (inl p) there = went_answered status out.fault p.0 (there refl)
  went_by Plain stops.Done start out status sink_failed before written (inr p) there = went_so status WriteFault p.0 (there refl)
  went_by Plain stops.DiskFault start out status sink_failed before written p there = went_so status DiskFault p.0 tt
  went_by Plain stops.NoMemory start out status sink_failed before written p there = went_so status NoMemory p.0 tt
  went_by Json stops.Done start out status sink_failed before written (inl p) there = went_answered status out.fault p.0 (there refl)
  went_by Json stops.Done start out status sink_failed before written (inr p) there = went_so status WriteFault p.0 (there refl)
  went_by Json stops.DiskFault start out status sink_failed before written p there = went_so status DiskFault p.0 tt
  went_by Json stops.NoMemory start out status sink_failed before written p there = went_so status NoMemory p.0 tt

-- a call that opened no journal reports the disk's fault as its parts do
pub not_opened_disk : (status : Status) (before now : ℕ) → Counted before now (is_disk_fault status) → CountedAfterWorkers status before now
not_opened_disk Done before now counted = counted
not_opened_disk Refused before now counted = counted
not_opened_disk BadWords before now counted = counted
not_opened_disk ReadFault before now counted = counted
not_opened_disk WriteFault before now counted = counted
not_opened_disk DiskFault before now counted = counted
not_opened_disk (Damaged at) before now counted = counted
not_opened_disk NoMemory before now counted = (false, counted)
not_opened_disk InputLong before now counted = counted
