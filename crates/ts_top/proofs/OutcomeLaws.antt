-- What the top call has done, by how its script ended and what the store then reports about its disk.
use Rattle.std.proofs.Common.{◌≡◌, ◌≤◌, inl, inr, ⊎_elim, ℕ, false, List, [], ◌∷◌, ◌++◌, Option, Some, None, IfSome, take, refl, sym, ap, ◌∙◌, subst, arith}
use Rattle.std.specs.Prelude.{IsSome, IsSomeAnd}
use Rattle.std.specs.Io.KnownBytes.{Appends}
use Rattle.std.proofs.KnownBytes.{Appends-nil}
use Rattle.ts_model.specs.declared.events.Event.{Event}
use Rattle.ts_model.specs.History.{History, ◌▸◌, Begins, same, further}
use Rattle.ts_model.specs.States.{State, stands_still}
use Rattle.ts_model.proofs.HistoryLaws.{begins_trans}
use Rattle.ts_sessions.specs.Script.{opening_script_state}
use Rattle.ts_top.specs.Scripts.{program_semantics}
use Rattle.ts_schema.specs.Counts.{raised_by}
use Rattle.ts_store.specs.Images.{IsBetween, StandsForEither, latest}
use Rattle.ts_store.specs.Stands.{Stands}
use Rattle.script_run.specs.Runs.{Left, Executed, StoppedBefore, StoppedWriting, StoppedAtEvent, StoppedWithin, Ran as RanScript, executed_lines, is_read_fault as is_read_fault_of, is_write_fault as is_write_fault_of, is_disk_fault as is_disk_fault_of}
use Rattle.script_run.specs.RunStates.{FailedBetween}
use Rattle.script_run.proofs.LineLaws.{line_begins}
use Rattle.script_run.proofs.ScriptLaws.{reads-append}
use Rattle.script_run.specs.declared.ends.RunEnd.{RunEnd}
use Rattle.script_run.specs.declared.ends.RunEnd.TheVariants as ends
use Rattle.ts_top.specs.Endings.{status_of, is_read_fault, is_write_fault, is_disk_fault}
use Rattle.ts_top.specs.declared.endings.Status.{Status}
use Rattle.ts_top.specs.declared.endings.Status.TheVariants.{Done, Refused, BadWords, ReadFault, WriteFault, DiskFault, Damaged, NoMemory, InputLong}
use Rattle.ts_top.specs.Scripts.{history_after, rows_read}
use Rattle.ts_top.specs.Outcomes.{Outside, StandsBetween, Holds, ImagesUpTo, RanWhole, RanBefore, RanWithin, RanWriting, RanTo, IfWentOn}
use Rattle.ts_schema.proofs.Cases.{none_there}
use Rattle.ts_disk.proofs.Told.{some_also}

-- ---- options

pub if_some : {T : Type 0} (o : Option T) (P Q : T → Type 0) → ((x : T) → P x → Q x) → IfSome o P → IfSome o Q
if_some None P Q gives p = p
if_some (Some x) P Q gives p = gives x p

-- ---- files

-- what a closed store reports about its disk
pub record Closed (told : Type 0) (left : List ℕ → Type 0) (opening : History) (s : State) (file : Option (List ℕ)) : Type 0 where
  pub shown : told → IsSomeAnd file (StandsForEither s.history (latest s.history s.failed))
  pub images : (c : List ℕ) → left c → IsBetween opening s.history s.failed c

-- a file that represents the history, if the disk didn't fail
pub the_one : (h : History) (failed : Option Event) (file : List ℕ) → failed ≡ None → StandsForEither h (latest h failed) file → Stands file h
the_one h failed file none (inl stands) = stands
the_one h failed file none (inr stands) = subst (λ g. Stands file g) (ap (latest h) none) stands

-- a crash image of a history on the way to one with which the store's history begins, if the disk didn't fail
image_before : (opening seen to : History) (failed : Option Event) (c : List ℕ) → failed ≡ None → Begins seen to → IsBetween opening seen failed c → StandsBetween opening to c
image_before opening seen to failed c none within image = record {
  history = image.history;
  stands = image.stands;
  began = image.from;
  within = ⊎_elim (λ upto. begins_trans upto within) (λ is. subst (λ g. Begins g to) (sym (is ∙ ap (latest seen) none)) within) image.upto;
}

-- the same if it failed at an event on that way
image_failed : (opening seen to : History) (e : Event) (failed : Option Event) (c : List ℕ) → failed ≡ Some e → Begins (seen ▸ e) to → IsBetween opening seen failed c → StandsBetween opening to c
image_failed opening seen to e failed c fails next image = record {
  history = image.history;
  stands = image.stands;
  began = image.from;
  within = ⊎_elim (λ upto. begins_trans upto (begins_trans (further same) next)) (λ is. subst (λ g. Begins g to) (sym (is ∙ ap (latest seen) fails)) next) image.upto;
}

file_failed : (from seen to : History) (e : Event) (failed : Option Event) (file : List ℕ) → failed ≡ Some e → Begins from seen → Begins (seen ▸ e) to → StandsForEither seen (latest seen failed) file → StandsBetween from to file
file_failed from seen to e failed file fails began next (inl stands) = record { history = seen; stands = stands; began = began; within = begins_trans (further same) next }
file_failed from seen to e failed file fails began next (inr stands) = record { history = seen ▸ e; stands = subst (λ g. Stands file g) (ap (latest seen) fails) stands; began = further began; within = next }

-- ---- scripts

-- what a script left, if no row was read before
abbrev pub left_of : State → Outside → Left
left_of s o = record { store = s; written_before = o.written_before; written = o.written; read_before = 0; read = o.reads }

module _ (told : Type 0) (left : List ℕ → Type 0) (unread unprinted kept : Type 0) (o : Outside) (h : History) (s : State) (closed : Closed told left h s o.file) where
  holds_all : (to : History) → s.failed ≡ None → s.history ≡ to → told → Holds o.file to
  holds_all to none is d = some_also o.file (StandsForEither s.history (latest s.history s.failed)) (λ file. Stands file to) (λ file either. subst (λ g. Stands file g) is (the_one s.history s.failed file none either)) (closed.shown d)

  images_all : (to : History) → s.failed ≡ None → Begins s.history to → ImagesUpTo left h to
  images_all to none within = λ c image. image_before h s.history to s.failed c none within (closed.images c image)

  ran_whole : (lines : List (List ℕ)) → s.failed ≡ None → Executed program_semantics h lines (left_of s o) → RanWhole told left h lines o
  ran_whole lines none ran = record {
    wrote = ran.wrote;
    holds = holds_all (history_after h lines) none ran.history;
    images = images_all (history_after h lines) none (subst (λ g. Begins s.history g) ran.history same);
    counted = ran.counted;
  }

  -- the first of some lines read at most as many rows as all of them
  at_most : (lines done rest : List (List ℕ)) → lines ≡ done ++ rest → o.reads ≡ raised_by (rows_read h done) 0 → o.reads ≤ raised_by (rows_read h lines) 0
  at_most lines done rest split counted =
      let all = reads-append program_semantics (opening_script_state h) 1 done rest in
      subst (λ ls. o.reads ≤ raised_by (rows_read h ls) 0) (sym split) (omega (arith, all, counted))

  ran_before : (lines : List (List ℕ)) → s.failed ≡ None → StoppedBefore program_semantics h lines (left_of s o) → RanBefore told left h lines o
  ran_before lines none stopped =
      record {
        done = stopped.done;
        rest = stopped.rest;
        split = stopped.split;
        ran = ran_whole stopped.done none stopped.executed_first;
        most = at_most lines stopped.done stopped.rest stopped.split stopped.executed_first.counted;
      }

  ran_writing : (lines : List (List ℕ)) → s.failed ≡ None → StoppedWriting program_semantics h lines (left_of s o) → RanWriting told left h lines o
  ran_writing lines none stopped =
      let to : History = history_after h (stopped.done ++ stopped.line ∷ []) in
      record {
        done = stopped.done;
        line = stopped.line;
        rest = stopped.rest;
        part = stopped.part;
        todo = stopped.todo;
        split = stopped.split;
        reply = stopped.reply;
        wrote = stopped.wrote;
        holds = holds_all to none stopped.history;
        images = images_all to none (subst (λ g. Begins s.history g) stopped.history same);
        counted = stopped.counted;
      }

  ran_within : (lines : List (List ℕ)) → s.failed ≡ None → StoppedWithin program_semantics h lines (left_of s o) → RanWithin told left h lines o
  ran_within lines none stopped =
      let from : History = history_after h stopped.done in
      let to : History = history_after h (stopped.done ++ take 1 stopped.rest) in
      record {
        done = stopped.done;
        rest = stopped.rest;
        split = stopped.split;
        wrote = stopped.wrote;
        holds = λ d. some_also o.file (StandsForEither s.history (latest s.history s.failed)) (StandsBetween from to)
            (λ file either. record { history = s.history; stands = the_one s.history s.failed file none either; began = stopped.between.began; within = stopped.between.within }) (closed.shown d);
        images = images_all to none stopped.between.within;
        counted = stopped.counted;
      }

  ran_at_event : (lines : List (List ℕ)) → StoppedAtEvent program_semantics h lines (left_of s o) → RanWithin told left h lines o
  ran_at_event lines stopped =
      let from : History = history_after h stopped.done in
      let to : History = history_after h (stopped.done ++ stopped.line ∷ []) in
      let failed : FailedBetween from to s = stopped.failed in
      record {
        done = stopped.done;
        rest = stopped.line ∷ stopped.rest;
        split = stopped.split;
        wrote = stopped.wrote;
        holds = λ d. some_also o.file (StandsForEither s.history (latest s.history s.failed)) (StandsBetween from to)
            (λ file either. file_failed from s.history to failed.event s.failed file failed.failed failed.began failed.next either) (closed.shown d);
        images = λ c image. image_failed h s.history to failed.event s.failed c failed.failed failed.next (closed.images c image);
        counted = stopped.counted;
      }

  -- what the call has done after its script ended like this
  pub told_run : (end : RunEnd) → stands_still s ≡ is_disk_fault_of end → IfSome o.file_before (λ file. Stands file h) → IfSome o.input (λ input. RanScript end program_semantics h input o.rest (left_of s o)) → RanTo (status_of end) told left unread unprinted kept o
  told_run ends.Done still stood ran =
      record { opening = h; stood = stood; ran = if_some o.input _ _ (λ input r. (r.0, r.2, ran_whole (executed_lines input) (none_there s.failed still) r.1)) ran }
  told_run ends.Refused still stood ran =
      record { opening = h; stood = stood; ran = if_some o.input _ _ (λ input r. (r.0, r.2, ran_whole (executed_lines input) (none_there s.failed still) r.1)) ran }
  told_run ends.ReadFault still stood ran =
      record { opening = h; stood = stood; ran = if_some o.input _ _ (λ input r. ran_before (executed_lines input) (none_there s.failed still) r) ran }
  told_run ends.WriteFault still stood ran =
      record { opening = h; stood = stood; ran = if_some o.input _ _ (λ input r. ran_writing (executed_lines input) (none_there s.failed still) r) ran }
  told_run ends.DiskFault still stood ran =
      inr (record { opening = h; stood = stood; ran = if_some o.input _ _ (λ input r. ran_at_event (executed_lines input) r) ran })
  told_run ends.NoMemory still stood ran =
      inr (record { opening = h; stood = stood; ran = if_some o.input _ _ (λ input r. ran_within (executed_lines input) (none_there s.failed still) r) ran })
  told_run ends.InputLong still stood ran =
      record { opening = h; stood = stood; ran = if_some o.input _ _ (λ input r. (r.0, ran_whole (executed_lines input) (none_there s.failed still) r.1)) ran }

-- a run that read its source had a header, if the disk didn't fail
pub headed : (end : RunEnd) (P : Type 0) → (is_disk_fault_of end ≡ false → P) → IfWentOn (status_of end) P
headed ends.Done P there = there refl
headed ends.Refused P there = there refl
headed ends.ReadFault P there = there refl
headed ends.WriteFault P there = there refl
headed ends.DiskFault P there = tt
headed ends.NoMemory P there = tt
headed ends.InputLong P there = there refl

-- a run that did something did something or nothing
pub ran_or_not : (status : Status) (told : Type 0) (left : List ℕ → Type 0) (unread unprinted kept : Type 0) (o : Outside) → RanTo status told left ⊥ ⊥ ⊥ o → RanTo status told left unread unprinted kept o
ran_or_not Done told left unread unprinted kept o ran = ran
ran_or_not Refused told left unread unprinted kept o ran = ran
ran_or_not BadWords told left unread unprinted kept o ran = ran
ran_or_not ReadFault told left unread unprinted kept o ran = ran
ran_or_not WriteFault told left unread unprinted kept o ran = ran
ran_or_not DiskFault told left unread unprinted kept o (inl never) = absurd never.0
ran_or_not DiskFault told left unread unprinted kept o (inr ran) = inr ran
ran_or_not (Damaged at) told left unread unprinted kept o ran = absurd ran.0.0
ran_or_not NoMemory told left unread unprinted kept o (inl never) = absurd never.0
ran_or_not NoMemory told left unread unprinted kept o (inr ran) = inr ran
ran_or_not InputLong told left unread unprinted kept o ran = ran

-- the counts of faults are those of the script
pub same_read_fault : (end : RunEnd) → is_read_fault_of end ≡ is_read_fault (status_of end)
same_read_fault ends.Done = refl
same_read_fault ends.Refused = refl
same_read_fault ends.ReadFault = refl
same_read_fault ends.WriteFault = refl
same_read_fault ends.DiskFault = refl
same_read_fault ends.NoMemory = refl
same_read_fault ends.InputLong = refl

pub same_write_fault : (end : RunEnd) → is_write_fault_of end ≡ is_write_fault (status_of end)
same_write_fault ends.Done = refl
same_write_fault ends.Refused = refl
same_write_fault ends.ReadFault = refl
same_write_fault ends.WriteFault = refl
same_write_fault ends.DiskFault = refl
same_write_fault ends.NoMemory = refl
same_write_fault ends.InputLong = refl

pub same_disk_fault : (end : RunEnd) → is_disk_fault_of end ≡ is_disk_fault (status_of end)
same_disk_fault ends.Done = refl
same_disk_fault ends.Refused = refl
same_disk_fault ends.ReadFault = refl
same_disk_fault ends.WriteFault = refl
same_disk_fault ends.DiskFault = refl
same_disk_fault ends.NoMemory = refl
same_disk_fault ends.InputLong = refl

-- what is true of known bytes
pub if_known : (o : Option (List ℕ)) (P : List ℕ → Type 0) → ((file : List ℕ) → o ≡ Some file → P file) → IfSome o P
if_known None P gives = tt
if_known (Some file) P gives = gives file refl

pub never_some : {T : Type 0} (o : Option T) → o ≡ None → IsSome o → ⊥
never_some None none some = cc some
never_some (Some x) none some = cc none
