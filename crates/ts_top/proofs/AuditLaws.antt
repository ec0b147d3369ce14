-- What an audit has done, by how the reading of its text ended and what it printed.
use Rattle.std.proofs.Common.{◌≡◌, inl, inr, ℕ, false, List, Option, Some, None, IfSome, refl, sym, ap, ◌∙◌, subst}
use Rattle.std.specs.Prelude.{◌↔◌}
use Rattle.std.specs.Io.KnownBytes.{Appends}
use Rattle.ts_io.specs.Whole.{AppendsPart}
use Rattle.ts_model.specs.History.{History, position}
use Rattle.script_run.specs.Runs.{ReadWhole}
use Rattle.audit.specs.Answers.{Answers}
use Rattle.audit.specs.declared.answers.Audit.{Audit}
use Rattle.audit.specs.declared.answers.Audit.TheVariants as audits
use Rattle.ts_store.specs.Stands.{Stands}
use Rattle.ts_top.specs.declared.endings.Status.{Status}
use Rattle.ts_top.specs.declared.endings.Status.TheVariants.{Done, Refused, BadWords, ReadFault, WriteFault, DiskFault, Damaged, NoMemory, InputLong}
use Rattle.ts_top.specs.Audits.{AuditTo, AuditTold, Audited, Audits, AuditsBeside, PrintedAudit, PrintsAudit, audit_text, status_audited}
use Rattle.ts_top.specs.Endings.{is_disk_fault, is_read_fault}
use Rattle.ts_top.proofs.PrintLaws.{none_not_some}
use Rattle.ts_top.specs.Outcomes.{Outside}
use Rattle.ts_top.proofs.OutcomeLaws.{if_some}

module _ (h : History) (unprinted : Type 0) (before written : Option (List ℕ)) (text : List ℕ) where
  module _ (audit : Audit) (answers : Answers h text audit) where
    with_answer : (Is : Audit → Type 0) → Is audit → Audited h text Is
    with_answer Is is = record { audit = audit; answers = answers; is = is }

    with_line : (status : Status) → status ≡ status_audited audit → Appends before written (audit_text (position h) audit) → Audited h text (PrintedAudit status before written h)
    with_line status ended printed = with_answer (PrintedAudit status before written h) (record { ended = ended; printed = printed })

    with_part : (status : Status) → status ≡ WriteFault → AppendsPart before written (audit_text (position h) audit) → Audits h status unprinted text before written
    with_part status is part = subst (λ s. Audits h s unprinted text before written) (sym is) (with_answer (λ a. AppendsPart before written (audit_text (position h) a)) part)

    refused : status_audited audit ≡ Refused → (status : Status) → status ≡ status_audited audit → Appends before written (audit_text (position h) audit) → Audits h status unprinted text before written
    refused told status is printed = subst (λ s. Audits h s unprinted text before written) (sym (is ∙ told)) (with_line Refused (sym told) printed)

  -- an audit of the text, with this line printed
  pub audited : (audit : Audit) (status : Status) → Answers h text audit → PrintsAudit audit (position h) status unprinted before written → Audits h status unprinted text before written
  audited audits.NoMemory status answers p = subst (λ s. Audits h s unprinted text before written) (sym p.0) p.1
  audited (audits.Yes n) status answers (inl p) = subst (λ s. Audits h s unprinted text before written) (sym p.0) (with_line (audits.Yes n) answers Done refl p.1)
  audited (audits.Yes n) status answers (inr p) = with_part (audits.Yes n) answers status p.0 p.1
  audited (audits.No i j) status answers (inl p) = refused (audits.No i j) answers refl status p.0 p.1
  audited (audits.No i j) status answers (inr p) = with_part (audits.No i j) answers status p.0 p.1
  audited (audits.Lost n) status answers (inl p) = refused (audits.Lost n) answers refl status p.0 p.1
  audited (audits.Lost n) status answers (inr p) = with_part (audits.Lost n) answers status p.0 p.1
  audited (audits.Policy i j) status answers (inl p) = refused (audits.Policy i j) answers refl status p.0 p.1
  audited (audits.Policy i j) status answers (inr p) = with_part (audits.Policy i j) answers status p.0 p.1
  audited (audits.Early n) status answers (inl p) = refused (audits.Early n) answers refl status p.0 p.1
  audited (audits.Early n) status answers (inr p) = with_part (audits.Early n) answers status p.0 p.1
  audited audits.BadText status answers (inl p) = refused audits.BadText answers refl status p.0 p.1
  audited audits.BadText status answers (inr p) = with_part audits.BadText answers status p.0 p.1

-- over the history that the journal represented
pub audits_beside : (status : Status) (unprinted : Type 0) (text : List ℕ) (o : Outside) (h : History) → IfSome o.file_before (λ file. Stands file h) → Audits h status unprinted text o.written_before o.written → AuditsBeside status unprinted text o
audits_beside Done unprinted text o h stood a = record { opening = h; stood = stood; ran = a }
audits_beside Refused unprinted text o h stood a = record { opening = h; stood = stood; ran = a }
audits_beside BadWords unprinted text o h stood a = absurd a
audits_beside ReadFault unprinted text o h stood a = absurd a
audits_beside WriteFault unprinted text o h stood a = record { opening = h; stood = stood; ran = a }
audits_beside DiskFault unprinted text o h stood a = absurd a
audits_beside (Damaged at) unprinted text o h stood a = absurd a
audits_beside NoMemory unprinted text o h stood a = a
audits_beside InputLong unprinted text o h stood a = absurd a

-- of a text that was read to its end
pub audit_to : (status : Status) (unprinted unasked : Type 0) (text : List ℕ) (o : Outside) → IfSome o.input (λ input. ReadWhole input o.rest × (input ≡ text)) → AuditsBeside status unprinted text o → AuditTo status unprinted unasked o
audit_to Done unprinted unasked text o read a = record { text = text; read = read; is = a }
audit_to Refused unprinted unasked text o read a = record { text = text; read = read; is = a }
audit_to BadWords unprinted unasked text o read a = absurd a.ran
audit_to ReadFault unprinted unasked text o read a = absurd a.ran
audit_to WriteFault unprinted unasked text o read a = record { text = text; read = read; is = a }
audit_to DiskFault unprinted unasked text o read a = record { text = text; read = read; is = a }
audit_to (Damaged at) unprinted unasked text o read a = record { text = text; read = read; is = a }
audit_to NoMemory unprinted unasked text o read a = (a, inr (record { text = text; read = read; is = tt }))
audit_to InputLong unprinted unasked text o read a = absurd a.ran

-- it reads nothing more
pub beside_reads_nothing : (status : Status) (unprinted : Type 0) (text : List ℕ) (o : Outside) → AuditsBeside status unprinted text o → is_read_fault status ≡ false
beside_reads_nothing Done unprinted text o a = refl
beside_reads_nothing Refused unprinted text o a = refl
beside_reads_nothing BadWords unprinted text o a = refl
beside_reads_nothing ReadFault unprinted text o a = absurd a.ran
beside_reads_nothing WriteFault unprinted text o a = refl
beside_reads_nothing DiskFault unprinted text o a = refl
beside_reads_nothing (Damaged at) unprinted text o a = refl
beside_reads_nothing NoMemory unprinted text o a = refl
beside_reads_nothing InputLong unprinted text o a = refl

-- an audit over a history doesn't call the disk
pub disk_no_fault : (h : History) (status : Status) (unprinted : Type 0) (text : List ℕ) (before written : Option (List ℕ)) → Audits h status unprinted text before written → is_disk_fault status ≡ false
disk_no_fault h Done unprinted text before written a = refl
disk_no_fault h Refused unprinted text before written a = refl
disk_no_fault h BadWords unprinted text before written a = refl
disk_no_fault h ReadFault unprinted text before written a = refl
disk_no_fault h WriteFault unprinted text before written a = refl
disk_no_fault h DiskFault unprinted text before written a = absurd a
disk_no_fault h (Damaged at) unprinted text before written a = refl
disk_no_fault h NoMemory unprinted text before written a = refl
disk_no_fault h InputLong unprinted text before written a = refl

-- the words of an audit name a command
good_words : (status : Status) (unprinted unasked : Type 0) (o : Outside) → AuditTo status unprinted unasked o → status ≡ BadWords → ⊥
good_words Done unprinted unasked o to is = cc is
good_words Refused unprinted unasked o to is = cc is
good_words BadWords unprinted unasked o to is = absurd to.is.ran
good_words ReadFault unprinted unasked o to is = cc is
good_words WriteFault unprinted unasked o to is = cc is
good_words DiskFault unprinted unasked o to is = cc is
good_words (Damaged at) unprinted unasked o to is = cc is
good_words NoMemory unprinted unasked o to is = cc is
good_words InputLong unprinted unasked o to is = cc is

pub not_bad_words : {T : Type 0} (status : Status) (unprinted unasked : Type 0) (o : Outside) (asked : Option T) (x : T) → AuditTo status unprinted unasked o → asked ≡ Some x → ((status ≡ BadWords) ↔ (asked ≡ None))
not_bad_words status unprinted unasked o asked x to is = (λ bad. absurd (good_words status unprinted unasked o to bad), λ none. absurd (none_not_some x asked none is))
