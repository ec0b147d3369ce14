-- What a call that audits a transcript against its journal has printed, by how it ended.
use Rattle.std.specs.Prelude.{◌≡◌, ◌⊎◌, ◌<◌, ℕ, List, [], ◌++◌, Option, codes, decimal, length, ⊤, IfSome}
use Rattle.std.specs.Io.KnownBytes.{Appends}
use Rattle.ts_io.specs.Whole.{AppendsPart}
use Rattle.ts_io.specs.declared.limits.TheConstants.{INPUT_LIMIT}
use Rattle.ts_model.specs.History.{History, position}
use Rattle.script_run.specs.Runs.{ReadWhole}
use Rattle.audit.specs.Answers.{Answers}
use Rattle.audit.specs.declared.answers.Audit.{Audit}
use Rattle.audit.specs.declared.answers.Audit.TheVariants as audits
use Rattle.ts_top.specs.declared.endings.Status.{Status}
use Rattle.ts_top.specs.declared.endings.Status.TheVariants.{Done, Refused, BadWords, ReadFault, WriteFault, DiskFault, Damaged, NoMemory, InputLong}
use Rattle.ts_top.specs.Checkpoints.{Prints}
use Rattle.ts_top.specs.Outcomes.{Outside, IsDamaged, Over}

-- ---- its line

-- a reply by its session and its index, after a word
abbrev pub reply_line : List ℕ → ℕ → ℕ → List ℕ
reply_line word session reply = word ++ decimal session ++ codes " reply " ++ decimal reply ++ codes "\n"

-- all replies are explained: the number of replies, and the position at which the history ends
abbrev pub yes_text : ℕ → ℕ → List ℕ
yes_text end n = codes "AUDIT YES replies " ++ decimal n ++ codes " @" ++ decimal end ++ codes "\n"

-- the line of an audit over a history that ends at a position
abbrev pub audit_text : ℕ → Audit → List ℕ
audit_text end (audits.Yes n) = yes_text end n
audit_text end (audits.No session reply) = reply_line (codes "AUDIT NO session ") session reply
audit_text end (audits.Lost p) = codes "AUDIT LOST @" ++ decimal p ++ codes "\n"
audit_text end (audits.Policy session reply) = reply_line (codes "AUDIT POLICY session ") session reply
audit_text end (audits.Early p) = codes "AUDIT EARLY @" ++ decimal p ++ codes "\n"
audit_text end audits.BadText = codes "AUDIT BAD\n"
audit_text end audits.NoMemory = []

-- how a call ends that printed this line
abbrev pub status_audited : Audit → Status
status_audited (audits.Yes n) = Done
status_audited audits.NoMemory = NoMemory
status_audited other = Refused

-- ---- what the call did

-- a text was audited over a history, and the answer has this property
pub record Audited (h : History) (text : List ℕ) (Is : Audit → Type 0) : Type 0 where
  pub audit : Audit
  pub answers : Answers h text audit
  pub is : Is audit

-- the call ended by the answer, whose line was printed
pub record PrintedAudit (status : Status) (before written : Option (List ℕ)) (h : History)
    (audit : Audit) : Type 0 where
  pub ended : status ≡ status_audited audit
  pub printed : Appends before written (audit_text (position h) audit)

-- what an audit of a text over a history did, by how it ended
abbrev pub Audits : History → Status → Type 0 → List ℕ → Option (List ℕ) → Option (List ℕ) → Type 0
Audits h Done unprinted text before written = Audited h text (PrintedAudit Done before written h)
Audits h Refused unprinted text before written = Audited h text (PrintedAudit Refused before written h)
Audits h WriteFault unprinted text before written =
    Audited h text (λ audit. AppendsPart before written (audit_text (position h) audit))
Audits h NoMemory unprinted text before written = unprinted
Audits h other unprinted text before written = ⊥

-- the same for an audit against the history that the journal represents
abbrev pub AuditsBeside : Status → Type 0 → List ℕ → Outside → Type 0
AuditsBeside DiskFault unprinted text o = unprinted
AuditsBeside (Damaged at) unprinted text o = unprinted × IsDamaged at o
AuditsBeside NoMemory unprinted text o = unprinted
AuditsBeside status unprinted text o =
    Over o (λ h. Audits h status unprinted text o.written_before o.written)

-- the source was read to its end, and the text that it gave has this property
pub record OfWholeText (o : Outside) (Is : List ℕ → Type 0) : Type 0 where
  pub text : List ℕ
  pub read : IfSome o.input (λ input. ReadWhole input o.rest × (input ≡ text))
  pub is : Is text

-- what an audit with this end has done. It reads its text to the end before it calls the disk. If it couldn't read the
-- text, it hasn't called the disk, and if it couldn't read the journal, it has read the text
abbrev pub AuditTo : Status → Type 0 → Type 0 → Outside → Type 0
AuditTo ReadFault unprinted unasked o = unprinted × unasked
AuditTo InputLong unprinted unasked o = unprinted × unasked × IfSome o.input (λ text. INPUT_LIMIT < length text)
AuditTo NoMemory unprinted unasked o = unprinted × (unasked ⊎ OfWholeText o (λ text. ⊤))
AuditTo status unprinted unasked o = OfWholeText o (λ text. AuditsBeside status unprinted text o)

-- ---- printing

-- the line of an answer was printed, or a part of it, over a history that ends at a position. The call ended like this.
-- If memory ran out, nothing was printed
abbrev pub PrintsAudit : Audit → ℕ → Status → Type 0 → Option (List ℕ) → Option (List ℕ) → Type 0
PrintsAudit audits.NoMemory end status unprinted before written = (status ≡ NoMemory) × unprinted
PrintsAudit audit end status unprinted before written =
    Prints (status_audited audit) (audit_text end audit) status before written

-- a text was audited over a history, and the line of the answer was printed like this
pub record AuditTold (h : History) (text : List ℕ) (status : Status) (unprinted : Type 0)
    (before written : Option (List ℕ)) : Type 0 where
  pub audit : Audit
  pub answers : Answers h text audit
  pub prints : PrintsAudit audit (position h) status unprinted before written
