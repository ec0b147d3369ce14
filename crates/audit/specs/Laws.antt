-- Laws of audits, each in one sentence.
use Rattle.std.specs.Prelude.{◌≡◌, ◌⊎◌, ◌+◌, List, ℕ, length, true, None, ⊤}
use Rattle.ts_model.specs.Allowed.{all_allowed}
use Rattle.ts_model.specs.History.{History, position}
use Rattle.transcript.specs.Reading.{IsReading}
use Rattle.transcript.specs.declared.transcripts.Transcript.{Transcript}
use Rattle.audit.specs.Answers.{Answers, MayBeJudged, reply_count}
use Rattle.audit.specs.Explained.{Explained}
use Rattle.audit.specs.Lines.{first_policy}
use Rattle.audit.specs.Texts.{NamesEachOnce, numbers_read}
use Rattle.audit.specs.declared.answers.Audit.{Audit}
use Rattle.audit.specs.declared.answers.Audit.TheVariants.{Yes, No, Lost, NoMemory}

-- an audit of one text over one history has one answer, unless memory runs out
abbrev pub TextsHaveOneAnswer : Type 0
TextsHaveOneAnswer =
    (all : History) (text : List ℕ) (audit other : Audit) → all_allowed all ≡ true → Answers all text audit
    → Answers all text other → (audit ≡ other) ⊎ (audit ≡ NoMemory) ⊎ (other ≡ NoMemory)

-- the answer is YES with the number of replies for an explained transcript without a statement on policies, unless
-- memory runs out
abbrev pub ExplainedIsYes : Type 0
ExplainedIsYes =
    (all : History) (text : List ℕ) (t : Transcript) (audit : Audit) → all_allowed all ≡ true → IsReading text t
    → first_policy t.sessions ≡ None → Explained all t → Answers all text audit
    → (audit ≡ Yes (reply_count t)) ⊎ (audit ≡ NoMemory)

-- the replies of a transcript with the answer YES name, by their texts, each event above its start once, and no other
abbrev pub YesNamesEachOnce : Type 0
YesNamesEachOnce =
    (all : History) (text : List ℕ) (t : Transcript) (n : ℕ) → all_allowed all ≡ true → IsReading text t
    → Answers all text (Yes n) → NamesEachOnce all t

-- the answer is No or Lost, unless memory ran out
abbrev pub IsRejected : Audit → Type 0
IsRejected (No i j) = ⊤
IsRejected (Lost p) = ⊤
IsRejected NoMemory = ⊤
IsRejected other = ⊥

-- the answer is No or Lost if the replies of a transcript that may be judged leave out an event, name one twice or
-- another. Memory may also run out
abbrev pub OthersAreRejected : Type 0
OthersAreRejected =
    (all : History) (text : List ℕ) (t : Transcript) (audit : Audit) → all_allowed all ≡ true → IsReading text t
    → MayBeJudged all t (NamesEachOnce all t → ⊥) → Answers all text audit → IsRejected audit

-- the same if the replies name more events than the history has above the start, or fewer
abbrev pub MoreOrFewerAreRejected : Type 0
MoreOrFewerAreRejected =
    (all : History) (text : List ℕ) (t : Transcript) (audit : Audit) → all_allowed all ≡ true → IsReading text t
    → MayBeJudged all t (t.start + length (numbers_read t) ≡ position all → ⊥) → Answers all text audit
    → IsRejected audit
