-- How the text of each line of a reply is read.
use Rattle.std.proofs.Common.{◌≡◌, ℕ, zero, suc, ◌-◌, ◌^◌, ◌<◌, ◌==◌, Bool, true, false, cond, List, [], ◌∷◌, ◌++◌, length, Option, Some, None, refl, sym, ap, ◌∙◌, arith}
use Rattle.std.specs.Prelude.{ℤ, ◌/◌, ◌%◌, not, nat_eq, codes, decimal}
use Rattle.std.specs.Fmt.{signed_decimal}
use Rattle.std.specs.List.{AllByRecursion, list_any}
use Rattle.std.specs.Ordering.{int_eq}
use Rattle.std.proofs.lemmas.List.{append_assoc, append-nil}
use Rattle.ts_bucket.specs.declared.spans.Span.{Span}
use Rattle.ts_model.specs.declared.outcomes.Committed.{Committed}
use Rattle.ts_model.specs.declared.outcomes.Refusal.{Refusal}
use Rattle.ts_model.specs.declared.queries.Answer.{Answer}
use Rattle.result_text.specs.declared.refusals.Tail.{Tail}
use Rattle.result_text.specs.declared.refusals.Tail.TheVariants.{Bare, Place, Position, Finish, Count, Bytes}
use Rattle.result_text.specs.declared.replies.Said.TheVariants as said
use Rattle.result_text.specs.Answers.{answer_place, queue_text, rows_text, stale_text}
use Rattle.result_text.specs.Refusals.{entry_of, finish_text, number_text, tail_text}
use Rattle.result_text.specs.Replies.{refresh_head, said_text}
use Rattle.result_text.specs.Spans.{span_text, start_text}
use Rattle.ts_sessions.specs.Looks.{before, has_position as tail_has_position, shows_position}
use Rattle.audit_looks.specs.declared.lines.Head.{Head}
use Rattle.audit_looks.specs.declared.lines.Head.TheVariants as heads
use Rattle.audit_looks.specs.Lines.{behind, cut_in, has_position, head_of, named_in, number_in, position_in, snapshot_in, told_in}
use Rattle.audit_looks.specs.Replies.{is_line_end}
use Rattle.audit_looks.proofs.ByteLaws.{Lacks, any_over, behind_over, decimal_lacks, high_mark, lacks_append, low_mark, signed_lacks, IsMark}
use Rattle.audit_looks.proofs.NumberLaws.{number_last, number_then}
use Rattle.audit_looks.proofs.WordLaws.{word_lacks}

-- ---- parts

-- the events after read positions have numbers of 64 bits
abbrev pub LooksFit : List ℕ → Type 0
LooksFit ps = AllByRecursion (λ p. suc p < 2 ^ 64) ps

-- events with these numbers have numbers of 64 bits
abbrev pub NumbersFit : List ℕ → Type 0
NumbersFit ns = AllByRecursion (λ n. n < 2 ^ 64) ns

-- the line that begins a text of a reply, with its head, the read positions that it prints and the events that it
-- names
pub record ReadsLine (text rest : List ℕ) (head : Head) (looks numbers : List ℕ) : Type 0 where
  pub line : List ℕ
  pub is : text ≡ line ++ 10 ∷ rest
  pub clear : Lacks is_line_end line
  pub head_is : head_of line ≡ head
  pub told : LooksFit looks → told_in head line ≡ looks
  pub named : NumbersFit numbers → named_in head line ≡ numbers

abbrev is_at : ℕ → Bool
is_at b = nat_eq b 64

end_mark : IsMark 10
end_mark = low_mark 10 (omega arith)

at_mark : IsMark 64
at_mark = high_mark 64 (omega arith)

blank_mark : IsMark 32
blank_mark = low_mark 32 (omega arith)

-- a number ends no line, if the text after it ends none
clear_number : (n : ℕ) (text : List ℕ) → Lacks is_line_end text → Lacks is_line_end (decimal n ++ text)
clear_number n text clear = lacks_append is_line_end (decimal n) text (decimal_lacks 10 n end_mark) clear

clear_signed : (z : ℤ) (text : List ℕ) → Lacks is_line_end text → Lacks is_line_end (signed_decimal z ++ text)
clear_signed z text clear = lacks_append is_line_end (signed_decimal z) text (signed_lacks 10 z end_mark refl) clear

clear_last : (n : ℕ) → Lacks is_line_end (decimal n)
clear_last n = decimal_lacks 10 n end_mark

-- a number marks no position
at_over : (n : ℕ) (text : List ℕ) → has_position (decimal n ++ text) ≡ has_position text
at_over n text = any_over is_at (decimal n) text (decimal_lacks 64 n at_mark)

behind_at : (n : ℕ) (text : List ℕ) → behind 64 (decimal n ++ text) ≡ behind 64 text
behind_at n text = behind_over 64 (decimal n) text (decimal_lacks 64 n at_mark)

behind_blank : (n : ℕ) (text : List ℕ) → behind 32 (decimal n ++ text) ≡ behind 32 text
behind_blank n text = behind_over 32 (decimal n) text (decimal_lacks 32 n blank_mark)

less_one : (n : ℕ) → n - 1 ≡ before n
less_one zero = refl
less_one (suc n) = omega arith

-- an event implies a read at the position before it
event_told : (n pos : ℕ) → n ≡ pos → (n - 1) ∷ [] ≡ before pos ∷ []
event_told n pos e = ap (λ k. (k - 1) ∷ []) e ∙ ap (λ k. k ∷ []) (less_one pos)

-- a read position, or the number of an event, is printed unchanged
number_told : (n pos : ℕ) → n ≡ pos → n ∷ [] ≡ pos ∷ []
number_told n pos e = ap (λ k. k ∷ []) e

event_fits : (k : ℕ) → suc (before k) < 2 ^ 64 → k < 2 ^ 64
event_fits zero b = omega (arith, b)
event_fits (suc p) b = b

look_fits : (p : ℕ) → suc p < 2 ^ 64 → p < 2 ^ 64
look_fits p b = omega (arith, b)

-- ---- lines of words only

pub queued_line : ReadsLine (said_text said.Queued) [] heads.Quiet [] []
queued_line = record { line = codes "QUEUED"; is = refl; clear = refl; head_is = refl; told = λ b. refl; named = λ b. refl }

pub begin_line : ReadsLine (said_text said.Begin) [] heads.Quiet [] []
begin_line = record { line = codes "BEGIN"; is = refl; clear = refl; head_is = refl; told = λ b. refl; named = λ b. refl }

pub empty_line : ReadsLine (said_text said.CommitEmpty) [] heads.Quiet [] []
empty_line = record { line = codes "COMMIT EMPTY"; is = refl; clear = refl; head_is = refl; told = λ b. refl; named = λ b. refl }

pub rollback_line : ReadsLine (said_text said.Rollback) [] heads.Quiet [] []
rollback_line = record { line = codes "ROLLBACK"; is = refl; clear = refl; head_is = refl; told = λ b. refl; named = λ b. refl }

pub end_line : ReadsLine (said_text said.End) [] heads.Quiet [] []
end_line = record { line = codes "END"; is = refl; clear = refl; head_is = refl; told = λ b. refl; named = λ b. refl }

-- ---- lines that end with a position

pub table_line : (k : ℕ) → ReadsLine (said_text (said.Table k)) [] heads.Event (before k ∷ []) (k ∷ [])
table_line k = record {
  line = codes "TABLE @" ++ decimal k;
  is = refl;
  clear = clear_last k;
  head_is = refl;
  told = λ b. event_told (number_in (decimal k)) k (number_last k (event_fits k b.0));
  named = λ b. number_told (number_in (decimal k)) k (number_last k b.0);
}

pub hypertable_line : (k : ℕ) → ReadsLine (said_text (said.Hypertable k)) [] heads.Event (before k ∷ []) (k ∷ [])
hypertable_line k = record {
  line = codes "HYPERTABLE @" ++ decimal k;
  is = refl;
  clear = clear_last k;
  head_is = refl;
  told = λ b. event_told (number_in (decimal k)) k (number_last k (event_fits k b.0));
  named = λ b. number_told (number_in (decimal k)) k (number_last k b.0);
}

pub view_line : (k : ℕ) → ReadsLine (said_text (said.View k)) [] heads.Event (before k ∷ []) (k ∷ [])
view_line k = record {
  line = codes "VIEW @" ++ decimal k;
  is = refl;
  clear = clear_last k;
  head_is = refl;
  told = λ b. event_told (number_in (decimal k)) k (number_last k (event_fits k b.0));
  named = λ b. number_told (number_in (decimal k)) k (number_last k b.0);
}

pub mode_line : (k : ℕ) → ReadsLine (said_text (said.Mode k)) [] heads.Event (before k ∷ []) (k ∷ [])
mode_line k = record {
  line = codes "MODE @" ++ decimal k;
  is = refl;
  clear = clear_last k;
  head_is = refl;
  told = λ b. event_told (number_in (decimal k)) k (number_last k (event_fits k b.0));
  named = λ b. number_told (number_in (decimal k)) k (number_last k b.0);
}

pub nothing_line : (p : ℕ) → ReadsLine (said_text (said.Nothing p)) [] heads.Look (p ∷ []) []
nothing_line p = record {
  line = codes "NOTHING @" ++ decimal p;
  is = refl;
  clear = clear_last p;
  head_is = refl;
  told = λ b. number_told (number_in (decimal p)) p (number_last p (look_fits p b.0));
  named = λ b. refl;
}

pub begin_read_line : (p : ℕ) → ReadsLine (said_text (said.BeginRead p)) [] heads.Look (p ∷ []) []
begin_read_line p = record {
  line = codes "BEGIN @" ++ decimal p;
  is = refl;
  clear = clear_last p;
  head_is = refl;
  told = λ b. number_told (number_in (decimal p)) p (number_last p (look_fits p b.0));
  named = λ b. refl;
}

-- ---- lines of more numbers

grouped : (a b c : List ℕ) → (a ++ b) ++ c ≡ a ++ (b ++ c)
grouped a b c = append_assoc a b c

grouped_five : (a b c d e : List ℕ) → (((a ++ b) ++ c) ++ d) ++ e ≡ a ++ (b ++ (c ++ (d ++ e)))
grouped_five a b c d e = simp append_assoc

pub commit_line : (done : Committed) → ReadsLine (said_text (said.Commit done)) [] heads.Event (before done.pos ∷ []) (done.pos ∷ [])
commit_line done =
    let k = decimal done.pos in
    let more = decimal done.inserted in
    let less = decimal done.removed in
    let parts : (((k ++ codes " +") ++ more) ++ codes " -") ++ less ≡ k ++ (codes " +" ++ (more ++ (codes " -" ++ less))) = grouped_five k (codes " +") more (codes " -") less in
    let clear : Lacks is_line_end (k ++ (codes " +" ++ (more ++ (codes " -" ++ less)))) = clear_number done.pos _ (clear_number done.inserted (codes " -" ++ less) (clear_last done.removed)) in
    let number : ℕ = number_in ((((k ++ codes " +") ++ more) ++ codes " -") ++ less) in
    let number_is : done.pos < 2 ^ 64 → number ≡ done.pos = λ small. ap number_in parts ∙ number_then done.pos 32 (43 ∷ (more ++ (codes " -" ++ less))) small refl in
    record {
      line = codes "COMMIT @" ++ k ++ codes " +" ++ more ++ codes " -" ++ less;
      is = refl;
      clear = ap (list_any is_line_end) parts ∙ clear;
      head_is = refl;
      told = λ b. event_told number done.pos (number_is (event_fits done.pos b.0));
      named = λ b. number_told number done.pos (number_is b.0);
    }

-- a word, a number, and a position that ends the line
pub snap_line : (c p : ℕ) → ReadsLine (said_text (said.Snap c p)) [] heads.Look (p ∷ []) []
snap_line c p =
    let parts : (decimal c ++ codes " @") ++ decimal p ≡ decimal c ++ (codes " @" ++ decimal p) = grouped (decimal c) (codes " @") (decimal p) in
    record {
      line = codes "SNAP " ++ decimal c ++ codes " @" ++ decimal p;
      is = refl;
      clear = ap (list_any is_line_end) parts ∙ clear_number c (codes " @" ++ decimal p) (clear_last p);
      head_is = ap (λ b. cond (not b) heads.Quiet heads.Look) (ap has_position parts ∙ at_over c (codes " @" ++ decimal p));
      told = λ b. number_told _ p (ap (λ t. number_in (behind 64 t)) parts ∙ ap number_in (behind_at c (codes " @" ++ decimal p)) ∙ number_last p (look_fits p b.0));
      named = λ b. refl;
    }

pub policy_line : (c p : ℕ) → ReadsLine (said_text (said.Policy c p)) [] heads.Look (p ∷ []) []
policy_line c p =
    let parts : (decimal c ++ codes " @") ++ decimal p ≡ decimal c ++ (codes " @" ++ decimal p) = grouped (decimal c) (codes " @") (decimal p) in
    record {
      line = codes "POLICY " ++ decimal c ++ codes " @" ++ decimal p;
      is = refl;
      clear = ap (list_any is_line_end) parts ∙ clear_number c (codes " @" ++ decimal p) (clear_last p);
      head_is = ap (λ b. cond (not b) heads.Quiet heads.Look) (ap has_position parts ∙ at_over c (codes " @" ++ decimal p));
      told = λ b. number_told _ p (ap (λ t. number_in (behind 64 t)) parts ∙ ap number_in (behind_at c (codes " @" ++ decimal p)) ∙ number_last p (look_fits p b.0));
      named = λ b. refl;
    }

pub finish_line : (c k s : ℕ) → ReadsLine (said_text (said.Finish c k s)) [] heads.Event (before k ∷ []) (k ∷ [])
finish_line c k s =
    let tail = codes " @" ++ (decimal k ++ (codes " snap " ++ decimal s)) in
    let parts : (((decimal c ++ codes " @") ++ decimal k) ++ codes " snap ") ++ decimal s ≡ decimal c ++ tail = grouped_five (decimal c) (codes " @") (decimal k) (codes " snap ") (decimal s) in
    let line = codes "FINISH " ++ decimal c ++ codes " @" ++ decimal k ++ codes " snap " ++ decimal s in
    let position_is : k < 2 ^ 64 → position_in line ≡ k = λ small. ap (λ t. number_in (behind 64 t)) parts ∙ ap number_in (behind_at c tail) ∙ number_then k 32 (codes "snap " ++ decimal s) small refl in
    record {
      line = line;
      is = refl;
      clear = ap (list_any is_line_end) parts ∙ clear_number c tail (clear_number k (codes " snap " ++ decimal s) (clear_last s));
      head_is = ap (λ b. cond (not b) heads.Quiet heads.Event) (ap has_position parts ∙ at_over c tail);
      told = λ b. event_told (position_in line) k (position_is (event_fits k b.0));
      named = λ b. number_told (position_in line) k (position_is b.0);
    }

pub tick_line : (z : ℤ) (due : ℕ) → ReadsLine (said_text (said.Tick z due)) [] heads.Quiet [] []
tick_line z due =
    let tail = codes " due " ++ decimal due in
    let parts : (signed_decimal z ++ codes " due ") ++ decimal due ≡ signed_decimal z ++ tail = grouped (signed_decimal z) (codes " due ") (decimal due) in
    record {
      line = codes "TICK " ++ signed_decimal z ++ codes " due " ++ decimal due;
      is = refl;
      clear = ap (list_any is_line_end) parts ∙ clear_signed z tail (clear_last due);
      head_is =
          ap (λ b. cond (not b) heads.Quiet heads.Look)
          (ap has_position parts ∙ any_over is_at (signed_decimal z) tail (signed_lacks 64 z at_mark refl) ∙ decimal_lacks 64 due at_mark);
      told = λ b. refl;
      named = λ b. refl;
    }

-- ---- refreshes

start_clear : (min lo : ℤ) (text : List ℕ) → Lacks is_line_end text → Lacks is_line_end (start_text min lo ++ text)
start_clear min lo text clear = by (int_eq lo min)
  where
    by : (is_min : Bool) → Lacks is_line_end (cond is_min (codes "min") (signed_decimal lo) ++ text)
    by true = clear
    by false = clear_signed lo text clear

span_clear : (min : ℤ) (span : Span) → Lacks is_line_end (span_text min span)
span_clear min span =
    let hi = codes ".." ++ signed_decimal span.hi in
    let clear : Lacks is_line_end (signed_decimal span.hi) = signed_lacks 10 span.hi end_mark refl in
    ap (list_any is_line_end) (append_assoc (start_text min span.lo) (codes "..") (signed_decimal span.hi)) ∙ start_clear min span.lo hi clear

pub cut_line : (c : ℕ) (span : Span) (min : ℤ) → ReadsLine (said_text (said.Cut c span min)) [] heads.Cut (before c ∷ []) (c ∷ [])
cut_line c span min =
    let tail = codes " " ++ span_text min span in
    let line = (codes "CUT " ++ decimal c) ++ tail in
    let cut_is : c < 2 ^ 64 → cut_in line ≡ c = λ small. number_then c 32 (span_text min span) small refl in
    record {
      line = line;
      is = sym (append_assoc (codes "CUT " ++ decimal c) tail (codes "\n"));
      clear = clear_number c tail (span_clear min span);
      head_is = refl;
      told = λ b. event_told (cut_in line) c (cut_is (event_fits c b.0));
      named = λ b. number_told (cut_in line) c (cut_is b.0);
    }

-- the numbers of the line of a refresh
record RefreshReads (line : List ℕ) (c k s : ℕ) : Type 0 where
  cut : c < 2 ^ 64 → cut_in line ≡ c
  position : k < 2 ^ 64 → position_in line ≡ k
  snapshot : s < 2 ^ 64 → snapshot_in line ≡ s

refresh_told : (line : List ℕ) (c k s : ℕ) → RefreshReads line c k s → LooksFit (before c ∷ s ∷ before k ∷ []) → told_in heads.Refresh line ≡ before c ∷ s ∷ before k ∷ []
refresh_told line c k s r b =
    let cut : cut_in line - 1 ≡ before c = ap (λ n. n - 1) (r.cut (event_fits c b.0)) ∙ less_one c in
    let snapshot : snapshot_in line ≡ s = r.snapshot (look_fits s b.1.0) in
    let position : position_in line - 1 ≡ before k = ap (λ n. n - 1) (r.position (event_fits k b.1.1.0)) ∙ less_one k in
    λ i. cut i ∷ snapshot i ∷ position i ∷ []

refresh_named : (line : List ℕ) (c k s : ℕ) → RefreshReads line c k s → NumbersFit (c ∷ k ∷ []) → named_in heads.Refresh line ≡ c ∷ k ∷ []
refresh_named line c k s r b =
    let cut : cut_in line ≡ c = r.cut b.0 in
    let position : position_in line ≡ k = r.position b.1.0 in
    λ i. cut i ∷ position i ∷ []

pub refresh_line : (c k s : ℕ) (span : Span) (min : ℤ) → ReadsLine (said_text (said.Refresh c k s span min)) [] heads.Refresh (before c ∷ s ∷ before k ∷ []) (c ∷ k ∷ [])
refresh_line c k s span min =
    let tail = codes " " ++ span_text min span in
    let after_k = codes " snap " ++ (decimal s ++ tail) in
    let after_c = codes " @" ++ (decimal k ++ after_k) in
    let line = refresh_head c k s ++ tail in
    let parts : ((((decimal c ++ codes " @") ++ decimal k) ++ codes " snap ") ++ decimal s) ++ tail ≡ decimal c ++ after_c = simp append_assoc in
    let behind_position : behind 64 line ≡ decimal k ++ after_k = ap (behind 64) parts ∙ behind_at c after_c in
    let reads : RefreshReads line c k s = record {
      cut = λ small. ap number_in parts ∙ number_then c 32 (64 ∷ (decimal k ++ after_k)) small refl;
      position = λ small. ap number_in behind_position ∙ number_then k 32 (codes "snap " ++ (decimal s ++ tail)) small refl;
      snapshot = λ small.
          ap (λ t. number_in (behind 32 (behind 32 t))) behind_position ∙ ap (λ t. number_in (behind 32 t)) (behind_blank k after_k) ∙ number_then s 32 (span_text min span) small refl;
    } in
    record {
      line = line;
      is = sym (append_assoc (refresh_head c k s) tail (codes "\n"));
      clear = ap (list_any is_line_end) parts ∙ clear_number c after_c (clear_number k after_k (clear_number s tail (span_clear min span)));
      head_is = refl;
      told = refresh_told line c k s reads;
      named = refresh_named line c k s reads;
    }

-- ---- refusals

-- the end of the text of a refusal
record TailReads (t : Tail) (r : Refusal) : Type 0 where
  clear : Lacks is_line_end (tail_text t r)
  at : has_position (tail_text t r) ≡ tail_has_position t
  number : tail_has_position t ≡ true → r.pos < 2 ^ 64 → position_in (tail_text t r) ≡ r.pos

finish_tail : (pos mark : ℕ) → pos < 2 ^ 64 → number_in (decimal pos ++ finish_text mark) ≡ pos
finish_tail pos zero small = ap number_in (append-nil (decimal pos)) ∙ number_last pos small
finish_tail pos (suc mark) small = number_then pos 32 (codes "finished " ++ decimal (suc mark)) small refl

finish_clear : (mark : ℕ) → Lacks is_line_end (finish_text mark)
finish_clear zero = refl
finish_clear (suc mark) = clear_last (suc mark)

tail_reads : (t : Tail) (r : Refusal) → TailReads t r
tail_reads Bare r = record { clear = refl; at = refl; number = λ e small. absurd cc }
tail_reads Place r = record { clear = clear_last r.mark; at = decimal_lacks 64 r.mark at_mark; number = λ e small. absurd cc }
tail_reads Position r = record { clear = clear_last r.pos; at = refl; number = λ e small. number_last r.pos small }
tail_reads Finish r = record { clear = clear_number r.pos (finish_text r.mark) (finish_clear r.mark); at = refl; number = λ e small. finish_tail r.pos r.mark small }
tail_reads Count r =
    let parts : (decimal r.pos ++ codes " count ") ++ decimal r.mark ≡ decimal r.pos ++ (codes " count " ++ decimal r.mark) = grouped (decimal r.pos) (codes " count ") (decimal r.mark) in
    record {
      clear = ap (list_any is_line_end) parts ∙ clear_number r.pos (codes " count " ++ decimal r.mark) (clear_last r.mark);
      at = refl;
      number = λ e small. ap number_in parts ∙ number_then r.pos 32 (codes "count " ++ decimal r.mark) small refl;
    }
tail_reads Bytes r =
    let parts : (decimal r.pos ++ codes " bytes ") ++ decimal r.mark ≡ decimal r.pos ++ (codes " bytes " ++ decimal r.mark) = grouped (decimal r.pos) (codes " bytes ") (decimal r.mark) in
    record {
      clear = ap (list_any is_line_end) parts ∙ clear_number r.pos (codes " bytes " ++ decimal r.mark) (clear_last r.mark);
      at = refl;
      number = λ e small. ap number_in parts ∙ number_then r.pos 32 (codes "bytes " ++ decimal r.mark) small refl;
    }

-- the text before that end
abbrev fault_start : ℕ → List ℕ
fault_start code = (number_text code ++ codes " ") ++ (entry_of code).word

number_lacks : (byte code : ℕ) → IsMark byte → Lacks (λ b. b == byte) (decimal (code / 10) ++ decimal (code % 10))
number_lacks byte code mark = lacks_append (λ b. b == byte) (decimal (code / 10)) (decimal (code % 10)) (decimal_lacks byte (code / 10) mark) (decimal_lacks byte (code % 10) mark)

start_lacks_end : (code : ℕ) → Lacks is_line_end (fault_start code)
start_lacks_end code =
    lacks_append is_line_end (number_text code ++ codes " ") (entry_of code).word (lacks_append is_line_end (number_text code) (codes " ") (number_lacks 10 code end_mark) refl)
    (word_lacks is_line_end refl refl code)

start_lacks_at : (code : ℕ) → Lacks is_at (fault_start code)
start_lacks_at code =
    lacks_append is_at (number_text code ++ codes " ") (entry_of code).word (lacks_append is_at (number_text code) (codes " ") (number_lacks 64 code at_mark) refl)
    (word_lacks is_at refl refl code)

-- the head of a refusal, with its position or without
abbrev pub fault_head : Bool → Head
fault_head shown = cond (not shown) heads.Quiet heads.Fault

abbrev pub fault_looks : Bool → ℕ → List ℕ
fault_looks shown pos = cond shown (pos ∷ pos ∷ []) []

fault_told : (shown : Bool) (line : List ℕ) (pos : ℕ) → (shown ≡ true → pos < 2 ^ 64 → position_in line ≡ pos) → LooksFit (fault_looks shown pos) → told_in (fault_head shown) line ≡ fault_looks shown pos
fault_told true line pos is b = ap (λ k. k ∷ k ∷ []) (is refl (look_fits pos b.0))
fault_told false line pos is b = refl

fault_named : (shown : Bool) (line : List ℕ) → named_in (fault_head shown) line ≡ []
fault_named true line = refl
fault_named false line = refl

pub fault_line : (r : Refusal) → ReadsLine (said_text (said.Fault r)) [] (fault_head (shows_position r.code)) (fault_looks (shows_position r.code) r.pos) []
fault_line r =
    let t = (entry_of r.code).tail in
    let tail = tail_text t r in
    let start = fault_start r.code in
    let reads = tail_reads t r in
    let line = codes "FAULT " ++ number_text r.code ++ codes " " ++ (entry_of r.code).word ++ tail in
    let position_is : position_in line ≡ position_in tail = ap number_in (behind_over 64 start tail (start_lacks_at r.code)) in
    record {
      line = line;
      is = refl;
      clear = lacks_append is_line_end start tail (start_lacks_end r.code) reads.clear;
      head_is = ap fault_head (any_over is_at start tail (start_lacks_at r.code) ∙ reads.at);
      told = fault_told (shows_position r.code) line r.pos (λ e small. position_is ∙ reads.number e small);
      named = λ b. fault_named (shows_position r.code) line;
    }

-- ---- answers

pub answer_line : (a : Answer) (p : ℕ) (queue : Option ℕ) (min : ℤ) → ReadsLine (said_text (said.Answered a p queue min)) (rows_text a.rows ++ stale_text min a.stale) heads.Answer (p ∷ []) []
answer_line a p queue min = record {
  line = answer_place p queue ++ counts;
  is = split_off (answer_place p queue) counts (codes "\n") (rows_text a.rows) (stale_text min a.stale);
  clear = ap (list_any is_line_end) (append_assoc (decimal p) (queue_text queue) counts) ∙ clear_number p (queue_text queue ++ counts) (queue_clear queue);
  head_is = refl;
  told = λ b. number_told (number_in ((decimal p ++ queue_text queue) ++ counts)) p (place_number queue (look_fits p b.0));
  named = λ b. refl;
}
  where
    rows : List ℕ
    rows = decimal (length a.rows)

    stale : List ℕ
    stale = decimal (length a.stale)

    counts : List ℕ
    counts = codes " rows " ++ rows ++ codes " stale " ++ stale

    counts_clear : Lacks is_line_end counts
    counts_clear =
        ap (list_any is_line_end) (grouped rows (codes " stale ") stale) ∙ clear_number (length a.rows) (codes " stale " ++ stale) (clear_last (length a.stale))

    queue_clear : (q : Option ℕ) → Lacks is_line_end (queue_text q ++ counts)
    queue_clear None = counts_clear
    queue_clear (Some n) = clear_number n counts counts_clear

    place_number : (q : Option ℕ) → p < 2 ^ 64 → number_in ((decimal p ++ queue_text q) ++ counts) ≡ p
    place_number None small = ap (λ t. number_in (t ++ counts)) (append-nil (decimal p)) ∙ number_then p 32 _ small refl
    place_number (Some n) small = ap number_in (append_assoc (decimal p) (codes " queue " ++ decimal n) counts) ∙ number_then p 32 _ small refl

    split_off : (b c d e f : List ℕ) → ((b ++ (c ++ d)) ++ e) ++ f ≡ (b ++ c) ++ (d ++ (e ++ f))
    split_off b c d e f = simp append_assoc
