-- What is read from the text of a reply: the read positions that it prints, and the events that it names.
use Rattle.std.proofs.Common.{◌≡◌, ℕ, suc, ◌+◌, ◌^◌, ◌<◌, Bool, true, false, cond, List, [], ◌∷◌, ◌++◌, length, drop, refl, sym, ap, ◌∙◌, subst, arith}
use Rattle.std.specs.Prelude.{codes}
use Rattle.std.specs.List.{flat_map, slice_split}
use Rattle.std.proofs.lemmas.Bool.{true≢false}
use Rattle.std.proofs.lemmas.List.{append_assoc, append-nil, drop_all, drop_at, length-append}
use Rattle.result_text.specs.declared.replies.Said.{Said}
use Rattle.result_text.specs.declared.replies.Said.TheVariants as said
use Rattle.result_text.specs.Answers.{rows_text, stale_text}
use Rattle.result_text.specs.Replies.{said_text}
use Rattle.ts_sessions.specs.Looks.{looks_told, shows_position, told_before}
use Rattle.ts_sessions.specs.Made.{made_by, made_in}
use Rattle.ts_sessions.specs.Script.{text_of}
use Rattle.audit_looks.specs.declared.lines.Head.{Head}
use Rattle.audit_looks.specs.declared.lines.Head.TheVariants as heads
use Rattle.audit_looks.specs.Laws.{TextsTellLooks, TextsTellNumbers}
use Rattle.audit_looks.specs.Lines.{ahead, behind, head_of, named_in, told_in}
use Rattle.audit_looks.specs.Replies.{is_last, is_line_end, looks_in, looks_in_lines, numbers_in, numbers_named, numbers_past}
use Rattle.audit_looks.proofs.ByteLaws.{Lacks, all_parts, first_line, lacks_append, split_first}
use Rattle.audit_looks.proofs.HeadLaws.{LooksFit, NumbersFit, ReadsLine, answer_line, begin_line, begin_read_line, commit_line, cut_line, empty_line, end_line, fault_head, fault_line, fault_looks, finish_line, hypertable_line, mode_line, nothing_line, policy_line, queued_line, refresh_line, rollback_line, snap_line, table_line, tick_line, view_line}
use Rattle.audit_looks.proofs.QuietLaws.{answer_quiet}

-- ---- one line

-- how the text of a line is read: what its first line prints and names, and that no later line names more
record Reads (s : Said) : Type 0 where
  rest : List ℕ
  head : Head
  looks : List ℕ
  numbers : List ℕ
  reads : ReadsLine (said_text s) rest head looks numbers
  told : (more : List ℕ) → looks ++ cond (is_last head) [] more ≡ told_before s more
  ends : is_last head ≡ false → rest ≡ []
  named : numbers ≡ made_by s
  quiet : (skip : ℕ) (text : List ℕ) → numbers_past skip (rest ++ text) ≡ numbers_past skip text

-- if lines follow
plain : (s : Said) (head : Head) (looks numbers : List ℕ) → ReadsLine (said_text s) [] head looks numbers → is_last head ≡ false → ((more : List ℕ) → looks ++ more ≡ told_before s more) → numbers ≡ made_by s → Reads s
plain s head looks numbers r follows told named = record {
  rest = [];
  head = head;
  looks = looks;
  numbers = numbers;
  reads = r;
  told = λ more. ap (λ b. looks ++ cond b [] more) follows ∙ told more;
  ends = λ e. refl;
  named = named;
  quiet = λ skip text. refl;
}

fault_follows : (shown : Bool) → is_last (fault_head shown) ≡ false
fault_follows true = refl
fault_follows false = refl

fault_before : (shown : Bool) (pos : ℕ) (more : List ℕ) → fault_looks shown pos ++ more ≡ cond shown (pos ∷ pos ∷ more) more
fault_before true pos more = refl
fault_before false pos more = refl

reads_of : (s : Said) → Reads s
reads_of (said.Table k) = plain (said.Table k) _ _ _ (table_line k) refl (λ more. refl) refl
reads_of (said.Hypertable k) = plain (said.Hypertable k) _ _ _ (hypertable_line k) refl (λ more. refl) refl
reads_of (said.View k) = plain (said.View k) _ _ _ (view_line k) refl (λ more. refl) refl
reads_of (said.Mode k) = plain (said.Mode k) _ _ _ (mode_line k) refl (λ more. refl) refl
reads_of (said.Commit done) = plain (said.Commit done) _ _ _ (commit_line done) refl (λ more. refl) refl
reads_of said.Queued = plain said.Queued _ _ _ queued_line refl (λ more. refl) refl
reads_of (said.Refresh c k s span min) = plain (said.Refresh c k s span min) _ _ _ (refresh_line c k s span min) refl (λ more. refl) refl
reads_of (said.Nothing p) = plain (said.Nothing p) _ _ _ (nothing_line p) refl (λ more. refl) refl
reads_of (said.Cut c span min) = plain (said.Cut c span min) _ _ _ (cut_line c span min) refl (λ more. refl) refl
reads_of (said.Snap c p) = plain (said.Snap c p) _ _ _ (snap_line c p) refl (λ more. refl) refl
reads_of (said.Finish c k s) = plain (said.Finish c k s) _ _ _ (finish_line c k s) refl (λ more. refl) refl
reads_of said.Begin = plain said.Begin _ _ _ begin_line refl (λ more. refl) refl
reads_of (said.BeginRead p) = plain (said.BeginRead p) _ _ _ (begin_read_line p) refl (λ more. refl) refl
reads_of said.CommitEmpty = plain said.CommitEmpty _ _ _ empty_line refl (λ more. refl) refl
reads_of said.Rollback = plain said.Rollback _ _ _ rollback_line refl (λ more. refl) refl
reads_of said.End = plain said.End _ _ _ end_line refl (λ more. refl) refl
reads_of (said.Answered a p queue min) = record {
  rest = rows_text a.rows ++ stale_text min a.stale;
  head = heads.Answer;
  looks = p ∷ [];
  numbers = [];
  reads = answer_line a p queue min;
  told = λ more. refl;
  ends = λ e. absurd (true≢false e);
  named = refl;
  quiet = λ skip text. answer_quiet skip a.rows min a.stale text;
}
reads_of (said.Policy n p) = plain (said.Policy n p) _ _ _ (policy_line n p) refl (λ more. refl) refl
reads_of (said.Tick time due) = plain (said.Tick time due) _ _ _ (tick_line time due) refl (λ more. refl) refl
reads_of (said.Fault r) =
    let shown = shows_position r.code in
    plain (said.Fault r) _ _ _ (fault_line r) (fault_follows shown) (fault_before shown r.pos) refl

-- ---- all lines

module _ (name : List ℕ) (clear : Lacks is_line_end name) where
  abbrev skip : ℕ
  skip = length name + 2

  -- the bytes before the text of a line
  abbrev start : List ℕ
  start = name ++ codes ": "

  skips : (line : List ℕ) → drop skip (start ++ line) ≡ line
  skips line = drop_at start line skip (length-append name (codes ": "))

  regroups : (line rest more : List ℕ) → (start ++ (line ++ 10 ∷ rest)) ++ more ≡ (start ++ line) ++ 10 ∷ (rest ++ more)
  regroups line rest more = ap (λ t. t ++ more) (sym (append_assoc start line (10 ∷ rest))) ∙ append_assoc (start ++ line) (10 ∷ rest) more

  -- the first line, and then the later ones
  split_line : (s : Said) (lines : List Said) (r : Reads s) → slice_split is_line_end (text_of name (s ∷ lines)) ≡ (start ++ r.reads.line) ∷ slice_split is_line_end (r.rest ++ text_of name lines)
  split_line s lines r =
      let line : List ℕ = r.reads.line in
      let more = text_of name lines in
      let line_clear : Lacks is_line_end (start ++ line) = lacks_append is_line_end start line (lacks_append is_line_end name (codes ": ") clear refl) r.reads.clear in
      ap (λ t. slice_split is_line_end ((start ++ t) ++ more)) r.reads.is
      ∙ ap (slice_split is_line_end) (regroups line r.rest more)
      ∙ first_line is_line_end (start ++ line) 10 (r.rest ++ more) line_clear refl

  -- the read positions after a line
  looks_behind : (head : Head) (rest : List ℕ) (lines : List Said) → (is_last head ≡ false → rest ≡ []) → LooksFit (cond (is_last head) [] (looks_told lines))
      → (LooksFit (looks_told lines) → looks_in name (text_of name lines) ≡ looks_told lines)
      → cond (is_last head) [] (looks_in_lines skip (slice_split is_line_end (rest ++ text_of name lines))) ≡ cond (is_last head) [] (looks_told lines)
  looks_behind head rest lines ends small tell = by (is_last head) refl small
    where
      others : List ℕ
      others = looks_in_lines skip (slice_split is_line_end (rest ++ text_of name lines))

      by : (last : Bool) → is_last head ≡ last → LooksFit (cond last [] (looks_told lines)) → cond last [] others ≡ cond last [] (looks_told lines)
      by true e b = refl
      by false e b = ap (λ t. looks_in_lines skip (slice_split is_line_end (t ++ text_of name lines))) (ends e) ∙ tell b

  pub tells : (lines : List Said) → LooksFit (looks_told lines) → looks_in name (text_of name lines) ≡ looks_told lines
  tells [] b = ap (λ line. told_in (head_of line) line ++ cond (is_last (head_of line)) [] []) (drop_all skip [] (omega arith))
  tells (s ∷ lines) b =
      let r : Reads s = reads_of s in
      let line : List ℕ = r.reads.line in
      let told = looks_told lines in
      let parts = all_parts (λ p. suc p < 2 ^ 64) r.looks (cond (is_last r.head) [] told) (subst LooksFit (sym (r.told told)) b) in
      let others : List ℕ = looks_in_lines skip (slice_split is_line_end (r.rest ++ text_of name lines)) in
      ap (looks_in_lines skip) (split_line s lines r)
      ∙ ap (λ l. told_in (head_of l) l ++ cond (is_last (head_of l)) [] others) (skips line)
      ∙ ap (λ h. told_in h line ++ cond (is_last h) [] others) r.reads.head_is
      ∙ ap (λ ps. ps ++ cond (is_last r.head) [] others) (r.reads.told parts.0)
      ∙ ap (λ ps. r.looks ++ ps) (looks_behind r.head r.rest lines r.ends parts.1 (tells lines))
      ∙ r.told told

  pub names : (lines : List Said) → NumbersFit (made_in lines) → numbers_in name (text_of name lines) ≡ made_in lines
  names [] b = ap (λ line. numbers_named line ++ []) (drop_all skip [] (omega arith))
  names (s ∷ lines) b =
      let r : Reads s = reads_of s in
      let line : List ℕ = r.reads.line in
      let parts = all_parts (λ n. n < 2 ^ 64) (made_by s) (made_in lines) b in
      let others : List ℕ = numbers_past skip (r.rest ++ text_of name lines) in
      ap (flat_map (λ l. numbers_named (drop skip l))) (split_line s lines r)
      ∙ ap (λ l. numbers_named l ++ others) (skips line)
      ∙ ap (λ h. named_in h line ++ others) r.reads.head_is
      ∙ ap (λ ns. ns ++ others) (r.reads.named (subst NumbersFit (sym r.named) parts.0) ∙ r.named)
      ∙ ap (λ ns. made_by s ++ ns) (r.quiet skip (text_of name lines) ∙ names lines parts.1)

pub texts_tell : TextsTellLooks
texts_tell name lines clear small = tells name clear lines small

pub texts_name : TextsTellNumbers
texts_name name lines clear small = names name clear lines small

-- ---- lines in order

-- the read positions of a line, and then those of others
abbrev with_line : ℕ → List ℕ → List ℕ → List ℕ
with_line skip line others = told_in (head_of (drop skip line)) (drop skip line) ++ cond (is_last (head_of (drop skip line))) [] others

no_lines : (skip : ℕ) → [] ≡ looks_in_lines skip ([] ∷ [])
no_lines skip = sym (ap (λ line. told_in (head_of line) line ++ cond (is_last (head_of line)) [] []) (drop_all skip [] (omega arith)))

pub lines_step : (skip : ℕ) (text : List ℕ) → looks_in_lines skip (slice_split is_line_end text) ≡ with_line skip (ahead 10 text) (looks_in_lines skip (slice_split is_line_end (behind 10 text)))
lines_step skip text = split_first 10 text (looks_in_lines skip) (with_line skip) (λ l ls. refl) (no_lines skip)

-- the read positions before, and those of one more line
pub goes_on : (skip : ℕ) (text told all : List ℕ) (said : List ℕ) → said ≡ drop skip (ahead 10 text) → told ++ looks_in_lines skip (slice_split is_line_end text) ≡ all → is_last (head_of said) ≡ false → (told ++ told_in (head_of said) said) ++ looks_in_lines skip (slice_split is_line_end (behind 10 text)) ≡ all
goes_on skip text told all said is so_far more =
    let others = looks_in_lines skip (slice_split is_line_end (behind 10 text)) in
    let with_said : List ℕ → List ℕ = λ l. told_in (head_of l) l ++ cond (is_last (head_of l)) [] others in
    append_assoc told (told_in (head_of said) said) others
    ∙ ap (λ b. told ++ (told_in (head_of said) said ++ cond b [] others)) (sym more)
    ∙ ap (λ l. told ++ with_said l) is
    ∙ ap (λ ps. told ++ ps) (sym (lines_step skip text))
    ∙ so_far

-- the same for the last line
pub ends_there : (skip : ℕ) (text told all : List ℕ) (said : List ℕ) → said ≡ drop skip (ahead 10 text) → told ++ looks_in_lines skip (slice_split is_line_end text) ≡ all → is_last (head_of said) ≡ true → told ++ told_in (head_of said) said ≡ all
ends_there skip text told all said is so_far last =
    let others = looks_in_lines skip (slice_split is_line_end (behind 10 text)) in
    let with_said : List ℕ → List ℕ = λ l. told_in (head_of l) l ++ cond (is_last (head_of l)) [] others in
    ap (λ ps. told ++ ps) (sym (append-nil (told_in (head_of said) said)))
    ∙ ap (λ b. told ++ (told_in (head_of said) said ++ cond b [] others)) (sym last)
    ∙ ap (λ l. told ++ with_said l) is
    ∙ ap (λ ps. told ++ ps) (sym (lines_step skip text))
    ∙ so_far

-- nothing is left
pub all_told : (skip : ℕ) (text told all : List ℕ) → length text ≡ 0 → told ++ looks_in_lines skip (slice_split is_line_end text) ≡ all → told ≡ all
all_told skip [] told all empty so_far = sym (append-nil told) ∙ ap (λ ps. told ++ ps) (no_lines skip) ∙ so_far
all_told skip (b ∷ text) told all empty so_far = absurd (omega (arith, empty))
