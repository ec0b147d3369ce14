-- The transcript of a run of an input is ASCII: the names and the lines of its sessions, and the texts of all replies.
use Rattle.std.proofs.Common.{◌≡◌, ℕ, zero, suc, ◌≤◌, ◌<◌, ◌⊎◌, inl, inr, ℤ, pos, negsuc, Bool, true, false, cond, ◌+◌, ◌&&◌, ◌==◌, List, [], ◌∷◌, ◌++◌, codes, length, map, Option, Some, None, refl, sym, ap, ◌∙◌, arith}
use Rattle.std.specs.Prelude.{◌/◌, ◌%◌, decimal, nat_le, nat_lt}
use Rattle.std.specs.Char.{is_ascii}
use Rattle.std.specs.Fmt.{digit_glyph, digits, digits_onto, signed_decimal}
use Rattle.std.specs.List.{AllByRecursion, list_all}
use Rattle.std.specs.Ordering.{int_eq}
use Rattle.std.proofs.lemmas.Bool.{agree_below_at, and_from, and_parts, cases_lt, lt-ltb, ne_eqb}
use Rattle.std.proofs.lemmas.Bool.Decides.{nat_tests}
use Rattle.std.proofs.lemmas.List.Folds.{list_all-append}
use Rattle.ts_bucket.specs.declared.spans.Span.{Span}
use Rattle.ts_num.specs.declared.values.Datum.{Datum}
use Rattle.ts_num.specs.declared.values.Datum.TheVariants.{Null, Int, Ratio}
use Rattle.ts_num.specs.Texts.{datum_text}
use Rattle.ts_model.specs.declared.outcomes.Refusal.{Refusal}
use Rattle.ts_model.specs.declared.queries.Answer.{Answer}
use Rattle.ts_model.specs.History.{History}
use Rattle.ts_model.specs.States.{stop_of}
use Rattle.stmt_tokens.specs.Lines.{begins_session, continues_session}
use Rattle.result_text.specs.declared.refusals.Tail.{Tail}
use Rattle.result_text.specs.declared.refusals.Tail.TheVariants as tails
use Rattle.result_text.specs.declared.replies.Said.{Said}
use Rattle.result_text.specs.declared.replies.Said.TheVariants as said
use Rattle.result_text.specs.Answers.{answer_counts, answer_head, answer_lines, answer_place, cells_text, more_cells, queue_text, rows_text, stale_text}
use Rattle.result_text.specs.Refusals.{entry_named, entry_of, finish_text, number_text, position_text, refusal_text, tail_text}
use Rattle.result_text.specs.Replies.{refresh_head, reply_text, said_text}
use Rattle.result_text.specs.Spans.{span_end, span_text, start_text}
use Rattle.ts_sessions.specs.Places.{Turn}
use Rattle.ts_sessions.specs.Procedures.{Procedure}
use Rattle.ts_sessions.specs.Script.{SessionLine, SessionScript, text_of}
use Rattle.par_laws.specs.Answered.{LineAnswer, ends_of}
use Rattle.par_laws.specs.Parallel.{AreReplies, SessionReplies, exchanges_of, lines_in, places_after}
use Rattle.par_laws.specs.Phases.{AllExplained}
use Rattle.par_lines.specs.Sorted.{at_once, final, only, setup, sorted_lines}
use Rattle.transcript.specs.Ascii.{is_ascii_exchange, is_ascii_talk, is_ascii_text}
use Rattle.transcript.specs.Shape.{is_session_name}
use Rattle.par_run.specs.Laws.{RunsAreAscii}
use Rattle.par_run.specs.Outputs.{talk_of}
use Rattle.par_run.proofs.NameLaws.{all_appended}
use Rattle.par_run.proofs.ScriptLaws.{IsOwn, IsSoundScript, sound_filter, sound_input}

-- ---- texts

abbrev IsAscii : List ℕ → Type 0
IsAscii text = is_ascii_text text ≡ true

both : (a b : List ℕ) → IsAscii a → IsAscii b → IsAscii (a ++ b)
both a b first second = list_all-append is_ascii a b ∙ and_from (list_all is_ascii a) (list_all is_ascii b) first second

-- pieces behind a text, in order
abbrev in_order : List ℕ → List (List ℕ) → List ℕ
in_order text [] = text
in_order text (piece ∷ pieces) = in_order (text ++ piece) pieces

pieces_ascii : (text : List ℕ) (pieces : List (List ℕ)) → IsAscii text → AllByRecursion IsAscii pieces → IsAscii (in_order text pieces)
pieces_ascii text [] first all = first
pieces_ascii text (piece ∷ pieces) first all = pieces_ascii (text ++ piece) pieces (both text piece first all.0) all.1

-- ---- numbers

glyph_ascii : (n : ℕ) → is_ascii (digit_glyph false (n % 10)) ≡ true
glyph_ascii n = elim (nat_lt (n % 10) 10) as (λ t. is_ascii (cond t (48 + n % 10) (87 + n % 10)) ≡ true) [
  | true ↦ lt-ltb (48 + n % 10) 128 (omega arith)
  | false ↦ lt-ltb (87 + n % 10) 128 (omega arith)
]

digits_ascii : (k n : ℕ) (behind : List ℕ) → IsAscii behind → IsAscii (digits_onto k 10 false n behind)
digits_ascii zero n behind all = all
digits_ascii (suc k) n behind all =
    let glyph : ℕ = digit_glyph false (n % 10) in
    let more : IsAscii (glyph ∷ behind) = and_from (is_ascii glyph) (list_all is_ascii behind) (glyph_ascii n) all in
    elim (n / 10 == 0) as (λ t. IsAscii (cond t (glyph ∷ behind) (digits_onto k 10 false (n / 10) (glyph ∷ behind)))) [
      | true ↦ more
      | false ↦ digits_ascii k (n / 10) (glyph ∷ behind) more
    ]

number_ascii : (n : ℕ) → IsAscii (decimal n)
unfolding digits
number_ascii n = digits_ascii 64 n [] refl

signed_ascii : (z : ℤ) → IsAscii (signed_decimal z)
signed_ascii (pos n) = number_ascii n
signed_ascii (negsuc n) = number_ascii (suc n)

-- ---- answers

datum_ascii : (d : Datum) → IsAscii (datum_text d)
datum_ascii Null = refl
datum_ascii (Int n) = signed_ascii n
datum_ascii (Ratio f) = pieces_ascii (signed_decimal f.num) (codes "/" ∷ decimal f.den ∷ []) (signed_ascii f.num) (refl, (number_ascii f.den, tt))

more_ascii : (row : List Datum) → IsAscii (more_cells row)
more_ascii [] = refl
more_ascii (d ∷ row) = pieces_ascii (codes "|") (datum_text d ∷ more_cells row ∷ []) refl (datum_ascii d, (more_ascii row, tt))

cells_ascii : (row : List Datum) → IsAscii (cells_text row)
cells_ascii [] = refl
cells_ascii (d ∷ row) = both (datum_text d) (more_cells row) (datum_ascii d) (more_ascii row)

rows_ascii : (rows : List (List Datum)) → IsAscii (rows_text rows)
rows_ascii [] = refl
rows_ascii (row ∷ rows) = pieces_ascii (cells_text row) (codes "\n" ∷ rows_text rows ∷ []) (cells_ascii row) (refl, (rows_ascii rows, tt))

start_ascii : (min lo : ℤ) → IsAscii (start_text min lo)
start_ascii min lo = elim (int_eq lo min) as (λ t. IsAscii (cond t (codes "min") (signed_decimal lo))) [ true ↦ refl | false ↦ signed_ascii lo ]

span_ascii : (min : ℤ) (span : Span) → IsAscii (span_text min span)
span_ascii min span = pieces_ascii (start_text min span.lo) (codes ".." ∷ signed_decimal span.hi ∷ []) (start_ascii min span.lo) (refl, (signed_ascii span.hi, tt))

end_ascii : (min : ℤ) (span : Span) → IsAscii (span_end min span)
end_ascii min span = pieces_ascii (codes " ") (span_text min span ∷ codes "\n" ∷ []) refl (span_ascii min span, (refl, tt))

stale_ascii : (min : ℤ) (spans : List Span) → IsAscii (stale_text min spans)
stale_ascii min [] = refl
stale_ascii min (span ∷ spans) = pieces_ascii (codes "stale ") (span_text min span ∷ codes "\n" ∷ stale_text min spans ∷ []) refl (span_ascii min span, (refl, (stale_ascii min spans, tt)))

queue_ascii : (queue : Option ℕ) → IsAscii (queue_text queue)
queue_ascii None = refl
queue_ascii (Some queue) = both (codes " queue ") (decimal queue) refl (number_ascii queue)

place_ascii : (p : ℕ) (queue : Option ℕ) → IsAscii (answer_place p queue)
place_ascii p queue = pieces_ascii (codes "ANSWER @") (decimal p ∷ queue_text queue ∷ []) refl (number_ascii p, (queue_ascii queue, tt))

counts_ascii : (rows stale : ℕ) → IsAscii (answer_counts rows stale)
counts_ascii rows stale = pieces_ascii (codes " rows ") (decimal rows ∷ codes " stale " ∷ decimal stale ∷ codes "\n" ∷ []) refl (number_ascii rows, (refl, (number_ascii stale, (refl, tt))))

answer_ascii : (a : Answer) (p : ℕ) (queue : Option ℕ) (min : ℤ) → IsAscii (answer_lines a p queue min)
answer_ascii a p queue min =
    let rows = length a.rows in
    let stale = length a.stale in
    pieces_ascii (answer_head p queue rows stale) (rows_text a.rows ∷ stale_text min a.stale ∷ [])
    (both (answer_place p queue) (answer_counts rows stale) (place_ascii p queue) (counts_ascii rows stale))
    (rows_ascii a.rows, (stale_ascii min a.stale, tt))

-- ---- refusals

position_ascii : (p : ℕ) → IsAscii (position_text p)
position_ascii p = both (codes " @") (decimal p) refl (number_ascii p)

finish_ascii : (finish : ℕ) → IsAscii (finish_text finish)
finish_ascii zero = refl
finish_ascii (suc finish) = both (codes " finished ") (decimal (suc finish)) refl (number_ascii (suc finish))

tail_ascii : (tail : Tail) (r : Refusal) → IsAscii (tail_text tail r)
tail_ascii tails.Bare r = refl
tail_ascii tails.Place r = both (codes " at ") (decimal r.mark) refl (number_ascii r.mark)
tail_ascii tails.Position r = position_ascii r.pos
tail_ascii tails.Finish r = both (position_text r.pos) (finish_text r.mark) (position_ascii r.pos) (finish_ascii r.mark)
tail_ascii tails.Count r = pieces_ascii (position_text r.pos) (codes " count " ∷ decimal r.mark ∷ []) (position_ascii r.pos) (refl, (number_ascii r.mark, tt))
tail_ascii tails.Bytes r = pieces_ascii (position_text r.pos) (codes " bytes " ∷ decimal r.mark ∷ []) (position_ascii r.pos) (refl, (number_ascii r.mark, tt))

-- a number that isn't in the table
unknown : (code : ℕ) → 30 < code → entry_of code ≡ entry_named (codes "unnamed") tails.Bare
unknown code above =
    let no : (k : ℕ) → k ≤ 30 → (code == k) ≡ false = λ k le. ne_eqb code k (λ e. absurd (omega (arith, e, le, above))) in
    simp (no 1 (omega arith), no 2 (omega arith), no 3 (omega arith), no 4 (omega arith), no 5 (omega arith), no 6 (omega arith), no 7 (omega arith), no 8 (omega arith), no 9 (omega arith), no 10 (omega arith), no 11 (omega arith), no 12 (omega arith), no 13 (omega arith), no 14 (omega arith), no 15 (omega arith), no 16 (omega arith), no 17 (omega arith), no 18 (omega arith), no 19 (omega arith), no 20 (omega arith), no 21 (omega arith), no 22 (omega arith), no 23 (omega arith), no 24 (omega arith), no 25 (omega arith), no 26 (omega arith), no 27 (omega arith), no 28 (omega arith), no 29 (omega arith), no 30 (omega arith)) refl

word_ascii : (code : ℕ) → IsAscii (entry_of code).word
word_ascii code = by (cases_lt code 31)
  where
    by : (code < 31) ⊎ (31 ≤ code) → IsAscii (entry_of code).word
    by (inl lt) = agree_below_at (λ k. is_ascii_text (entry_of k).word) (λ k. true) 31 code refl lt
    by (inr le) = ap (λ e. is_ascii_text e.word) (unknown code (omega (arith, le)))

code_ascii : (code : ℕ) → IsAscii (number_text code)
code_ascii code = pieces_ascii (codes "E") (decimal (code / 10) ∷ decimal (code % 10) ∷ []) refl (number_ascii (code / 10), (number_ascii (code % 10), tt))

refusal_ascii : (r : Refusal) → IsAscii (refusal_text r)
refusal_ascii r =
    let entry = entry_of r.code in
    pieces_ascii (codes "FAULT ") (number_text r.code ∷ codes " " ∷ entry.word ∷ tail_text entry.tail r ∷ codes "\n" ∷ []) refl
    (code_ascii r.code, (refl, (word_ascii r.code, (tail_ascii entry.tail r, (refl, tt)))))

-- ---- replies

-- a word and a number, as a line
line_ascii : (word : List ℕ) (n : ℕ) → IsAscii word → IsAscii (word ++ decimal n ++ codes "\n")
line_ascii word n first = pieces_ascii word (decimal n ∷ codes "\n" ∷ []) first (number_ascii n, (refl, tt))

-- and with one more word and number
line_of_two : (word : List ℕ) (m : ℕ) (next : List ℕ) (n : ℕ) → IsAscii word → IsAscii next → IsAscii (word ++ decimal m ++ next ++ decimal n ++ codes "\n")
line_of_two word m next n first second = pieces_ascii word (decimal m ∷ next ∷ decimal n ∷ codes "\n" ∷ []) first (number_ascii m, (second, (number_ascii n, (refl, tt))))

head_ascii : (cut p snap : ℕ) → IsAscii (refresh_head cut p snap)
head_ascii cut p snap = pieces_ascii (codes "REFRESH ") (decimal cut ∷ codes " @" ∷ decimal p ∷ codes " snap " ∷ decimal snap ∷ []) refl (number_ascii cut, (refl, (number_ascii p, (refl, (number_ascii snap, tt)))))

said_ascii : (s : Said) → IsAscii (said_text s)
said_ascii (said.Table p) = line_ascii (codes "TABLE @") p refl
said_ascii (said.Hypertable p) = line_ascii (codes "HYPERTABLE @") p refl
said_ascii (said.View p) = line_ascii (codes "VIEW @") p refl
said_ascii (said.Mode p) = line_ascii (codes "MODE @") p refl
said_ascii (said.Commit done) =
    pieces_ascii (codes "COMMIT @") (decimal done.pos ∷ codes " +" ∷ decimal done.inserted ∷ codes " -" ∷ decimal done.removed ∷ codes "\n" ∷ []) refl
    (number_ascii done.pos, (refl, (number_ascii done.inserted, (refl, (number_ascii done.removed, (refl, tt))))))
said_ascii said.Queued = refl
said_ascii (said.Refresh cut p snap span min) = both (refresh_head cut p snap) (span_end min span) (head_ascii cut p snap) (end_ascii min span)
said_ascii (said.Nothing p) = line_ascii (codes "NOTHING @") p refl
said_ascii (said.Cut cut span min) = both (codes "CUT " ++ decimal cut) (span_end min span) (both (codes "CUT ") (decimal cut) refl (number_ascii cut)) (end_ascii min span)
said_ascii (said.Snap cut snap) = line_of_two (codes "SNAP ") cut (codes " @") snap refl refl
said_ascii (said.Finish cut p snap) =
    pieces_ascii (codes "FINISH ") (decimal cut ∷ codes " @" ∷ decimal p ∷ codes " snap " ∷ decimal snap ∷ codes "\n" ∷ []) refl (number_ascii cut, (refl, (number_ascii p, (refl, (number_ascii snap, (refl, tt))))))
said_ascii said.Begin = refl
said_ascii (said.BeginRead p) = line_ascii (codes "BEGIN @") p refl
said_ascii said.CommitEmpty = refl
said_ascii said.Rollback = refl
said_ascii said.End = refl
said_ascii (said.Answered answer p queue min) = answer_ascii answer p queue min
said_ascii (said.Policy number p) = line_of_two (codes "POLICY ") number (codes " @") p refl refl
said_ascii (said.Tick time due) = pieces_ascii (codes "TICK ") (signed_decimal time ∷ codes " due " ∷ decimal due ∷ codes "\n" ∷ []) refl (signed_ascii time, (refl, (number_ascii due, (refl, tt))))
said_ascii (said.Fault refusal) = refusal_ascii refusal

-- the reply of a session whose name is
replies_ascii : (name : List ℕ) (lines : List Said) → IsAscii name → IsAscii (text_of name lines)
replies_ascii name [] named = refl
replies_ascii name (s ∷ lines) named =
    both (reply_text name s) (text_of name lines) (pieces_ascii name (codes ": " ∷ said_text s ∷ []) named (refl, (said_ascii s, tt))) (replies_ascii name lines named)

-- ---- sessions

begins_small : (b : ℕ) → begins_session b ≡ true → b < 128
begins_small b e = grind (arith, nat_tests)

continues_small : (b : ℕ) → continues_session b ≡ true → b < 128
continues_small b e = grind (arith, nat_tests)

continues_ascii : (bytes : List ℕ) → list_all continues_session bytes ≡ true → IsAscii bytes
continues_ascii [] e = refl
continues_ascii (b ∷ bytes) e =
    let parts = and_parts (continues_session b) (list_all continues_session bytes) e in
    and_from (is_ascii b) (list_all is_ascii bytes) (lt-ltb b 128 (continues_small b parts.0)) (continues_ascii bytes parts.1)

name_ascii : (name : List ℕ) → is_session_name name ≡ true → IsAscii name
name_ascii [] e = refl
name_ascii (b ∷ bytes) e =
    let few = and_parts (begins_session b && list_all continues_session bytes) (nat_le (length bytes) 15) e in
    let parts = and_parts (begins_session b) (list_all continues_session bytes) few.0 in
    and_from (is_ascii b) (list_all is_ascii bytes) (lt-ltb b 128 (begins_small b parts.0)) (continues_ascii bytes parts.1)

exchanges_ascii : {P : Type 0} (name : List ℕ) (lines : List SessionLine) (turns : List (Turn P)) → IsAscii name → AllByRecursion (IsOwn name) lines → list_all is_ascii_exchange (exchanges_of name lines turns) ≡ true
exchanges_ascii name [] turns named own = refl
exchanges_ascii name (line ∷ lines) [] named own = refl
exchanges_ascii name (line ∷ lines) (turn ∷ turns) named own = λ i. (own.0.ascii i && replies_ascii name turn.said named i) && exchanges_ascii name lines turns named own.1 i

talk_ascii : {P : Type 0} (session : SessionScript) (replies : SessionReplies) (turns : List (Turn P)) → IsSoundScript session → AreReplies session replies turns → is_ascii_talk (talk_of replies) ≡ true
talk_ascii session replies turns sound are =
    let named = name_ascii session.name sound.named in
    (λ i. is_ascii_text (are.name i) && list_all is_ascii_exchange (are.exchanges i))
    ∙ (λ i. named i && exchanges_ascii session.name session.lines turns named sound.lines i)

-- ---- those of a phase

module _ {P : Type 0} (reply : P → List ℕ → ℕ → Procedure (Turn P)) (all : History) (stop : Option ℕ) (from to : ℕ) (p : P) where
  talks_ascii : (sessions : List SessionScript) (replies : List SessionReplies) (answers : List (List (LineAnswer (Turn P)))) → AllByRecursion IsSoundScript sessions → AllExplained lines_in AreReplies reply places_after all stop from to p sessions replies answers
      → AllByRecursion (λ r. is_ascii_talk (talk_of r) ≡ true) replies
  talks_ascii [] [] [] sound e = tt
  talks_ascii [] [] (a ∷ answers) sound e = absurd e
  talks_ascii [] (r ∷ replies) answers sound e = absurd e
  talks_ascii (s ∷ sessions) [] answers sound e = absurd e
  talks_ascii (s ∷ sessions) (r ∷ replies) [] sound e = absurd e
  talks_ascii (s ∷ sessions) (r ∷ replies) (a ∷ answers) sound e = (talk_ascii s r (ends_of a) sound.0 e.0.replied, talks_ascii sessions replies answers sound.1 e.1)

-- ---- all sessions

all_ascii : (replies : List SessionReplies) → AllByRecursion (λ r. is_ascii_talk (talk_of r) ≡ true) replies → list_all is_ascii_talk (map talk_of replies) ≡ true
all_ascii [] all = refl
all_ascii (r ∷ replies) all = λ i. all.0 i && all_ascii replies all.1 i

pub runs_ascii : {P : Type 0} → RunsAreAscii P
runs_ascii reply p opening input new out reads start ran =
    let scripts = (sorted_lines input).sessions in
    let r = ran.ran in
    let each = sound_input input in
    ap (list_all is_ascii_talk) ran.says.sessions
    ∙ all_ascii (ran.before ++ ran.between ++ ran.after)
    (all_appended (λ x. is_ascii_talk (talk_of x) ≡ true) (ran.before ++ ran.between) ran.after
    (all_appended (λ x. is_ascii_talk (talk_of x) ≡ true) ran.before ran.between
    (talks_ascii reply new.history (stop_of new) _ _ p (only setup scripts) ran.before r.setup_ran.phase.answers (sound_filter _ scripts each) r.setup_ran.phase.explained)
    (talks_ascii reply new.history (stop_of new) _ _ p (at_once scripts) ran.between r.others_ran.phase.answers (sound_filter _ scripts each) r.others_ran.phase.explained))
    (talks_ascii reply new.history (stop_of new) _ _ p (only final scripts) ran.after r.final_ran.phase.answers (sound_filter _ scripts each) r.final_ran.phase.explained))
