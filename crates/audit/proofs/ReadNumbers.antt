-- The texts of explained replies name the events that their results name, each once.
use Rattle.std.proofs.Common.{◌≡◌, ◌≤◌, ◌<◌, ◌^◌, ℕ, zero, suc, ◌+◌, true, false, List, [], ◌∷◌, ◌++◌, map, length, refl, sym, ap, ◌∙◌, subst, arith}
use Rattle.std.specs.Prelude.{IsPermutation, All, ◌-◌, sum_by}
use Rattle.std.specs.List.{AllByRecursion, flat_map, list_all, list_any}
use Rattle.std.proofs.lemmas.Bool.{and_parts}
use Rattle.std.proofs.lemmas.Option.{none-some}
use Rattle.std.proofs.lemmas.List.Sums.{sum_by-cons}
use Rattle.std.proofs.lemmas.List.Sorted.{All-permutation, IsPermutation-sym, sum_by-IsPermutation}
use Rattle.ts_model.specs.Allowed.{all_allowed}
use Rattle.ts_model.specs.History.{History, position}
use Rattle.ts_model.specs.Limits.{last_position}
use Rattle.turn_lock.specs.Positions.{positions_after, positions_between}
use Rattle.ts_sessions.specs.Made.{made_in}
use Rattle.ts_sessions.specs.Script.{text_of}
use Rattle.audit_looks.specs.Replies.{is_line_end, numbers_in}
use Rattle.audit_looks.proofs.ByteLaws.{all_parts}
use Rattle.audit_looks.proofs.TextLaws.{texts_name}
use Rattle.engine_core.proofs.TimelineLaws.{allowed_fits}
use Rattle.transcript.specs.Laws.{ReadsAsOne}
use Rattle.transcript.specs.Reading.{IsReading}
use Rattle.transcript.specs.Shape.{is_sound, is_sound_talk}
use Rattle.transcript.specs.declared.transcripts.Exchange.{Exchange}
use Rattle.transcript.specs.declared.transcripts.SessionTranscript.{SessionTranscript}
use Rattle.transcript.specs.declared.transcripts.Transcript.{Transcript}
use Rattle.audit.specs.Answers.{Answers, Judges, MayBeJudged, ReadsAs}
use Rattle.audit.specs.Explained.{AreExplained, Came, Explained, named_by, named_by_all, texts_of}
use Rattle.audit.specs.Laws.{IsRejected, MoreOrFewerAreRejected, OthersAreRejected, YesNamesEachOnce}
use Rattle.audit.specs.Texts.{NamesEachOnce, numbers_of, numbers_read}
use Rattle.audit.specs.declared.answers.Audit.{Audit}
use Rattle.audit.specs.declared.answers.Audit.TheVariants.{Yes, No, Lost, Policy, Early, BadText, NoMemory}
use Rattle.audit.proofs.NameLaws.{names_of_one_line}

-- ---- texts

-- events have numbers of 64 bits
abbrev Fit : List ℕ → Type 0
Fit numbers = AllByRecursion (λ n. n < 2 ^ 64) numbers

-- the numbers of one session
session_read : (name : List ℕ) → list_any is_line_end name ≡ false → (es : List Exchange) (answers : List Came) → texts_of name answers ≡ map (λ e. e.reply) es → Fit (named_by answers) → flat_map (λ e. numbers_in name e.reply) es ≡ named_by answers
session_read name one_line [] [] same fit = refl
session_read name one_line [] (a ∷ answers) same fit = absurd cc
session_read name one_line (e ∷ es) [] same fit = absurd cc
session_read name one_line (e ∷ es) (a ∷ answers) same fit =
    let head : text_of name a.end.said ≡ e.reply = cc in
    let tail : texts_of name answers ≡ map (λ f. f.reply) es = cc in
    let parts = all_parts (λ n. n < 2 ^ 64) (made_in a.end.said) (named_by answers) fit in
    let here : numbers_in name e.reply ≡ made_in a.end.said = ap (numbers_in name) (sym head) ∙ texts_name name a.end.said one_line parts.0 in
    let rest = session_read name one_line es answers tail parts.1 in
    λ i. here i ++ rest i

-- the numbers of all sessions
all_read : (all : History) (start : ℕ) (talks : List SessionTranscript) (answers : List (List Came)) → list_all is_sound_talk talks ≡ true → AreExplained all start talks answers → Fit (named_by_all answers) → flat_map numbers_of talks ≡ named_by_all answers
all_read all start [] [] sound x fit = refl
all_read all start [] (a ∷ answers) sound x fit = absurd x
all_read all start (talk ∷ talks) [] sound x fit = absurd x
all_read all start (talk ∷ talks) (a ∷ answers) sound x fit =
    let each = and_parts (is_sound_talk talk) (list_all is_sound_talk talks) sound in
    let parts = all_parts (λ n. n < 2 ^ 64) (named_by a) (named_by_all answers) fit in
    let here : numbers_of talk ≡ named_by a = session_read talk.name (names_of_one_line talk each.0) talk.replies a x.0.replies parts.0 in
    let rest = all_read all start talks answers each.1 x.1 parts.1 in
    λ i. here i ++ rest i

-- ---- numbers

by_items : (P : ℕ → Type 0) (ns : List ℕ) → All P ns → AllByRecursion P ns
by_items P [] a = tt
by_items P (n ∷ ns) a = (a zero n (omega arith), by_items P ns (λ k d within. a (suc k) d (omega (arith, within))))

positions_low : (p n end : ℕ) → p + n ≤ end → All (λ q. q ≤ end) (positions_after p n)
positions_low p zero end le k d within = absurd (omega (arith, within))
positions_low p (suc n) end le zero d within = omega (arith, le)
positions_low p (suc n) end le (suc k) d within = positions_low (p + 1) n end (omega (arith, le)) k d (omega (arith, within))

-- numbers that are positions up to the last possible one have 64 bits
positions_fit : (numbers : List ℕ) (start end : ℕ) → start ≤ end → end ≤ last_position → IsPermutation numbers (positions_between start end) → Fit numbers
positions_fit numbers start end order few moved =
    let positions : List ℕ = positions_between start end in
    let low : All (λ q. q ≤ end) positions = positions_low start (end - start) end (omega (arith, order)) in
    let named : All (λ q. q ≤ end) numbers = All-permutation (λ q. q ≤ end) positions numbers (IsPermutation-sym numbers positions moved) low in
    by_items (λ n. n < 2 ^ 64) numbers (λ k d within. let le = named k d within in omega (arith, le, few))

-- the number of elements
ones : (ns : List ℕ) → sum_by (λ n. 1) ns ≡ length ns
ones [] = refl
ones (n ∷ ns) = let more = ones ns in let first = sum_by-cons (λ (k : ℕ). 1) n ns in omega (arith, more, first)

length_after : (p n : ℕ) → length (positions_after p n) ≡ n
length_after p zero = refl
length_after p (suc n) = ap suc (length_after (p + 1) n)

count_of : (numbers : List ℕ) (start end : ℕ) → start ≤ end → IsPermutation numbers (positions_between start end) → start + length numbers ≡ end
count_of numbers start end order moved =
    let positions : List ℕ = positions_between start end in
    let same : length positions ≡ length numbers = sym (ones positions) ∙ sum_by-IsPermutation (λ n. 1) numbers positions moved ∙ ones numbers in
    let is : length positions ≡ end - start = length_after start (end - start) in
    omega (arith, order, same, is)

-- ---- transcripts

names_each_once : (all : History) → all_allowed all ≡ true → (t : Transcript) → is_sound t ≡ true → Explained all t → NamesEachOnce all t
names_each_once all allowed t sound x =
    let fit = positions_fit (named_by_all x.answers) t.start (position all) x.within.1 (allowed_fits all allowed) x.numbers in
    let read : numbers_read t ≡ named_by_all x.answers = all_read all t.start t.sessions x.answers (and_parts (list_all is_sound_talk t.sessions) _ sound).0 x.explained fit in
    subst (λ ns. IsPermutation ns (positions_between t.start (position all))) (sym read) x.numbers

-- the answer for a text is the answer for its transcript
judged : (all : History) (text : List ℕ) (t : Transcript) (a : Audit) → ReadsAsOne → IsReading text t → ReadsAs all text a → Judges all t a
judged all text t a once reading r = subst (λ u. Judges all u a) (once text r.transcript t r.reading reading) r.judges

pub yes_names : ReadsAsOne → YesNamesEachOnce
yes_names once all text t n allowed reading x = names_each_once all allowed t reading.sound (judged all text t (Yes n) once reading x).holds.0

-- if P follows from YES and is false, the answer is No or Lost
rejected : (all : History) (text : List ℕ) (t : Transcript) (P : Type 0) (a : Audit) → ReadsAsOne → IsReading text t → MayBeJudged all t (P → ⊥) → ((n : ℕ) → Answers all text (Yes n) → P) → Answers all text a → IsRejected a
rejected all text t P BadText once reading may follows x = absurd (x t reading)
rejected all text t P (Early p) once reading may follows x = absurd ((judged all text t (Early p) once reading x).0 may.within)
rejected all text t P (Policy i j) once reading may follows x = absurd (none-some _ (sym may.no_policy ∙ (judged all text t (Policy i j) once reading x).1))
rejected all text t P (No i j) once reading may follows x = tt
rejected all text t P (Lost p) once reading may follows x = tt
rejected all text t P (Yes n) once reading may follows x = absurd (may.holds (follows n x))
rejected all text t P NoMemory once reading may follows x = tt

pub others_rejected : ReadsAsOne → OthersAreRejected
others_rejected once all text t a allowed reading may x =
    rejected all text t (NamesEachOnce all t) a once reading may (λ n y. yes_names once all text t n allowed reading y) x

pub counts_rejected : ReadsAsOne → MoreOrFewerAreRejected
counts_rejected once all text t a allowed reading may x =
    rejected all text t (t.start + length (numbers_read t) ≡ position all) a once reading may
    (λ n y. count_of (numbers_read t) t.start (position all) may.within.1 (yes_names once all text t n allowed reading y)) x
