-- Reading a text returns what the grammar says of it.
use Rattle.std.proofs.Common.{◌≡◌, ℕ, Bool, true, false, ◌&&◌, ◌||◌, List, [], ◌∷◌, ◌++◌, Result, Ok, Err, refl, sym, ap, subst, ◌∙◌, inl, inr}
use Rattle.std.proofs.lemmas.Bool.{both_ways}
use Rattle.stmt_tokens.specs.Tokens.{Token}
use Rattle.stmt_tokens.specs.Scan.{seen_token}
use Rattle.stmt_tokens.specs.Words.{is_keyword, is_spelled}
use Rattle.stmt_tokens.specs.Streams.{Placed, Stream, ends, onto, plain, stream}
use Rattle.stmt_reader.specs.Reading as base
use Rattle.stmt_reader.specs.Reading.{gives, go_on, bind}
use Rattle.stmt_reader.specs.Grammar.{sequence, either, token_rule}
use Rattle.stmt_reader.specs.Refusals.{IsSaid, First, Verdict}
use Rattle.stmt_reader.specs.declared.faults.Fault.{Fault}
use Rattle.stmt_tokens.specs.declared.keywords.Keyword.TheVariants as kw
use Rattle.stmt_reader.proofs.Verdict.{Rises, stream_rises, verdict_at}
use Rattle.policy_jobs.specs.Words.{tick_word, adds, begins}
use Rattle.policy_jobs.specs.Reading as read
use Rattle.policy_jobs.specs.Grammar.{statement, form}
use Rattle.policy_jobs.specs.Answers.{Answers, Judges, ReadsByTheGrammar}
use Rattle.policy_jobs.specs.declared.statements.PolicyStmt.{PolicyStmt}
use Rattle.policy_jobs.specs.declared.reading.PolicyRead.{PolicyRead}
use Rattle.policy_jobs.specs.declared.reading.PolicyRead.TheVariants as reads
use Rattle.policy_jobs.proofs.PolicyRules.{whole, reads_whole}

-- ---- the semicolon and the end may be read as two

apart : (r : Result (Unit {0} × Stream) Fault) (a : PolicyStmt) → go_on r (λ _. bind base.end (λ _. gives a)) ≡ go_on (go_on r (λ _. gives a)) (λ b. bind base.end (λ _. gives b))
apart (Ok x) a = refl
apart (Err f) a = refl

parts_apart : (r : Result (PolicyStmt × Stream) Fault) → go_on r (λ a. bind base.semicolon (λ _. bind base.end (λ _. gives a))) ≡ go_on (go_on r (λ a. bind base.semicolon (λ _. gives a))) (λ a. bind base.end (λ _. gives a))
unfolding bind
parts_apart (Ok x) = apart (base.semicolon x.1) x.0
parts_apart (Err f) = refl

statement_is : (s : Stream) → read.statement s ≡ go_on (whole s) (λ a. bind base.end (λ _. gives a))
unfolding read.statement bind
statement_is s = parts_apart (read.form s)

pub verdict : (s : Stream) → Rises s → Verdict statement s (read.statement s)
verdict s r = subst (λ x. Verdict statement s x) (sym (statement_is s)) (verdict_at whole statement reads_whole s (whole s) r refl)

pub reads_by_the_grammar : ReadsByTheGrammar
reads_by_the_grammar text skip le = verdict (stream text skip) (stream_rises text skip le)

-- ---- the beginning of a statement

or_right : (b : Bool) → (b || true) ≡ true
or_right true = refl
or_right false = refl

second_way : (a b c : Bool) → b ≡ true → c ≡ true → (a || (b && c)) ≡ true
second_way a b c e f = rw (e, f) (or_right a)

first_way : (a b : Bool) → a ≡ true → (a || b) ≡ true
first_way a b e = rw e refl

begins_tick : (ts : List Placed) (p : ℕ) (t : Token) (rest : List Token) → plain ts ≡ t ∷ rest → is_spelled tick_word (seen_token t) ≡ true → begins (onto ts (ends p)) ≡ true
unfolding begins
begins_tick [] p t rest e k = absurd cc
begins_tick (x ∷ xs) p t rest e k =
    let h : x.token ≡ t = cc in
    first_way _ _ (ap (λ y. is_spelled tick_word (seen_token y)) h ∙ k)

begins_select : (ts : List Placed) (p : ℕ) (t u : Token) (rest : List Token) → plain ts ≡ t ∷ u ∷ rest → is_keyword kw.Select (seen_token t) ≡ true → adds (seen_token u) ≡ true → begins (onto ts (ends p)) ≡ true
unfolding begins
begins_select [] p t u rest e k l = absurd cc
begins_select (x ∷ []) p t u rest e k l = absurd cc
begins_select (x ∷ y ∷ zs) p t u rest e k l =
    let h : x.token ≡ t = cc in
    let m : y.token ≡ u = cc in
    second_way _ _ _ (ap (λ z. is_keyword kw.Select (seen_token z)) h ∙ k) (ap (λ z. adds (seen_token z)) m ∙ l)

-- each form begins as a statement on policies
begins_form : (ts : List Placed) (p : ℕ) (us vs : List Token) (a : PolicyStmt) → plain ts ≡ us ++ vs → form us a → begins (onto ts (ends p)) ≡ true
unfolding form sequence either token_rule
begins_form ts p us vs a e (inl (xs, ys, u, e1, (t, t-is, k), (zs, ws, w, e2, (r, r-is, l), m))) =
    begins_select ts p t r (ws ++ vs) (e ∙ ap (λ y. y ++ vs) (e1 ∙ ap (λ y. y ++ ys) t-is ∙ ap (λ y. t ∷ y) (e2 ∙ ap (λ y. y ++ ws) r-is))) k (first_way _ _ l)
begins_form ts p us vs a e (inr (inl (xs, ys, u, e1, (t, t-is, k), (zs, ws, w, e2, (r, r-is, l), m)))) =
    begins_select ts p t r (ws ++ vs) (e ∙ ap (λ y. y ++ vs) (e1 ∙ ap (λ y. y ++ ys) t-is ∙ ap (λ y. t ∷ y) (e2 ∙ ap (λ y. y ++ ws) r-is))) k (rw l (or_right _))
begins_form ts p us vs a e (inr (inr (xs, ys, u, e1, (t, t-is, k), m))) =
    begins_tick ts p t (ys ++ vs) (e ∙ ap (λ y. y ++ vs) (e1 ∙ ap (λ y. y ++ ys) t-is)) k

begins_said : (s : Stream) (a : PolicyStmt) → IsSaid statement s a → begins s ≡ true
unfolding statement sequence
begins_said s a (ts, p, e, (us, vs, b, e1, l, m)) = subst (λ y. begins y ≡ true) (sym e) (begins_form ts p us vs b e1 l)

-- ---- the result

pub judged : (s : Stream) (answer : PolicyRead) (r : Result (PolicyStmt × Stream) Fault) → Answers answer (begins s) r → Verdict statement s r → Judges s answer
judged s (reads.Stmt a) (Ok x) e v = (subst (λ y. IsSaid statement s y) e.1 v.0, v.1)
judged s (reads.Stmt a) (Err f) e v = absurd e.1
judged s (reads.Fault f) (Ok x) (b, k) v = absurd cc
judged s (reads.Fault f) (Err g) (b, k) v = let h : g ≡ f = cc in (b, subst (λ y. First statement s y) h v)
judged s reads.Other r e v = (e, λ a said. both_ways (begins s) e (begins_said s a said))
judged s reads.NoMemory r e v = tt
