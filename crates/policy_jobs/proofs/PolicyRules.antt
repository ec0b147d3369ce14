-- The reading of a statement on policies reads its rule of the grammar.
use Rattle.std.proofs.Common.{◌≡◌, ℕ, pos, Bool, false, List, refl, sym, subst, ap, ◌∙◌, inl, inr}
use Rattle.stmt_tokens.specs.Tokens.{Token, word}
use Rattle.stmt_tokens.specs.Scan.{Seen}
use Rattle.stmt_tokens.specs.Words.{is_keyword, is_spelled, is_mark}
use Rattle.stmt_tokens.specs.Streams.{onto, heads}
use Rattle.stmt_reader.specs.Reading as base
use Rattle.stmt_reader.specs.Grammar as grammar
use Rattle.stmt_reader.specs.Grammar.{Rule, means, sequence, either}
use Rattle.stmt_tokens.specs.declared.keywords.Keyword.TheVariants as kw
use Rattle.stmt_tokens.specs.declared.tokens.Mark.TheVariants as marks
use Rattle.stmt_reader.proofs.Placed.{splits, onto-append}
use Rattle.stmt_reader.proofs.Rules.{Reads, none, any, heads-any, Avoids, alike-refl, reads_alike, reads_gives, reads_bind, reads_then}
use Rattle.stmt_reader.proofs.RuleTokens.{behind, reads_wanted, reads_keyword, reads_mark, reads_number, takes_mark, takes_word, same_text, avoids_means, avoids_keyword, avoids_spelled, avoids_mark, avoids_sequence, avoids_either}
use Rattle.stmt_reader.proofs.PartRules.{reads_last, avoids_end, reads_quoted, reads_value}
use Rattle.policy_jobs.specs.Words.{tick_word, refresh_word, retention_word, start_word, end_word, interval_word, after_word}
use Rattle.policy_jobs.specs.Reading as read
use Rattle.policy_jobs.specs.Grammar as rule
use Rattle.policy_jobs.specs.declared.statements.PolicyStmt.{PolicyStmt}
use Rattle.policy_jobs.specs.declared.statements.PolicyStmt.TheVariants as stmt
use Rattle.policy_jobs.specs.declared.jobs.Job.TheVariants as jobs

reads_spelled : (n : ℕ) (w : List ℕ) → Reads n (read.word_parser w) (rule.word_rule w) none
reads_spelled n w = reads_wanted n (is_spelled w) (word w) refl (same_text w)

-- ---- TICK

abbrev tick_rule : Rule PolicyStmt
tick_rule = sequence grammar.number (λ n. means (stmt.Tick n))

reads_tick : (n : ℕ) → Reads n read.tick_rest tick_rule none
unfolding read.tick_rest
reads_tick n = reads_last n stmt.Tick (reads_number n)

-- ---- refresh policies

abbrev refresh_rule : Rule PolicyStmt
refresh_rule =
    behind (is_mark marks.Open) (sequence grammar.quoted_name (λ v. behind (is_mark marks.Comma)
    (behind (is_spelled start_word) (behind (is_mark marks.Arrow) (sequence grammar.value (λ from. behind (is_mark marks.Comma)
    (behind (is_spelled end_word) (behind (is_mark marks.Arrow) (sequence grammar.value (λ to. behind (is_mark marks.Comma)
    (behind (is_spelled interval_word) (behind (is_mark marks.Arrow) (sequence grammar.number (λ every. behind (is_mark marks.Close)
    (means (stmt.Add (jobs.Refresh v from to) every))))))))))))))))

reads_refresh : (n : ℕ) → Reads n read.refresh_rest refresh_rule none
unfolding read.refresh_rest
reads_refresh n =
    reads_then n (reads_mark n marks.Open) (λ _. reads_then n (reads_quoted n) (λ v. reads_then n (reads_mark n marks.Comma) (λ _.
    reads_then n (reads_spelled n start_word) (λ _. reads_then n (reads_mark n marks.Arrow) (λ _.
    reads_bind n (reads_value n)
    (λ from. reads_then n (reads_mark n marks.Comma) (λ _.
    reads_then n (reads_spelled n end_word) (λ _. reads_then n (reads_mark n marks.Arrow) (λ _.
    reads_bind n (reads_value n)
    (λ to. reads_then n (reads_mark n marks.Comma) (λ _.
    reads_then n (reads_spelled n interval_word) (λ _. reads_then n (reads_mark n marks.Arrow) (λ _. reads_then n (reads_number n) (λ every.
    reads_then n (reads_mark n marks.Close) (λ _. reads_gives n (stmt.Add (jobs.Refresh v from to) every)))))))
    (λ to. avoids_sequence _ _ _ _ (avoids_mark _ marks.Comma _ refl))))))
    (λ from. avoids_sequence _ _ _ _ (avoids_mark _ marks.Comma _ refl)))))))

-- ---- retention policies

reads_interval_rest : (n : ℕ) → Reads n read.interval_rest (behind (is_spelled interval_word) (behind (is_mark marks.Arrow) grammar.number)) none
unfolding read.interval_rest
reads_interval_rest n = reads_then n (reads_spelled n interval_word) (λ _. reads_then n (reads_mark n marks.Arrow) (λ _. reads_number n))

reads_interval : (n : ℕ) → Reads n read.interval rule.interval (any (is_mark marks.Comma) (any none none))
unfolding read.interval
reads_interval n = takes_mark n marks.Comma reads_interval_rest (reads_gives n (pos 1)) (avoids_means _ _ _)

abbrev retention_rule : Rule PolicyStmt
retention_rule =
    behind (is_mark marks.Open) (sequence grammar.quoted_name (λ t. behind (is_mark marks.Comma)
    (behind (is_spelled after_word) (behind (is_mark marks.Arrow) (sequence grammar.number (λ after. sequence rule.interval (λ every. behind (is_mark marks.Close)
    (means (stmt.Add (jobs.Drop t after) every)))))))))

reads_retention : (n : ℕ) → Reads n read.retention_rest retention_rule none
unfolding read.retention_rest
reads_retention n =
    reads_then n (reads_mark n marks.Open) (λ _. reads_then n (reads_quoted n) (λ t. reads_then n (reads_mark n marks.Comma) (λ _.
    reads_then n (reads_spelled n after_word) (λ _. reads_then n (reads_mark n marks.Arrow) (λ _. reads_then n (reads_number n) (λ after.
    reads_bind n (reads_interval n)
    (λ every. reads_then n (reads_mark n marks.Close) (λ _. reads_gives n (stmt.Add (jobs.Drop t after) every)))
    (λ every. avoids_sequence _ _ _ _ (avoids_mark _ marks.Close _ refl))))))))

-- ---- the three forms

abbrev on_select : Seen → Bool
on_select = any (is_spelled refresh_word) (any none none)

abbrev select_rule : Rule PolicyStmt
select_rule = either (behind (is_spelled refresh_word) refresh_rule) (behind (is_spelled retention_word) retention_rule)

reads_select : (n : ℕ) → Reads n read.select_rest select_rule on_select
unfolding read.select_rest
reads_select n =
    takes_word n refresh_word reads_refresh
    (reads_then n (reads_spelled n retention_word) (λ _. reads_retention n))
    (avoids_sequence _ _ _ _ (avoids_spelled _ retention_word _ refl))

abbrev on_form : Seen → Bool
on_form = any (is_spelled tick_word) (any none on_select)

abbrev form_rule : Rule PolicyStmt
form_rule = either (behind (is_spelled tick_word) tick_rule) (behind (is_keyword kw.Select) select_rule)

reads_form_rule : (n : ℕ) → Reads n read.form form_rule on_form
unfolding read.form
reads_form_rule n =
    takes_word n tick_word reads_tick
    (reads_then n (reads_keyword n kw.Select) (λ _. reads_select n))
    (avoids_sequence _ _ _ _ (avoids_keyword _ kw.Select _ refl))

form_to : (ts : List Token) (a : PolicyStmt) → form_rule ts a → rule.form ts a
unfolding rule.form sequence either
form_to ts a (inl m) = inr (inr m)
form_to ts a (inr (us, vs, u, e, k, inl m)) = inl (us, vs, u, e, k, m)
form_to ts a (inr (us, vs, u, e, k, inr m)) = inr (inl (us, vs, u, e, k, m))

form_back : (ts : List Token) (a : PolicyStmt) → rule.form ts a → form_rule ts a
unfolding rule.form sequence either
form_back ts a (inl (us, vs, u, e, k, m)) = inr (us, vs, u, e, k, inl m)
form_back ts a (inr (inl (us, vs, u, e, k, m))) = inr (us, vs, u, e, k, inr m)
form_back ts a (inr (inr m)) = inl m

reads_form : (n : ℕ) → Reads n read.form rule.form on_form
reads_form n = reads_alike n read.form read.form form_rule rule.form on_form on_form (λ s. refl) (record { to = form_to; back = form_back }) (λ s h. h) (reads_form_rule n)

-- ---- with a semicolon

abbrev on_semicolon : Seen → Bool
on_semicolon = any (is_mark marks.Semicolon) (any none none)

reads_semicolon : (n : ℕ) → Reads n base.semicolon grammar.semicolon on_semicolon
unfolding base.semicolon
reads_semicolon n = takes_mark n marks.Semicolon (λ m. reads_gives m tt) (reads_gives n tt) (avoids_means _ _ _)

-- what may continue a statement
abbrev pub on_statement : Seen → Bool
on_statement = any on_form on_semicolon

-- a statement with its semicolon
abbrev pub whole : base.Parser PolicyStmt
whole = base.bind read.form (λ a. base.bind base.semicolon (λ _. base.gives a))

-- a semicolon or nothing, and then nothing, continues with no form
avoids_semicolon : (a : PolicyStmt) → Avoids on_form (sequence grammar.semicolon (λ _. means a)) on_statement
unfolding sequence
avoids_semicolon a ts b left (us, vs, u, e, l, m) free =
    let x = splits ts us vs e in
    let first : Avoids on_form grammar.semicolon on_form = avoids_either on_form _ _ on_form (avoids_sequence _ _ _ _ (avoids_mark on_form marks.Semicolon _ refl)) (avoids_end on_form tt) in
    let between = avoids_end on_form a x.back b left (subst (λ y. means a y b) (sym x.back-is) m) (heads-any on_form on_semicolon left free).0 in
    let k = first x.front u (onto x.back left) (subst (λ y. grammar.semicolon y u) (sym x.front-is) l) between in
    subst (λ y. heads on_form (onto y left) ≡ false) (sym x.both) (ap (heads on_form) (onto-append x.front x.back left) ∙ k)

pub reads_whole : (n : ℕ) → Reads n whole rule.statement on_statement
unfolding rule.statement
reads_whole n =
    reads_bind n (reads_form n)
    (λ a. reads_alike n (base.bind base.semicolon (λ _. base.gives a)) (base.bind base.semicolon (λ _. base.gives a)) (sequence grammar.semicolon (λ _. means a)) (sequence grammar.semicolon (λ _. means a)) on_semicolon on_statement
    (λ s. refl) (alike-refl _) (λ s e. (heads-any on_form on_semicolon s e).1) (reads_last n (λ _. a) (reads_semicolon n)))
    avoids_semicolon
