-- The grammar of statements on policies: which tokens are which statement.
use Rattle.std.specs.Prelude.{ℕ, ℤ, pos, List}
use Rattle.stmt_tokens.specs.Words.{is_spelled}
use Rattle.stmt_reader.specs.Grammar.{Rule, means, ◌>>=◌, ◌>>◌, either, optional, token_rule, keyword, mark, quoted_name, number, value, semicolon}
use Rattle.stmt_tokens.specs.declared.keywords.Keyword.TheVariants as kw
use Rattle.stmt_tokens.specs.declared.tokens.Mark.TheVariants as marks
use Rattle.policy_jobs.specs.Words.{tick_word, refresh_word, retention_word, start_word, end_word, interval_word, after_word}
use Rattle.policy_jobs.specs.declared.statements.PolicyStmt.{PolicyStmt}
use Rattle.policy_jobs.specs.declared.statements.PolicyStmt.TheVariants as stmt
use Rattle.policy_jobs.specs.declared.jobs.Job.TheVariants as jobs

-- a word in any case
abbrev pub word_rule : List ℕ → Rule (Unit {0})
word_rule w = token_rule (is_spelled w)

-- SELECT add_continuous_aggregate_policy ( 'n' , start_offset => bound , end_offset => bound , schedule_interval =>
-- num )
abbrev pub add_refresh : Rule PolicyStmt
add_refresh = do
  keyword kw.Select
  word_rule refresh_word
  mark marks.Open
  n ← quoted_name
  mark marks.Comma
  word_rule start_word
  mark marks.Arrow
  from ← value
  mark marks.Comma
  word_rule end_word
  mark marks.Arrow
  to ← value
  mark marks.Comma
  word_rule interval_word
  mark marks.Arrow
  every ← number
  mark marks.Close
  means (stmt.Add (jobs.Refresh n from to) every)

-- [, schedule_interval => num], and 1 without it
abbrev pub interval : Rule ℤ
interval = optional (mark marks.Comma >> word_rule interval_word >> mark marks.Arrow >> number) (pos 1)

-- SELECT add_retention_policy ( 'n' , drop_after => num [, schedule_interval => num] )
abbrev pub add_retention : Rule PolicyStmt
add_retention = do
  keyword kw.Select
  word_rule retention_word
  mark marks.Open
  n ← quoted_name
  mark marks.Comma
  word_rule after_word
  mark marks.Arrow
  after ← number
  every ← interval
  mark marks.Close
  means (stmt.Add (jobs.Drop n after) every)

-- TICK num
abbrev pub tick : Rule PolicyStmt
tick = word_rule tick_word >> number >>= λ n. means (stmt.Tick n)

-- one of the three forms
unfoldable pub form : Rule PolicyStmt
form = either add_refresh (either add_retention tick)

-- a statement may end with one ;
unfoldable pub statement : Rule PolicyStmt
statement = do
  s ← form
  semicolon
  means s
