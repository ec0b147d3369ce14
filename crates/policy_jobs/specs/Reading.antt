-- Reading a statement on policies from left to right.
use Rattle.std.specs.Prelude.{ℕ, ℤ, pos, List}
use Rattle.stmt_tokens.specs.Words.{is_spelled, is_mark}
use Rattle.stmt_reader.specs.Reading.{Parser, gives, ◌>>=◌, ◌>>◌, takes, token_parser, keyword, mark, quoted_name, number, value, semicolon, end}
use Rattle.stmt_tokens.specs.declared.keywords.Keyword.TheVariants as kw
use Rattle.stmt_tokens.specs.declared.tokens.Mark.TheVariants as marks
use Rattle.policy_jobs.specs.Words.{tick_word, refresh_word, retention_word, start_word, end_word, interval_word, after_word}
use Rattle.policy_jobs.specs.declared.statements.PolicyStmt.{PolicyStmt}
use Rattle.policy_jobs.specs.declared.statements.PolicyStmt.TheVariants as stmt
use Rattle.policy_jobs.specs.declared.jobs.Job.TheVariants as jobs

-- a word in any case
abbrev pub word_parser : List ℕ → Parser (Unit {0})
word_parser w = token_parser (is_spelled w)

-- ( 'n' , start_offset => bound , end_offset => bound , schedule_interval => num )
unfoldable pub refresh_rest : Parser PolicyStmt
refresh_rest = do
  mark marks.Open
  n ← quoted_name
  mark marks.Comma
  word_parser start_word
  mark marks.Arrow
  from ← value
  mark marks.Comma
  word_parser end_word
  mark marks.Arrow
  to ← value
  mark marks.Comma
  word_parser interval_word
  mark marks.Arrow
  every ← number
  mark marks.Close
  gives (stmt.Add (jobs.Refresh n from to) every)

-- schedule_interval => num
unfoldable pub interval_rest : Parser ℤ
interval_rest = word_parser interval_word >> mark marks.Arrow >> number

-- [, schedule_interval => num]
unfoldable pub interval : Parser ℤ
interval = takes (is_mark marks.Comma) interval_rest (gives (pos 1))

-- ( 'n' , drop_after => num [, schedule_interval => num] )
unfoldable pub retention_rest : Parser PolicyStmt
retention_rest = do
  mark marks.Open
  n ← quoted_name
  mark marks.Comma
  word_parser after_word
  mark marks.Arrow
  after ← number
  every ← interval
  mark marks.Close
  gives (stmt.Add (jobs.Drop n after) every)

-- what follows SELECT
unfoldable pub select_rest : Parser PolicyStmt
select_rest = takes (is_spelled refresh_word) refresh_rest (word_parser retention_word >> retention_rest)

-- what follows TICK
unfoldable pub tick_rest : Parser PolicyStmt
tick_rest = number >>= λ n. gives (stmt.Tick n)

-- one of the three forms
unfoldable pub form : Parser PolicyStmt
form = takes (is_spelled tick_word) tick_rest (keyword kw.Select >> select_rest)

-- a whole statement, with one ; or none at its end
unfoldable pub statement : Parser PolicyStmt
statement = do
  s ← form
  _ ← semicolon
  _ ← end
  gives s
