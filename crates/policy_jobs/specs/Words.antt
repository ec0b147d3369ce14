-- The words of statements on policies that no other statement has.
use Rattle.std.specs.Prelude.{Bool, ◌&&◌, ◌||◌, List, ℕ, codes}
use Rattle.stmt_tokens.specs.Scan.{Seen}
use Rattle.stmt_tokens.specs.Words.{is_keyword, is_spelled}
use Rattle.stmt_tokens.specs.Streams.{Stream, heads, tail}
use Rattle.stmt_tokens.specs.declared.keywords.Keyword.TheVariants as kw

abbrev pub tick_word : List ℕ
tick_word = codes "tick"

abbrev pub refresh_word : List ℕ
refresh_word = codes "add_continuous_aggregate_policy"

abbrev pub retention_word : List ℕ
retention_word = codes "add_retention_policy"

abbrev pub start_word : List ℕ
start_word = codes "start_offset"

abbrev pub end_word : List ℕ
end_word = codes "end_offset"

abbrev pub interval_word : List ℕ
interval_word = codes "schedule_interval"

abbrev pub after_word : List ℕ
after_word = codes "drop_after"

-- the name of one of the calls that add a policy
abbrev pub adds : Seen → Bool
adds t = is_spelled refresh_word t || is_spelled retention_word t

-- whether tokens begin as a statement on policies: with TICK, or with SELECT and one of the two names
unfoldable pub begins : Stream → Bool
begins s = heads (is_spelled tick_word) s || (heads (is_keyword kw.Select) s && heads adds (tail s))
