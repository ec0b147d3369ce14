-- The texts of refusals: the number, the word, and the tail.
use Rattle.std.specs.Prelude.{ℕ, zero, suc, ◌/◌, ◌%◌, ◌==◌, List, [], ◌++◌, codes, decimal, if◌then◌else◌}
use Rattle.ts_model.specs.declared.outcomes.Refusal.{Refusal}
use Rattle.ts_model.specs.Numbers.{line_long, not_ascii, no_session, no_token, syntax, no_relation, name_taken, no_column, bad_time, bad_number, value_count, null_value, not_hypertable, bad_width, no_bucket, in_write_block, in_read_block, no_block, no_refresh, no_snapshot, too_many, not_aggregate, too_many_sessions, stopped, image_long, bad_policy, too_many_policies, bad_rollup, bad_unit, history_full}
use Rattle.result_text.specs.declared.refusals.Tail.{Tail}
use Rattle.result_text.specs.declared.refusals.Tail.TheVariants.{Bare, Place, Position, Finish, Count, Bytes}

-- the parts of a refusal's text that depend on its number
pub record Entry : Type 0 where
  pub word : List ℕ
  pub tail : Tail

abbrev pub entry_named : List ℕ → Tail → Entry
entry_named word tail = record { word = word; tail = tail }

-- the table of refusals; the word of any other number is `unnamed`
abbrev pub entry_of : ℕ → Entry
entry_of code =
    if code == line_long then entry_named (codes "line_long") Bare
    else if code == not_ascii then entry_named (codes "not_ascii") Bare
    else if code == no_session then entry_named (codes "no_session") Bare
    else if code == no_token then entry_named (codes "no_token") Place
    else if code == syntax then entry_named (codes "syntax") Place
    else if code == no_relation then entry_named (codes "no_relation") Position
    else if code == name_taken then entry_named (codes "name_taken") Position
    else if code == no_column then entry_named (codes "no_column") Position
    else if code == bad_time then entry_named (codes "bad_time") Position
    else if code == bad_number then entry_named (codes "bad_number") Place
    else if code == value_count then entry_named (codes "value_count") Position
    else if code == null_value then entry_named (codes "null_value") Position
    else if code == not_hypertable then entry_named (codes "not_hypertable") Position
    else if code == bad_width then entry_named (codes "bad_width") Position
    else if code == no_bucket then entry_named (codes "no_bucket") Position
    else if code == in_write_block then entry_named (codes "in_write_block") Bare
    else if code == in_read_block then entry_named (codes "in_read_block") Bare
    else if code == no_block then entry_named (codes "no_block") Bare
    else if code == no_refresh then entry_named (codes "no_refresh") Finish
    else if code == no_snapshot then entry_named (codes "no_snapshot") Position
    else if code == too_many then entry_named (codes "too_many") Count
    else if code == not_aggregate then entry_named (codes "not_aggregate") Position
    else if code == too_many_sessions then entry_named (codes "too_many_sessions") Bare
    else if code == stopped then entry_named (codes "stopped") Position
    else if code == image_long then entry_named (codes "image_long") Bytes
    else if code == bad_policy then entry_named (codes "bad_policy") Position
    else if code == too_many_policies then entry_named (codes "too_many_policies") Count
    else if code == bad_rollup then entry_named (codes "bad_rollup") Position
    else if code == bad_unit then entry_named (codes "bad_unit") Position
    else if code == history_full then entry_named (codes "history_full") Position
    else entry_named (codes "unnamed") Bare

-- the read position
abbrev pub position_text : ℕ → List ℕ
position_text pos = codes " @" ++ decimal pos

-- the event that finished the refresh, if it was finished
abbrev pub finish_text : ℕ → List ℕ
finish_text zero = []
finish_text (suc finish) = codes " finished " ++ decimal (suc finish)

abbrev pub tail_text : Tail → Refusal → List ℕ
tail_text Bare r = []
tail_text Place r = codes " at " ++ decimal r.mark
tail_text Position r = position_text r.pos
tail_text Finish r = position_text r.pos ++ finish_text r.mark
tail_text Count r = position_text r.pos ++ codes " count " ++ decimal r.mark
tail_text Bytes r = position_text r.pos ++ codes " bytes " ++ decimal r.mark

-- the number of a refusal, with two digits
abbrev pub number_text : ℕ → List ℕ
number_text code = codes "E" ++ decimal (code / 10) ++ decimal (code % 10)

-- a refusal as a line
abbrev pub refusal_text : Refusal → List ℕ
refusal_text r =
    codes "FAULT " ++ number_text r.code ++ codes " " ++ (entry_of r.code).word ++ tail_text (entry_of r.code).tail r
    ++ codes "\n"
