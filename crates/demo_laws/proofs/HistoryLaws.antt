-- The contents of a demonstration's histories: the roster, and the rows that were inserted.
use Rattle.std.proofs.Common.{◌≡◌, ℕ, zero, suc, ◌+◌, ◌*◌, ◌<◌, Bool, List, [], ◌∷◌, ◌++◌, refl, ap, ◌∙◌, arith}
use Rattle.std.specs.List.{count_by}
use Rattle.std.proofs.lemmas.Bool.{cond-true, lt-ltb}
use Rattle.ts_schema.specs.declared.rows.Row.{Row}
use Rattle.ts_model.specs.declared.events.Event.{Event}
use Rattle.ts_model.specs.declared.events.Event.TheVariants.{Commit}
use Rattle.ts_model.specs.declared.events.Op.TheVariants.{Insert}
use Rattle.ts_model.specs.Calls.{makes, act_of_event, refuses, refusal}
use Rattle.ts_model.specs.Numbers.{history_full}
use Rattle.ts_model.specs.History.{History, ◌▸◌, position}
use Rattle.ts_model.specs.Limits.{last_position}
use Rattle.ts_model.specs.Reads.{rows_inserted}
use Rattle.ts_model.specs.Roster.{roster}
use Rattle.ts_model.specs.Timely.{has_room}
use Rattle.demo_laws.specs.Acts.{demo_roster}
use Rattle.demo_laws.specs.Histories.{after_refresh, after_parts, after_view, history_after_rounds}
use Rattle.ts_schema.proofs.Cases.{count-append}

-- one more round
pub rounds_next : (demo round : ℕ) → history_after_rounds demo (suc round) ≡ after_refresh round (after_parts demo round (history_after_rounds demo round))
unfolding history_after_rounds
rounds_next demo round = refl

-- before the first round there are only the definitions
pub no_round : (demo : ℕ) → history_after_rounds demo 0 ≡ after_view
unfolding history_after_rounds
no_round demo = refl

-- the roster stays that of the definitions
pub roster_of_rounds : (demo round : ℕ) → roster (history_after_rounds demo round) ≡ demo_roster
unfolding history_after_rounds
roster_of_rounds demo zero = refl
roster_of_rounds demo (suc round) = roster_of_rounds demo round

-- the definitions append three events, and each round appends seven
pub position_of_rounds : (demo round : ℕ) → position (history_after_rounds demo round) ≡ 3 + 7 * round
unfolding history_after_rounds
position_of_rounds demo zero = refl
position_of_rounds demo (suc round) = omega (arith, position_of_rounds demo round)

-- a call appends its event if the history isn't full
pub made_below_end : {A : Type 0} (h : History) (e : Event) (a : A) → position h < last_position → act_of_event h e a ≡ makes e a
made_below_end h e a below = cond-true (has_room h) (makes e a) (refuses (refusal history_full h 0)) (lt-ltb (position h) last_position below)

-- nothing was inserted before the first round
pub nothing_inserted : (demo : ℕ) → rows_inserted 0 (history_after_rounds demo 0) ≡ []
unfolding history_after_rounds
nothing_inserted demo = refl

-- a commit's rows are added to those that were inserted before
pub count-insert : (test : Row → Bool) (h : History) (new : List Row) → count_by test (rows_inserted 0 (h ▸ Commit (Insert 0 new ∷ []))) ≡ count_by test (rows_inserted 0 h) + count_by test new
count-insert test h new =
    count-append test (rows_inserted 0 h) (new ++ [])
    ∙ ap (λ c. count_by test (rows_inserted 0 h) + c) (count-append test new [] ∙ plus_none (count_by test new))
  where
    plus_none : (n : ℕ) → n + 0 ≡ n
    plus_none n = omega arith
