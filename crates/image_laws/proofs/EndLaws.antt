-- An allowed history ends at position 2 ^ 62.
use Rattle.std.proofs.Common.{◌≡◌, ℕ, ◌≤◌, ◌<◌, ◌^◌, true, false, ◌&&◌, ◌∙◌, ap, arith}
use Rattle.std.proofs.lemmas.Bool.{and_parts, and_right, cond-true, cond-false, leb-true, ltb-true, lt-ltb, le-ltb}
use Rattle.ts_model.specs.declared.events.Event.{Event}
use Rattle.ts_model.specs.Allowed.{allowed, all_allowed}
use Rattle.ts_model.specs.Calls.{makes, refuses, refusal}
use Rattle.ts_model.specs.Numbers.{history_full}
use Rattle.ts_model.specs.History.{History, start, resumed, ◌▸◌, position}
use Rattle.ts_model.specs.Limits.{last_position}
use Rattle.ts_model.specs.Sound.{sound}
use Rattle.ts_model.specs.Timely.{has_room, timely, timely_at}
use Rattle.ts_model.proofs.ValidLaws.{valid_is}
use Rattle.image_laws.specs.Ends.{HistoriesEnd, MadeUpToEnd}

full_at : (h : History) → position h ≡ 2 ^ 62 → has_room h ≡ false
full_at h is = le-ltb (position h) last_position (omega (arith, is))

-- an allowed event fits before the end of a history
room_of : (h : History) (e : Event) → allowed h e ≡ true → has_room h ≡ true
room_of h e is = (and_parts (timely_at h e) (has_room h) (and_parts (sound h e) (timely h e) is).1).1

bounded : (h : History) → all_allowed h ≡ true → position h ≤ 2 ^ 62
bounded start ok = omega arith
bounded (resumed i) ok = leb-true i.pos last_position (valid_is i ok).bounded
bounded (h ▸ e) ok =
    let below : position h < 2 ^ 62 = ltb-true (position h) last_position (room_of h e (and_parts (all_allowed h) (allowed h e) ok).1) in
    omega (arith, below)

up_to_end : {A : Type 0} → MadeUpToEnd A
up_to_end = record {
  below = λ h e a below. cond-true (has_room h) (makes e a) (refuses (refusal history_full h 0)) (lt-ltb (position h) last_position below);
  full = λ h e a is. cond-false (has_room h) (makes e a) (refuses (refusal history_full h 0)) (full_at h is);
}

pub histories_end : HistoriesEnd
histories_end = record {
  bounded = bounded;
  nothing_after = λ h e is. and_right (sound h e) (timely h e) (and_right (timely_at h e) (has_room h) (full_at h is));
  numbers = up_to_end;
  commits = up_to_end;
  cuts = up_to_end;
}
