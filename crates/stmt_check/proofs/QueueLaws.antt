-- Operations that are queued and committed together.
use Rattle.std.proofs.Common.{◌∙◌, refl, ℕ, ◌+◌, ◌<◌, ◌≤◌, List, [], ◌∷◌, ◌++◌, length, arith}
use Rattle.std.specs.Prelude.{nat_lt}
use Rattle.std.proofs.lemmas.Bool.{and_parts, and_from, lt-ltb}
use Rattle.std.proofs.lemmas.List.Folds.{list_all-append}
use Rattle.std.proofs.lemmas.List.Sums.{sum_by_push}
use Rattle.ts_model.specs.declared.events.Event.TheVariants as events
use Rattle.ts_model.specs.declared.events.Op.{Op}
use Rattle.ts_model.specs.History.{History, Begins}
use Rattle.ts_model.specs.Roster.{roster}
use Rattle.ts_model.specs.Sound.{sound_at, op_fits}
use Rattle.ts_model.specs.Bytes.{op_bytes}
use Rattle.ts_model.proofs.AllowedLaws.{sound_stays}
use Rattle.stmt_check.specs.Sound.{IsOperation, IsQueue, MayCome, QueuesAreSound}

grown : (h : History) (bytes more : ℕ) (ops : List Op) (op : Op) → IsQueue h bytes ops → IsOperation h more op → IsQueue h (bytes + more) (ops ++ op ∷ [])
grown h bytes more ops op q o = record {
  fits = list_all-append (op_fits (roster h)) ops (op ∷ []) ∙ and_from _ _ q.fits (and_from _ _ o.fits refl);
  size = omega (arith, sum_by_push op_bytes ops op, q.size, o.size);
}

commits : (h : History) (bytes : ℕ) (ops : List Op) → IsQueue h bytes ops → 0 < length ops → bytes ≤ 67108864 → MayCome h (events.Commit ops)
commits h bytes ops q some few = record {
  is_sound = and_from _ _ (and_from _ _ (lt-ltb _ _ some) q.fits) (lt-ltb _ _ (omega (arith, q.size)));
  is_timely = refl;
}

-- an operation that fits still fits later
stays_of : (g h : History) (bytes : ℕ) (op : Op) (ops : List Op) → Begins g h → bytes ≤ 67108864 → IsQueue g bytes (op ∷ ops) → IsQueue h bytes (op ∷ ops)
stays_of g h bytes op ops begins few q =
    let before = commits g bytes (op ∷ ops) q (omega arith) few in
    let after = sound_stays g h (events.Commit (op ∷ ops)) begins before.is_sound in
    let fits = (and_parts (sound_at h (events.Commit (op ∷ ops))) _ after).0 in
    record { fits = (and_parts (nat_lt 0 (length (op ∷ ops))) _ fits).1; size = q.size }

stays : (g h : History) (bytes : ℕ) (ops : List Op) → Begins g h → bytes ≤ 67108864 → IsQueue g bytes ops → IsQueue h bytes ops
stays g h bytes [] begins few q = record { fits = refl; size = q.size }
stays g h bytes (op ∷ ops) begins few q = stays_of g h bytes op ops begins few q

pub queues_are_sound : QueuesAreSound
queues_are_sound = record {
  begins = λ h. record { fits = refl; size = omega arith };
  grows = grown;
  stays = stays;
  commits = commits;
}
