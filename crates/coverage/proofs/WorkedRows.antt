-- A worked history: two refreshes of one bucket overlap, the older one is finished last, and the notes say what
-- is pending.
use Rattle.std.proofs.Common.{◌≡◌, ℕ, true, false, [], ◌∷◌, pos, Some, None, refl}
use Rattle.std.specs.Prelude.{codes}
use Rattle.ts_num.specs.declared.values.Fun.TheVariants.{CountAll}
use Rattle.ts_bucket.specs.declared.widths.Width.{Width}
use Rattle.ts_model.specs.declared.events.Event.{Event}
use Rattle.ts_model.specs.declared.events.Event.TheVariants.{Table, Hyper, View, Commit, Cut, Built}
use Rattle.ts_model.specs.declared.events.Op.TheVariants.{Insert}
use Rattle.ts_model.specs.declared.views.ViewDef.{ViewDef}
use Rattle.ts_model.specs.History.{History, start, ◌▸◌}
use Rattle.ts_model.specs.Allowed.{all_consistent}
use Rattle.coverage.specs.Notes.{notes_of}
use Rattle.coverage.specs.Coverage.{pending_position}

abbrev tens : Width
tens = record { step = pos 10; shift = pos 0 }

abbrev counts : ViewDef
counts = record {
  name = codes "c";
  table = 0;
  fold = record { width = tens; keys = []; aggs = record { fun = CountAll; col = 0 } ∷ []; tests = [] };
  names = codes "b" ∷ codes "n" ∷ [];
  only = false;
}

-- one row at this time
abbrev put : ℕ → Event
put t = Commit (Insert 0 (record { at = pos t; vals = [] } ∷ []) ∷ [])

-- 1 to 3 create a table and the aggregate; 4 and 5 insert a row and cut its bucket
abbrev cut : History
cut = start ▸ Table (record { name = codes "m"; cols = record { name = codes "time"; must = true } ∷ [] }) ▸ Hyper 0 (record { at = 0; interval = pos 100 }) ▸ View counts ▸ put 15 ▸ Cut 0 (record { lo = pos 10; hi = pos 20 })

-- 6 touches the bucket again, 7 cuts it with its neighbors, and 8 touches the one above
abbrev overlapping : History
overlapping = cut ▸ put 12 ▸ Cut 0 (record { lo = pos 0; hi = pos 30 }) ▸ put 25

-- 9 finishes the newer refresh, and 10 the older one
abbrev finished : History
finished = overlapping ▸ Built 7 7 ▸ Built 5 5

finished_consistent : all_consistent finished ≡ true
finished_consistent = refl

-- the second touch is pending until the newer refresh, which has seen it, is finished
pending_before : pending_position tens (notes_of 0 counts overlapping) (pos 10) ≡ Some 6
pending_before = refl

nothing_pending : pending_position tens (notes_of 0 counts finished) (pos 10) ≡ None
nothing_pending = refl

-- the older refresh, finished last, doesn't lower the last refresh
last_refresh : (notes_of 0 counts finished).refreshed (pos 10) ≡ Some 7
last_refresh = refl

-- a touch after the snapshot stays pending
pending_above : pending_position tens (notes_of 0 counts finished) (pos 20) ≡ Some 8
pending_above = refl

-- a bucket that was never refreshed is pending from the position at which the aggregate was created
never_refreshed : pending_position tens (notes_of 0 counts finished) (pos 30) ≡ Some 3
never_refreshed = refl

-- had only the older refresh been finished, the second touch would be pending
older_alone : pending_position tens (notes_of 0 counts (overlapping ▸ Built 5 5)) (pos 10) ≡ Some 6
older_alone = refl
