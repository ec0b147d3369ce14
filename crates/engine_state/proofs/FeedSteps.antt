-- Feeding the entries of a table's log, as they were noted.
use Rattle.std.proofs.Common.{◌≡◌, ℕ, zero, suc, ◌<◌, List, [], ◌∷◌, length, get_or, ℤ, ◌≤ℤ◌, Option, Result, Ok, Err, IfOk, refl, ◌∙◌, subst, arith}
use Rattle.std.specs.List.{AllByRecursion}
use Rattle.std.proofs.lemmas.Int.{ints}
use Rattle.ts_bucket.specs.Bucket.{IsWidth, bucket_of, max_step, max_time}
use Rattle.ts_bucket.specs.WholeSpans.{IsWithin}
use Rattle.ts_bucket.specs.declared.spans.Hull.{Hull}
use Rattle.ts_bucket.specs.declared.widths.Width.{Width}
use Rattle.ts_bucket.proofs.BucketLaws.{bucket_of_meets}
use Rattle.inval_log.specs.declared.entries.Entry.{Entry}
use Rattle.mat_log.specs.Feeding.{AreWithin, IsFed, pending_after_all}
use Rattle.mat_log.specs.Logs.{LogValue, last_at, pending_at}
use Rattle.coverage.specs.Notes.{pending_after}
use Rattle.engine_state.specs.Notes.{IsFedTo, IsOfTimes, noted_in}
use Rattle.engine_state.specs.Steps.{ViewFed}
use Rattle.engine_state.specs.Tables.{TableValue}
use Rattle.engine_state.specs.Views.{ViewValue}

pub fed_as_noted : (w : Width) (b : ℤ) (r : Option ℕ) (entries : List Entry) (v : Option ℕ) → pending_after_all w b r entries v ≡ pending_after w b r (noted_in entries) v
fed_as_noted w b r [] v = refl
fed_as_noted w b r (e ∷ es) v = fed_as_noted w b r es _

-- entries that were fed to a log were fed in the form in which they were noted
pub fed_to : (entries : List Entry) (old new : LogValue) → IsFed entries old new → IsFedTo old.width (noted_in entries) old new
fed_to entries old new f = record {
  width = f.width;
  refreshed = f.refreshed;
  pending = λ b bucket. f.pending b bucket ∙ fed_as_noted old.width b (last_at old b) entries (pending_at old b);
}

-- a hull of times lies within what a log can hold
within_times : (w : Width) (hull : Hull) → IsWidth w → IsOfTimes hull → IsWithin w hull
within_times w hull h t =
    let low : bucket_of w hull.most ≤ℤ hull.most = (bucket_of_meets w hull.most h).at_or_below in
    let step : w.step ≤ℤ max_step = h.bounded in
    let high : hull.most ≤ℤ max_time = t.upto in
    record { from_times = t.from; ends = omega (arith, ints) }

pub noted_within : (entries : List Entry) (log : LogValue) → IsWidth log.width → AllByRecursion (λ noted. IsOfTimes noted.hull) (noted_in entries) → AreWithin entries log
noted_within entries log h times i d l = at entries i times l
  where
    at : (entries : List Entry) (i : ℕ) → AllByRecursion (λ noted. IsOfTimes noted.hull) (noted_in entries) → i < length entries → IsWithin log.width (get_or entries i d).hull
    at [] i times l = absurd (omega arith)
    at (e ∷ es) zero times l = within_times log.width e.hull h times.0
    at (e ∷ es) (suc i) times l = at es i times.1 (omega arith)

-- an aggregate to which the entries of a table's log were fed
pub fed_view : {E : Type 0} (found : Result ViewValue E) (entries : List Entry) (table : TableValue) (old : ViewValue) → entries ≡ table.log.entries → IfOk found (λ new. new.table ≡ old.table) → IfOk found (λ new. new.groups ≡ old.groups) → IfOk found (λ new. new.mark ≡ old.mark) → IfOk found (λ new. IsFed entries old.log new.log) → IfOk found (λ new. ViewFed table old new)
fed_view (Ok new) entries table old is same groups mark f = record {
  table = same;
  groups = groups;
  mark = mark;
  log = subst (λ es. IsFedTo old.log.width (noted_in es) old.log new.log) is (fed_to entries old.log new.log f);
}
fed_view (Err e) entries table old is same groups mark f = tt
