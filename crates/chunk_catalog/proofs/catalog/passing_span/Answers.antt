-- A row that passes has a time that passes the tests.
use Rattle.std.proofs.Common.{◌≤ℤ◌, rules}
use Rattle.std.specs.Prelude.{FitsSigned, int_le}
use Rattle.std.specs.Int.{w64}
use Rattle.std.proofs.lemmas.Int.{to_z-of_z}
use Rattle.ts_bucket.specs.Bucket.{max_time, min_time}
use Rattle.ts_schema.proofs.Cases.{and_first, and_second, int_le-true}
use Rattle.chunk_catalog.proofs.ReachLaws.{fits_time}
use Rattle.chunk_catalog.proofs.catalog.passing_span.Goals as goal

pub returns : goal.returns
returns c = record {
  every = λ row time passes.
      let low = int_le-true min_time row.at (and_first (int_le min_time row.at) (int_le row.at max_time) time) in
      let high = int_le-true row.at max_time (and_second (int_le min_time row.at) (int_le row.at max_time) time) in
      let times = c.test_times-times.result in
      let reached = c.test_times-times.ensures.every row (fits_time row.at low high) passes in
      let fits_first : FitsSigned w64 c.test_times-times.result.first = search rules in
      let fits_last : FitsSigned w64 c.test_times-times.result.last = search rules in
      let from : c.test_times-times.result.first ≤ℤ row.at = int_le-true times.first row.at (and_first (int_le times.first row.at) (int_le row.at times.last) reached) in
      let upto : row.at ≤ℤ c.test_times-times.result.last = int_le-true row.at times.last (and_second (int_le times.first row.at) (int_le row.at times.last) reached) in
      c.time_span.ensures.every row.at time (rw (to_z-of_z w64 c.test_times-times.result.first fits_first) from) (rw (to_z-of_z w64 c.test_times-times.result.last fits_last) upto);
}
