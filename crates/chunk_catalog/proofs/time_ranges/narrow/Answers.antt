use Rattle.std.proofs.Common.{◌≡◌, true, ℕ, Some, rules, subst}
use Rattle.std.specs.Prelude.{FitsSigned}
use Rattle.std.specs.Int.{w64}
use Rattle.std.proofs.lemmas.Int.{to_z-of_z}
use Rattle.ts_schema.specs.Conditions.{compares}
use Rattle.ts_schema.specs.Rows.{field_of}
use Rattle.chunk_catalog.proofs.time_ranges.narrow.Goals as goal

pub returns-then-test-eq0 : goal.returns-then-test-eq0
returns-then-test-eq0 c =
    let fits_num : FitsSigned w64 c.args.test.now.num = search rules in
    record {
      every = λ row fits here passes.
          let on_time : compares c.args.test.now.cmp (Some row.at) c.args.test.now.num ≡ true = subst (λ (col : ℕ). compares c.args.test.now.cmp (field_of row col) c.args.test.now.num ≡ true) c.if-test-eq0.true passes in
          c.both.ensures.both row.at here (c.times_of.ensures.every row.at fits (simp to_z-of_z on_time));
    }
