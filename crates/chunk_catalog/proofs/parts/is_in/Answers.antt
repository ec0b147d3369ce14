use Rattle.std.proofs.Common.{◌≡◌, true, ◌&&◌, ◌+ℤ◌, int_le, int_lt, FitsSigned, w64, to_z, of_z, sym, ap, ◌∙◌, rules}
use Rattle.std.proofs.lemmas.Int.{to_z-of_z}
use Rattle.chunk_catalog.proofs.StartLaws.{end_fits, held_times}
use Rattle.chunk_catalog.proofs.parts.is_in.Goals as goal

pub returns-then-start-row : goal.returns-then-start-row
returns-then-start-row c =
    let fits_time : FitsSigned w64 c.args.row.now.at = search rules in
    let fits_start : FitsSigned w64 c.args.start = c.ranges.start in
    let fits_interval : FitsSigned w64 c.args.interval = c.ranges.interval in
    let time_is : to_z w64 (of_z w64 c.args.row.now.at) ≡ c.args.row.now.at = to_z-of_z w64 c.args.row.now.at fits_time in
    let start_is : to_z w64 (of_z w64 c.args.start) ≡ c.args.start = to_z-of_z w64 c.args.start fits_start in
    let interval_is : to_z w64 (of_z w64 c.args.interval) ≡ c.args.interval = to_z-of_z w64 c.args.interval fits_interval in
    let end_is : to_z w64 (of_z w64 (c.args.start +ℤ c.args.interval)) ≡ c.args.start +ℤ c.args.interval = to_z-of_z w64 (c.args.start +ℤ c.args.interval) (end_fits c.args.interval c.args.start c.requires.interval c.requires.start) in
    let low : int_le c.args.start c.args.row.now.at ≡ true = (λ i. int_le (sym start_is i) (sym time_is i)) ∙ c.if-start-row.true in
    (λ i. int_lt (time_is i) (to_z w64 (of_z w64 (start_is i +ℤ interval_is i)))) ∙ ap (int_lt c.args.row.now.at) end_is
    ∙ ap (λ t. t && int_lt c.args.row.now.at (c.args.start +ℤ c.args.interval)) (sym low)
    ∙ held_times c.args.interval c.args.start c.args.row.now.at c.requires.interval c.requires.start
