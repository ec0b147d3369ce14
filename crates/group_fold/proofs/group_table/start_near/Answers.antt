use Rattle.std.proofs.Common.{◌≡◌, true, sym, ◌∙◌, rules}
use Rattle.std.specs.Int.{w64}
use Rattle.std.specs.Int.RustNames.{FitsSigned}
use Rattle.std.proofs.lemmas.Int.{to_z-of_z}
use Rattle.ts_bucket.specs.Bucket.{holds}
use Rattle.group_fold.proofs.Starts.{near_of_time, own_start}
use Rattle.group_fold.proofs.group_table.start_near.Goals as goal

pub bucket-requires : goal.bucket-requires
bucket-requires c =
    let fits : FitsSigned w64 c.args.at = search rules in
    rw (to_z-of_z w64 c.args.at fits) (near_of_time c.args.at c.requires.time)

pub returns-then-is_held : goal.returns-then-is_held
returns-then-is_held c =
    let fits : FitsSigned w64 c.args.near = search rules in
    let time : FitsSigned w64 c.args.at = search rules in
    let held : holds c.args.width c.args.near c.args.at ≡ true = rw (to_z-of_z w64 c.args.near fits, to_z-of_z w64 c.args.at time) at (sym c.is_held.ensures ∙ c.if-is_held.true) in
    record { start = to_z-of_z w64 c.args.near fits ∙ own_start c.args.width c.args.near c.args.at c.requires.width c.requires.near held }
