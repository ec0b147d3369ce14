use Rattle.std.proofs.Common.{◌≡◌, ◌-◌, ◌≤◌, length, take, drop, sym, arith}
use Rattle.ts_schema.proofs.PartLaws.{no_longer, part_of_part}
use Rattle.ts_schema.proofs.shared.SharedSlice.part_of.Goals as goal

pub overflow_add-first : goal.overflow_add-first
overflow_add-first g c =
    let first = c.self.inside.from in
    let all = c.self.inside.block.value in
    let count = c.self.inside.to - first in
    let within : c.args.to ≤ length (take count (drop first all)) = rw c.self.view_is c.requires.within in
    record { fits = omega (arith, c.self.invariant.2, within, no_longer count (drop first all), c.requires.order, c.self.invariant.0) }

pub overflow_add-first-2 : goal.overflow_add-first-2
overflow_add-first-2 g c =
    let first = c.self.inside.from in
    let all = c.self.inside.block.value in
    let count = c.self.inside.to - first in
    let within : c.args.to ≤ length (take count (drop first all)) = rw c.self.view_is c.requires.within in
    record { fits = omega (arith, c.self.invariant.2, within, no_longer count (drop first all), c.self.invariant.0) }

pub returns : goal.returns
returns g c =
    let first = c.self.inside.from in
    let all = c.self.inside.block.value in
    let count = c.self.inside.to - first in
    let now : c.args.self.now ≡ take count (drop first all) = sym c.self.view_is in
    let within : c.args.to ≤ length (take count (drop first all)) = rw c.self.view_is c.requires.within in
    let parts = part_of_part first c.args.from c.args.to count all c.requires.order (omega (arith, within, no_longer count (drop first all))) in
    rw (now, parts) c.part.ensures
