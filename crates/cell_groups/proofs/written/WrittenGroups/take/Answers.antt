use Rattle.std.proofs.Common.{◌≡◌, ◌∙◌, sym, subst, to_z-of_z}
use Rattle.std.specs.declared.cmp.Ordering.TheVariants.{Equal, Less}
use Rattle.group_fold.specs.Merging.{with_group}
use Rattle.cell_groups.specs.Groups.{cells_at}
use Rattle.cell_groups.specs.Written.{AreWritten, TakesRow, last_cmp, rows_written}
use Rattle.cell_groups.proofs.Gathering.{alone_is}
use Rattle.cell_groups.proofs.Writing.{last_written, next_written, same_rows}
use Rattle.cell_groups.proofs.written.WrittenGroups.take.Goals as goal

pub returns-in_ok-begin-in-Less-clause-taken : goal.returns-in_ok-begin-in-Less-clause-taken
returns-in_ok-begin-in-Less-clause-taken c groups w e =
    let shape = c.args.shape.now in
    let cells = c.args.cells in
    let last = c.args.self.now.last in
    let less : last_cmp shape last c.args.start cells ≡ Less = subst (λ b. last_cmp shape last b cells ≡ Less) (to_z-of_z c.ranges.start) (sym c.in-Less.ensures) in
    let alone = alone_is shape c.args.start cells c.group_of.result (c.group_of.ensures.start ∙ to_z-of_z c.ranges.start) c.group_of.ensures.first c.group_of.ensures.tallies in
    subst (AreWritten shape (with_group (cells_at shape c.args.start cells) groups) (rows_written c.begin.new.self)) (sym c.in_ok-begin-in-Less.ensures.last)
    (next_written shape c.args.start cells groups (rows_written c.args.self.now) (rows_written c.begin.new.self) last c.group_of.result alone less c.in_ok-begin-in-Less.ensures.rows w)

pub returns-in_ok-add-in-Equal-clause-taken : goal.returns-in_ok-add-in-Equal-clause-taken
returns-in_ok-add-in-Equal-clause-taken c groups w e =
    let shape = c.args.shape.now in
    let cells = c.args.cells in
    let last = c.args.self.now.last in
    let next = c.add.new.self.last in
    let same : last_cmp shape last c.args.start cells ≡ Equal = subst (λ b. last_cmp shape last b cells ≡ Equal) (to_z-of_z c.ranges.start) (sym c.in-Equal.ensures) in
    let taken : TakesRow shape.aggs cells last next = subst (λ aggs. TakesRow aggs cells last next) c.items.ensures.items c.in_ok-add-in-Equal.ensures.taken in
    subst (λ rows. AreWritten shape (with_group (cells_at shape c.args.start cells) groups) rows next) (sym (same_rows _ _ _ _ c.in_ok-add-in-Equal.ensures.cells c.in_ok-add-in-Equal.ensures.ends))
    (last_written shape c.args.start cells groups (rows_written c.args.self.now) last next same taken w)
