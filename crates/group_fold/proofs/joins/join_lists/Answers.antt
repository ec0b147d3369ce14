use Rattle.std.proofs.Common.{◌≡◌, ◌∙◌, ◌++◌, take, ap, subst}
use Rattle.group_fold.specs.Merging.{AreBefore}
use Rattle.group_fold.proofs.Seams.{front_stays}
use Rattle.group_fold.proofs.joins.join_lists.Goals as goal

pub loop-theirs-init : goal.loop-theirs-init
loop-theirs-init c =
    let k = c.count_before-before.result in
    let before : AreBefore (take k c.args.a.items) c.args.b.items =
    subst (λ gs. AreBefore (take k gs) c.args.b.items) c.as_slice.ensures.value (subst (λ hs. AreBefore (take k c.as_slice.result.now) hs) c.as_slice-2.ensures.value c.count_before-before.ensures.before) in
    let moved : c.append.new.self.items ≡ c.split_off.new.self.items = c.in_ok-append.ensures.items ∙ ap (λ gs. gs ++ c.split_off.new.self.items) c.in_ok-groups.ensures.items in
    rw (moved, c.from-mine.ensures.0, c.from-theirs.ensures.0)
    (front_stays c.args.a.items c.split_off.new.self.items c.in_ok-behind.behind.items c.args.b.items k c.in_ok-behind.ensures.items c.in_ok-behind.ensures.tail c.requires before)
