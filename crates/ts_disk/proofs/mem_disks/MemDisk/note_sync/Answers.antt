use Rattle.std.proofs.Common.{ap, ◌∙◌, sym, subst, List}
use Rattle.ts_disk.specs.CrashImage.{at_rest}
use Rattle.ts_disk.specs.MemDisk.{state_after, all_within}
use Rattle.ts_disk.specs.declared.disk_acts.Act.{Act}
use Rattle.ts_disk.specs.declared.disk_acts.Act.TheVariants.{Sync}
use Rattle.ts_disk.proofs.ActLaws.{state_push, within_push}
use Rattle.ts_disk.proofs.mem_disks.MemDisk.note_sync.Goals as goal

pub invariant_of-self-2 : goal.invariant_of-self-2
invariant_of-self-2 c =
    let first = at_rest c.self.inside.first.items in
    let items = c.in_ok-push.ensures.items in (
      c.self.invariant.0 ∙ sym (ap (λ (acts : List Act). (state_after first acts).now) items ∙ ap (λ s. s.now) (state_push first c.self.inside.acts.items Sync)),
      subst (λ (acts : List Act). all_within first acts) (sym items) (within_push first c.self.inside.acts.items Sync c.self.invariant.1 tt),
    )
