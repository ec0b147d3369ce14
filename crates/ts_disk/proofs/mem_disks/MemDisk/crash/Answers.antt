use Rattle.std.proofs.Common.{subst}
use Rattle.ts_disk.specs.CrashImage.{IsImage}
use Rattle.ts_disk.specs.MemDisk.{Recorded, state_of}
use Rattle.ts_disk.specs.PickedImages.{image_picked}
use Rattle.ts_disk.proofs.PickLaws.{picked_image}
use Rattle.ts_disk.proofs.mem_disks.MemDisk.crash.Goals as goal

pub returns-in_err-image-clause-image : goal.returns-in_err-image-clause-image
returns-in_err-image-clause-image c = subst (λ (disk : Recorded). IsImage (state_of disk) (image_picked c.args.pick (state_of disk))) c.self.view_is (picked_image c.args.pick c.self.inside.first.items c.self.inside.acts.items c.self.invariant.1)

pub returns-in_err-extend_from_slice-clause-image : goal.returns-in_err-extend_from_slice-clause-image
returns-in_err-extend_from_slice-clause-image c = subst (λ (disk : Recorded). IsImage (state_of disk) (image_picked c.args.pick (state_of disk))) c.self.view_is (picked_image c.args.pick c.self.inside.first.items c.self.inside.acts.items c.self.invariant.1)

pub returns-clause-image : goal.returns-clause-image
returns-clause-image c = subst (λ (disk : Recorded). IsImage (state_of disk) (image_picked c.args.pick (state_of disk))) c.self.view_is (picked_image c.args.pick c.self.inside.first.items c.self.inside.acts.items c.self.invariant.1)
