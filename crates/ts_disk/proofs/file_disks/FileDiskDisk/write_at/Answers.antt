use Rattle.std.proofs.Common.{length}
use Rattle.ts_disk.proofs.Images.{torn_refl}
use Rattle.ts_disk.proofs.file_disks.FileDiskDisk.write_at.Goals as goal

pub returns-then-piece-at-clause-crash : goal.returns-then-piece-at-clause-crash
returns-then-piece-at-clause-crash g c = λ image left. (image, tt, torn_refl c.args.at (length c.args.piece.now) image)

pub returns-in-Ok-clause-crash : goal.returns-in-Ok-clause-crash
returns-in-Ok-clause-crash g c = λ image left. (image, tt, torn_refl c.args.at (length c.args.piece.now) image)

pub returns-in-Err-clause-crash : goal.returns-in-Err-clause-crash
returns-in-Err-clause-crash g c = λ image left. (image, tt, torn_refl c.args.at (length c.args.piece.now) image)
