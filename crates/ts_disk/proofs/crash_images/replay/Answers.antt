use Rattle.std.proofs.Common.{◌≡◌, ◌<◌, min, length, get_or, ap, sym, ◌∙◌, arith, rules}
use Rattle.std.proofs.lemmas.List.{get_or_read}
use Rattle.ts_disk.specs.CrashImage.{file_after_write}
use Rattle.ts_disk.specs.declared.disk_acts.Act.TheVariants.{Sync}
use Rattle.ts_disk.proofs.Replays.{replayed_sync, replayed_write, written-min}
use Rattle.ts_disk.proofs.crash_images.replay.Goals as goal
use Rattle.ts_disk.proofs.crash_images.replay.Goals.{in-Write+in_ok-write_growing-in-Write, in-Sync+in_ok-synced-in-Sync}

pub loop-i-preserved : goal.loop-i-preserved
loop-i-preserved c =
    let more : c.loop-i.i < length c.args.acts.now = omega arith in
    let read : c.index-acts-i.result ≡ get_or c.args.acts.now c.loop-i.i Sync = get_or_read c.args.acts.now c.loop-i.i c.index-acts-i.result more c.index-acts-i.is Sync in
    elim c.match-acts-i.branch [
      | in-Write+in_ok-write_growing-in-Write w ↦
          let piece = w.in-Write.piece in
          let place : w.min-at.result ≡ min (length c.loop-i.now.items) piece.at = search rules in
          let wrote : w.write_growing.new.bytes.items ≡ file_after_write c.loop-i.now.items w.min-at.result piece.bytes = search rules in
          let next : w.write_growing.new.bytes.items ≡ file_after_write c.loop-i.now.items piece.at piece.bytes = wrote ∙ ap (λ n. file_after_write c.loop-i.now.items n piece.bytes) place ∙ written-min c.loop-i.now.items piece.at piece.bytes in
          rw (w.synced-is, w.now-is, w.since-is) (replayed_write c.args.first.now c.args.acts.now c.loop-i.i c.loop-i.since c.loop-i.synced.items c.loop-i.now.items c.loop-i.invariant more piece (sym read ∙ w.in-Write.is) w.write_growing.new.bytes.items next)
      | in-Sync+in_ok-synced-in-Sync w ↦
          let same : w.in_ok-synced-in-Sync.synced.items ≡ c.loop-i.now.items = search rules in
          rw (w.synced-is, w.now-is, w.since-is, same) (replayed_sync c.args.first.now c.args.acts.now c.loop-i.i c.loop-i.since c.loop-i.synced.items c.loop-i.now.items c.loop-i.invariant more (sym read ∙ w.in-Sync.is))
    ]
