-- One more log was fed.
use Rattle.std.proofs.Common.{◌≡◌, ◌+◌, ◌<◌, ◌++◌, [], ◌∷◌, length, take, sym, subst, arith}
use Rattle.std.proofs.lemmas.List.Elements.{all_zip_more}
use Rattle.mat_log.specs.Feeding.{IsFed, AreWithin}
use Rattle.refresh_cut.specs.Cuts.{AreFed}
use Rattle.refresh_cut.proofs.cuts.fed_logs.Goals as goal

pub feed_all-requires : goal.feed_all-requires
feed_all-requires c =
    let within : c.loop-mat.mat-index < length c.args.mats.now = omega arith in
    record { within = subst (AreWithin c.args.entries.now.items) (sym c.mat-item.is) (c.requires c.loop-mat.mat-index c.mat-item.result within) }

pub loop-mat-preserved : goal.loop-mat-preserved
loop-mat-preserved c =
    let within : c.loop-mat.mat-index < length c.args.mats.now = omega arith in
    subst (AreFed c.args.entries.now.items (take (c.loop-mat.mat-index + 1) c.args.mats.now)) (sym c.in_ok-push.ensures.items)
    (all_zip_more (IsFed c.args.entries.now.items) c.args.mats.now c.loop-mat.all.items c.loop-mat.mat-index c.mat-item.result c.in_ok-feed_all.field-0 within c.mat-item.is c.loop-mat.invariant c.in_ok-feed_all.ensures.fed)
