use Rattle.std.proofs.Common.{◌≡◌, ℕ, ◌+◌, List, [], ◌∷◌, length, inl, refl, sym, ◌∙◌, ap, subst}
use Rattle.ts_disk.specs.CrashImage.{Torn, file_after_write}
use Rattle.ts_disk.proofs.Told.{some_also}
use Rattle.txn_journal.specs.Contents.{with_payload}
use Rattle.txn_journal.specs.Frames.{HoldsTo, WithOrWithout}
use Rattle.txn_journal.proofs.FrameLaws.{staged, torn_behind, torn_gate, written_behind, written_gate}
use Rattle.txn_journal.proofs.Moments.{follows, on_ok, weaker}
use Rattle.txn_journal.proofs.writes.put_frame.Goals as goal

pub returns-in_err-write_synced-clause-any_moment : goal.returns-in_err-write_synced-clause-any_moment
returns-in_err-write_synced-clause-any_moment g c = λ version content rests.
    weaker g.D.Disk.moment g.D.Disk.left_since c.args.disk.now c.write_synced.new.disk
    (Torn (c.args.end + 1) (length c.bytes.result.now) rests.tells.file)
    (WithOrWithout version content c.args.frame.now)
    (c.write_synced.ensures.crash rests.tells.file rests.tells.told rests.durable)
    (λ image torn. inl (torn_behind version content c.args.end rests.tells.file image (length c.bytes.result.now) rests.tells.lies torn))

pub returns-in_err-write_synced-clause-shown : goal.returns-in_err-write_synced-clause-shown
returns-in_err-write_synced-clause-shown g c = λ version content tells.
    some_also (g.D.Disk.bytes c.write_synced.new.disk) (Torn (c.args.end + 1) (length c.bytes.result.now) tells.file) (WithOrWithout version content c.args.frame.now)
    (λ now torn. inl (torn_behind version content c.args.end tells.file now (length c.bytes.result.now) tells.lies torn))
    (c.write_synced.ensures.shown tells.file tells.told)

pub returns-clause-any_moment : goal.returns-clause-any_moment
returns-clause-any_moment g c = λ version content rests.
    let payload = c.args.frame.now in
    let file = rests.tells.file in
    let lies = rests.tells.lies in
    let holds = lies.holds in
    let next = written_behind holds.mark holds.all c.args.end lies.place file payload holds.gate holds.ignored holds.split in
    let mid = c.in_ok-write_synced.ensures.done file rests.tells.told in
    let is_staged : file_after_write file (c.args.end + 1) c.bytes.result.now ≡ staged holds.mark holds.all c.args.end lies.place holds.gate payload next.0 =
    ap (λ (piece : List ℕ). file_after_write file (c.args.end + 1) piece) c.bytes.ensures.bytes ∙ next.1 in
    follows g.D.Disk.moment g.D.Disk.left_since c.args.disk.now c.write_synced.new.disk c.write_synced-2.new.disk
    (Torn (c.args.end + 1) (length c.bytes.result.now) file)
    (Torn c.args.end 1 (file_after_write file (c.args.end + 1) c.bytes.result.now))
    (WithOrWithout version content payload)
    (c.write_synced.ensures.crash file rests.tells.told rests.durable)
    (c.write_synced-2.ensures.crash (file_after_write file (c.args.end + 1) c.bytes.result.now) mid.told mid.durable)
    (λ image torn. inl (torn_behind version content c.args.end file image (length c.bytes.result.now) lies torn))
    (λ image torn. torn_gate holds.mark holds.all c.args.end lies.place version content holds.gate payload next.0 image lies.of_version holds.counts c.bytes.ensures.fits holds.fit
    (subst (λ (whole : List ℕ). Torn c.args.end 1 whole image) is_staged torn))

pub returns-clause-shown : goal.returns-clause-shown
returns-clause-shown g c = λ version content tells.
    let payload = c.args.frame.now in
    let lies = tells.lies in
    let holds = lies.holds in
    let next = written_behind holds.mark holds.all c.args.end lies.place tells.file payload holds.gate holds.ignored holds.split in
    let mid = c.in_ok-write_synced.ensures.done tells.file tells.told in
    let is_staged : file_after_write tells.file (c.args.end + 1) c.bytes.result.now ≡ staged holds.mark holds.all c.args.end lies.place holds.gate payload next.0 =
    ap (λ (piece : List ℕ). file_after_write tells.file (c.args.end + 1) piece) c.bytes.ensures.bytes ∙ next.1 in
    some_also (g.D.Disk.bytes c.write_synced-2.new.disk) (Torn c.args.end 1 (file_after_write tells.file (c.args.end + 1) c.bytes.result.now)) (WithOrWithout version content payload)
    (λ now torn. torn_gate holds.mark holds.all c.args.end lies.place version content holds.gate payload next.0 now lies.of_version holds.counts c.bytes.ensures.fits holds.fit
    (subst (λ (whole : List ℕ). Torn c.args.end 1 whole now) is_staged torn))
    (c.write_synced-2.ensures.shown (file_after_write tells.file (c.args.end + 1) c.bytes.result.now) mid.told)

pub returns-clause-done : goal.returns-clause-done
returns-clause-done g c = on_ok _ _ c.write_synced-2.result c.write_synced-2.ensures.done (λ done version content tells.
    let payload = c.args.frame.now in
    let lies = tells.lies in
    let holds = lies.holds in
    let next = written_behind holds.mark holds.all c.args.end lies.place tells.file payload holds.gate holds.ignored holds.split in
    let mid = c.in_ok-write_synced.ensures.done tells.file tells.told in
    let later = c.args.end + 5 + length payload in
    let is_staged : file_after_write tells.file (c.args.end + 1) c.bytes.result.now ≡ staged holds.mark holds.all c.args.end lies.place holds.gate payload next.0 =
    ap (λ (piece : List ℕ). file_after_write tells.file (c.args.end + 1) piece) c.bytes.ensures.bytes ∙ next.1 in
    let last = done (file_after_write tells.file (c.args.end + 1) c.bytes.result.now) mid.told in
    record {
      tells = record {
        file = file_after_write (file_after_write tells.file (c.args.end + 1) c.bytes.result.now) c.args.end (1 ∷ []);
        told = last.told;
        lies = subst (λ (whole : List ℕ). HoldsTo (file_after_write whole c.args.end (1 ∷ [])) version later (with_payload version content payload)) (sym is_staged)
            (written_gate holds.mark holds.all c.args.end lies.place version content holds.gate payload next.0 lies.of_version holds.counts c.bytes.ensures.fits holds.fit later refl);
      };
      durable = last.durable;
    })
