-- What the start of the store found decides whether there is a journal.
use Rattle.std.proofs.Common.{◌≡◌, inl, ℕ, List, IfSome, sym, ◌∙◌, subst}
use Rattle.std.proofs.lemmas.Result.{IfOk-weaker, IfErr-weaker}
use Rattle.ts_disk.specs.Disk.{Keeps}
use Rattle.ts_io.specs.Faults.{Counted}
use Rattle.ts_store.specs.Images.{IsDurable}
use Rattle.ts_store.specs.Stands.{Stands, IsDamagedAt}
use Rattle.ts_store.specs.Stores.{history_seen}
use Rattle.ts_top.specs.Endings.{is_disk_fault}
use Rattle.ts_top.specs.Openings.{NotOpened}
use Rattle.ts_top.proofs.OutcomeLaws.{if_known}
use Rattle.ts_top.proofs.OpeningLaws.{failed_or_kept}
use Rattle.std.specs.Prelude.{IsSome}
use Rattle.ts_top.specs.Outcomes.{LeftAfter}
use Rattle.ts_disk.proofs.Told.{the_told}
use Rattle.ts_top.proofs.openings.open.Goals as goal

pub write_header-requires-clause-goes_on : goal.write_header-requires-clause-goes_on
write_header-requires-clause-goes_on g c = c.in-Ready.ensures.new.goes_on

pub write_header-requires-clause-whole : goal.write_header-requires-clause-whole
write_header-requires-clause-whole g c = c.in-Ready.ensures.new.whole

pub returns-in-Ready-clause-begun : goal.returns-in-Ready-clause-begun
returns-in-Ready-clause-begun g c = IfOk-weaker c.write_header.result _ _ (λ store is. is ∙ c.in-Ready.ensures.new.begun) c.write_header.ensures.begun

pub returns-in-Ready-clause-stands : goal.returns-in-Ready-clause-stands
returns-in-Ready-clause-stands g c =
    IfOk-weaker c.write_header.result _ _ (λ store is file told. subst (λ h. Stands file h) (sym is) (c.in-Ready.ensures.starts file told)) c.write_header.ensures.history

pub returns-in-Ready-clause-tells : goal.returns-in-Ready-clause-tells
returns-in-Ready-clause-tells g c =
    let D = g.D.Disk in
    let begun : c.in-Ready.store.begun ≡ c.args.disk = c.in-Ready.ensures.new.begun in
    IfOk-weaker c.write_header.result _ _ (λ ready tells some. tells (subst (λ b. IsSome (D.bytes b)) (sym begun) some))
    (c.write_header.ensures.tells (λ some. let known = the_told (D.bytes c.args.disk) (subst (λ b. IsSome (D.bytes b)) begun some) in c.in-Ready.ensures.tells known.0 known.1))

pub returns-in-Ready-clause-rests : goal.returns-in-Ready-clause-rests
returns-in-Ready-clause-rests g c =
    let D = g.D.Disk in
    let begun : c.in-Ready.store.begun ≡ c.args.disk = c.in-Ready.ensures.new.begun in
    IfOk-weaker c.write_header.result _ _ (λ ready rests d. rests (subst (λ b. IsDurable D.bytes D.may_leave b) (sym begun) d))
    (c.write_header.ensures.rests (λ d. let e : IsDurable D.bytes D.may_leave c.args.disk = subst (λ b. IsDurable D.bytes D.may_leave b) begun d in c.in-Ready.ensures.rests e.file e.told e.durable))

pub returns-in-Ready-clause-images : goal.returns-in-Ready-clause-images
returns-in-Ready-clause-images g c =
    let D = g.D.Disk in
    let store = c.in-Ready.store in
    let begun : store.begun ≡ c.args.disk = c.in-Ready.ensures.new.begun in
    IfOk-weaker c.write_header.result _ _
    (λ ready images. subst (λ b. (x : List ℕ) → LeftAfter D.bytes D.may_leave D.moment D.left_since b ready.journal.disk x → Stands x (history_seen ready)) begun images)
    (c.write_header.ensures.images
    (λ d. let e : IsDurable D.bytes D.may_leave c.args.disk = subst (λ b. IsDurable D.bytes D.may_leave b) begun d in c.in-Ready.ensures.rests e.file e.told e.durable)
    (subst (λ b. Keeps D.bytes D.may_leave D.moment D.left_since b store.journal.disk) (sym begun) c.in-Ready.ensures.kept))

pub returns-in-Ready-clause-counted : goal.returns-in-Ready-clause-counted
returns-in-Ready-clause-counted g c = IfOk-weaker c.write_header.result _ _ (λ store is. is ∙ c.in-Ready.ensures.counted) c.write_header.ensures.counted

pub returns-in-Ready-clause-ended : goal.returns-in-Ready-clause-ended
returns-in-Ready-clause-ended g c =
    let D = g.D.Disk in
    let store = c.in-Ready.store in
    let disk = c.args.disk in
    let begun : store.begun ≡ disk = c.in-Ready.ensures.new.begun in
    let stood : IfSome (D.bytes disk) (λ file. Stands file (history_seen store)) = if_known (D.bytes disk) (λ file. Stands file (history_seen store)) c.in-Ready.ensures.starts in
    IfErr-weaker c.write_header.result _ _
    (λ end failed.
    failed_or_kept (IsSome (D.bytes disk)) (LeftAfter D.bytes D.may_leave D.moment D.left_since disk end.disk) (D.bytes disk) (D.bytes end.disk) end.status (Keeps D.bytes D.may_leave D.moment D.left_since disk end.disk)
    (subst (λ b. NotOpened end.status (IsSome (D.bytes b)) (LeftAfter D.bytes D.may_leave D.moment D.left_since b end.disk) ⊥ (D.bytes disk) (D.bytes end.disk)) begun
    (failed (D.bytes disk) stood
    (λ some. let known = the_told (D.bytes disk) (subst (λ b. IsSome (D.bytes b)) begun some) in c.in-Ready.ensures.tells known.0 known.1)
    (λ d. let e : IsDurable D.bytes D.may_leave disk = subst (λ b. IsDurable D.bytes D.may_leave b) begun d in c.in-Ready.ensures.rests e.file e.told e.durable)
    (subst (λ b. Keeps D.bytes D.may_leave D.moment D.left_since b store.journal.disk) (sym begun) c.in-Ready.ensures.kept))))
    c.write_header.ensures.ended

pub returns-in-Ready-clause-disk : goal.returns-in-Ready-clause-disk
returns-in-Ready-clause-disk g c = IfErr-weaker c.write_header.result _ _ (λ end counted. subst (λ n. Counted n (g.D.Disk.faults end.disk) (is_disk_fault end.status)) c.in-Ready.ensures.counted counted) c.write_header.ensures.disk

pub returns-in-Damaged-clause-ended : goal.returns-in-Damaged-clause-ended
returns-in-Damaged-clause-ended g c = (c.in-Damaged.ensures.kept, if_known (g.D.Disk.bytes c.args.disk) (λ file. IsDamagedAt file c.in-Damaged.at) c.in-Damaged.ensures.starts)

pub returns-in-DiskFault-clause-ended : goal.returns-in-DiskFault-clause-ended
returns-in-DiskFault-clause-ended g c = inl c.in-DiskFault.ensures.kept

pub returns-in-NoMemory-clause-ended : goal.returns-in-NoMemory-clause-ended
returns-in-NoMemory-clause-ended g c = c.in-NoMemory.ensures.kept
