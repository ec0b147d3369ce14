use Rattle.std.proofs.Common.{◌≡◌, ◌≢◌, ◌+◌, [], ◌∷◌, IsSomeAnd, length, ap, subst, arith, length-append}
use Rattle.ts_disk.specs.CrashImage.{LeavesOnly}
use Rattle.txn_journal.specs.Calls.{Logged, IsAtRest, IsTold}
use Rattle.txn_journal.specs.Contents.{Content, with_payload}
use Rattle.txn_journal.specs.Frames.{WithOrWithout, body}
use Rattle.txn_journal.specs.declared.journals.JournalState.TheVariants.{Bare}
use Rattle.txn_journal.proofs.FrameLaws.{length-body}
use Rattle.txn_journal.proofs.JournalLaws.{begin_on, either_more, rests_after, run_from, shown_from}
use Rattle.txn_journal.proofs.journals.Journal.append.Goals as goal

pub returns-in-Ok-clause-done : goal.returns-in-Ok-clause-done
returns-in-Ok-clause-done g c =
    let old : Logged g.row.D.Denot = record { disk = c.self.inside.disk; version = c.self.inside.version; end = c.self.inside.end; standing = c.self.inside.standing } in
    let size : c.self.inside.end + length c.bytes.result.now ≡ c.self.inside.end + 5 + length c.args.frame.now =
    omega (arith, ap length c.bytes.ensures.bytes, length-append (body c.args.frame.now) (0 ∷ []), length-body c.args.frame.now) in
    subst (λ (j : Logged g.row.D.Denot). j.standing ≢ Bare → (content : Content) → IsTold g.D.Disk.bytes j content
    → IsAtRest g.D.Disk.bytes g.D.Disk.may_leave (record { disk = c.put_frame.new.disk; version = c.self.inside.version; end = c.self.inside.end + length c.bytes.result.now; standing = c.self.inside.standing }) (with_payload j.version content c.args.frame.now))
    c.self.view_is
    (rests_after g.D.Disk.bytes g.D.Disk.may_leave g.D.Disk.moment g.D.Disk.left_since old c.put_frame.new.disk c.self.inside.version (c.self.inside.end + length c.bytes.result.now) (c.self.inside.end + 5 + length c.args.frame.now)
    (λ content. with_payload c.self.inside.version content c.args.frame.now) (c.in-Ok.ensures.done c.self.inside.version) size)
    c.requires.armed

pub returns-in-Ok-clause-any_moment : goal.returns-in-Ok-clause-any_moment
returns-in-Ok-clause-any_moment g c =
    let old : Logged g.row.D.Denot = record { disk = c.self.inside.disk; version = c.self.inside.version; end = c.self.inside.end; standing = c.self.inside.standing } in
    subst (λ (j : Logged g.row.D.Denot). j.standing ≢ Bare → (content : Content) → IsAtRest g.D.Disk.bytes g.D.Disk.may_leave j content
    → LeavesOnly g.D.Disk.moment g.D.Disk.left_since j.disk c.put_frame.new.disk (WithOrWithout j.version content c.args.frame.now))
    c.self.view_is
    (run_from g.D.Disk.bytes g.D.Disk.may_leave g.D.Disk.moment g.D.Disk.left_since old c.put_frame.new.disk (λ content. WithOrWithout c.self.inside.version content c.args.frame.now) (c.put_frame.ensures.any_moment c.self.inside.version))
    c.requires.armed

pub returns-in-Ok-clause-earlier : goal.returns-in-Ok-clause-earlier
returns-in-Ok-clause-earlier g c = λ t before content rest is is_more le begin.
    begin_on g.D.Disk.bytes g.D.Disk.may_leave g.D.Disk.moment g.D.Disk.left_since c.args.self.now.disk c.put_frame.new.disk (WithOrWithout c.args.self.now.version content c.args.frame.now) t before
    (returns-in-Ok-clause-any_moment g c content rest) (λ image either. either_more before content (with_payload c.args.self.now.version content c.args.frame.now) image is is_more either) le begin

pub returns-in-Ok-clause-shown : goal.returns-in-Ok-clause-shown
returns-in-Ok-clause-shown g c =
    let old : Logged g.row.D.Denot = record { disk = c.self.inside.disk; version = c.self.inside.version; end = c.self.inside.end; standing = c.self.inside.standing } in
    subst (λ (j : Logged g.row.D.Denot). j.standing ≢ Bare → (content : Content) → IsTold g.D.Disk.bytes j content → IsSomeAnd (g.D.Disk.bytes c.put_frame.new.disk) (WithOrWithout j.version content c.args.frame.now))
    c.self.view_is
    (shown_from g.D.Disk.bytes g.D.Disk.may_leave g.D.Disk.moment g.D.Disk.left_since old (λ content. IsSomeAnd (g.D.Disk.bytes c.put_frame.new.disk) (WithOrWithout c.self.inside.version content c.args.frame.now)) (c.put_frame.ensures.shown c.self.inside.version))
    c.requires.armed

pub returns-in-Err-clause-any_moment : goal.returns-in-Err-clause-any_moment
returns-in-Err-clause-any_moment g c =
    let old : Logged g.row.D.Denot = record { disk = c.self.inside.disk; version = c.self.inside.version; end = c.self.inside.end; standing = c.self.inside.standing } in
    subst (λ (j : Logged g.row.D.Denot). j.standing ≢ Bare → (content : Content) → IsAtRest g.D.Disk.bytes g.D.Disk.may_leave j content
    → LeavesOnly g.D.Disk.moment g.D.Disk.left_since j.disk c.put_frame.new.disk (WithOrWithout j.version content c.args.frame.now))
    c.self.view_is
    (run_from g.D.Disk.bytes g.D.Disk.may_leave g.D.Disk.moment g.D.Disk.left_since old c.put_frame.new.disk (λ content. WithOrWithout c.self.inside.version content c.args.frame.now) (c.put_frame.ensures.any_moment c.self.inside.version))
    c.requires.armed

pub returns-in-Err-clause-earlier : goal.returns-in-Err-clause-earlier
returns-in-Err-clause-earlier g c = λ t before content rest is is_more le begin.
    begin_on g.D.Disk.bytes g.D.Disk.may_leave g.D.Disk.moment g.D.Disk.left_since c.args.self.now.disk c.put_frame.new.disk (WithOrWithout c.args.self.now.version content c.args.frame.now) t before
    (returns-in-Err-clause-any_moment g c content rest) (λ image either. either_more before content (with_payload c.args.self.now.version content c.args.frame.now) image is is_more either) le begin

pub returns-in-Err-clause-shown : goal.returns-in-Err-clause-shown
returns-in-Err-clause-shown g c =
    let old : Logged g.row.D.Denot = record { disk = c.self.inside.disk; version = c.self.inside.version; end = c.self.inside.end; standing = c.self.inside.standing } in
    subst (λ (j : Logged g.row.D.Denot). j.standing ≢ Bare → (content : Content) → IsTold g.D.Disk.bytes j content → IsSomeAnd (g.D.Disk.bytes c.put_frame.new.disk) (WithOrWithout j.version content c.args.frame.now))
    c.self.view_is
    (shown_from g.D.Disk.bytes g.D.Disk.may_leave g.D.Disk.moment g.D.Disk.left_since old (λ content. IsSomeAnd (g.D.Disk.bytes c.put_frame.new.disk) (WithOrWithout c.self.inside.version content c.args.frame.now)) (c.put_frame.ensures.shown c.self.inside.version))
    c.requires.armed
