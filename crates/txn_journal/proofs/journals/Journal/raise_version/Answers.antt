use Rattle.std.proofs.Common.{◌≢◌, IsSomeAnd, refl, sym, ◌∙◌, ap, subst}
use Rattle.ts_disk.specs.CrashImage.{LeavesOnly}
use Rattle.txn_journal.specs.Calls.{IsAtRest, IsTold, Logged}
use Rattle.txn_journal.specs.Contents.{Content, content_of_version_2}
use Rattle.txn_journal.specs.Frames.{StandsForEither}
use Rattle.txn_journal.specs.Writes.{Rests, Tells}
use Rattle.txn_journal.specs.declared.journals.JournalState.TheVariants.{Bare}
use Rattle.txn_journal.specs.declared.versions.Version.{Version}
use Rattle.txn_journal.specs.declared.versions.Version.TheVariants.{Two}
use Rattle.txn_journal.proofs.JournalLaws.{raised_tells, rests_after, run_from, shown_from}
use Rattle.txn_journal.proofs.journals.Journal.raise_version.Goals as goal

pub returns-in-Two-clause-tells : goal.returns-in-Two-clause-tells
returns-in-Two-clause-tells g c = λ content tells.
    subst (IsTold g.D.Disk.bytes c.args.self.now)
    (sym (raised_tells g.D.Disk.bytes g.D.Disk.may_leave g.D.Disk.moment g.D.Disk.left_since c.args.self.now (ap (λ (j : Logged g.row.D.Denot). j.version) (sym c.self.view_is) ∙ c.in-Two.is) c.requires.armed content tells))
    tells

pub returns-in-Two-clause-done : goal.returns-in-Two-clause-done
returns-in-Two-clause-done g c = λ content rest.
    subst (IsAtRest g.D.Disk.bytes g.D.Disk.may_leave c.args.self.now)
    (sym (raised_tells g.D.Disk.bytes g.D.Disk.may_leave g.D.Disk.moment g.D.Disk.left_since c.args.self.now (ap (λ (j : Logged g.row.D.Denot). j.version) (sym c.self.view_is) ∙ c.in-Two.is) c.requires.armed content rest.tells))
    rest

pub returns-in-Ok-clause-tells : goal.returns-in-Ok-clause-tells
returns-in-Ok-clause-tells g c =
    let old : Logged g.row.D.Denot = record { disk = c.self.inside.disk; version = c.self.inside.version; end = c.self.inside.end; standing = c.self.inside.standing } in
    subst (λ (j : Logged g.row.D.Denot). j.standing ≢ Bare → (content : Content) → IsTold g.D.Disk.bytes j content
    → IsTold g.D.Disk.bytes (record { disk = c.put_version.new.disk; version = Two; end = c.self.inside.end; standing = c.self.inside.standing }) (content_of_version_2 content))
    c.self.view_is
    (λ armed content tells.
    (rests_after g.D.Disk.bytes g.D.Disk.may_leave g.D.Disk.moment g.D.Disk.left_since old c.put_version.new.disk Two c.self.inside.end c.self.inside.end content_of_version_2
    (λ content tells. c.in-Ok.ensures.done c.self.inside.end content (subst (λ (v : Version). Tells g.D.Disk.bytes c.self.inside.disk v c.self.inside.end content) c.in-One.is tells)) refl armed content tells).tells)
    c.requires.armed

pub returns-in-Ok-clause-done : goal.returns-in-Ok-clause-done
returns-in-Ok-clause-done g c =
    let old : Logged g.row.D.Denot = record { disk = c.self.inside.disk; version = c.self.inside.version; end = c.self.inside.end; standing = c.self.inside.standing } in
    subst (λ (j : Logged g.row.D.Denot). j.standing ≢ Bare → (content : Content) → IsAtRest g.D.Disk.bytes g.D.Disk.may_leave j content
    → IsAtRest g.D.Disk.bytes g.D.Disk.may_leave (record { disk = c.put_version.new.disk; version = Two; end = c.self.inside.end; standing = c.self.inside.standing }) (content_of_version_2 content))
    c.self.view_is
    (λ armed content rest.
    (rests_after g.D.Disk.bytes g.D.Disk.may_leave g.D.Disk.moment g.D.Disk.left_since old c.put_version.new.disk Two c.self.inside.end c.self.inside.end content_of_version_2
    (λ content tells. c.in-Ok.ensures.done c.self.inside.end content (subst (λ (v : Version). Tells g.D.Disk.bytes c.self.inside.disk v c.self.inside.end content) c.in-One.is tells)) refl armed content rest.tells))
    c.requires.armed

pub returns-in-Ok-clause-any_moment : goal.returns-in-Ok-clause-any_moment
returns-in-Ok-clause-any_moment g c =
    let old : Logged g.row.D.Denot = record { disk = c.self.inside.disk; version = c.self.inside.version; end = c.self.inside.end; standing = c.self.inside.standing } in
    subst (λ (j : Logged g.row.D.Denot). j.standing ≢ Bare → (content : Content) → IsAtRest g.D.Disk.bytes g.D.Disk.may_leave j content
    → LeavesOnly g.D.Disk.moment g.D.Disk.left_since j.disk c.put_version.new.disk (StandsForEither content (content_of_version_2 content)))
    c.self.view_is
    (run_from g.D.Disk.bytes g.D.Disk.may_leave g.D.Disk.moment g.D.Disk.left_since old c.put_version.new.disk (λ content. StandsForEither content (content_of_version_2 content))
    (λ content rests. c.put_version.ensures.any_moment c.self.inside.end content (subst (λ (v : Version). Rests g.D.Disk.bytes g.D.Disk.may_leave c.self.inside.disk v c.self.inside.end content) c.in-One.is rests)))
    c.requires.armed

pub returns-in-Ok-clause-shown : goal.returns-in-Ok-clause-shown
returns-in-Ok-clause-shown g c =
    let old : Logged g.row.D.Denot = record { disk = c.self.inside.disk; version = c.self.inside.version; end = c.self.inside.end; standing = c.self.inside.standing } in
    subst (λ (j : Logged g.row.D.Denot). j.standing ≢ Bare → (content : Content) → IsTold g.D.Disk.bytes j content → IsSomeAnd (g.D.Disk.bytes c.put_version.new.disk) (StandsForEither content (content_of_version_2 content)))
    c.self.view_is
    (shown_from g.D.Disk.bytes g.D.Disk.may_leave g.D.Disk.moment g.D.Disk.left_since old (λ content. IsSomeAnd (g.D.Disk.bytes c.put_version.new.disk) (StandsForEither content (content_of_version_2 content)))
    (λ content tells. c.put_version.ensures.shown c.self.inside.end content (subst (λ (v : Version). Tells g.D.Disk.bytes c.self.inside.disk v c.self.inside.end content) c.in-One.is tells)))
    c.requires.armed

pub returns-in-Err-clause-any_moment : goal.returns-in-Err-clause-any_moment
returns-in-Err-clause-any_moment g c =
    let old : Logged g.row.D.Denot = record { disk = c.self.inside.disk; version = c.self.inside.version; end = c.self.inside.end; standing = c.self.inside.standing } in
    subst (λ (j : Logged g.row.D.Denot). j.standing ≢ Bare → (content : Content) → IsAtRest g.D.Disk.bytes g.D.Disk.may_leave j content
    → LeavesOnly g.D.Disk.moment g.D.Disk.left_since j.disk c.put_version.new.disk (StandsForEither content (content_of_version_2 content)))
    c.self.view_is
    (run_from g.D.Disk.bytes g.D.Disk.may_leave g.D.Disk.moment g.D.Disk.left_since old c.put_version.new.disk (λ content. StandsForEither content (content_of_version_2 content))
    (λ content rests. c.put_version.ensures.any_moment c.self.inside.end content (subst (λ (v : Version). Rests g.D.Disk.bytes g.D.Disk.may_leave c.self.inside.disk v c.self.inside.end content) c.in-One.is rests)))
    c.requires.armed

pub returns-in-Err-clause-shown : goal.returns-in-Err-clause-shown
returns-in-Err-clause-shown g c =
    let old : Logged g.row.D.Denot = record { disk = c.self.inside.disk; version = c.self.inside.version; end = c.self.inside.end; standing = c.self.inside.standing } in
    subst (λ (j : Logged g.row.D.Denot). j.standing ≢ Bare → (content : Content) → IsTold g.D.Disk.bytes j content → IsSomeAnd (g.D.Disk.bytes c.put_version.new.disk) (StandsForEither content (content_of_version_2 content)))
    c.self.view_is
    (shown_from g.D.Disk.bytes g.D.Disk.may_leave g.D.Disk.moment g.D.Disk.left_since old (λ content. IsSomeAnd (g.D.Disk.bytes c.put_version.new.disk) (StandsForEither content (content_of_version_2 content)))
    (λ content tells. c.put_version.ensures.shown c.self.inside.end content (subst (λ (v : Version). Tells g.D.Disk.bytes c.self.inside.disk v c.self.inside.end content) c.in-One.is tells)))
    c.requires.armed
