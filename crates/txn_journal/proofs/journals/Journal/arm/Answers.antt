use Rattle.std.proofs.Common.{◌≡◌, IsSomeAnd, subst, sym, ◌∙◌, ap}
use Rattle.txn_journal.specs.Calls.{Logged, IsAtRest, IsTold}
use Rattle.txn_journal.specs.Contents.{Content}
use Rattle.txn_journal.specs.Frames.{StandsFor}
use Rattle.txn_journal.specs.declared.journals.JournalState.TheVariants.{Bare, Ready}
use Rattle.txn_journal.proofs.JournalLaws.{armed, armed_shows}
use Rattle.txn_journal.proofs.journals.Journal.arm.Goals as goal

pub returns-in-Ok-clause-tells : goal.returns-in-Ok-clause-tells
returns-in-Ok-clause-tells g c =
    subst (λ (j : Logged g.row.D.Denot). j.standing ≡ Bare → (content : Content) → IsTold g.D.Disk.bytes j content
    → IsTold g.D.Disk.bytes (record { disk = c.write_synced.new.disk; version = c.self.inside.version; end = 8; standing = Ready }) content)
    c.self.view_is
    (λ bare content tells.
    (armed g.D.Disk.bytes g.D.Disk.may_leave g.D.Disk.moment g.D.Disk.left_since (record { disk = c.self.inside.disk; version = c.self.inside.version; end = c.self.inside.end; standing = c.self.inside.standing }) c.write_synced.new.disk c.in-Ok.ensures.done bare content tells).tells)
    (ap (λ (j : Logged g.row.D.Denot). j.standing) (sym c.self.view_is) ∙ c.in-Bare.is)

pub returns-in-Ok-clause-done : goal.returns-in-Ok-clause-done
returns-in-Ok-clause-done g c =
    subst (λ (j : Logged g.row.D.Denot). j.standing ≡ Bare → (content : Content) → IsAtRest g.D.Disk.bytes g.D.Disk.may_leave j content
    → IsAtRest g.D.Disk.bytes g.D.Disk.may_leave (record { disk = c.write_synced.new.disk; version = c.self.inside.version; end = 8; standing = Ready }) content)
    c.self.view_is
    (λ bare content rest.
    armed g.D.Disk.bytes g.D.Disk.may_leave g.D.Disk.moment g.D.Disk.left_since (record { disk = c.self.inside.disk; version = c.self.inside.version; end = c.self.inside.end; standing = c.self.inside.standing }) c.write_synced.new.disk c.in-Ok.ensures.done bare content rest.tells)
    (ap (λ (j : Logged g.row.D.Denot). j.standing) (sym c.self.view_is) ∙ c.in-Bare.is)

pub returns-in-Ok-clause-shown : goal.returns-in-Ok-clause-shown
returns-in-Ok-clause-shown g c =
    subst (λ (j : Logged g.row.D.Denot). j.standing ≡ Bare → (content : Content) → IsTold g.D.Disk.bytes j content → IsSomeAnd (g.D.Disk.bytes c.write_synced.new.disk) (λ file. StandsFor file content))
    c.self.view_is
    (armed_shows g.D.Disk.bytes g.D.Disk.may_leave g.D.Disk.moment g.D.Disk.left_since (record { disk = c.self.inside.disk; version = c.self.inside.version; end = c.self.inside.end; standing = c.self.inside.standing }) c.write_synced.new.disk c.write_synced.ensures.shown)
    (ap (λ (j : Logged g.row.D.Denot). j.standing) (sym c.self.view_is) ∙ c.in-Bare.is)

pub returns-in-Err-clause-shown : goal.returns-in-Err-clause-shown
returns-in-Err-clause-shown g c =
    subst (λ (j : Logged g.row.D.Denot). j.standing ≡ Bare → (content : Content) → IsTold g.D.Disk.bytes j content → IsSomeAnd (g.D.Disk.bytes c.write_synced.new.disk) (λ file. StandsFor file content))
    c.self.view_is
    (armed_shows g.D.Disk.bytes g.D.Disk.may_leave g.D.Disk.moment g.D.Disk.left_since (record { disk = c.self.inside.disk; version = c.self.inside.version; end = c.self.inside.end; standing = c.self.inside.standing }) c.write_synced.new.disk c.write_synced.ensures.shown)
    (ap (λ (j : Logged g.row.D.Denot). j.standing) (sym c.self.view_is) ∙ c.in-Bare.is)
