use Rattle.std.proofs.Common.{◌∙◌, ap, subst}
use Rattle.txn_journal.specs.Calls.{IfDone, IsAtRest}
use Rattle.txn_journal.specs.Contents.{Content, is_base, content_of_version_2}
use Rattle.txn_journal.specs.declared.versions.Version.{Version}
use Rattle.txn_journal.proofs.ContentLaws.{base_counts}
use Rattle.ts_store.proofs.CheckpointLaws.{base_run}
use Rattle.ts_store.proofs.checkpoints.put_base.Goals as goal

pub returns-in-Done-clause-done : goal.returns-in-Done-clause-done
returns-in-Done-clause-done g c = λ content tells.
    subst (λ (counts : Content). IfDone c.append.result (IsAtRest g.D.Disk.bytes g.D.Disk.may_leave c.append.new.self counts))
    (base_counts c.raise_version.new.self.version (content_of_version_2 content) c.args.frame.now (ap (λ (v : Version). is_base v c.args.frame.now) c.in-Done.ensures.version ∙ c.requires.base))
    (c.append.ensures.done (content_of_version_2 content) (c.in-Done.ensures.tells content tells))

pub returns-in-Done-clause-any_moment : goal.returns-in-Done-clause-any_moment
returns-in-Done-clause-any_moment g c = λ content rest same.
    base_run g.D.Disk.moment g.D.Disk.left_since c.args.journal.now.disk c.raise_version.new.self.disk c.append.new.self.disk c.raise_version.new.self.version content c.args.frame.now
    c.in-Done.ensures.version c.requires.base same (c.raise_version.ensures.any_moment content rest) (c.append.ensures.any_moment _ (c.in-Done.ensures.done content rest))
