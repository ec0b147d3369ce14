-- A call that prints reads no input, and ends as printing does.
use Rattle.std.proofs.Common.{None, Some, refl, sym, ap, ◌∙◌, subst}
use Rattle.ts_io.specs.Faults.{Counted}
use Rattle.ts_top.specs.Calls.{DiskCounted}
use Rattle.ts_top.specs.Endings.{is_disk_fault}
use Rattle.ts_top.proofs.AuditLaws.{not_bad_words as audit_words}
use Rattle.ts_top.proofs.CheckpointLaws.{not_bad_words as checkpoint_words}
use Rattle.ts_top.proofs.DemoLaws.{not_bad_words as demo_words, no_read_fault as demo_reads, no_disk_fault as demo_disk}
use Rattle.ts_top.proofs.PrintLaws.{not_bad_words, no_read_fault}
use Rattle.ts_top.proofs.run.run_words.Goals as goal

pub returns-in-Some-Print-clause-words : goal.returns-in-Some-Print-clause-words
returns-in-Some-Print-clause-words g c = not_bad_words c.print.result.status _ _ _ _ _ (c.print.ensures.outcome None None) (sym c.command_of.ensures ∙ c.in-Some-Print.is)

pub returns-in-Some-Print-clause-reads : goal.returns-in-Some-Print-clause-reads
returns-in-Some-Print-clause-reads g c = subst (λ fault. Counted (g.S.Source.faults c.args.source.now) (g.S.Source.faults c.args.source.now) fault) (sym (no_read_fault c.print.result.status _ _ _ (c.print.ensures.outcome None None))) refl

pub returns-in-Some-Demo-clause-words : goal.returns-in-Some-Demo-clause-words
returns-in-Some-Demo-clause-words g c = demo_words _ _ _ c.print_demo.result.status _ _ (c.print_demo.ensures.outcome None None None None) (sym c.command_of.ensures ∙ c.in-Some-Demo.is)

pub returns-in-Some-Demo-clause-reads : goal.returns-in-Some-Demo-clause-reads
returns-in-Some-Demo-clause-reads g c = subst (λ fault. Counted (g.S.Source.faults c.args.source.now) (g.S.Source.faults c.args.source.now) fault) (sym (demo_reads _ _ _ c.print_demo.result.status (c.print_demo.ensures.outcome None None None None))) refl

pub returns-in-Some-Demo-clause-disk : goal.returns-in-Some-Demo-clause-disk
returns-in-Some-Demo-clause-disk g c =
    let D = g.D.Disk in
    let status = c.print_demo.result.status in
    let counted : Counted (D.faults c.args.disk) (D.faults c.print_demo.result.disk) (is_disk_fault status) = subst (λ fault. Counted (D.faults c.args.disk) (D.faults c.print_demo.result.disk) fault) (sym (demo_disk _ _ _ status (c.print_demo.ensures.outcome None None None None))) (ap D.faults c.print_demo.ensures.disk) in
    subst (λ asked. DiskCounted asked status (D.faults c.args.disk) (D.faults c.print_demo.result.disk)) (sym (sym c.command_of.ensures ∙ c.in-Some-Demo.is ∙ ap Some c.in-Some-Demo.field-0-is)) counted

pub returns-in-Some-Checkpoint-clause-words : goal.returns-in-Some-Checkpoint-clause-words
returns-in-Some-Checkpoint-clause-words g c = checkpoint_words _ _ _ _ c.checkpoint.result.status _ _ _ (c.checkpoint.ensures.outcome None None) (sym c.command_of.ensures ∙ c.in-Some-Checkpoint.is)

pub returns-in-Some-Checkpoint-clause-reads : goal.returns-in-Some-Checkpoint-clause-reads
returns-in-Some-Checkpoint-clause-reads g c = subst (λ fault. Counted (g.S.Source.faults c.args.source.now) (g.S.Source.faults c.args.source.now) fault) (sym c.checkpoint.ensures.unread) refl

pub returns-in-Some-Audit-clause-words : goal.returns-in-Some-Audit-clause-words
returns-in-Some-Audit-clause-words g c = audit_words c.audit_transcript.result.status _ _ _ _ _ c.audit_transcript.ensures.outcome (sym c.command_of.ensures ∙ c.in-Some-Audit.is)
