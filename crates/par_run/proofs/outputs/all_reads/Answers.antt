use Rattle.std.proofs.Common.{◌∙◌, ap, sum_by}
use Rattle.ts_schema.specs.Counts.{raised_by}
use Rattle.par_workers.specs.Slots.{workers_of}
use Rattle.par_run.proofs.OutputLaws.{reads_by, reads_three}
use Rattle.par_run.proofs.outputs.all_reads.Goals as goal

pub returns : goal.returns
returns g c =
    let crews = c.args.crews.now in
    reads_three (workers_of crews.setup.items) (workers_of crews.at_once.items) (workers_of crews.last.items)
    c.reads_of.result c.reads_of-2.result c.reads_of-3.result c.saturating_add.result c.saturating_add-2.result
    (c.reads_of.ensures ∙ ap (λ crew. raised_by (sum_by reads_by (workers_of crew)) 0) c.as_slice.ensures.value)
    (c.reads_of-2.ensures ∙ ap (λ crew. raised_by (sum_by reads_by (workers_of crew)) 0) c.as_slice-2.ensures.value)
    (c.reads_of-3.ensures ∙ ap (λ crew. raised_by (sum_by reads_by (workers_of crew)) 0) c.as_slice-3.ensures.value)
    c.saturating_add.ensures c.saturating_add-2.ensures
