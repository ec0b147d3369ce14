use Rattle.ts_model.proofs.AllowedLaws.{fits_stays as proved}
use Rattle.ts_model.proofs.laws.fitting_jobs_go_on_fitting.Goals as goal

pub returns : goal.returns
returns c = proved
