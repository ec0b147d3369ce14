use Rattle.ts_num.proofs.LowestTerms.{lowest_terms_law}
use Rattle.ts_num.proofs.fractions.lowest_terms_law.Goals as goal

pub returns : goal.returns
returns c = lowest_terms_law
