use Rattle.std.proofs.Common.{[], ◌∷◌, refl, ◌∙◌, rules}
use Rattle.partial_agg.proofs.Joined.{joined_columns}
use Rattle.partial_agg.proofs.partials.Partial.add.Goals as goal

pub returns-in-None-clause-added : goal.returns-in-None-clause-added
returns-in-None-clause-added c = search rules

pub returns-in-None-clause-of_column : goal.returns-in-None-clause-of_column
returns-in-None-clause-of_column c column p = returns-in-None-clause-added c ∙ joined_columns _ _ column (c.args.v ∷ []) p refl

pub returns-in-Some-clause-added : goal.returns-in-Some-clause-added
returns-in-Some-clause-added c = search rules

pub returns-in-Some-clause-of_column : goal.returns-in-Some-clause-of_column
returns-in-Some-clause-of_column c column p = returns-in-Some-clause-added c ∙ joined_columns _ _ column (c.args.v ∷ []) p refl
