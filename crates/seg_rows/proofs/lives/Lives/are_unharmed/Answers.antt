use Rattle.seg_rows.proofs.LifeLaws.{plain_together, plain_born}
use Rattle.seg_rows.proofs.lives.Lives.are_unharmed.Goals as goal

pub returns-in-Together : goal.returns-in-Together
returns-in-Together c = record { unharmed = λ _. plain_together c.args.self.now _ c.in-Together.is }

pub returns-in-Born : goal.returns-in-Born
returns-in-Born c = record { unharmed = λ _. plain_born c.args.self.now _ c.in-Born.is }
