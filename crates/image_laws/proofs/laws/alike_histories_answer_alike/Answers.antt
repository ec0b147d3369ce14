use Rattle.image_laws.proofs.AlikeAnswers.{alike_answers as proved}
use Rattle.image_laws.proofs.laws.alike_histories_answer_alike.Goals as goal

pub returns : goal.returns
returns c = proved
