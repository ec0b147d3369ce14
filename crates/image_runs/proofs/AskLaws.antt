-- Queries: a session gets the same answer at two histories that are alike.
use Rattle.std.proofs.Common.{◌≡◌, ℕ, true, [], ◌∷◌, refl, ap, ◌∙◌}
use Rattle.ts_model.specs.Allowed.{all_allowed}
use Rattle.ts_model.specs.History.{History, position}
use Rattle.ts_model.specs.Roster.{roster}
use Rattle.ts_model.specs.Answers.{answer}
use Rattle.image_laws.specs.Alike.{Alike}
use Rattle.image_laws.proofs.AlikeAnswers.{alike_answers}
use Rattle.image_laws.proofs.AlikeLaws.{alike_stays}
use Rattle.result_text.specs.declared.replies.Said.TheVariants as said
use Rattle.ts_sessions.specs.Places.{Places, queue_count, queue_in}
use Rattle.ts_sessions.specs.Step.{answers, in_form, shown_in}
use Rattle.image_runs.proofs.CallLaws.{SameTurn}
use Rattle.image_runs.proofs.PlaceLaws.{PlacesFit}

-- histories that are alike give the same answer, also with a queue on top. How many rows were read is not compared
pub answers_along : (base used : ℕ) (p : Places) (plan : _) (g k l : History) → Alike g k → all_allowed g ≡ true → all_allowed k ≡ true → PlacesFit base used l p → SameTurn base used l (answers p g plan) (answers p k plan)
answers_along base used p plan g k l alike ok_g ok_k fit =
    let on_top = alike_stays.queued g k (queue_in p.block) ok_g ok_k alike in
    record {
      places = refl;
      said =
          ap (λ r. said.Answered (in_form r plan.form (answer plan.query (shown_in p.block g))) (position g) (queue_count p.block) plan.min ∷ []) alike.relations
          ∙ ap (λ a. said.Answered (in_form (roster k) plan.form a) (position g) (queue_count p.block) plan.min ∷ []) (alike_answers.answers plan.query (shown_in p.block g) (shown_in p.block k) on_top)
          ∙ ap (λ at. said.Answered (in_form (roster k) plan.form (answer plan.query (shown_in p.block k))) at (queue_count p.block) plan.min ∷ []) alike.places;
      fit = fit;
    }
