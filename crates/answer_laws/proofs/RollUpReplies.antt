-- The reply to a roll-up.
use Rattle.std.proofs.Common.{◌≡◌, ℕ, true, false, List, [], ◌∷◌, ℤ, Option, Some, None, sym, refl, ap, ◌∙◌, subst, arith}
use Rattle.std.specs.List.{list_all}
use Rattle.ts_bucket.specs.Bucket.{IsWidth, first_of, is_bucket, is_time}
use Rattle.ts_bucket.specs.Ranges.{lies_in}
use Rattle.ts_model.specs.declared.views.ViewDef.{ViewDef}
use Rattle.ts_model.specs.Allowed.{all_consistent}
use Rattle.ts_model.specs.Answers.{answer, answer_of_view}
use Rattle.ts_model.specs.History.{History, position}
use Rattle.ts_model.specs.Roster.{roster, view_of}
use Rattle.ts_model.specs.Rows.{rows}
use Rattle.ts_model.specs.Scratch.{scratch_of}
use Rattle.ts_model.proofs.FitLaws.{rows_are_times}
use Rattle.ts_model.proofs.HistoryLaws.{prefix_end}
use Rattle.ts_model.proofs.SoundLaws.{view_width}
use Rattle.hier_agg.specs.declared.plans.UpperPlan.{UpperPlan}
use Rattle.hier_agg.specs.Laws.{IsRolledUp}
use Rattle.hier_agg.specs.Plans.{PlanFits, all_starts, composed_fold, lower_query}
use Rattle.hier_agg.specs.ReadLaws.{FitsWhereSound}
use Rattle.hier_agg.specs.Upper.{rows_within, upper_answer}
use Rattle.hier_agg.proofs.Fitting.{plans_fit}
use Rattle.hier_agg.proofs.Fresh.{fresh_buckets_show_the_composed_fold}
use Rattle.hier_agg.proofs.Held.{answers_have_whole_ranges}
use Rattle.hier_agg.proofs.Widening.{apart_whole, widened}
use Rattle.ts_sessions.specs.declared.queries.Form.TheVariants as forms
use Rattle.ts_sessions.specs.Places.{Block, none, writing, reading, queue_count}
use Rattle.ts_sessions.specs.Step.{answers, in_form, named_as, roll_up_plan, rolled_up, shown_in}
use Rattle.answer_laws.specs.Laws.{RollUpsReply}

-- a queue on top of a history leaves its tables and aggregates
pub same_roster : (b : Block) (h : History) → roster (shown_in b h) ≡ roster h
same_roster none h = refl
same_roster (writing [] n) h = refl
same_roster (writing (op ∷ ops) n) h = refl
same_roster (reading at) h = refl

pub roll_ups_reply : RollUpsReply
roll_ups_reply p bytes stmt h plan def ok e there =
    let g = shown_in p.block h in
    let n = plan.view in
    let at : view_of (roster g) n ≡ Some def = ap (λ r. view_of r n) (same_roster p.block h) ∙ there in
    let lower = answer_of_view n g all_starts (Some def) in
    let upper = upper_answer def.fold plan lower in
    let wide : IsWidth def.fold.width = view_width g n def ok at in
    let item = plans_fit (position h) (roster h) stmt plan e in
    let found : Some item.item ≡ Some def = sym item.at ∙ there in
    let same : item.item ≡ def = cc found in
    let fits : PlanFits def.fold plan = subst (FitsWhereSound plan) same item.is wide in
    let times : list_all (λ row. is_time row.at) (rows def.table g) ≡ true =
    subst (λ x. list_all (λ row. is_time row.at) (rows def.table x) ≡ true) (prefix_end g (position g) (omega arith)) (rows_are_times.rows def.table g (position g) ok) in
    let made : IsRolledUp def.fold plan lower upper = record {
      rows = refl;
      stale = widened plan.width fits.width lower.stale (apart_whole def.fold.width lower.stale (answers_have_whole_ranges n g all_starts def wide));
    } in
    let shown = in_form (roster h) (forms.RolledUp plan) (answer (lower_query plan) g) in
    let is : shown ≡ upper =
    ap (λ o. rolled_up o plan (answer (lower_query plan) g)) there
    ∙ ap (λ o. upper_answer def.fold plan (answer_of_view n g all_starts o)) at in
    record {
      shown = shown;
      replies = record {
        turn = answers p h (roll_up_plan plan);
        ends_so = ap (named_as p bytes h stmt) e;
        queue = queue_count p.block;
        min = first_of plan.width;
        says = refl;
      };
      fresh = λ b bucket fresh whole.
          subst (λ a. lies_in a.stale b ≡ false → rows_within plan.width b a.rows ≡ scratch_of (composed_fold def.fold plan) b (rows def.table g)) (sym is)
          (λ f. fresh_buckets_show_the_composed_fold n def g plan upper b fits times made bucket f whole) fresh;
    }
