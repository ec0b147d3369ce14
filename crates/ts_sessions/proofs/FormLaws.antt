-- Forms of answers.
use Rattle.std.proofs.Common.{◌≡◌, true, Some, sym, ap, ◌∙◌, subst}
use Rattle.ts_model.specs.declared.queries.Answer.{Answer}
use Rattle.ts_model.specs.declared.rosters.Roster.{Roster}
use Rattle.ts_model.specs.Allowed.{all_consistent}
use Rattle.ts_model.specs.Answers.{answer, answer_of_view}
use Rattle.ts_model.specs.History.{History}
use Rattle.ts_model.specs.Roster.{roster, view_of}
use Rattle.ts_model.proofs.SoundLaws.{view_width}
use Rattle.hier_agg.specs.Plans.{all_starts}
use Rattle.hier_agg.proofs.AnswerGroups.{answers_show_groups}
use Rattle.hier_agg.proofs.Held.{answers_have_whole_ranges}
use Rattle.ts_sessions.specs.declared.queries.Form.{Form}
use Rattle.ts_sessions.specs.declared.queries.Form.TheVariants as forms
use Rattle.ts_sessions.specs.declared.queries.Plan.{Plan}
use Rattle.ts_sessions.specs.Deeds.{FitsRollUp, FormFits, IsFormed}
use Rattle.ts_sessions.proofs.CalendarLaws.{calendar_fits}

-- the answer to what a plan asks fits its form: that of an aggregate shows groups of its fold, and its stale ranges are
-- of whole buckets
pub form_fits : (R : Roster) (h : History) (form : Form) (plan : Plan) (a : Answer) → R ≡ roster h → all_consistent h ≡ true → IsFormed (roster h) plan form → a ≡ answer plan.query h → FormFits R form a
form_fits R h forms.Own plan a r ok formed e = tt
form_fits R h (forms.RolledUp upper) plan a r ok formed e = λ def i.
    let n = upper.view in
    let at : view_of (roster h) n ≡ Some def = sym (ap (λ x. view_of x n) r) ∙ i in
    let shown : a ≡ answer_of_view n h all_starts (Some def) = e ∙ ap (λ q. answer q h) formed ∙ ap (answer_of_view n h all_starts) at in
    subst (FitsRollUp def.fold) (sym shown) (record {
      rows = answers_show_groups n h all_starts def ok at;
      stale = answers_have_whole_ranges n h all_starts def (view_width h n def ok at);
    })
form_fits R h (forms.Calendar cal) plan a r ok formed e = record { number = formed.number; columns = formed.columns; rows = calendar_fits h cal plan.query a ok formed e }
