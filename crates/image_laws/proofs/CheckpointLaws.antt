-- Queries after the image of a history have the same answers as after the whole history.
use Rattle.std.proofs.Common.{◌≡◌, ℕ, zero, suc, ◌+◌, ◌-◌, ◌≤◌, true, not, ◌==◌, List, [], ◌∷◌, ◌++◌, filter, sym, ap, ◌∙◌, subst, arith}
use Rattle.ts_model.specs.declared.events.Event.{Event}
use Rattle.ts_model.specs.declared.events.Event.TheVariants.{Table, Hyper, View, Mode, Commit, Cut, Built}
use Rattle.ts_model.specs.declared.images.Image.{Image}
use Rattle.ts_model.specs.declared.queries.Query.{Query}
use Rattle.ts_model.specs.declared.refreshes.Waiting.{Waiting as WaitingRefresh}
use Rattle.ts_model.specs.Allowed.{all_allowed}
use Rattle.ts_model.specs.Answers.{answer}
use Rattle.ts_model.specs.History.{History, resumed, ◌▸◌, ◌▸▸◌, position, prefix}
use Rattle.ts_model.specs.Pending.{waiting}
use Rattle.ts_model.proofs.AllowedLaws.{allowed_begins}
use Rattle.ts_model.proofs.HistoryLaws.{begins_followed, begins_prefix, prefix_end, prefix_stays}
use Rattle.image_laws.specs.Alike.{Alike}
use Rattle.image_laws.specs.Images.{CheckpointsKeep, IsImage}
use Rattle.image_laws.proofs.AlikeAnswers.{alike_answers}
use Rattle.image_laws.proofs.AlikeLaws.{alike_stays}
use Rattle.image_laws.proofs.ImageLaws.{images_are_alike}

-- ---- the refreshes that wait

waiting_next : (g h : History) (e : Event) → position g ≡ position h → waiting g ≡ waiting h → waiting (g ▸ e) ≡ waiting (h ▸ e)
waiting_next g h (Table def) p w = w
waiting_next g h (Hyper t hyper) p w = w
waiting_next g h (View def) p w = w
waiting_next g h (Mode v only) p w = w
waiting_next g h (Commit ops) p w = w
waiting_next g h (Cut v span) p w = λ k. w k ++ (record { cut = suc (p k); view = v; span = span } ∷ [])
waiting_next g h (Built cut snap) p w = ap (filter (λ (r : WaitingRefresh). not (r.cut == cut))) w

waiting_over : (g h : History) (es : List Event) → position g ≡ position h → waiting g ≡ waiting h → waiting (g ▸▸ es) ≡ waiting (h ▸▸ es)
waiting_over g h [] p w = w
waiting_over g h (e ∷ es) p w = waiting_over (g ▸ e) (h ▸ e) es (ap suc p) (waiting_next g h e p w)

-- ---- at a position from the image on

-- the first events, up to a given number
abbrev pub upto : ℕ → List Event → List Event
upto k [] = []
upto zero (e ∷ es) = []
upto (suc k) (e ∷ es) = e ∷ upto k es

prefix_over : (h : History) (es : List Event) (k : ℕ) → prefix (h ▸▸ es) (position h + k) ≡ h ▸▸ upto k es
prefix_over h [] k = prefix_end h (position h + k) (omega arith)
prefix_over h (e ∷ es) zero = prefix_stays (position h + 0) (begins_followed h (e ∷ es)) (omega arith) ∙ prefix_end h (position h + 0) (omega arith)
prefix_over h (e ∷ es) (suc k) =
    let moved : position h + suc k ≡ suc (position h) + k = omega arith in
    ap (prefix ((h ▸ e) ▸▸ es)) moved ∙ prefix_over (h ▸ e) es k

pub prefix_from : (h : History) (es : List Event) (q : ℕ) → position h ≤ q → prefix (h ▸▸ es) q ≡ h ▸▸ upto (q - position h) es
prefix_from h es q l =
    let whole : q ≡ position h + (q - position h) = omega arith in
    ap (prefix (h ▸▸ es)) whole ∙ prefix_over h es (q - position h)

-- ---- the law

alike_after : (h : History) (i : Image) (es : List Event) → all_allowed h ≡ true → IsImage h i → all_allowed (resumed i ▸▸ es) ≡ true → Alike (h ▸▸ es) (resumed i ▸▸ es)
alike_after h i es ok is after = alike_stays.alike h i es ok after (images_are_alike h i ok is)

answers_earlier : (h : History) (i : Image) (es : List Event) (query : Query) (q : ℕ) → all_allowed h ≡ true → IsImage h i → all_allowed (resumed i ▸▸ es) ≡ true → i.pos ≤ q
    → answer query (prefix (h ▸▸ es) q) ≡ answer query (prefix (resumed i ▸▸ es) q)
answers_earlier h i es query q ok is after l =
    let fs = upto (q - i.pos) es in
    let whole : prefix (h ▸▸ es) q ≡ h ▸▸ fs = subst (λ (p : ℕ). p ≤ q → prefix (h ▸▸ es) q ≡ h ▸▸ upto (q - p) es) (sym is.pos) (prefix_from h es q) l in
    let short : prefix (resumed i ▸▸ es) q ≡ resumed i ▸▸ fs = prefix_from (resumed i) es q l in
    let first : all_allowed (resumed i ▸▸ fs) ≡ true = subst (λ (x : History). all_allowed x ≡ true) short (allowed_begins (begins_prefix (resumed i ▸▸ es) q) after) in
    ap (answer query) whole ∙ alike_answers.answers query (h ▸▸ fs) (resumed i ▸▸ fs) (alike_after h i fs ok is first) ∙ ap (answer query) (sym short)

pub checkpoints_keep : CheckpointsKeep
checkpoints_keep = record {
  allowed = λ h i es ok is good. alike_stays.allowed h i es ok good (images_are_alike h i ok is);
  answers = λ h i es query ok is after. alike_answers.answers query (h ▸▸ es) (resumed i ▸▸ es) (alike_after h i es ok is after);
  windows = λ h i es n def lo hi ok is after there. alike_answers.windows n def lo hi (h ▸▸ es) (resumed i ▸▸ es) (alike_after h i es ok is after) there;
  refreshes = λ h i es k ok is after. (alike_after h i es ok is after).refreshes k;
  waits = λ h i es is. waiting_over h (resumed i) es (sym is.pos) (sym is.waits);
  alike = alike_after;
  earlier = answers_earlier;
}
