-- Alike histories have the same answers and windows, and each call does the same at both.
use Rattle.std.proofs.Common.{◌≡◌, ℕ, suc, Bool, true, false, ◌&&◌, cond, nat_lt, List, [], ◌∷◌, ◌++◌, map, length, ℤ, Option, Some, None, ◌⊎◌, ⊎_elim, sym, refl, ap, ◌∙◌, subst}
use Rattle.std.specs.Prelude.{flat_map, is_some}
use Rattle.std.proofs.lemmas.Bool.{true≢false, and_parts, cond-true, cond-false, cases_Bool}
use Rattle.ts_num.specs.Aggregates.{greater}
use Rattle.ts_num.specs.declared.values.Datum.{Datum}
use Rattle.ts_bucket.specs.Bucket.{is_bucket}
use Rattle.ts_bucket.specs.WholeSpans.{is_below}
use Rattle.ts_bucket.specs.declared.spans.Span.{Span}
use Rattle.ts_bucket.specs.declared.widths.Width.{Width}
use Rattle.ts_model.specs.declared.events.Event.{Event}
use Rattle.ts_model.specs.declared.events.Event.TheVariants.{Table, Hyper, View, Mode, Commit, Cut, Built}
use Rattle.ts_model.specs.declared.events.Op.{Op}
use Rattle.ts_model.specs.declared.outcomes.Refusal.{Refusal}
use Rattle.ts_model.specs.declared.queries.Query.{Query}
use Rattle.ts_model.specs.declared.queries.Query.TheVariants.{Rows, Buckets, Aggregate}
use Rattle.ts_model.specs.declared.refreshes.Pending.{Pending}
use Rattle.ts_model.specs.declared.refreshes.Pending.TheVariants.{Waiting, Finished, Unknown}
use Rattle.ts_model.specs.declared.refreshes.Window.{Window}
use Rattle.ts_model.specs.declared.refreshes.Window.TheVariants.{Whole, NoBucket, Nothing}
use Rattle.ts_model.specs.declared.tables.Hyper.{Hyper as HyperInfo}
use Rattle.ts_model.specs.declared.tables.TableDef.{TableDef}
use Rattle.ts_model.specs.declared.views.ViewDef.{ViewDef}
use Rattle.ts_model.specs.History.{History, position}
use Rattle.ts_model.specs.Roster.{IsOf, roster, hyper_of, view_of, is_taken}
use Rattle.ts_model.specs.Rows.{rows}
use Rattle.ts_model.specs.Scratch.{scratch, scratch_of, fold_rows}
use Rattle.ts_model.specs.Groups.{cells_of}
use Rattle.ts_model.specs.Pending.{pending}
use Rattle.ts_model.specs.Refreshes.{last, touched, watermark, is_invalid, invalid, stale}
use Rattle.ts_model.specs.Answers.{buckets_in, left_by, shown, with_bucket, ranges, answer_of_view, passing_rows, answer}
use Rattle.ts_model.specs.Windows.{last_end, window_up_to, window}
use Rattle.ts_model.specs.declared.outcomes.CutDone.TheVariants.{Cut as CutMade, Nothing as NothingDone}
use Rattle.ts_model.specs.Effect.{appended_count, taken_count}
use Rattle.ts_model.specs.Limits.{most_relations, last_position}
use Rattle.ts_model.specs.Calls.{act_of_event, Act, refuses, returns, makes, new_relation, act_with_number, refusal, making_table, making_hyper, making_view, setting_mode, commit_result, act_of_commit, cut_over, cut_of_view, act_of_cut, finish_of, act_of_finish}
use Rattle.ts_model.specs.Numbers.{name_taken, no_bucket, no_refresh, too_many, history_full}
use Rattle.image_laws.specs.Alike.{AlikeView, Alike, AlikeAnswers}
use Rattle.ts_model.proofs.RangeLaws.{RisingBuckets, rising-buckets_in}
use Rattle.ts_model.proofs.RosterLaws.{is_of_itself}

-- ---- functions of the same buckets

flat_same : {X : Type 0} (w : Width) (f g : ℤ → List X) (bs : List ℤ) (low : ℤ) → RisingBuckets w low bs → ((b : ℤ) → is_bucket w b ≡ true → f b ≡ g b) → flat_map f bs ≡ flat_map g bs
flat_same w f g [] low r e = refl
flat_same w f g (b ∷ bs) low r e = ap (λ xs. xs ++ flat_map f bs) (e b r.1) ∙ ap (λ ys. g b ++ ys) (flat_same w f g bs _ r.2 e)

ranges_same : (w : Width) (f g : ℤ → Bool) (bs : List ℤ) (low : ℤ) → RisingBuckets w low bs → ((b : ℤ) → is_bucket w b ≡ true → f b ≡ g b) → ranges w f bs ≡ ranges w g bs
ranges_same w f g [] low r e = refl
ranges_same w f g (b ∷ bs) low r e = ap (λ t. cond t (with_bucket w b (ranges w f bs)) (ranges w f bs)) (e b r.1) ∙ ap (λ ss. cond (g b) (with_bucket w b ss) ss) (ranges_same w f g bs _ r.2 e)

module _ (n : ℕ) (def : ViewDef) (g h : History) (stored : (t : ℕ) → rows t g ≡ rows t h) (v : AlikeView n def g h) (b : ℤ) (bucket : is_bucket def.fold.width b ≡ true) where
  invalid_as : (o : Option ℕ) → last n g b ≡ o → is_invalid n def g b o ≡ is_invalid n def h b o
  invalid_as None e = refl
  invalid_as (Some s) e = v.touches b s bucket e

  invalid_same : invalid n def g b ≡ invalid n def h b
  invalid_same = invalid_as (last n g b) refl ∙ ap (is_invalid n def h b) (v.lasts b bucket)

  stale_same : stale n def g b ≡ stale n def h b
  stale_same = ap (λ m. is_below b m && invalid n def g b) v.marks ∙ ap (λ t. is_below b (watermark n def h) && t) invalid_same

  left_as : (o : Option ℕ) → last n g b ≡ o → is_invalid n def g b o ≡ true → left_by n def g b o ≡ left_by n def h b o
  left_as None e t = refl
  left_as (Some s) e t = ap (map (cells_of def.fold)) (v.left b s bucket e t)

  scratch_same : scratch def g b ≡ scratch def h b
  scratch_same = ap (scratch_of def.fold b) (stored def.table)

  shown_same : shown n def g b ≡ shown n def h b
  shown_same =
      ⊎_elim
      (λ (t : stale n def g b ≡ true).
      let bad : invalid n def g b ≡ true = (and_parts (is_below b (watermark n def g)) (invalid n def g b) t).1 in
      cond-true (stale n def g b) (left_by n def g b (last n g b)) _ t
      ∙ left_as (last n g b) refl bad
      ∙ ap (left_by n def h b) (v.lasts b bucket)
      ∙ sym (cond-true (stale n def h b) (left_by n def h b (last n h b)) (cond (is_below b (watermark n def h)) (scratch def h b) (cond def.only [] (scratch def h b))) (sym stale_same ∙ t)))
      (λ (t : stale n def g b ≡ false).
      cond-false (stale n def g b) (left_by n def g b (last n g b)) _ t
      ∙ ap (λ m. cond (is_below b m) (scratch def g b) (cond def.only [] (scratch def g b))) v.marks
      ∙ ap (λ x. cond (is_below b (watermark n def h)) x (cond def.only [] x)) scratch_same
      ∙ sym (cond-false (stale n def h b) (left_by n def h b (last n h b)) (cond (is_below b (watermark n def h)) (scratch def h b) (cond def.only [] (scratch def h b))) (sym stale_same ∙ t)))
      (cases_Bool (stale n def g b))

view_answers : (n : ℕ) (starts : Span) (g h : History) → Alike g h → (o : Option ViewDef) → view_of (roster g) n ≡ o → answer_of_view n g starts o ≡ answer_of_view n h starts o
view_answers n starts g h a None there = refl
view_answers n starts g h a (Some def) there =
    let v = a.views n def (is_of_itself def (view_of (roster g) n) there) in
    let w = def.fold.width in
    let rising = rising-buckets_in w starts in
    let rows_same : flat_map (shown n def g) (buckets_in w starts) ≡ flat_map (shown n def h) (buckets_in w starts) = flat_same w (shown n def g) (shown n def h) (buckets_in w starts) starts.lo rising (λ b bucket. shown_same n def g h a.stored v b bucket) in
    let stale_ranges : ranges w (stale n def g) (buckets_in w starts) ≡ ranges w (stale n def h) (buckets_in w starts) = ranges_same w (stale n def g) (stale n def h) (buckets_in w starts) starts.lo rising (λ b bucket. stale_same n def g h a.stored v b bucket) in
    λ i. record { rows = rows_same i; stale = stale_ranges i }

answers_same : (query : Query) (g h : History) → Alike g h → answer query g ≡ answer query h
answers_same (Rows t tests) g h a = λ i. record { rows = passing_rows (a.stored t i) tests (hyper_of (a.relations i) t); stale = [] }
answers_same (Buckets t fold) g h a = λ i. record { rows = fold_rows fold (a.stored t i); stale = [] }
answers_same (Aggregate n starts) g h a =
    view_answers n starts g h a (view_of (roster g) n) refl ∙ ap (λ r. answer_of_view n h starts (view_of r n)) a.relations

windows_same : (n : ℕ) (def : ViewDef) (lo hi : Option ℤ) (g h : History) → Alike g h → view_of (roster g) n ≡ Some def → window n def g lo hi ≡ window n def h lo hi
windows_same n def lo None g h a there =
    let v = a.views n def (is_of_itself def (view_of (roster g) n) there) in
    ap (λ m. window_up_to def.fold.width lo (greater m (last_end def.fold.width (rows def.table g)))) v.marks
    ∙ ap (λ rs. window_up_to def.fold.width lo (greater (watermark n def h) (last_end def.fold.width rs))) (a.stored def.table)
windows_same n def lo (Some hi) g h a there = refl

-- ---- calls

pub refusal_same : (code mark : ℕ) (g h : History) → position g ≡ position h → refusal code g mark ≡ refusal code h mark
refusal_same code mark g h e = ap (λ p. record { code = code; pos = p; mark = mark }) e

-- an event is created at both, or at neither
made_same : {A : Type 0} (g h : History) (e : Event) (a : ℕ → A) → position g ≡ position h → act_of_event g e (a (position g)) ≡ act_of_event h e (a (position h))
made_same g h e a p = ap (λ q. cond (nat_lt q last_position) (makes e (a q)) (refuses (record { code = history_full; pos = q; mark = 0 }))) p

relation_same : (g h : History) (taken : Bool) (many : ℕ) (e : Event) → position g ≡ position h → new_relation g taken many e ≡ new_relation h taken many e
relation_same g h true many e p = ap refuses (refusal_same name_taken 0 g h p)
relation_same g h false many e p =
    elim (nat_lt many most_relations) as (λ t. cond t (act_with_number g e) (refuses (refusal too_many g (suc most_relations))) ≡ cond t (act_with_number h e) (refuses (refusal too_many h (suc most_relations)))) [
      | true ↦ made_same g h e suc p
      | false ↦ ap refuses (refusal_same too_many (suc most_relations) g h p)
    ]

hyper_same : (g h : History) (was : Bool) (e : Event) → position g ≡ position h → cond was (refuses (refusal name_taken g 0)) (act_with_number g e) ≡ cond was (refuses (refusal name_taken h 0)) (act_with_number h e)
hyper_same g h true e p = ap refuses (refusal_same name_taken 0 g h p)
hyper_same g h false e p = made_same g h e suc p

cut_same : (n : ℕ) (g h : History) (w : Window) → position g ≡ position h → cut_over n g w ≡ cut_over n h w
cut_same n g h (Whole span) p = made_same g h (Cut n span) (λ q. CutMade (suc q) span) p
cut_same n g h NoBucket p = ap refuses (refusal_same no_bucket 0 g h p)
cut_same n g h Nothing p = ap (λ q. returns (NothingDone q)) p

cut_by_view : (n : ℕ) (lo hi : Option ℤ) (g h : History) → Alike g h → (o : Option ViewDef) → view_of (roster g) n ≡ o → cut_of_view n lo hi g o ≡ cut_of_view n lo hi h o
cut_by_view n lo hi g h a None there = ap (λ q. returns (NothingDone q)) a.places
cut_by_view n lo hi g h a (Some def) there = cut_same n g h (window n def g lo hi) a.places ∙ ap (cut_over n h) (windows_same n def lo hi g h a there)

finish_same : (cut snap : ℕ) (g h : History) (q : Pending) → position g ≡ position h → finish_of cut snap g q ≡ finish_of cut snap h q
finish_same cut snap g h (Waiting n) p = made_same g h (Built cut snap) suc p
finish_same cut snap g h (Finished f) p = ap refuses (refusal_same no_refresh f g h p)
finish_same cut snap g h Unknown p = ap refuses (refusal_same no_refresh 0 g h p)

pub alike_answers : AlikeAnswers
alike_answers = record {
  answers = answers_same;
  windows = windows_same;
  tables = λ def g h a.
      relation_same g h (is_taken (roster g) def.name) (length (roster g).tables) (Table def) a.places
      ∙ ap (λ r. new_relation h (is_taken r def.name) (length r.tables) (Table def)) a.relations;
  hypers = λ t hyper g h a.
      hyper_same g h (is_some (hyper_of (roster g) t)) (Hyper t hyper) a.places
      ∙ ap (λ r. cond (is_some (hyper_of r t)) (refuses (refusal name_taken h 0)) (act_with_number h (Hyper t hyper))) a.relations;
  views_made = λ def g h a.
      relation_same g h (is_taken (roster g) def.name) (length (roster g).views) (View def) a.places
      ∙ ap (λ r. new_relation h (is_taken r def.name) (length r.views) (View def)) a.relations;
  modes = λ n only g h a. made_same g h (Mode n only) suc a.places;
  commits = λ ops g h a. λ i. cond (nat_lt (a.places i) last_position) (makes (Commit ops) (record {
    pos = suc (a.places i);
    inserted = appended_count (length (a.relations i).tables) ops;
    removed = taken_count (length (a.relations i).tables) ops (λ t. a.stored t i);
  })) (refuses (record { code = history_full; pos = a.places i; mark = 0 }));
  cuts = λ n lo hi g h a. cut_by_view n lo hi g h a (view_of (roster g) n) refl ∙ ap (λ r. cut_of_view n lo hi h (view_of r n)) a.relations;
  finishes = λ cut snap g h a. finish_same cut snap g h (pending g cut) a.places ∙ ap (finish_of cut snap h) (a.refreshes cut);
}
