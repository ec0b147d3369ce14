-- The parts of images, and images, are read exactly.
use Rattle.std.proofs.Common.{◌≡◌, ℕ, ◌≤◌, Bool, true, false, cond, nat_le, List, [], ◌∷◌, ◌++◌, length, length-append, length-take, take, drop, Result, Ok, Err, refl, sym, ap, subst, ◌∙◌, arith}
use Rattle.std.specs.Prelude.{◌==◌}
use Rattle.std.specs.List.{flat_map}
use Rattle.std.proofs.lemmas.Bool.{eqb-true, leb-true, le-leb}
use Rattle.std.proofs.lemmas.List.{append-nil, take_at, drop_at, take-append-drop}
use Rattle.ts_model.specs.Roster.{no_relations, roster_over}
use Rattle.ts_model.specs.Valid.{make_relations}
use Rattle.ts_model.specs.declared.events.Event.{Event}
use Rattle.ts_model.specs.declared.images.Finished.{Finished}
use Rattle.ts_model.specs.declared.images.Image.{Image}
use Rattle.ts_model.specs.declared.images.SavedGroup.{SavedGroup}
use Rattle.ts_model.specs.declared.images.SavedView.{SavedView}
use Rattle.ts_model.specs.declared.refreshes.Waiting.{Waiting}
use Rattle.ts_model.specs.declared.rosters.Roster.{Roster}
use Rattle.ts_model.specs.declared.views.ViewDef.{ViewDef}
use Rattle.event_codec.specs.Formed.{Many, IsFour, IsEight, IsValue, IsSpan, IsFormed as IsFormedEvent}
use Rattle.event_codec.specs.Spelling.{four, eight, many, event}
use Rattle.event_codec.specs.Reading.{go_on, pair, put_before, items, second, any_four, any_eight, any_word, many_of, value_at, span_at, whole_event, at_end as event_end}
use Rattle.event_codec.proofs.Formats.{Stands, Source, byte_format, went_on, done, same_value, same_left}
use Rattle.event_codec.proofs.NumberLaws.{any_four_format, any_eight_format, any_word_format}
use Rattle.event_codec.proofs.Parts.{value_format, span_format}
use Rattle.event_codec.proofs.Decodings.{is_formed, is_spelled, is_read}
use Rattle.base_image.specs.declared.shapes.Shape.{Shape}
use Rattle.base_image.specs.Formed.{IsFramed, IsSums, IsGroup, IsLast, IsWaiting, IsFinished}
use Rattle.base_image.specs.Reading.{checked_by, wide_at, past_part, frame_body, framed_at, to_sums, sums_at, to_group, group_at, to_last, last_at, to_saved, saved_at, shape_of, saved_each, views_at, to_waiting, waiting_at, to_finished, finished_at, with_roster, roster_at, to_image, image_at, at_end, whole_image}
use Rattle.base_image.specs.Spelling.{bytes_of_frame, sums, group, last, bytes_of_saved_view, bytes_of_waiting, bytes_of_finished, image}
use Rattle.base_image.proofs.Exact.{IsExact, exact, checked_exact, pair_exact, map_exact, items_exact, many_exact}
use Rattle.base_image.proofs.WideLaws.{wide_exact}

-- ---- events

-- an event of n bytes
abbrev IsOfBytes : ℕ → Event → Type 0
IsOfBytes n e = (length (event e) ≡ n) × IsFormedEvent e

whole_again : (e : Event) → IsFormedEvent e → whole_event (event e) ≡ Ok (e, [])
unfolding whole_event
whole_again e f = ap (λ (r : Result (Event × List ℕ) (List ℕ)). go_on r event_end) (is_read e f)

-- the first n bytes were read as an event
passed_is : (bytes here rest left : List ℕ) (e : Event) (r : Result (Event × List ℕ) (List ℕ)) → whole_event bytes ≡ r → past_part r here rest ≡ Ok (e, left) → (end : List ℕ) × (whole_event bytes ≡ Ok (e, end)) × (rest ≡ left)
passed_is bytes here rest left e (Ok x) is h =
    let value = same_value x.0 e rest left h in
    (x.1, is ∙ ap (λ (d : Event). done d x.1) value, same_left x.0 e rest left h)
passed_is bytes here rest left e (Err end) is h = absurd cc

body_takes : (n : ℕ) (bytes : List ℕ) (e : Event) (left : List ℕ) → frame_body n bytes ≡ Ok (e, left) → Stands event (IsOfBytes n) bytes e left
body_takes n bytes e left h = by_test (nat_le n (length bytes)) refl h
  where
    by_test : (t : Bool) → nat_le n (length bytes) ≡ t → cond t (past_part (whole_event (take n bytes)) bytes (drop n bytes)) (Err bytes) ≡ Ok (e, left) → Stands event (IsOfBytes n) bytes e left
    by_test true is h =
        let p = passed_is (take n bytes) bytes (drop n bytes) left e (whole_event (take n bytes)) refl h in
        let spelled = is_spelled (take n bytes) e p.0 p.1 in
        let within : n ≤ length bytes = leb-true n (length bytes) is in
        record {
          ok = (omega (arith, ap length spelled, length-take n bytes, within), is_formed (take n bytes) e p.0 p.1);
          parts = sym (take-append-drop n bytes) ∙ ap (λ (l : List ℕ). l ++ drop n bytes) spelled ∙ ap (λ (l : List ℕ). event e ++ l) p.2;
        }
    by_test false is h = absurd cc

body_again : (n : ℕ) (e : Event) (left : List ℕ) → IsOfBytes n e → frame_body n (event e ++ left) ≡ Ok (e, left)
body_again n e left h =
    let within : nat_le n (length (event e ++ left)) ≡ true = le-leb n (length (event e ++ left)) (omega (arith, length-append (event e) left, h.0)) in
    ap (λ (t : Bool). cond t (past_part (whole_event (take n (event e ++ left))) (event e ++ left) (drop n (event e ++ left))) (Err (event e ++ left))) within
    ∙ ap (λ (l : List ℕ). past_part (whole_event l) (event e ++ left) (drop n (event e ++ left))) (take_at (event e) left n h.0)
    ∙ ap (λ (r : Result (Event × List ℕ) (List ℕ)). past_part r (event e ++ left) (drop n (event e ++ left))) (whole_again e h.1)
    ∙ ap (λ (l : List ℕ). done e l) (drop_at (event e) left n h.0)

pub framed_exact : IsExact bytes_of_frame IsFramed framed_at
unfolding framed_at
framed_exact = map_exact second (λ x. four x.0 ++ event x.1) (λ x. IsFour x.0 × IsOfBytes x.0 x.1) (pair any_four frame_body) bytes_of_frame IsFramed
    (pair_exact four IsFour any_four (λ n. event) IsOfBytes frame_body (exact any_four_format) (λ n h. record { takes = body_takes n; again = body_again n }))
    (record {
      there = λ x h. ((h.1.1, subst IsFour (sym h.1.0) h.0), ap (λ (n : ℕ). four n ++ event x.1) h.1.0);
      back = λ e h. record { value = (length (event e), e); ok = (h.1, (refl, h.0)); same = refl; spelled = refl };
    })

-- ---- groups

pub sums_exact : IsExact sums IsSums sums_at
unfolding sums_at
sums_exact = map_exact to_sums _ _ (pair any_eight (λ count. pair any_eight (λ values. pair wide_at (λ sum. pair value_at (λ least. value_at))))) sums IsSums
    (pair_exact _ _ _ _ _ _ (exact any_eight_format) (λ count h. pair_exact _ _ _ _ _ _ (exact any_eight_format) (λ values i. pair_exact _ _ _ _ _ _ wide_exact (λ sum j. pair_exact _ _ _ _ _ _ (exact value_format) (λ least k. exact value_format)))))
    (record {
      there = λ x h. (record { count = h.0; values = h.1.0; sum = h.1.1.0; least = h.1.1.1.0; most = h.1.1.1.1 }, refl);
      back = λ s h. record { value = (s.count, (s.values, (s.sum, (s.least, s.most)))); ok = (h.count, (h.values, (h.sum, (h.least, h.most)))); same = refl; spelled = refl };
    })

-- a group of a shape
pub record IsGroupOf (shape : Shape) (g : SavedGroup) : Type 0 where
  pub formed : IsGroup g
  pub keys : length g.keys ≡ shape.keys
  pub parts : length g.parts ≡ shape.parts

pub group_exact : (shape : Shape) → IsExact group (IsGroupOf shape) (group_at shape)
unfolding group_at
group_exact shape = map_exact to_group _ _ (pair any_word (λ start. pair (items shape.keys value_at) (λ keys. items shape.parts sums_at))) group (IsGroupOf shape)
    (pair_exact _ _ _ _ _ _ (exact any_word_format) (λ start h. pair_exact _ _ _ _ _ _ (items_exact _ _ _ (exact value_format) shape.keys) (λ keys i. items_exact _ _ _ sums_exact shape.parts)))
    (record {
      there = λ x h. (record { formed = record { start = h.0; keys = h.1.0.1; parts = h.1.1.1 }; keys = h.1.0.0; parts = h.1.1.0 }, refl);
      back = λ g h. record { value = (g.start, (g.keys, g.parts)); ok = (h.formed.start, ((h.keys, h.formed.keys), (h.parts, h.formed.parts))); same = refl; spelled = refl };
    })

-- ---- aggregates

pub last_exact : IsExact last IsLast last_at
unfolding last_at
last_exact = map_exact to_last _ _ (pair span_at (λ span. any_eight)) last IsLast
    (pair_exact _ _ _ _ _ _ (exact span_format) (λ span h. exact any_eight_format))
    (record { there = λ x h. (h, refl); back = λ l h. record { value = (l.span, l.pos); ok = h; same = refl; spelled = refl } })

-- what is kept of an aggregate whose groups have a shape
pub record IsSavedOf (shape : Shape) (v : SavedView) : Type 0 where
  pub lasts : Many IsLast v.lasts
  pub dirty : Many IsSpan v.dirty
  pub groups : Many (IsGroupOf shape) v.groups
  pub mark : IsValue v.mark

pub saved_exact : (shape : Shape) → IsExact bytes_of_saved_view (IsSavedOf shape) (saved_at shape)
unfolding saved_at
saved_exact shape = map_exact to_saved _ _ (pair (many_of last_at) (λ lasts. pair (many_of span_at) (λ dirty. pair (many_of (group_at shape)) (λ groups. value_at)))) bytes_of_saved_view (IsSavedOf shape)
    (pair_exact _ _ _ _ _ _ (many_exact _ _ _ last_exact) (λ lasts h. pair_exact _ _ _ _ _ _ (many_exact _ _ _ (exact span_format)) (λ dirty i. pair_exact _ _ _ _ _ _ (many_exact _ _ _ (group_exact shape)) (λ groups j. exact value_format))))
    (record {
      there = λ x h. (record { lasts = h.0; dirty = h.1.0; groups = h.1.1.0; mark = h.1.1.1 }, refl);
      back = λ v h. record { value = (v.lasts, (v.dirty, (v.groups, v.mark))); ok = (h.lasts, (h.dirty, (h.groups, h.mark))); same = refl; spelled = refl };
    })

-- one for each aggregate
abbrev pub AreSavedOf : List ViewDef → List SavedView → Type 0
AreSavedOf [] [] = Unit {0}
AreSavedOf [] (v ∷ vs) = ⊥
AreSavedOf (def ∷ defs) [] = ⊥
AreSavedOf (def ∷ defs) (v ∷ vs) = IsSavedOf (shape_of def) v × AreSavedOf defs vs

as_many : (defs : List ViewDef) (vs : List SavedView) → AreSavedOf defs vs → length vs ≡ length defs
as_many [] [] h = refl
as_many [] (v ∷ vs) h = absurd h
as_many (def ∷ defs) [] h = absurd h
as_many (def ∷ defs) (v ∷ vs) h = omega (arith, as_many defs vs h.1)

each_exact : (defs : List ViewDef) → IsExact (flat_map bytes_of_saved_view) (AreSavedOf defs) (saved_each defs)
unfolding saved_each
each_exact [] = record {
  takes = λ bytes vs left e. let none = same_value [] vs bytes left e in record { ok = subst (AreSavedOf []) none tt; parts = same_left [] vs bytes left e ∙ ap (λ (l : List SavedView). flat_map bytes_of_saved_view l ++ left) none };
  again = none;
}
  where
    none : (vs : List SavedView) (left : List ℕ) → AreSavedOf [] vs → saved_each [] (flat_map bytes_of_saved_view vs ++ left) ≡ Ok (vs, left)
    none [] left h = refl
    none (v ∷ vs) left h = absurd h
each_exact (def ∷ defs) = map_exact put_before (λ x. bytes_of_saved_view x.0 ++ flat_map bytes_of_saved_view x.1) (λ x. IsSavedOf (shape_of def) x.0 × AreSavedOf defs x.1) (pair (saved_at (shape_of def)) (λ v. saved_each defs)) (flat_map bytes_of_saved_view) (AreSavedOf (def ∷ defs))
    (pair_exact _ _ _ _ _ _ (saved_exact (shape_of def)) (λ v h. each_exact defs))
    (record { there = λ x h. (h, refl); back = back })
  where
    back : (vs : List SavedView) → AreSavedOf (def ∷ defs) vs → Source put_before (λ (x : SavedView × List SavedView). bytes_of_saved_view x.0 ++ flat_map bytes_of_saved_view x.1) (λ x. IsSavedOf (shape_of def) x.0 × AreSavedOf defs x.1) (flat_map bytes_of_saved_view) vs
    back [] h = absurd h
    back (v ∷ vs) h = record { value = (v, vs); ok = h; same = refl; spelled = refl }

-- as many as a count says
abbrev pub AreViewsOf : List ViewDef → List SavedView → Type 0
AreViewsOf defs vs = IsFour (length vs) × AreSavedOf defs vs

pub views_exact : (defs : List ViewDef) → IsExact (many bytes_of_saved_view) (AreViewsOf defs) (views_at defs)
unfolding views_at
views_exact defs = map_exact second (λ x. four x.0 ++ flat_map bytes_of_saved_view x.1) (λ x. (IsFour x.0 × ((x.0 == length defs) ≡ true)) × AreSavedOf defs x.1) (pair (checked_by (λ n. n == length defs) any_four) (λ n. saved_each defs)) (many bytes_of_saved_view) (AreViewsOf defs)
    (pair_exact _ _ _ _ _ _ (checked_exact (λ n. n == length defs) _ _ _ (exact any_four_format)) (λ n h. each_exact defs))
    (record { there = there; back = back })
  where
    there : (x : ℕ × List SavedView) → (IsFour x.0 × ((x.0 == length defs) ≡ true)) × AreSavedOf defs x.1 → AreViewsOf defs x.1 × (many bytes_of_saved_view x.1 ≡ four x.0 ++ flat_map bytes_of_saved_view x.1)
    there x h =
        let same : length x.1 ≡ x.0 = as_many defs x.1 h.1 ∙ sym (eqb-true x.0 (length defs) h.0.1) in
        ((subst IsFour (sym same) h.0.0, h.1), ap (λ (n : ℕ). four n ++ flat_map bytes_of_saved_view x.1) same)

    equal : (m n : ℕ) → m ≡ n → (m == n) ≡ true
    equal m n e = grind (arith)

    back : (vs : List SavedView) → AreViewsOf defs vs → Source second (λ (x : ℕ × List SavedView). four x.0 ++ flat_map bytes_of_saved_view x.1) (λ x. (IsFour x.0 × ((x.0 == length defs) ≡ true)) × AreSavedOf defs x.1) (many bytes_of_saved_view) vs
    back vs h = record { value = (length vs, vs); ok = ((h.0, equal (length vs) (length defs) (as_many defs vs h.1)), h.1); same = refl; spelled = refl }

-- ---- refreshes

pub waiting_exact : IsExact bytes_of_waiting IsWaiting waiting_at
unfolding waiting_at
waiting_exact = map_exact to_waiting _ _ (pair any_eight (λ cut. pair any_four (λ view. span_at))) bytes_of_waiting IsWaiting
    (pair_exact _ _ _ _ _ _ (exact any_eight_format) (λ cut h. pair_exact _ _ _ _ _ _ (exact any_four_format) (λ view i. exact span_format)))
    (record { there = λ x h. (record { cut = h.0; view = h.1.0; span = h.1.1 }, refl); back = λ w h. record { value = (w.cut, (w.view, w.span)); ok = (h.cut, (h.view, h.span)); same = refl; spelled = refl } })

pub finished_exact : IsExact bytes_of_finished IsFinished finished_at
unfolding finished_at
finished_exact = map_exact to_finished _ _ (pair any_eight (λ cut. any_eight)) bytes_of_finished IsFinished
    (pair_exact _ _ _ _ _ _ (exact any_eight_format) (λ cut h. exact any_eight_format))
    (record { there = λ x h. (h, refl); back = λ f h. record { value = (f.cut, f.built); ok = h; same = refl; spelled = refl } })

-- ---- images

-- events with the roster that they create
abbrev pub MakeRoster : List Event × Roster → Type 0
MakeRoster x = (Many IsFramed x.0 × (make_relations no_relations x.0 ≡ true)) × (x.1 ≡ roster_over no_relations x.0)

roster_exact : IsExact (λ x. many bytes_of_frame x.0) MakeRoster roster_at
unfolding roster_at
roster_exact = map_exact with_roster (many bytes_of_frame) (λ es. Many IsFramed es × (make_relations no_relations es ≡ true)) (checked_by (make_relations no_relations) (many_of framed_at)) (λ x. many bytes_of_frame x.0) MakeRoster
    (checked_exact (make_relations no_relations) _ _ _ (many_exact _ _ _ framed_exact))
    (record {
      there = λ es h. ((h, refl), refl);
      back = λ x h. record { value = x.0; ok = h.0; same = ap (λ (r : Roster). (x.0, r)) (sym h.1); spelled = refl };
    })

-- an image whose parts are in range and fit one another, as far as reading checks it
pub record IsReadable (i : Image) : Type 0 where
  pub pos : IsEight i.pos
  pub roster : Many IsFramed i.roster
  pub made : make_relations no_relations i.roster ≡ true
  pub rows : Many IsFramed i.rows
  pub views : AreViewsOf (roster_over no_relations i.roster).views i.views
  pub waiting : Many IsWaiting i.waiting
  pub done : Many IsFinished i.done

abbrev Parts : Type 0
Parts = ℕ × (ℕ × ((List Event × Roster) × (List Event × (List SavedView × (List Waiting × List Finished)))))

abbrev spell_parts : Parts → List ℕ
spell_parts x =
    (x.0 ∷ []) ++ (eight x.1.0 ++ (many bytes_of_frame x.1.1.0.0 ++ (many bytes_of_frame x.1.1.1.0 ++ (many bytes_of_saved_view x.1.1.1.1.0 ++ (many bytes_of_waiting x.1.1.1.1.1.0 ++ many bytes_of_finished x.1.1.1.1.1.1)))))

abbrev fit_parts : Parts → Type 0
fit_parts x =
    ((x.0 == 8) ≡ true) × (IsEight x.1.0 × (MakeRoster x.1.1.0 × (Many IsFramed x.1.1.1.0 × (AreViewsOf x.1.1.0.1.views x.1.1.1.1.0 × (Many IsWaiting x.1.1.1.1.1.0 × Many IsFinished x.1.1.1.1.1.1)))))

-- an image with its roster
abbrev pub WithRoster : Image × Roster → Type 0
WithRoster x = IsReadable x.0 × (x.1 ≡ roster_over no_relations x.0.roster)

abbrev spell_image : Image × Roster → List ℕ
spell_image x = image x.0

image_exact : IsExact spell_image WithRoster image_at
unfolding image_at
image_exact = map_exact to_image spell_parts fit_parts _ spell_image WithRoster
    (pair_exact _ _ _ _ _ _ (exact (byte_format (λ b. b == 8) 8 refl)) (λ kind h. pair_exact _ _ _ _ _ _ (exact any_eight_format) (λ pos i. pair_exact _ _ _ _ _ _ roster_exact (λ made j. pair_exact _ _ _ _ _ _ (many_exact _ _ _ framed_exact) (λ rows k. pair_exact _ _ _ _ _ _ (views_exact made.1.views) (λ views l. pair_exact _ _ _ _ _ _ (many_exact _ _ _ waiting_exact) (λ bytes_of_waiting m. many_exact _ _ _ finished_exact)))))))
    (record { there = there; back = back })
  where
    there : (x : Parts) → fit_parts x → WithRoster (to_image x) × (spell_image (to_image x) ≡ spell_parts x)
    there x h =
        let kind : x.0 ≡ 8 = eqb-true x.0 8 h.0 in (
          (
            record {
              pos = h.1.0;
              roster = h.1.1.0.0.0;
              made = h.1.1.0.0.1;
              rows = h.1.1.1.0;
              views = subst (λ (r : Roster). AreViewsOf r.views x.1.1.1.1.0) h.1.1.0.1 h.1.1.1.1.0;
              waiting = h.1.1.1.1.1.0;
              done = h.1.1.1.1.1.1;
            },
            h.1.1.0.1,
          ),
          ap (λ (n : ℕ). n ∷ (eight x.1.0 ++ (many bytes_of_frame x.1.1.0.0 ++ (many bytes_of_frame x.1.1.1.0 ++ (many bytes_of_saved_view x.1.1.1.1.0 ++ (many bytes_of_waiting x.1.1.1.1.1.0 ++ many bytes_of_finished x.1.1.1.1.1.1)))))) (sym kind),
        )

    back : (x : Image × Roster) → WithRoster x → Source to_image spell_parts fit_parts spell_image x
    back x h = record {
      value = (8, (x.0.pos, ((x.0.roster, x.1), (x.0.rows, (x.0.views, (x.0.waiting, x.0.done))))));
      ok = (refl, (h.0.pos, (((h.0.roster, h.0.made), h.1), (h.0.rows, (subst (λ (r : Roster). AreViewsOf r.views x.0.views) (sym h.1) h.0.views, (h.0.waiting, h.0.done))))));
      same = refl;
      spelled = refl;
    }

ended : (x y : Image × Roster) (left end : List ℕ) → at_end x left ≡ Ok (y, end) → (x ≡ y) × (left ≡ [])
ended x y [] end h = (same_value x y [] end h, refl)
ended x y (b ∷ left) end h = absurd cc

-- reading returns an image with its roster, and reads all bytes
pub image_read : (bytes : List ℕ) (x : Image × Roster) (end : List ℕ) → whole_image bytes ≡ Ok (x, end) → WithRoster x × (bytes ≡ image x.0)
unfolding whole_image
image_read bytes x end h =
    let w = went_on (image_at bytes) at_end (x, end) h in
    let last = ended w.0.0 x w.0.1 end w.2 in
    let one = image_exact.takes bytes w.0.0 w.0.1 w.1 in
    (subst WithRoster last.0 one.ok, one.parts ∙ ap (λ (l : List ℕ). spell_image w.0.0 ++ l) last.1 ∙ append-nil (spell_image w.0.0) ∙ ap spell_image last.0)

-- an image is read
pub image_again : (i : Image) → IsReadable i → whole_image (image i) ≡ Ok ((i, roster_over no_relations i.roster), [])
unfolding whole_image
image_again i h = ap (λ (l : List ℕ). go_on (image_at l) at_end) (sym (append-nil (image i))) ∙ ap (λ (r : Result ((Image × Roster) × List ℕ) (List ℕ)). go_on r at_end) (image_exact.again (i, roster_over no_relations i.roster) [] (h, refl))
