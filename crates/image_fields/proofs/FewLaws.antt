-- An image whose groups have few rows is that of a history whose stored groups have few rows.
use Rattle.std.proofs.Common.{◌≡◌, ℕ, zero, suc, ◌^◌, Bool, true, false, ◌&&◌, nat_lt, cond, List, [], ◌∷◌, map, filter, ℤ, Option, Some, None, refl, sym, ◌∙◌, ap}
use Rattle.std.specs.Prelude.{slice_get, unwrap_or}
use Rattle.std.specs.List.{list_all}
use Rattle.std.specs.Ordering.{int_eq}
use Rattle.std.proofs.lemmas.Bool.{and_parts, cond-true}
use Rattle.partial_agg.specs.declared.groups.Group.{Group}
use Rattle.partial_agg.specs.Summaries.{Summary}
use Rattle.ts_bucket.specs.Bucket.{is_bucket}
use Rattle.ts_model.specs.declared.images.Image.{Image}
use Rattle.ts_model.specs.declared.images.SavedGroup.{SavedGroup}
use Rattle.ts_model.specs.declared.images.SavedView.{SavedView}
use Rattle.ts_model.specs.declared.images.Sums.{Sums}
use Rattle.ts_model.specs.declared.views.ViewDef.{ViewDef}
use Rattle.ts_model.specs.declared.events.Event.{Event}
use Rattle.ts_model.specs.History.{History}
use Rattle.ts_model.specs.Refreshes.{last}
use Rattle.ts_model.specs.Roster.{roster, view_of}
use Rattle.ts_model.specs.Saved.{group_of, groups_among, nothing_saved, saved_view, summary_of}
use Rattle.ts_model.specs.Valid.{valid}
use Rattle.ts_model.specs.Allowed.{all_allowed}
use Rattle.base_image.specs.Outlines.{with_rows}
use Rattle.image_laws.specs.Images.{AreFew, ImagesAreValid, IsImage, groups_left, was_left}
use Rattle.image_fields.specs.Counts.{few_in_group, few_in_image, few_in_view, few_rows}

abbrev is_few : Group → Bool
is_few g = list_all (λ s. nat_lt s.count (2 ^ 62)) g.parts

parts_few : (parts : List Sums) → list_all few_rows parts ≡ true → list_all (λ (s : Summary). nat_lt s.count (2 ^ 62)) (map summary_of parts) ≡ true
parts_few [] few = refl
parts_few (s ∷ parts) few = let both = and_parts _ _ few in λ k. both.0 k && parts_few parts both.1 k

among_few : (gs : List SavedGroup) (b : ℤ) → list_all few_in_group gs ≡ true → list_all is_few (groups_among gs b) ≡ true
among_few [] b few = refl
among_few (g ∷ gs) b few =
    let both = and_parts (few_in_group g) (list_all few_in_group gs) few in
    by_place (int_eq g.start b) (among_few gs b both.1) (parts_few g.parts both.0)
  where
    by_place : (here : Bool) → list_all is_few (groups_among gs b) ≡ true → is_few (group_of g) ≡ true
        → list_all is_few (map group_of (cond here (g ∷ filter (λ (x : SavedGroup). int_eq x.start b) gs) (filter (λ (x : SavedGroup). int_eq x.start b) gs))) ≡ true
    by_place true rest first = λ k. first k && rest k
    by_place false rest first = rest

view_few : (views : List SavedView) (n : ℕ) → list_all few_in_view views ≡ true → few_in_view (unwrap_or (slice_get views n) nothing_saved) ≡ true
view_few [] n few = refl
view_few (v ∷ views) zero few = (and_parts (few_in_view v) (list_all few_in_view views) few).0
view_few (v ∷ views) (suc n) few = view_few views n (and_parts (few_in_view v) (list_all few_in_view views) few).1

pub are_few : (h : History) (i : Image) → IsImage h i → few_in_image i ≡ true → AreFew h
are_few h i is few n def b view whole left =
    let there : groups_among (saved_view n i).groups b ≡ groups_left n def h b (last n h b) = (is.views n def view).groups b whole ∙ cond-true _ (groups_left n def h b (last n h b)) [] left in
    ap (list_all is_few) (sym there) ∙ among_few (saved_view n i).groups b (view_few i.views n few)

-- the image of an allowed history is valid if its groups have few rows
pub is_valid : (h : History) (i : Image) → ImagesAreValid → all_allowed h ≡ true → IsImage h i → few_in_image i ≡ true → valid i ≡ true
is_valid h i law allowed is few = law h i allowed (are_few h i is few) is

-- the same for an image with these commits as its rows
pub is_valid_with : (h : History) (events : List Event) (i : Image) → ImagesAreValid → all_allowed h ≡ true → IsImage h (with_rows events i) → few_in_image i ≡ true → valid (with_rows events i) ≡ true
is_valid_with h events i law allowed is few = is_valid h (with_rows events i) law allowed is few
