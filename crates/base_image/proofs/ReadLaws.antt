-- Reading returns a valid image, and each valid image is read.
use Rattle.std.proofs.Common.{◌≡◌, ℕ, true, false, ◌&&◌, ◌==◌, List, [], ◌∷◌, length, Ok, Err, sym, ap, ◌∙◌}
use Rattle.std.specs.List.{list_all, AllByRecursion}
use Rattle.std.proofs.lemmas.Bool.{and_parts, true≢false, eqb-true}
use Rattle.ts_bucket.specs.Bucket.{is_bucket}
use Rattle.ts_bucket.specs.Ranges.{lies_in}
use Rattle.ts_bucket.specs.declared.spans.Span.{Span}
use Rattle.ts_schema.specs.declared.rows.Row.{Row}
use Rattle.ts_model.specs.Roster.{no_relations}
use Rattle.ts_model.specs.Valid.{dirty_fits, group_fits, groups_fit, image_roster, lasts_fit, make_relations, mark_fits, row_marked, sums_fit, valid, view_kept, views_kept}
use Rattle.ts_model.specs.declared.images.Image.{Image}
use Rattle.ts_model.specs.declared.images.SavedGroup.{SavedGroup}
use Rattle.ts_model.specs.declared.images.SavedView.{SavedView}
use Rattle.ts_model.specs.declared.rosters.Roster.{Roster}
use Rattle.ts_model.specs.declared.views.ViewDef.{ViewDef}
use Rattle.ts_model.proofs.ValidLaws.{image_rows, valid_is}
use Rattle.event_codec.proofs.Formats.{same_value}
use Rattle.base_image.specs.Formed.{IsFormed, IsGroup, IsSaved}
use Rattle.base_image.specs.Reading.{shape_of, whole_image}
use Rattle.base_image.specs.Spelling.{image}
use Rattle.base_image.proofs.PartLaws.{AreSavedOf, IsGroupOf, IsReadable, IsSavedOf, image_again, image_read}

-- ---- what is read is formed

groups_formed : (def : ViewDef) (gs : List SavedGroup) → AllByRecursion (IsGroupOf (shape_of def)) gs → AllByRecursion IsGroup gs
groups_formed def [] h = tt
groups_formed def (g ∷ gs) h = (h.0.formed, groups_formed def gs h.1)

views_formed : (defs : List ViewDef) (vs : List SavedView) → AreSavedOf defs vs → AllByRecursion IsSaved vs
views_formed [] [] h = tt
views_formed [] (v ∷ vs) h = absurd h
views_formed (def ∷ defs) [] h = absurd h
views_formed (def ∷ defs) (v ∷ vs) h = (
  record { lasts = h.0.lasts; dirty = h.0.dirty; groups = (h.0.groups.0, groups_formed def v.groups h.0.groups.1); mark = h.0.mark },
  views_formed defs vs h.1,
)

formed : (i : Image) → IsReadable i → IsFormed i
formed i h = record {
  pos = h.pos;
  roster = h.roster;
  rows = h.rows;
  views = (h.views.0, views_formed (image_roster i).views i.views h.views.1);
  waiting = h.waiting;
  done = h.done;
}

-- ---- valid parts in range can be read

group_sized : (def : ViewDef) (dirty : List Span) (g : SavedGroup) → IsGroup g → group_fits def dirty g ≡ true → IsGroupOf (shape_of def) g
group_sized def dirty g is fits =
    let sums = and_parts _ (list_all sums_fit g.parts) fits in
    let parts = and_parts _ (length g.parts == length def.fold.aggs) sums.0 in
    let keys = and_parts (is_bucket def.fold.width g.start && lies_in dirty g.start) (length g.keys == length def.fold.keys) parts.0 in
    record { formed = is; keys = eqb-true _ _ keys.1; parts = eqb-true _ _ parts.1 }

groups_sized : (def : ViewDef) (dirty : List Span) (gs : List SavedGroup) → AllByRecursion IsGroup gs → list_all (group_fits def dirty) gs ≡ true → AllByRecursion (IsGroupOf (shape_of def)) gs
groups_sized def dirty [] h fits = tt
groups_sized def dirty (g ∷ gs) h fits =
    let parts = and_parts (group_fits def dirty g) (list_all (group_fits def dirty) gs) fits in
    (group_sized def dirty g h.0 parts.0, groups_sized def dirty gs h.1 parts.1)

view_sized : (p : ℕ) (def : ViewDef) (rows : List Row) (v : SavedView) → IsSaved v → view_kept p def rows v ≡ true → IsSavedOf (shape_of def) v
view_sized p def rows v is kept =
    let marked = and_parts _ (list_all (row_marked def.fold v) rows) kept in
    let below = and_parts _ (list_all _ v.groups) marked.0 in
    let marks = and_parts _ (mark_fits def.fold.width v.mark) below.0 in
    let groups = and_parts (lasts_fit def p v.lasts && dirty_fits def v.lasts v.dirty) (groups_fit def v.dirty v.groups) marks.0 in
    let each = and_parts (list_all (group_fits def v.dirty) v.groups) _ groups.1 in
    record { lasts = is.lasts; dirty = is.dirty; groups = (is.groups.0, groups_sized def v.dirty v.groups is.groups.1 each.0); mark = is.mark }

views_sized : (p : ℕ) (rows_of : ℕ → List Row) (defs : List ViewDef) (vs : List SavedView) → AllByRecursion IsSaved vs → views_kept p rows_of defs vs ≡ true → AreSavedOf defs vs
views_sized p rows_of [] [] h kept = tt
views_sized p rows_of [] (v ∷ vs) h kept = absurd (true≢false (sym kept))
views_sized p rows_of (def ∷ defs) [] h kept = absurd (true≢false (sym kept))
views_sized p rows_of (def ∷ defs) (v ∷ vs) h kept =
    let parts = and_parts (view_kept p def (rows_of def.table) v) (views_kept p rows_of defs vs) kept in
    (view_sized p def (rows_of def.table) v h.0 parts.0, views_sized p rows_of defs vs h.1 parts.1)

pub readable : (i : Image) → IsFormed i → valid i ≡ true → IsReadable i
readable i is ok =
    let v = valid_is i ok in
    record {
      pos = is.pos;
      roster = is.roster;
      made = v.relations;
      rows = is.rows;
      views = (is.views.0, views_sized i.pos (image_rows i) (image_roster i).views i.views is.views.1 v.views);
      waiting = is.waiting;
      done = is.done;
    }

-- ---- what reading answers

pub is_made : (bytes : List ℕ) (i : Image) (r : Roster) (end : List ℕ) → whole_image bytes ≡ Ok ((i, r), end) → make_relations no_relations i.roster ≡ true
is_made bytes i r end h = (image_read bytes (i, r) end h).0.0.made

pub is_roster : (bytes : List ℕ) (i : Image) (r : Roster) (end : List ℕ) → whole_image bytes ≡ Ok ((i, r), end) → r ≡ image_roster i
is_roster bytes i r end h = (image_read bytes (i, r) end h).0.1

pub is_formed : (bytes : List ℕ) (i : Image) (r : Roster) (end : List ℕ) → whole_image bytes ≡ Ok ((i, r), end) → IsFormed i
is_formed bytes i r end h = formed i (image_read bytes (i, r) end h).0.0

pub is_spelled : (bytes : List ℕ) (i : Image) (r : Roster) (end : List ℕ) → whole_image bytes ≡ Ok ((i, r), end) → bytes ≡ image i
is_spelled bytes i r end h = (image_read bytes (i, r) end h).1

-- only the image that was read has these bytes
pub not_another : (bytes : List ℕ) (j : Image) (r : Roster) (end : List ℕ) → whole_image bytes ≡ Ok ((j, r), end) → valid j ≡ false → (i : Image) → IsFormed i → valid i ≡ true → bytes ≡ image i → ⊥
not_another bytes j r end h never i is ok spelled =
    let same : i ≡ j = ap (λ (x : Image × Roster). x.0) (same_value (i, image_roster i) (j, r) [] end (sym (image_again i (readable i is ok)) ∙ sym (ap whole_image spelled) ∙ h)) in
    true≢false (sym ok ∙ ap valid same ∙ never)

-- if nothing is read, no image has these bytes
pub not_one : (bytes left : List ℕ) → whole_image bytes ≡ Err left → (i : Image) → IsFormed i → valid i ≡ true → bytes ≡ image i → ⊥
not_one bytes left h i is ok spelled =
    let read : whole_image bytes ≡ Ok ((i, image_roster i), []) = ap whole_image spelled ∙ image_again i (readable i is ok) in
    absurd cc
