-- The saved parts of each aggregate, read in order, as a loop does.
use Rattle.std.proofs.Common.{◌≡◌, ℕ, List, [], ◌∷◌, ◌++◌, Result, Ok, Err, refl, sym, ap, ◌∙◌, append_assoc}
use Rattle.std.proofs.lemmas.List.{append-nil}
use Rattle.ts_model.specs.declared.images.SavedView.{SavedView}
use Rattle.ts_model.specs.declared.views.ViewDef.{ViewDef}
use Rattle.event_codec.specs.declared.errors.ReadError.{ReadError}
use Rattle.event_codec.specs.declared.errors.ReadError.TheVariants as errors
use Rattle.event_codec.specs.Reading.{Gives, go_on, put_before}
use Rattle.event_codec.proofs.Formats.{done}
use Rattle.base_image.specs.declared.shapes.Shape.{Shape}
use Rattle.base_image.specs.Reading.{saved_at, saved_each, shape_of}

abbrev pub Views : Type 0
Views = Result (List SavedView × List ℕ) (List ℕ)

-- the items read before, and those still to be read
abbrev pub with_front : List SavedView → Views → Views
with_front front read = go_on read (λ others end. Ok (front ++ others, end))

abbrev with_first : SavedView → Views → Views
with_first v read = go_on read (λ others end. Ok (v ∷ others, end))

first_of_pair : (v : SavedView) (r : Views) → go_on (go_on r (λ b end. Ok ((v, b), end))) (λ x end. Ok (put_before x, end)) ≡ with_first v r
first_of_pair v (Ok x) = refl
first_of_pair v (Err left) = refl

abbrev from_first : List ViewDef → Result (SavedView × List ℕ) (List ℕ) → Views
from_first defs r = go_on (go_on r (λ b left. go_on (saved_each defs left) (λ c end. Ok ((b, c), end)))) (λ x end. Ok (put_before x, end))

one_more : (def : ViewDef) (defs : List ViewDef) (bytes after : List ℕ) (v : SavedView) → saved_at (shape_of def) bytes ≡ Ok (v, after) → saved_each (def ∷ defs) bytes ≡ with_first v (saved_each defs after)
unfolding saved_each
one_more def defs bytes after v h = ap (from_first defs) h ∙ first_of_pair v (saved_each defs after)

none_more : (def : ViewDef) (defs : List ViewDef) (bytes left : List ℕ) → saved_at (shape_of def) bytes ≡ Err left → saved_each (def ∷ defs) bytes ≡ Err left
unfolding saved_each
none_more def defs bytes left h = ap (from_first defs) h

regroup : (front : List SavedView) (v : SavedView) (r : Views) → with_front front (with_first v r) ≡ with_front (front ++ v ∷ []) r
regroup front v (Ok x) = ap (λ (vs : List SavedView). done vs x.1) (sym (append_assoc front (v ∷ []) x.0))
regroup front v (Err left) = refl

pub goes_on : (front : List SavedView) (def : ViewDef) (defs all : List ViewDef) (shape : Shape) (bytes after : List ℕ) (v : SavedView) (total : Views) → shape ≡ shape_of def → all ≡ def ∷ defs → saved_at shape bytes ≡ Ok (v, after) → with_front front (saved_each all bytes) ≡ total → with_front (front ++ v ∷ []) (saved_each defs after) ≡ total
goes_on front def defs all shape bytes after v total same is h so_far =
    sym (ap (λ (l : List ViewDef). with_front front (saved_each l bytes)) is ∙ ap (with_front front) (one_more def defs bytes after v (ap (λ (s : Shape). saved_at s bytes) (sym same) ∙ h)) ∙ regroup front v (saved_each defs after)) ∙ so_far

pub ends : (e : ReadError) (front : List SavedView) (def : ViewDef) (defs all : List ViewDef) (shape : Shape) (bytes left : List ℕ) (total : Views) → shape ≡ shape_of def → all ≡ def ∷ defs → Gives (Err e) (saved_at shape bytes) left → with_front front (saved_each all bytes) ≡ total → Gives (Err e) total left
ends errors.Memory front def defs all shape bytes left total same is h so_far = tt
ends errors.Bad front def defs all shape bytes left total same is h so_far =
    sym so_far ∙ ap (λ (l : List ViewDef). with_front front (saved_each l bytes)) is ∙ ap (with_front front) (none_more def defs bytes left (ap (λ (s : Shape). saved_at s bytes) (sym same) ∙ h))

pub is_done : (front : List SavedView) (all : List ViewDef) (bytes : List ℕ) (total : Views) → all ≡ [] → with_front front (saved_each all bytes) ≡ total → total ≡ Ok (front, bytes)
unfolding saved_each
is_done front all bytes total is so_far =
    sym so_far ∙ ap (λ (l : List ViewDef). with_front front (saved_each l bytes)) is ∙ ap (λ (vs : List SavedView). done vs bytes) (append-nil front)

pub begins : (r : Views) → with_front [] r ≡ r
begins (Ok x) = refl
begins (Err left) = refl
