-- The events that create a roster, one by one.
use Rattle.std.proofs.Common.{◌≡◌, Bool, true, false, ◌&&◌, ◌||◌, cond, List, [], ◌∷◌, Option, Some, None, refl, sym, ap, ◌∙◌}
use Rattle.ts_model.specs.declared.events.Event.{Event}
use Rattle.ts_model.specs.declared.events.Event.TheVariants.{Table, Hyper, View, Mode, Commit, Cut, Built}
use Rattle.ts_model.specs.declared.rosters.Roster.{Roster}
use Rattle.ts_model.specs.Roster.{no_relations, roster_after, roster_over}
use Rattle.ts_model.specs.Valid.{make_relations}
use Rattle.base_image.specs.Making.{is_view, may_come, make_rest, made_roster}

pub make_next : (begun : Bool) (r : Roster) (e : Event) (es : List Event) → make_rest begun r (e ∷ es) ≡ (may_come r begun e && make_rest (begun || is_view e) (roster_after r e) es)
make_next false r (Table def) es = refl
make_next false r (Hyper t hyper) es = refl
make_next false r (View def) es = refl
make_next false r (Mode v only) es = refl
make_next false r (Commit ops) es = refl
make_next false r (Cut v span) es = refl
make_next false r (Built cut snap) es = refl
make_next true r (Table def) es = refl
make_next true r (Hyper t hyper) es = refl
make_next true r (View def) es = refl
make_next true r (Mode v only) es = refl
make_next true r (Commit ops) es = refl
make_next true r (Cut v span) es = refl
make_next true r (Built cut snap) es = refl

-- the rest shows the roster that all events create
pub record MakesRest (all : List Event) (begun : Bool) (made : Roster) (left : List Event) : Type 0 where
  pub allowed : make_relations no_relations all ≡ make_rest begun made left
  pub made_is : roster_over no_relations all ≡ roster_over made left

pub makes_begin : (all : List Event) → MakesRest all false no_relations all
makes_begin all = record { allowed = refl; made_is = refl }

pub makes_next : (all : List Event) (begun more : Bool) (made next : Roster) (left rest : List Event) (e : Event) → left ≡ e ∷ rest → may_come made begun e ≡ true → more ≡ (begun || is_view e) → next ≡ roster_after made e → MakesRest all begun made left → MakesRest all more next rest
makes_next all begun more made next left rest e is may more_is next_is so_far =
    let goes : make_rest begun made left ≡ make_rest more next rest =
    ap (make_rest begun made) is ∙ make_next begun made e rest ∙ ap (λ (t : Bool). t && make_rest (begun || is_view e) (roster_after made e) rest) may
    ∙ ap (λ (t : Bool). make_rest t (roster_after made e) rest) (sym more_is)
    ∙ ap (λ (r : Roster). make_rest more r rest) (sym next_is) in
    let over : roster_over made left ≡ roster_over next rest = ap (roster_over made) is ∙ ap (λ (r : Roster). roster_over r rest) (sym next_is) in
    record { allowed = so_far.allowed ∙ goes; made_is = so_far.made_is ∙ over }

pub makes_not : (all : List Event) (begun : Bool) (made : Roster) (left rest : List Event) (e : Event) → left ≡ e ∷ rest → may_come made begun e ≡ false → MakesRest all begun made left → None ≡ made_roster all
makes_not all begun made left rest e is may so_far =
    let never : make_relations no_relations all ≡ false =
    so_far.allowed ∙ ap (make_rest begun made) is ∙ make_next begun made e rest ∙ ap (λ (t : Bool). t && make_rest (begun || is_view e) (roster_after made e) rest) may in
    let none : Option Roster = None in
    ap (λ (t : Bool). cond t (Some (roster_over no_relations all)) none) (sym never)

none_to_make : (begun : Bool) (r : Roster) → make_rest begun r [] ≡ true
none_to_make false r = refl
none_to_make true r = refl

pub makes_all : (all : List Event) (begun : Bool) (made : Roster) (left : List Event) → left ≡ [] → MakesRest all begun made left → Some made ≡ made_roster all
makes_all all begun made left is so_far =
    let whole : make_relations no_relations all ≡ true = so_far.allowed ∙ ap (make_rest begun made) is ∙ none_to_make begun made in
    let same : roster_over no_relations all ≡ made = so_far.made_is ∙ ap (roster_over made) is in
    let none : Option Roster = None in
    sym (ap (λ (t : Bool). cond t (Some (roster_over no_relations all)) none) whole ∙ ap (λ (r : Roster). Some r) same)
