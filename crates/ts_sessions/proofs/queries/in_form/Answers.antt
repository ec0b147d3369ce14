-- The aggregate that a roll-up names exists or is missing.
use Rattle.std.proofs.Common.{◌≡◌, ◌∙◌, ap, sym, subst, refl, ℕ, Bool, true, false, ◌≤◌, nat_lt, List, length, get_or, Some, None, IfOk, arith}
use Rattle.std.specs.Prelude.{slice_get}
use Rattle.std.proofs.lemmas.Bool.{ltb-true}
use Rattle.std.proofs.lemmas.Bool.Decides.{nat_tests}
use Rattle.std.proofs.lemmas.Option.{slice_get_past, slice_get_read}
use Rattle.ts_model.specs.declared.views.ViewDef.{ViewDef}
use Rattle.ts_model.specs.Roster.{view_of}
use Rattle.ts_sessions.specs.Deeds.{FormFits}
use Rattle.ts_sessions.specs.Step.{in_form, rolled_up}
use Rattle.ts_sessions.proofs.queries.in_form.Goals as goal

there : (views items : List ViewDef) (n : ℕ) (def : ViewDef) → items ≡ views → true ≡ nat_lt n (length items) → def ≡ get_or items n def → slice_get views n ≡ Some def
there views items n def same within at =
    ap (λ ds. slice_get ds n) (sym same) ∙ slice_get_read items (length items) n def refl (ltb-true n (length items) (sym within)) at

none_there : (views items : List ViewDef) (n : ℕ) → items ≡ views → false ≡ nat_lt n (length items) → slice_get views n ≡ None
none_there views items n same past =
    ap (λ ds. slice_get ds n) (sym same) ∙ slice_get_past items n (at_least n (length items) past)
  where
    at_least : (m n : ℕ) → false ≡ nat_lt m n → n ≤ m
    at_least m n h = grind (arith, nat_tests)

pub roll_up-requires : goal.roll_up-requires
roll_up-requires c =
    let r = c.args.roster.now in
    let n = c.in-RolledUp.plan.view in
    let found = there r.views c.items.result.now n c.in-Some.def.now c.items.ensures.items c.in-Some.ensures.lookup.0 c.in-Some.ensures.lookup.1 in
    subst (λ f. FormFits r f c.args.answer) c.in-RolledUp.is c.requires c.in-Some.def.now found

pub returns-in-None : goal.returns-in-None
returns-in-None c =
    let r = c.args.roster.now in
    let plan = c.in-RolledUp.plan in
    let found = none_there r.views c.items.result.now plan.view c.items.ensures.items c.in-None.ensures.lookup.0 in
    sym (ap (λ f. in_form r f c.args.answer) c.in-RolledUp.is ∙ ap (λ o. rolled_up o plan c.args.answer) found)

pub returns-in-Some : goal.returns-in-Some
returns-in-Some c =
    let r = c.args.roster.now in
    let plan = c.in-RolledUp.plan in
    let found = there r.views c.items.result.now plan.view c.in-Some.def.now c.items.ensures.items c.in-Some.ensures.lookup.0 c.in-Some.ensures.lookup.1 in
    subst (λ a. IfOk c.roll_up.result (λ shown. shown ≡ a))
    (sym (ap (λ f. in_form r f c.args.answer) c.in-RolledUp.is ∙ ap (λ o. rolled_up o plan c.args.answer) found))
    c.roll_up.ensures
