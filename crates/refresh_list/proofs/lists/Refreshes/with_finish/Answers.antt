use Rattle.std.proofs.Common.{◌≡◌, None, map, sym, ap, ◌∙◌, subst, rules}
use Rattle.std.specs.Prelude.{Ok, Err, IfOk}
use Rattle.refresh_list.specs.Refreshes.{CutsRise, finished_at, refresh_in}
use Rattle.refresh_list.proofs.PlaceLaws.{finished_none, rise_finished}
use Rattle.refresh_list.proofs.lists.Refreshes.with_finish.Goals as goal

pub returns-in-None : goal.returns-in-None
returns-in-None c =
    let none : refresh_in c.args.self.now c.args.cut ≡ None = ap (λ rs. refresh_in rs c.args.cut) (sym c.self.view_is) ∙ (c.in-None.ensures {u = tt}).place in
    let kept = sym (finished_none c.args.cut c.args.by c.args.self.now none) in
    record { finished = elim c.copy.result as (λ r. IfOk r (λ copy. copy ≡ c.args.self.now) → IfOk r (λ new. new ≡ map (finished_at c.args.cut c.args.by) c.args.self.now)) [ Ok x ↦ λ e. e ∙ kept | Err e ↦ λ t. t ] c.copy.ensures.same }

pub invariant_of-result : goal.invariant_of-result
invariant_of-result c = subst (CutsRise 0) (sym (search rules)) (rise_finished 0 c.args.cut c.args.by c.self.inside.list.items c.self.invariant)
