use Rattle.std.proofs.Common.{ap, sym, ◌∙◌}
use Rattle.std.specs.List.{position}
use Rattle.std.specs.Option.{option_to_list}
use Rattle.par_lines.proofs.Adding.{has_name}
use Rattle.par_lines.proofs.PhaseLaws.{taken_none, taken_one}
use Rattle.par_lines.proofs.phases.take_named.Goals as goal

pub returns-in_err-place-clause-taken : goal.returns-in_err-place-clause-taken
returns-in_err-place-clause-taken c =
    let name = c.args.name.now in
    let found = ap (position (has_name name)) (sym c.deref.ensures.value) ∙ sym c.in_err-place.ensures.place in
    ap option_to_list c.from_residual.ensures ∙ sym (taken_none name c.args.sessions.now.items found).passing

pub returns-in_err-place-clause-others : goal.returns-in_err-place-clause-others
returns-in_err-place-clause-others c =
    let name = c.args.name.now in
    let found = ap (position (has_name name)) (sym c.deref.ensures.value) ∙ sym c.in_err-place.ensures.place in
    sym (taken_none name c.args.sessions.now.items found).others

pub returns-clause-taken : goal.returns-clause-taken
returns-clause-taken c =
    let name = c.args.name.now in
    let found = ap (position (has_name name)) (sym c.deref.ensures.value) ∙ sym c.in_ok-place.ensures.place in
    sym (taken_one name c.args.sessions.now.items c.in_ok-place.place c.remove.result c.requires.apart found c.remove.ensures.value).passing

pub returns-clause-others : goal.returns-clause-others
returns-clause-others c =
    let name = c.args.name.now in
    let found = ap (position (has_name name)) (sym c.deref.ensures.value) ∙ sym c.in_ok-place.ensures.place in
    c.remove.ensures.items ∙ sym (taken_one name c.args.sessions.now.items c.in_ok-place.place c.remove.result c.requires.apart found c.remove.ensures.value).others
