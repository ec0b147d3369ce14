use Rattle.std.proofs.Common.{length, not, ◌||◌, filter, ap, arith}
use Rattle.std.specs.List.{All}
use Rattle.std.specs.Option.{option_to_list}
use Rattle.std.proofs.lemmas.List.Elements.{All-filter, All-same}
use Rattle.std.proofs.lemmas.List.Sums.{count_by-le-length, length-filter}
use Rattle.par_lines.specs.declared.sessions.SessionLines.{SessionLines}
use Rattle.par_lines.specs.Sorted.{setup, final}
use Rattle.par_lines.specs.Places.{IsWithin}
use Rattle.par_lines.proofs.Adding.{has_name}
use Rattle.par_lines.proofs.Extents.{all_of_one}
use Rattle.par_lines.proofs.PhaseLaws.{all_others, only_final}
use Rattle.par_lines.proofs.phases.into_phases.Goals as goal

pub returns-clause-setup : goal.returns-clause-setup
returns-clause-setup c = c.take_named-setup.ensures.taken

pub returns-clause-last : goal.returns-clause-last
returns-clause-last c = only_final c.args.sessions.items (option_to_list c.take_named-last.result) c.take_named-setup.new.sessions.items c.take_named-setup.ensures.others c.take_named-last.ensures.taken

pub returns-clause-at_once : goal.returns-clause-at_once
returns-clause-at_once c = all_others c.args.sessions.items c.take_named-setup.new.sessions.items c.take_named-last.new.sessions.items c.take_named-setup.ensures.others c.take_named-last.ensures.others

pub returns-clause-few : goal.returns-clause-few
returns-clause-few c =
    let sessions = c.args.sessions.items in
    let test = λ (session : SessionLines). not (has_name setup session || has_name final session) in
    let rest = all_others sessions c.take_named-setup.new.sessions.items c.take_named-last.new.sessions.items c.take_named-setup.ensures.others c.take_named-last.ensures.others in
    omega (arith, ap length rest, length-filter test sessions, count_by-le-length test sessions)

pub returns-clause-within : goal.returns-clause-within
returns-clause-within c = λ n all.
    let sessions = c.args.sessions.items in
    let left = c.take_named-setup.new.sessions.items in
    let others : All (IsWithin n) left = All-same (IsWithin n) left (filter (λ session. not (has_name setup session)) sessions) c.take_named-setup.ensures.others (All-filter (λ session. not (has_name setup session)) (IsWithin n) sessions all) in
    let alone = option_to_list c.take_named-setup.result in
    let last = option_to_list c.take_named-last.result in
    record {
      setup = all_of_one (IsWithin n) c.take_named-setup.result (All-same (IsWithin n) alone (filter (has_name setup) sessions) c.take_named-setup.ensures.taken (All-filter (has_name setup) (IsWithin n) sessions all));
      at_once = All-same (IsWithin n) c.take_named-last.new.sessions.items (filter (λ session. not (has_name final session)) left) c.take_named-last.ensures.others (All-filter (λ session. not (has_name final session)) (IsWithin n) left others);
      last = all_of_one (IsWithin n) c.take_named-last.result (All-same (IsWithin n) last (filter (has_name final) left) c.take_named-last.ensures.taken (All-filter (has_name final) (IsWithin n) left others));
    }
