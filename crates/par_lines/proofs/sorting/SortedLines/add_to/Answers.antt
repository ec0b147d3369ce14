-- A line comes last in its session.
use Rattle.std.proofs.Common.{refl, ap, sym, ◌∙◌}
use Rattle.std.specs.List.{position}
use Rattle.std.proofs.lemmas.List.Quantifiers.{position-Some}
use Rattle.par_lines.proofs.Adding.{added_known, has_name}
use Rattle.par_lines.proofs.Extents.{within_set}
use Rattle.par_lines.proofs.Numbering.{numbered_set}
use Rattle.par_lines.proofs.Passing.{position_none}
use Rattle.par_lines.proofs.sorting.SortedLines.add_to.Goals as goal

pub add_new-requires-clause-absent : goal.add_new-requires-clause-absent
add_new-requires-clause-absent c =
    let name = c.args.name.now in
    position_none (has_name name) c.args.self.now.sessions.items (ap (position (has_name name)) (sym c.deref.ensures.value) ∙ sym c.in-None.ensures.place)

pub returns-in_ok-push-in-Some-clause-sorted : goal.returns-in_ok-push-in-Some-clause-sorted
returns-in_ok-push-in-Some-clause-sorted c = λ input.
    let name = c.args.name.now in
    let sessions = c.args.self.now.sessions.items in
    let session = c.index_mut-session.result.now in
    let found = ap (position (has_name name)) (sym c.deref.ensures.value) ∙ sym c.in-Some.ensures.place in
    added_known name input c.args.line c.args.self.now.refusals.items sessions c.in-Some.place session (record { name = session.name; number = session.number; lines = c.push.new.self }) found c.index_mut-session.ensures.value refl
    c.in_ok-push-in-Some.ensures.items

pub returns-in_ok-push-in-Some-clause-within : goal.returns-in_ok-push-in-Some-clause-within
returns-in_ok-push-in-Some-clause-within c = λ n h all.
    let name = c.args.name.now in
    let sessions = c.args.self.now.sessions.items in
    let session = c.index_mut-session.result.now in
    let found = ap (position (has_name name)) (sym c.deref.ensures.value) ∙ sym c.in-Some.ensures.place in
    let first = position-Some (has_name name) sessions c.in-Some.place session found in
    within_set n c.args.line sessions c.in-Some.place session (record { name = session.name; number = session.number; lines = c.push.new.self }) h all first.0 c.index_mut-session.ensures.value
    c.in_ok-push-in-Some.ensures.items

pub returns-in_ok-push-in-Some-clause-numbered : goal.returns-in_ok-push-in-Some-clause-numbered
returns-in_ok-push-in-Some-clause-numbered c = λ are.
    let session = c.index_mut-session.result.now in
    numbered_set c.args.self.now.sessions.items c.in-Some.place session (record { name = session.name; number = session.number; lines = c.push.new.self }) c.index_mut-session.ensures.value refl are
