-- Each step sorts one more line, and at the end of the input all lines are sorted.
use Rattle.std.proofs.Common.{◌≡◌, ◌+◌, ◌-◌, ◌≤◌, length, drop, ap, arith, length-drop, length-take}
use Rattle.par_lines.specs.Sorted.{Sorted, sorted_lines}
use Rattle.par_lines.specs.Places.{sorted_of}
use Rattle.par_lines.proofs.Extents.{all_wider}
use Rattle.par_lines.proofs.NameLaws.{AreSorted, sessions_named}
use Rattle.par_lines.proofs.SortedLaws.{lines_end, lines_on}
use Rattle.par_lines.proofs.sorting.sort_lines.Goals as goal

whole : (c : goal.After-loop-from) → sorted_of c.args.input.now c.loop-from.lines ≡ sorted_lines c.args.input.now
whole c =
    let input = c.args.input.now in
    lines_end input c.loop-from.from c.loop-from.number (sorted_of input c.loop-from.lines) (sorted_lines input) c.loop-from-test.false c.loop-from.invariant.left

names : (c : goal.After-loop-from) → AreSorted c.loop-from.lines.sessions.items
names c = sessions_named c.args.input.now c.loop-from.lines.sessions.items (ap (λ (s : Sorted). s.sessions) (whole c))

pub returns-clause-sorted : goal.returns-clause-sorted
returns-clause-sorted c = whole c

pub returns-clause-few : goal.returns-clause-few
returns-clause-few c = (names c).few

pub returns-clause-named : goal.returns-clause-named
returns-clause-named c = (names c).named

pub returns-clause-apart : goal.returns-clause-apart
returns-clause-apart c = (names c).apart

pub returns-clause-within : goal.returns-clause-within
returns-clause-within c =
    let place = c.loop-from.invariant.place in
    all_wider (c.loop-from.from - 1) (length c.args.input.now) (omega (arith, place)) c.loop-from.lines.sessions.items c.loop-from.invariant.within

pub returns-clause-numbered : goal.returns-clause-numbered
returns-clause-numbered c = c.loop-from.invariant.numbered

pub loop-from-preserved : goal.loop-from-preserved
loop-from-preserved c =
    let input = c.args.input.now in
    let from = c.loop-from.from in
    let len = c.first_line_len-len.result in
    let old = c.loop-from.lines in
    let new = c.add.new.self in
    let inside : from + len ≤ length input =
    omega (arith, c.first_line_len-len.ensures.within, c.loop-from-test.true, length-take (length input - from) (drop from input), length-drop from input) in
    record {
      place = omega (arith, inside);
      count = omega (arith, c.loop-from.invariant.count);
      left = lines_on input from len c.loop-from.number (sorted_of input old) (sorted_of input new) (sorted_lines input) c.first_line_len-len.ensures.line c.in_ok-add.ensures.sorted c.loop-from.invariant.left;
      within =
          all_wider (from + len) (from + (len + 1) - 1) (omega arith) new.sessions.items
          (c.in_ok-add.ensures.within (all_wider (from - 1) from (omega arith) old.sessions.items c.loop-from.invariant.within));
      numbered = c.in_ok-add.ensures.numbered c.loop-from.invariant.numbered;
    }
