-- The next run begins with the next item.
use Rattle.std.proofs.Common.{◌≡◌, ◌+◌, ◌-◌, ◌∙◌, [], ◌++◌, length, take, drop, sym, ap}
use Rattle.std.proofs.lemmas.List.{nil_from_length}
use Rattle.block_list.proofs.RunLaws.{run_first}
use Rattle.block_list.proofs.iter.IterIterator.next.Goals as goal

pub returns-clause-steps : goal.returns-clause-steps
returns-clause-steps g c =
    let none : c.self.inside.run.now ≡ [] = nil_from_length c.self.inside.run.now c.in_default.ensures.cases in
    let all = c.self.inside.list.now.items in
    sym c.self.view_is
    ∙ ap (λ xs. xs ++ take (c.self.inside.end - c.self.inside.at) (drop c.self.inside.at all)) none
    ∙ run_first all c.self.inside.at c.self.inside.end c.run_below-run.result.now c.run_below-run.ensures.run
    ∙ ap (λ xs. xs ++ take (c.self.inside.end - (c.self.inside.at + length c.run_below-run.result.now)) (drop (c.self.inside.at + length c.run_below-run.result.now) all)) c.in_ok-first.ensures.cases.0
