use Rattle.std.proofs.Common.{◌≡◌, ◌≢◌, length, sym, ◌∙◌, arith}
use Rattle.std.proofs.lemmas.Grind.{common_steps}
use Rattle.transcript.proofs.Objects.{more_than_two, just_two}
use Rattle.transcript.proofs.members.two_members.Goals as goal

pub returns-then-not-is_empty : goal.returns-then-not-is_empty
returns-then-not-is_empty c =
    let some : length c.pop_first-2.new.self.entries ≢ 0 = λ none. grind (arith, common_steps, c.is_empty.ensures.1 none, c.if-not-is_empty.true) in
    record { values = more_than_two _ _ _ _ _ _ _ _ c.in-Object.is c.in_ok-first_name.ensures.removal c.in_ok-second_name.ensures.removal some }

pub returns-then-are_named : goal.returns-then-are_named
returns-then-are_named c =
    let none : length c.pop_first-2.new.self.entries ≡ 0 = grind (arith, common_steps, c.is_empty.ensures.0, c.if-not-is_empty.false) in
    record { values = just_two _ _ _ _ _ _ _ _ c.in-Object.is c.in_ok-first_name.ensures.removal c.in_ok-second_name.ensures.removal none (sym c.are_named.ensures ∙ c.if-are_named.true) }
