-- A read fits, and reaches at most one byte beyond the limit.
use Rattle.std.proofs.Common.{ℕ, length, ap, sym, ◌∙◌, true≢false, arith, rules, length-take, length-drop}
use Rattle.ts_io.specs.Reader.{Reading}
use Rattle.ts_io.proofs.line_reader.Lines.ask.Goals as goal

pub invariant_of-self : goal.invariant_of-self
invariant_of-self g c =
    let packed = ap length c.drop_front.ensures.items in
    let held = ap (λ (reading : Reading). length reading.held) c.self.view_is in (
      search rules,
      search rules,
      search rules,
      search rules,
      omega (arith, c.read_into.ensures.within, packed, length-take {A = ℕ}, length-drop {A = ℕ}),
      search rules,
      omega (arith, c.read_into.ensures.within, packed, held, length-take {A = ℕ}, length-drop {A = ℕ}),
      omega (arith, c.read_into.ensures.capacity, c.drop_front.ensures.capacity, c.self.invariant),
      (λ told. absurd (true≢false (sym told ∙ ap (λ (reading : Reading). reading.at_end) c.self.view_is ∙ c.requires.more))),
    )
