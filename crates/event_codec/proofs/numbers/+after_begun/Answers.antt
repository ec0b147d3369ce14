use Rattle.std.proofs.Common.{ℕ, sym, subst, arith, rules}
use Rattle.std.proofs.lemmas.List.{take_rest}
use Rattle.event_codec.specs.Reading.{StopsAt, number}
use Rattle.event_codec.proofs.Begun.{stops_at_end, stops_at_none, begun_here, begun_later}
use Rattle.event_codec.proofs.Shifts.{near_again}
use Rattle.event_codec.proofs.numbers.«+after_begun».Goals as goal

pub returns-in_default : goal.returns-in_default
returns-in_default t c = stops_at_end c.args.count c.args.least c.args.most c.args.bytes.now (omega (arith, c.in_default.len_below))

pub returns-then-count-eq0 : goal.returns-then-count-eq0
returns-then-count-eq0 t c = subst (λ (n : ℕ). StopsAt (number n c.args.least c.args.most c.args.bytes.now) c.args.bytes.now) (sym c.if-count-eq0.true) (stops_at_none c.args.least c.args.most c.args.bytes.now c.args.bytes.now)

pub returns-then-least-most : goal.returns-then-least-most
returns-then-least-most t c = begun_here c.args.count c.args.least c.args.most c.args.bytes.now c.least_left-least.result c.most_left-most.result c.requires.least c.requires.most c.least_left-least.ensures.near c.most_left-most.ensures.near c.in-len1-up.len_at_least c.least_left-least.ensures.left c.most_left-most.ensures.left c.if-least-most.true

pub after_begun-requires : goal.after_begun-requires
after_begun-requires t c = (omega (arith, c.if-count-eq0.false, c.decreases), (near_again c.least_left-least.result c.least_left-least.ensures.near, near_again c.most_left-most.result c.most_left-most.ensures.near))

pub returns : goal.returns
returns t c = begun_later c.args.count c.args.least c.args.most c.args.bytes.now c.least_left-least.result c.most_left-most.result c.requires.least c.requires.most c.least_left-least.ensures.near c.most_left-most.ensures.near c.in-len1-up.len_at_least c.least_left-least.ensures.left c.most_left-most.ensures.left
    c.after_begun.result.now _ (omega (arith, c.if-count-eq0.false)) (omega (arith, c.type_inv.bytes 0)) c.if-least-most.false (search (rules, take_rest)) c.after_begun.ensures
