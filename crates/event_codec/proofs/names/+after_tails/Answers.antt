use Rattle.std.proofs.Common.{◌≡◌, true, get_or, arith, rules}
use Rattle.std.proofs.lemmas.List.{take_rest}
use Rattle.ts_schema.specs.Names.{is_tail}
use Rattle.event_codec.proofs.NameLaws.{tail_goes}
use Rattle.event_codec.proofs.names.«+after_tails».Goals as goal

pub returns : goal.returns
returns t c =
    let tail : is_tail (get_or c.args.bytes.now 0 0) ≡ true = cc (c.may_go_on.ensures, c.if-not-may_go_on.false) in
    tail_goes (λ rest. rest.now) (λ left. left.now) c.args.count c.args.bytes.now _ c.after_tails.result (omega (arith, c.if-count-eq0.false)) c.in-len1-up.len_at_least tail (search (rules, take_rest)) c.after_tails.ensures
