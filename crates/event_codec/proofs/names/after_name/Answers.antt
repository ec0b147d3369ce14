use Rattle.std.proofs.Common.{◌≡◌, true, get_or, rules}
use Rattle.std.proofs.lemmas.List.{take_rest}
use Rattle.ts_schema.specs.Names.{is_head}
use Rattle.event_codec.proofs.NameLaws.{head_goes}
use Rattle.event_codec.proofs.names.after_name.Goals as goal

pub returns : goal.returns
returns c =
    let head : is_head (get_or c.args.bytes.now 0 0) ≡ true = cc (c.may_begin.ensures, c.if-not-may_begin.false) in
    head_goes (λ rest. rest.now) (λ left. left.now) c.args.len c.args.bytes.now _ c.after_tails.result c.requires c.in-len1-up.len_at_least head (search (rules, take_rest)) c.after_tails.ensures
