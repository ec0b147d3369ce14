use Rattle.ts_model.specs.History.{prefix}
use Rattle.ts_sessions.proofs.SoundLaws.{allowed_prefix, is_numbered}
use Rattle.audit_past.proofs.write_blocks.refused_there.Goals as goal

pub check-requires : goal.check-requires
check-requires g c =
    let all = g.P.Past.all c.args.past.now in
    let h = prefix all c.in-Some.look in
    is_numbered h c.roster.result.now (c.roster.ensures h c.in_ok-shot-in-Some.ensures) (allowed_prefix all c.in-Some.look c.requires.allowed)
