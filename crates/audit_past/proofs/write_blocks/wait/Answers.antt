use Rattle.std.proofs.Common.{◌≡◌, refl, subst, arith}
use Rattle.ts_model.specs.History.{position, prefix}
use Rattle.ts_model.proofs.HistoryLaws.{prefix_end}
use Rattle.ts_sessions.proofs.SoundLaws.{is_numbered}
use Rattle.audit_past.proofs.TellQueues.{wait_ready, wait_refused}
use Rattle.audit_past.proofs.write_blocks.wait.Goals as goal

pub check-requires : goal.check-requires
check-requires g c =
    let all = g.P.Past.all c.args.past.now in
    let end : c.length.result ≡ position all = c.length.ensures in
    let whole : prefix all c.length.result ≡ all = prefix_end all c.length.result (omega (arith, end)) in
    is_numbered all c.roster.result.now (c.roster.ensures all (subst (g.P.Shot.Shown.stands c.in_ok-shot.shot) whole c.in_ok-shot.ensures)) c.requires.allowed

pub returns-in-Refused : goal.returns-in-Refused
returns-in-Refused g c =
    let all = g.P.Past.all c.args.past.now in
    let end : c.length.result ≡ position all = c.length.ensures in
    let whole : prefix all c.length.result ≡ all = prefix_end all c.length.result (omega (arith, end)) in
    let stands = subst (g.P.Shot.Shown.stands c.in_ok-shot.shot) whole c.in_ok-shot.ensures in
    wait_refused all c.args.at c.args.bytes c.args.stmt.now c.position.result c.roster.result.now c.in-Refused.field-0 _ (c.position.ensures all stands) (c.roster.ensures all stands) c.in-Refused.ensures.checked refl

pub returns-in-Ready : goal.returns-in-Ready
returns-in-Ready g c =
    let all = g.P.Past.all c.args.past.now in
    let end : c.length.result ≡ position all = c.length.ensures in
    let whole : prefix all c.length.result ≡ all = prefix_end all c.length.result (omega (arith, end)) in
    let stands = subst (g.P.Shot.Shown.stands c.in_ok-shot.shot) whole c.in_ok-shot.ensures in
    wait_ready all c.args.at c.args.bytes c.args.stmt.now c.position.result c.roster.result.now c.in-Ready.action c.in_ok-next-in-Ready.next c.end_of_statement.result (c.position.ensures all stands) (c.roster.ensures all stands) c.in-Ready.ensures.checked.0 c.in-Ready.ensures.checked.1 c.in_ok-next-in-Ready.ensures c.end_of_statement.ensures
