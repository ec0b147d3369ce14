use Rattle.std.proofs.Common.{ap, refl}
use Rattle.result_text.specs.declared.replies.Said.TheVariants as said
use Rattle.ts_sessions.specs.declared.blocks.Open.TheVariants as opens
use Rattle.ts_sessions.specs.declared.changes.Change.TheVariants as changes
use Rattle.ts_sessions.specs.declared.deeds.AfterLook.TheVariants as looks_for
use Rattle.ts_sessions.specs.declared.deeds.MissingPart.TheVariants as lacks
use Rattle.ts_model.specs.declared.refreshes.Pending.TheVariants.{Unknown}
use Rattle.ts_sessions.specs.Deeds.{lack_code}
use Rattle.ts_sessions.specs.Places.{cuts, enters, reading, refuses, turns}
use Rattle.ts_sessions.specs.Procedures.{ends}
use Rattle.ts_sessions.specs.Step.{after_snapshot, snap_turn, unfinished_refusal}
use Rattle.ts_sessions.proofs.FollowLaws.{look_says, look_snaps}
use Rattle.ts_sessions.proofs.HoldLaws.{whole_holds}
use Rattle.ts_sessions.proofs.follows.after_look.Goals as goal

pub returns-in-BeginRead : goal.returns-in-BeginRead
returns-in-BeginRead g c = λ h stands allowed.
    let at = c.position-at.result in
    let is = c.position-at.ensures h stands in
    look_says g.T.Shown h c.args.then looks_for.BeginRead c.args.shot c.say.result (said.BeginRead at) (changes.Enters (opens.Read at c.args.shot)) _ c.in-BeginRead.is refl c.say.ensures
    (λ p. ap (λ n. ends (turns (enters (reading n) p) (said.BeginRead n))) is) (λ bytes. whole_holds g.T.Shown.stands c.args.shot at h stands allowed is)

pub returns-in_ok-snapped-in-Snapshot : goal.returns-in_ok-snapped-in-Snapshot
returns-in_ok-snapped-in-Snapshot g c = λ h stands allowed.
    let begun = c.in-Snapshot.begun in
    look_snaps g.T.Shown h c.args.then (looks_for.Snapshot begun) c.args.shot begun.cut (λ p t. after_snapshot (cuts begun.cut p) begun.cut begun.span begun.min t) c.in_ok-snapped-in-Snapshot.snapped c.after_snapshot.result _ _ c.requires.counts c.in-Snapshot.is (λ p. refl) c.after_snapshot.ensures (c.in_ok-snapped-in-Snapshot.ensures.taken h stands) (c.in_ok-snapped-in-Snapshot.ensures.fits h stands)

pub returns-in_ok-snapped-in-Hold : goal.returns-in_ok-snapped-in-Hold
returns-in_ok-snapped-in-Hold g c = λ h stands allowed.
    let cut = c.in-Hold.cut in
    look_snaps g.T.Shown h c.args.then (looks_for.Hold cut) c.args.shot cut (λ p t. ends (snap_turn p cut t)) c.in_ok-snapped-in-Hold.snapped c.after_hold.result _ _ c.requires.counts c.in-Hold.is (λ p. refl) c.after_hold.ensures (c.in_ok-snapped-in-Hold.ensures.taken h stands) (c.in_ok-snapped-in-Hold.ensures.fits h stands)

pub returns-in-Refuse : goal.returns-in-Refuse
returns-in-Refuse g c = λ h stands allowed.
    let lacks = c.in-Refuse.lacks in
    look_says g.T.Shown h c.args.then (looks_for.Refuse c.in-Refuse.cut lacks) c.args.shot c.refuse.result (said.Fault (unfinished_refusal (lack_code lacks h) h c.pending.result)) changes.Nothing _ c.in-Refuse.is refl (c.refuse.ensures h (c.position.ensures h stands))
    (λ p. ap (λ q. ends (refuses p (unfinished_refusal (lack_code lacks h) h q))) (c.pending.ensures h stands)) (λ bytes. tt)

pub returns-in-Unknown : goal.returns-in-Unknown
returns-in-Unknown g c = λ h stands allowed.
    look_says g.T.Shown h c.args.then looks_for.Unknown c.args.shot c.refuse-in-Unknown.result (said.Fault (unfinished_refusal (lack_code lacks.Snapshot h) h Unknown)) changes.Nothing _ c.in-Unknown.is refl (c.refuse-in-Unknown.ensures h (c.position-in-Unknown.ensures h stands)) (λ p. refl) (λ bytes. tt)
