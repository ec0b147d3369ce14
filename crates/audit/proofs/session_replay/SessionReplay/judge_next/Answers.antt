use Rattle.std.proofs.Common.{◌≡◌, ◌≤◌, ◌<◌, length, refl, sym, subst, arith}
use Rattle.transcript.specs.declared.transcripts.SessionTranscript.{SessionTranscript}
use Rattle.audit.specs.Judged.{IsNamedBy}
use Rattle.audit.specs.ReplayedReplies.{StopsAt}
use Rattle.audit.specs.Short.{AreShort}
use Rattle.audit.specs.ReplayedSessions.{RetellsTo}
use Rattle.audit.proofs.HearingLaws.{all_heard, heard_next, stops_hearing}
use Rattle.audit.proofs.session_replay.SessionReplay.judge_next.Goals as goal

pub returns-then-not-branch-clause-heard : goal.returns-then-not-branch-clause-heard
returns-then-not-branch-clause-heard g c =
    let all = g.P.Past.all c.args.past.now in
    let talk = c.args.self.now.talk.now in
    let here = c.loop-place.invariant in
    let e = c.get.result.now in
    let len : c.len-place-end.result ≡ length talk.replies = c.len-place-end.ensures.len in
    let test : c.loop-place.place < c.len-place-end.result = c.loop-place-test.true in
    let retold = subst (λ t. RetellsTo all e c.loop-place.self.teller t c.replay_line.new.self) c.if-not-branch.true c.in_ok-replay_line.ensures.retold in
    let stops : StopsAt all c.args.start talk c.loop-place.place = stops_hearing g.T.Shown all c.args.start talk c.loop-place.place e c.loop-place.self.teller c.replay_line.new.self here.heard (omega (arith, len, test)) c.get.ensures.item retold in
    record {
      short = subst (λ (t : SessionTranscript). AreShort t.replies) (sym here.talk) c.requires.heard.short;
      heard = subst (λ t. StopsAt all c.args.start t c.loop-place.self.heard) (sym here.talk) (subst (λ n. StopsAt all c.args.start talk n) (sym here.place) stops);
    }

pub returns-then-not-branch-clause-whole : goal.returns-then-not-branch-clause-whole
returns-then-not-branch-clause-whole g c = λ none. (returns-then-not-branch-clause-heard g c).heard

pub loop-place-preserved : goal.loop-place-preserved
loop-place-preserved g c =
    let all = g.P.Past.all c.args.past.now in
    let talk = c.args.self.now.talk.now in
    let here = c.loop-place.invariant in
    let e = c.get.result.now in
    let len : c.len-place-end.result ≡ length talk.replies = c.len-place-end.ensures.len in
    let test : c.loop-place.place < c.len-place-end.result = c.loop-place-test.true in
    let retold = subst (λ t. RetellsTo all e c.loop-place.self.teller t c.replay_line.new.self) c.if-not-branch.false c.in_ok-replay_line.ensures.retold in
    record {
      going = here.going;
      place = refl;
      talk = here.talk;
      heard = heard_next g.T.Shown all c.args.start talk c.loop-place.place e c.loop-place.self.teller c.replay_line.new.self here.heard (omega (arith, len, test)) c.get.ensures.item retold (λ own. c.in_ok-replay_line.ensures.at c.args.start own c.if-not-branch.false);
    }

pub returns-clause-whole : goal.returns-clause-whole
returns-clause-whole g c = λ none.
    let all = g.P.Past.all c.args.past.now in
    let talk = c.args.self.now.talk.now in
    let here = c.loop-place.invariant in
    let len : c.len-place-end.result ≡ length talk.replies = c.len-place-end.ensures.len in
    let test : c.len-place-end.result ≤ c.loop-place.place = c.loop-place-test.false in
    let named : IsNamedBy all c.args.start talk c.loop-place.self.teller.named.items = all_heard g.T.Shown all c.args.start talk c.loop-place.place c.loop-place.self.teller here.heard (omega (arith, len, test)) in
    subst (λ t. IsNamedBy all c.args.start t c.loop-place.self.teller.named.items) (sym here.talk) named
