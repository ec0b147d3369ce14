use Rattle.std.proofs.Common.{◌≡◌, ◌+◌, All, [], ◌∷◌, ◌++◌, subst, sym, take}
use Rattle.std.proofs.lemmas.List.Elements.{All-append, All-cons, All-nil}
use Rattle.audit.specs.SessionReplays.{IsHeard, talks_of}
use Rattle.audit.proofs.HearingLaws.{one_begins}
use Rattle.audit.proofs.judgement.begin.Goals as goal

pub loop-talk-preserved : goal.loop-talk-preserved
loop-talk-preserved g c =
    let hs = c.loop-talk.hearings.items in
    let h = c.in_ok-new.field-0 in
    let more : c.push.new.self.items ≡ hs ++ h ∷ [] = c.in_ok-push.ensures.items in
    record {
      talks = subst (λ xs. talks_of xs ≡ take (c.loop-talk.talk-index + 1) c.args.talks.now) (sym more) (one_begins hs h c.args.talks.now c.loop-talk.talk-index c.talk-item.result c.loop-talk.invariant.talks c.in_ok-new.ensures.talk c.loop-talk-test.true c.talk-item.is);
      heard = λ all within.
          subst (All (IsHeard g.T.Shown all c.args.start)) (sym more)
          (All-append (IsHeard g.T.Shown all c.args.start) hs (h ∷ []) (c.loop-talk.invariant.heard all within) (All-cons (IsHeard g.T.Shown all c.args.start) h [] (c.in_ok-new.ensures.heard all within) (All-nil (IsHeard g.T.Shown all c.args.start))));
    }
