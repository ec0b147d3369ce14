use Rattle.std.proofs.Common.{◌≡◌, ◌∙◌, ◌+◌, ◌<◌, ◌≤◌, All, [], ◌∷◌, ◌++◌, length, drop, ap, refl, sym, subst, arith}
use Rattle.std.proofs.lemmas.List.{drop_all, length-map}
use Rattle.std.proofs.lemmas.List.Elements.{All-append, All-get_or, All-nil, All-set}
use Rattle.ts_model.specs.History.{position}
use Rattle.audit.specs.SessionReplays.{HearsAll, IsHeard, talks_of}
use Rattle.audit.specs.Judged.{AreNamedBy, IsNamedBy}
use Rattle.audit.specs.ReplayedReplies.{LieBetween, Passes, StopsAt}
use Rattle.audit.proofs.HearingLaws.{next_talk, one_hears}
use Rattle.audit.proofs.TalkLaws.{all_named, passes_more, passes_none, stopped_here}
use Rattle.audit.proofs.judgement.judge_in_order.Goals as goal

pub loop-session-init : goal.loop-session-init
loop-session-init g c =
    let all = g.P.Past.all c.args.past.now in
    let start = c.args.start in
    let talks = talks_of c.args.hearings.now.items in
    let same = c.deref_mut-hearing-items.ensures.value in
    let none : c.new-named.result.items ≡ [] = c.new-named.ensures.items in
    record {
      heard = subst (All (IsHeard g.T.Shown all start)) (sym same) c.requires.heard;
      talks = ap talks_of same;
      passes = subst (Passes all start talks 0 talks) (sym none) (passes_none all start talks);
      lie = subst (LieBetween start (position all)) (sym none) (All-nil (λ n. (start < n) × (n ≤ position all)));
    }

pub judge_next-requires-clause-heard : goal.judge_next-requires-clause-heard
judge_next-requires-clause-heard g c κs w =
    let all = g.P.Past.all c.args.past.now in
    let hs = c.loop-session.hearing-items in
    let i = c.loop-session.session in
    let long : length hs ≡ length c.deref_mut-hearing-items.result.now = c.loop-session.auto.hearing-items in
    let test : i < length c.deref_mut-hearing-items.result.now = c.loop-session-test.true in
    let within : i < length hs = omega (arith, long, test) in
    All-get_or (IsHeard g.T.Shown all c.args.start) hs i c.hearing-item.result within c.loop-session.invariant.heard

pub returns-then-not-branch : goal.returns-then-not-branch
returns-then-not-branch g c =
    let all = g.P.Past.all c.args.past.now in
    let start = c.args.start in
    let talks = talks_of c.args.hearings.now.items in
    let here = c.loop-session.invariant in
    let hs = c.loop-session.hearing-items in
    let i = c.loop-session.session in
    let long : length hs ≡ length c.deref_mut-hearing-items.result.now = c.loop-session.auto.hearing-items in
    let test : i < length c.deref_mut-hearing-items.result.now = c.loop-session-test.true in
    let within : i < length hs = omega (arith, long, test) in
    let new = c.judge_next.new.self in
    let ns = c.loop-session.named.items in
    let left_is : drop i talks ≡ new.talk.now ∷ drop (i + 1) talks = next_talk hs talks i c.hearing-item.result new here.talks within c.judge_next.ensures.talk in
    let passes : Passes all start talks i (new.talk.now ∷ drop (i + 1) talks) ns = subst (λ l. Passes all start talks i l ns) left_is here.passes in
    let stops : StopsAt all start new.talk.now new.heard = subst (HearsAll g.T.Shown all start new) c.if-not-branch.true (c.in_ok-judge_next.ensures.whole refl) in
    record { judged = stopped_here all start talks i new.talk.now (drop (i + 1) talks) ns new.heard passes stops }

pub loop-session-preserved : goal.loop-session-preserved
loop-session-preserved g c =
    let all = g.P.Past.all c.args.past.now in
    let start = c.args.start in
    let talks = talks_of c.args.hearings.now.items in
    let here = c.loop-session.invariant in
    let hs = c.loop-session.hearing-items in
    let i = c.loop-session.session in
    let long : length hs ≡ length c.deref_mut-hearing-items.result.now = c.loop-session.auto.hearing-items in
    let test : i < length c.deref_mut-hearing-items.result.now = c.loop-session-test.true in
    let within : i < length hs = omega (arith, long, test) in
    let new = c.judge_next.new.self in
    let ns = c.loop-session.named.items in
    let ms = new.teller.named.items in
    let more : c.extend_from_slice.new.self.items ≡ ns ++ ms = c.in_ok-extend_from_slice.ensures.items ∙ ap (λ xs. ns ++ xs) c.as_slice.ensures.value in
    let left_is : drop i talks ≡ new.talk.now ∷ drop (i + 1) talks = next_talk hs talks i c.hearing-item.result new here.talks within c.judge_next.ensures.talk in
    let passes : Passes all start talks i (new.talk.now ∷ drop (i + 1) talks) ns = subst (λ l. Passes all start talks i l ns) left_is here.passes in
    let one : IsNamedBy all start new.talk.now ms = subst (HearsAll g.T.Shown all start new) c.if-not-branch.false (c.in_ok-judge_next.ensures.whole refl) in
    record {
      heard = All-set (IsHeard g.T.Shown all start) hs i new c.in_ok-judge_next.ensures.heard here.heard;
      talks = one_hears hs i c.hearing-item.result new c.judge_next.ensures.talk ∙ here.talks;
      passes = subst (Passes all start talks (i + 1) (drop (i + 1) talks)) (sym more) (passes_more all start talks i new.talk.now (drop (i + 1) talks) ns ms passes one.names);
      lie =
          subst (LieBetween start (position all)) (sym more)
          (All-append (λ n. (start < n) × (n ≤ position all)) ns ms here.lie one.lie);
    }

pub returns : goal.returns
returns g c =
    let all = g.P.Past.all c.args.past.now in
    let start = c.args.start in
    let talks = talks_of c.args.hearings.now.items in
    let here = c.loop-session.invariant in
    let hs = c.loop-session.hearing-items in
    let i = c.loop-session.session in
    let ns = c.loop-session.named.items in
    let many : length talks ≡ length hs = sym (ap length here.talks) ∙ length-map hs (λ h. h.talk.now) in
    let long : length hs ≡ length c.deref_mut-hearing-items.result.now = c.loop-session.auto.hearing-items in
    let whole : length c.deref_mut-hearing-items.result.now ≤ i = c.loop-session-test.false in
    let past : length talks ≤ i = omega (arith, many, long, whole) in
    let passes : Passes all start talks i [] ns = subst (λ l. Passes all start talks i l ns) (drop_all i talks past) here.passes in
    let told : AreNamedBy all start talks ns = record { names = all_named all start talks i ns passes; lie = here.lie } in
    record { judged = subst (AreNamedBy all start talks) (sym c.of.ensures.items) told }
