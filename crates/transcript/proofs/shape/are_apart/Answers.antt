use Rattle.std.proofs.Common.{◌∷◌, sym, ◌∙◌}
use Rattle.transcript.proofs.Apart.{one_seen, seen_twice}
use Rattle.transcript.proofs.shape.are_apart.Goals as goal

pub returns-then-not-branch : goal.returns-then-not-branch
returns-then-not-branch c = record {
  apart =
      seen_twice _ _ _ _ c.in-Some.talk.now c.items.result _ c.loop-talk.invariant.1 c.in-Some.ensures.cases.0 c.items.ensures.items (sym c.if-not-branch.true ∙ c.in_ok-insert.ensures.added);
}

pub loop-talk-preserved : goal.loop-talk-preserved
loop-talk-preserved c = (
  c.in-Some.talk.now ∷ c.loop-talk.invariant.0,
  one_seen _ _ _ _ c.in-Some.talk.now c.items.result _ _ c.loop-talk.invariant.1 c.in-Some.ensures.cases.0 c.items.ensures.items (sym c.if-not-branch.false ∙ c.in_ok-insert.ensures.added) c.in_ok-insert.ensures.keys,
)
