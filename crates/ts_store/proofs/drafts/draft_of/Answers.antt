use Rattle.ts_store.proofs.drafts.draft_of.Goals as goal

pub returns-clause-draft : goal.returns-clause-draft
returns-clause-draft c = record {
  event = c.in_ok-prepared.ensures.event;
  fits = c.requires.allowed;
  formed = c.spelling_law.ensures.formed;
  framed = c.in_ok-frame.ensures.frame;
  prepared = c.in_ok-prepared.ensures.prepared;
}
