use Rattle.std.proofs.Common.{List, ℕ, [], ◌∷◌, ◌++◌, drop, ◌∙◌, ap}
use Rattle.txn_journal.proofs.FrameLaws.{closed_frame}
use Rattle.txn_journal.proofs.framing.close_frame.Goals as goal

pub of-requires-clause-framed : goal.of-requires-clause-framed
of-requires-clause-framed c = (closed_frame (drop 4 c.args.bytes.items) c.push.new.self.items (c.in_ok-push.ensures.items ∙ ap (λ (l : List ℕ). l ++ 0 ∷ []) c.requires.begun)).1

pub of-requires-clause-fits : goal.of-requires-clause-fits
of-requires-clause-fits c = rw (closed_frame (drop 4 c.args.bytes.items) c.push.new.self.items (c.in_ok-push.ensures.items ∙ ap (λ (l : List ℕ). l ++ 0 ∷ []) c.requires.begun)).0 c.requires.fits

pub returns : goal.returns
returns c = record { payload = c.of.ensures.payload ∙ (closed_frame (drop 4 c.args.bytes.items) c.push.new.self.items (c.in_ok-push.ensures.items ∙ ap (λ (l : List ℕ). l ++ 0 ∷ []) c.requires.begun)).0 }
