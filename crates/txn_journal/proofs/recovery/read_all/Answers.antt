use Rattle.std.proofs.Common.{◌≡◌, List, ℕ, [], ◌∷◌, ◌++◌, refl, sym, ◌∙◌, ap, subst, arith}
use Rattle.txn_journal.specs.Contents.{nothing}
use Rattle.txn_journal.specs.Reading.{based_on, with_next}
use Rattle.txn_journal.proofs.Moments.{keeps_both, keeps_same}
use Rattle.txn_journal.proofs.PlacedLaws.{ListedTo, are_listed, base_listed, next_listed, none_listed}
use Rattle.txn_journal.proofs.recovery.read_all.Goals as goal

pub payloads-init : goal.payloads-init
payloads-init g c = record {
  read = λ file has. (nothing, none_listed file c.new-payloads.result c.args.reader.at c.new-payloads.ensures.items, has);
  kept = keeps_same g.D.Disk.bytes g.D.Disk.may_leave g.D.Disk.moment g.D.Disk.left_since c.args.reader.disk;
  counted = refl;
}

pub payloads-preserved-in-Ok : goal.payloads-preserved-in-Ok
payloads-preserved-in-Ok g c = record {
  read = λ file has.
      let so_far = c.payloads.invariant.read file has in
      let step = c.in-Base.ensures.steps file so_far.0 so_far.2 in
      let moves = c.in-Base.ensures.moves.0 in
      let kept : c.keep_alone.new.payloads ≡ record { bytes = c.next.new.self.payload; at = c.in-Base.at } ∷ [] =
      c.in-Ok.ensures.kept ∙ ap (λ (bytes : List ℕ). record { bytes = bytes; at = c.in-Base.at } ∷ []) c.payload.ensures.payload in
      (based_on c.next.new.self.payload, base_listed file c.next.new.self.version so_far.0 c.keep_alone.new.payloads c.next.new.self.payload c.in-Base.at c.next.new.self.at kept (omega (arith, moves.from, moves.to)) step.0, step.1);
  kept = keeps_both g.D.Disk.bytes g.D.Disk.may_leave g.D.Disk.moment g.D.Disk.left_since c.args.reader.disk c.payloads.reader.disk c.next.new.self.disk c.payloads.invariant.kept c.next.ensures.kept;
  counted = c.in-Base.ensures.counted ∙ c.payloads.invariant.counted;
}

pub payloads-preserved : goal.payloads-preserved
payloads-preserved g c = record {
  read = λ file has.
      let so_far = c.payloads.invariant.read file has in
      let step = c.in-Payload.ensures.steps file so_far.0 so_far.2 in
      let moves = c.in-Payload.ensures.moves.0 in
      let kept : c.keep.new.payloads ≡ c.payloads.payloads ++ record { bytes = c.next.new.self.payload; at = c.in-Payload.at } ∷ [] =
      c.in-Ok-keep.ensures.kept ∙ ap (λ (bytes : List ℕ). c.payloads.payloads ++ record { bytes = bytes; at = c.in-Payload.at } ∷ []) c.payload-in-Payload.ensures.payload in (
        with_next so_far.0 c.next.new.self.payload,
        next_listed file c.next.new.self.version c.payloads.payloads c.keep.new.payloads so_far.0 c.next.new.self.payload c.in-Payload.at c.next.new.self.at kept
            (subst (λ (n : ℕ). ListedTo file c.payloads.payloads so_far.0 n) (sym moves.from) so_far.1) (omega (arith, moves.from, moves.to)) step.0 c.in-Payload.ensures.moves.1,
        step.1,
      );
  kept = keeps_both g.D.Disk.bytes g.D.Disk.may_leave g.D.Disk.moment g.D.Disk.left_since c.args.reader.disk c.payloads.reader.disk c.next.new.self.disk c.payloads.invariant.kept c.next.ensures.kept;
  counted = c.in-Payload.ensures.counted ∙ c.payloads.invariant.counted;
}

pub returns-in-End-clause-recovers : goal.returns-in-End-clause-recovers
returns-in-End-clause-recovers g c = λ file has.
    let so_far = c.payloads.invariant.read file has in
    (so_far.0, are_listed file c.payloads.payloads so_far.0 c.payloads.reader.at so_far.1, (c.in-End.ensures.steps file so_far.0 so_far.2).0)

pub returns-in-End-clause-tells : goal.returns-in-End-clause-tells
returns-in-End-clause-tells g c = λ file has.
    let so_far = c.payloads.invariant.read file has in (
      so_far.0,
      are_listed file c.payloads.payloads so_far.0 c.payloads.reader.at so_far.1,
      c.finish.ensures.tells file so_far.0 (c.in-End.ensures.steps file so_far.0 so_far.2).1,
    )

pub returns-in-End-clause-at_rest : goal.returns-in-End-clause-at_rest
returns-in-End-clause-at_rest g c = λ file has only.
    let so_far = c.payloads.invariant.read file has in
    let kept = keeps_both g.D.Disk.bytes g.D.Disk.may_leave g.D.Disk.moment g.D.Disk.left_since c.args.reader.disk c.payloads.reader.disk c.next.new.self.disk c.payloads.invariant.kept c.next.ensures.kept in (
      so_far.0,
      are_listed file c.payloads.payloads so_far.0 c.payloads.reader.at so_far.1,
      c.finish.ensures.at_rest file so_far.0 (c.in-End.ensures.steps file so_far.0 so_far.2).1 (λ image left. only image (kept.leaves image left)),
    )

pub returns-in-Damaged-clause-recovers : goal.returns-in-Damaged-clause-recovers
returns-in-Damaged-clause-recovers g c = λ file has.
    let so_far = c.payloads.invariant.read file has in
    (so_far.0, are_listed file c.payloads.payloads so_far.0 c.payloads.reader.at so_far.1, (c.in-Damaged.ensures.steps file so_far.0 so_far.2).0)
