use Rattle.std.proofs.Common.{◌≡◌, ℕ, List, Some, sym, subst}
use Rattle.engine_core.specs.Values.{EngineValue}
use Rattle.ts_disk.specs.CrashImage.{Only}
use Rattle.ts_disk.specs.Disk.{Keeps}
use Rattle.ts_store.specs.Stands.{Stands}
use Rattle.ts_store.specs.Starts.{CountsReplayed, GoesOn, IsNew, Replays, RestsReplayed, SoundReplayed, TellsReplayed, disk_of_replayed, past_of}
use Rattle.ts_store.specs.Stores.{StoreValue, Rests, history_seen}
use Rattle.ts_store.specs.declared.replays.ReplayOutcome.{ReplayOutcome}
use Rattle.ts_store.proofs.KeptLaws.{kept_at_start}
use Rattle.ts_store.proofs.StartLaws.{new_at_start}
use Rattle.ts_store.proofs.starts.from_replayed.Goals as goal

pub new-requires : goal.new-requires
new-requires g c = record {
  kept =
      kept_at_start g.D.Disk.bytes g.D.Disk.may_leave g.D.Disk.moment g.D.Disk.left_since g.D.Disk.faults g.met.D.Disk.only_now c.args.begun c.in-Ready.journal c.in-Ready.follower c.requires.bounded
      (subst (λ (r : ReplayOutcome g.row.D.Denot EngineValue). Keeps g.D.Disk.bytes g.D.Disk.may_leave g.D.Disk.moment g.D.Disk.left_since c.args.begun (disk_of_replayed r)) c.in-Ready.is c.requires.kept)
      (subst (λ (r : ReplayOutcome g.row.D.Denot EngineValue). CountsReplayed r (g.D.Disk.faults c.args.begun) (g.D.Disk.faults (disk_of_replayed r))) c.in-Ready.is c.requires.counted)
      (subst (λ (r : ReplayOutcome g.row.D.Denot EngineValue). SoundReplayed past_of r) c.in-Ready.is c.requires.sound)
      (subst (λ (r : ReplayOutcome g.row.D.Denot EngineValue). GoesOn r) c.in-Ready.is c.requires.goes_on)
      (subst (λ (r : ReplayOutcome g.row.D.Denot EngineValue). (file : List ℕ) → g.D.Disk.bytes c.args.begun ≡ Some file → Replays past_of r file) c.in-Ready.is c.requires.replays)
      (subst (λ (r : ReplayOutcome g.row.D.Denot EngineValue). (file : List ℕ) → g.D.Disk.bytes c.args.begun ≡ Some file → TellsReplayed past_of g.D.Disk.bytes r) c.in-Ready.is c.requires.tells)
      (subst (λ (r : ReplayOutcome g.row.D.Denot EngineValue). (file : List ℕ) → g.D.Disk.bytes c.args.begun ≡ Some file → Only file (g.D.Disk.may_leave c.args.begun) → RestsReplayed past_of g.D.Disk.bytes g.D.Disk.may_leave r) c.in-Ready.is c.requires.at_rest);
}

pub returns-in-Ready-clause-starts : goal.returns-in-Ready-clause-starts
returns-in-Ready-clause-starts g c =
    subst (λ (s : StoreValue g.row.D.Denot). (file : List ℕ) → g.D.Disk.bytes c.args.begun ≡ Some file → Stands file (history_seen s)) (sym c.new.ensures.made)
    (subst (λ (r : ReplayOutcome g.row.D.Denot EngineValue). (file : List ℕ) → g.D.Disk.bytes c.args.begun ≡ Some file → Replays past_of r file) c.in-Ready.is c.requires.replays)

pub returns-in-Ready-clause-rests : goal.returns-in-Ready-clause-rests
returns-in-Ready-clause-rests g c =
    subst (λ (s : StoreValue g.row.D.Denot). (file : List ℕ) → g.D.Disk.bytes c.args.begun ≡ Some file → Only file (g.D.Disk.may_leave c.args.begun) → Rests g.D.Disk.bytes g.D.Disk.may_leave s) (sym c.new.ensures.made)
    (subst (λ (r : ReplayOutcome g.row.D.Denot EngineValue). (file : List ℕ) → g.D.Disk.bytes c.args.begun ≡ Some file → Only file (g.D.Disk.may_leave c.args.begun) → RestsReplayed past_of g.D.Disk.bytes g.D.Disk.may_leave r) c.in-Ready.is c.requires.at_rest)

pub returns-in-Ready-clause-new : goal.returns-in-Ready-clause-new
returns-in-Ready-clause-new g c = subst (λ (s : StoreValue g.row.D.Denot). IsNew c.args.begun s) (sym c.new.ensures.made) (new_at_start c.in-Ready.follower c.in-Ready.journal c.args.begun)

pub returns-in-Damaged-clause-starts : goal.returns-in-Damaged-clause-starts
returns-in-Damaged-clause-starts g c = subst (λ (r : ReplayOutcome g.row.D.Denot EngineValue). (file : List ℕ) → g.D.Disk.bytes c.args.begun ≡ Some file → Replays past_of r file) c.in-Damaged.is c.requires.replays
