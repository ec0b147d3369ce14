use Rattle.std.proofs.Common.{subst}
use Rattle.ts_store.specs.Stores.{StoreValue, IsKept}
use Rattle.ts_store.proofs.stores.Store.store_law.Goals as goal

pub returns : goal.returns
returns g c = record { kept = subst (λ (s : StoreValue g.row.D.Denot). IsKept g.D.Disk.bytes g.D.Disk.may_leave g.D.Disk.moment g.D.Disk.left_since g.D.Disk.faults s) c.self.view_is c.self.invariant }
