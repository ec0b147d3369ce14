use Rattle.shared_store.proofs.DeskLaws.{desk_position}
use Rattle.shared_store.proofs.desk.DeskBackend.position.Goals as goal

pub returns : goal.returns
returns g c = desk_position g.B.Backend.state _ c.self.view_is c.self.invariant.of_store c.position.ensures
