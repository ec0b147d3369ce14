use Rattle.std.proofs.Common.{◌≡◌, ◌+◌, true, false, refl, ◌∙◌, ap, sym, subst, arith}
use Rattle.txn_journal.specs.Contents.{is_base}
use Rattle.txn_journal.specs.Frames.{Follows, StandsFor, IsDamaged}
use Rattle.txn_journal.specs.Reading.{GoesBehind, HasRead, IsHead, Progress, based_on, with_next}
use Rattle.txn_journal.specs.declared.heads.Head.{Head}
use Rattle.txn_journal.proofs.HeadLaws.{room_in, told_length, told_range}
use Rattle.txn_journal.proofs.ReadingLaws.{step_base_now, step_closed, step_payload_now, step_short, version_there, within_size}
use Rattle.txn_journal.proofs.readers.Reader.next.Goals as goal

pub returns-in-Closed-clause-steps : goal.returns-in-Closed-clause-steps
returns-in-Closed-clause-steps g c = λ file content.
    let old : Progress g.row.D.Denot = record { disk = c.self.inside.disk; standing = c.self.inside.standing; version = c.self.inside.version; size = c.self.inside.size; at = c.self.inside.at; payload = c.self.inside.payload.items; is_done = c.self.inside.is_done } in
    let new : Progress g.row.D.Denot = record { disk = c.sight_head.new.disk; standing = c.self.inside.standing; version = c.self.inside.version; size = c.in-Ok.seen.size; at = c.self.inside.at; payload = c.self.inside.payload.items; is_done = true } in
    subst (λ (r : Progress g.row.D.Denot). HasRead g.D.Disk.bytes r file content → StandsFor file content × HasRead g.D.Disk.bytes new file content)
    c.self.view_is
    (λ has. step_closed g.D.Disk.bytes old c.sight_head.new.disk c.in-Ok.seen.size file content
    c.in_default.not-Bare
    (within_size (g.D.Disk.bytes c.self.inside.disk) c.self.inside.standing c.self.inside.size c.self.inside.at c.in_default.not-Bare c.self.invariant)
    has c.in-Ok.ensures.kept.same
    (told_length (g.D.Disk.bytes c.sight_head.new.disk) file c.in-Ok.seen.size (c.in-Ok.ensures.kept.same ∙ has.told) c.in-Ok.ensures.length)
    (subst (λ (h : Head). IsHead h file c.self.inside.at) c.in-Closed.is (c.in-Ok.ensures.head file has.told)))

pub returns-in-Short-clause-steps : goal.returns-in-Short-clause-steps
returns-in-Short-clause-steps g c = λ file content.
    let old : Progress g.row.D.Denot = record { disk = c.self.inside.disk; standing = c.self.inside.standing; version = c.self.inside.version; size = c.self.inside.size; at = c.self.inside.at; payload = c.self.inside.payload.items; is_done = c.self.inside.is_done } in
    let new : Progress g.row.D.Denot = record { disk = c.sight_head.new.disk; standing = c.self.inside.standing; version = c.self.inside.version; size = c.in-Ok.seen.size; at = c.self.inside.at; payload = c.self.inside.payload.items; is_done = false } in
    subst (λ (r : Progress g.row.D.Denot). HasRead g.D.Disk.bytes r file content → IsDamaged file content c.self.inside.at × HasRead g.D.Disk.bytes new file content)
    c.self.view_is
    (λ has. step_short g.D.Disk.bytes old c.sight_head.new.disk c.in-Ok.seen.size file content
    c.in_default.not-Bare
    (within_size (g.D.Disk.bytes c.self.inside.disk) c.self.inside.standing c.self.inside.size c.self.inside.at c.in_default.not-Bare c.self.invariant)
    has c.in-Ok.ensures.kept.same
    (told_length (g.D.Disk.bytes c.sight_head.new.disk) file c.in-Ok.seen.size (c.in-Ok.ensures.kept.same ∙ has.told) c.in-Ok.ensures.length)
    (subst (λ (h : Head). IsHead h file c.self.inside.at) c.in-Short.is (c.in-Ok.ensures.head file has.told)))

pub returns-then-is_base-clause-steps : goal.returns-then-is_base-clause-steps
returns-then-is_base-clause-steps g c = λ file content.
    let old : Progress g.row.D.Denot = record { disk = c.self.inside.disk; standing = c.self.inside.standing; version = c.self.inside.version; size = c.self.inside.size; at = c.self.inside.at; payload = c.self.inside.payload.items; is_done = c.self.inside.is_done } in
    let version = c.in-Ok-version_now.version in
    let new : Progress g.row.D.Denot = record { disk = c.version_now.new.disk; standing = c.self.inside.standing; version = version; size = c.in-Ok.seen.size; at = c.self.inside.at + (5 + c.in-Frame.length); payload = c.read_payload.new.payload.items; is_done = false } in
    subst (λ (r : Progress g.row.D.Denot). HasRead g.D.Disk.bytes r file content → Follows file version content c.read_payload.new.payload.items c.self.inside.at × HasRead g.D.Disk.bytes new file (based_on c.read_payload.new.payload.items))
    c.self.view_is
    (λ has.
    let armed = c.in_default.not-Bare in
    let within = within_size (g.D.Disk.bytes c.self.inside.disk) c.self.inside.standing c.self.inside.size c.self.inside.at armed c.self.invariant in
    let seen = c.in-Ok.ensures.kept.same in
    let read = c.in-Done.ensures.kept.same ∙ seen in
    let long = told_length (g.D.Disk.bytes c.sight_head.new.disk) file c.in-Ok.seen.size (seen ∙ has.told) c.in-Ok.ensures.length in
    let there = version_there g.D.Disk.bytes old c.read_payload.new.disk c.in-Ok.seen.size file content armed within has read long in
    step_base_now g.D.Disk.bytes old c.version_now.new.disk c.in-Ok.seen.size file content armed within has (c.in-Ok-version_now.ensures.kept.same ∙ read) long
    c.in-Frame.length c.in-Frame.first (c.self.inside.at + (5 + c.in-Frame.length)) c.read_payload.new.payload.items
    (subst (λ (h : Head). IsHead h file c.self.inside.at) c.in-Frame.is (c.in-Ok.ensures.head file has.told))
    c.in-Done.ensures.size
    (told_range (g.D.Disk.bytes c.sight_head.new.disk) file (c.self.inside.at + 5) c.read_payload.new.payload.items (seen ∙ has.told) c.in-Done.ensures.taken)
    (omega arith) (omega (arith, room_in c.in-Ok.seen.head c.in-Frame.length c.in-Frame.first c.self.inside.at c.in-Ok.seen.size c.in-Frame.is c.in-Ok.ensures.within))
    version (c.in-Ok-version_now.ensures.told file (read ∙ has.told) there)
    (ap (is_base version) (sym c.deref-in-Done.ensures.value) ∙ sym c.is_base.ensures ∙ c.if-is_base.true))

pub returns-then-is_base-clause-moves : goal.returns-then-is_base-clause-moves
returns-then-is_base-clause-moves g c =
    let version = c.in-Ok-version_now.version in
    let new : Progress g.row.D.Denot = record { disk = c.version_now.new.disk; standing = c.self.inside.standing; version = version; size = c.in-Ok.seen.size; at = c.self.inside.at + (5 + c.in-Frame.length); payload = c.read_payload.new.payload.items; is_done = false } in (
      subst (λ (r : Progress g.row.D.Denot). GoesBehind c.self.inside.at r new) c.self.view_is
          (record { from = refl; to = omega (arith, c.in-Done.ensures.size); within = omega (arith, room_in c.in-Ok.seen.head c.in-Frame.length c.in-Frame.first c.self.inside.at c.in-Ok.seen.size c.in-Frame.is c.in-Ok.ensures.within); most = c.in-Ok.ensures.most }),
      ap (is_base version) (sym c.deref-in-Done.ensures.value) ∙ sym c.is_base.ensures ∙ c.if-is_base.true,
    )

pub returns-then-is_base-clause-version : goal.returns-then-is_base-clause-version
returns-then-is_base-clause-version g c = λ file content.
    let old : Progress g.row.D.Denot = record { disk = c.self.inside.disk; standing = c.self.inside.standing; version = c.self.inside.version; size = c.self.inside.size; at = c.self.inside.at; payload = c.self.inside.payload.items; is_done = c.self.inside.is_done } in
    subst (λ (r : Progress g.row.D.Denot). HasRead g.D.Disk.bytes r file content → c.in-Ok-version_now.version ≡ r.version)
    c.self.view_is
    (λ has.
    let armed = c.in_default.not-Bare in
    let within = within_size (g.D.Disk.bytes c.self.inside.disk) c.self.inside.standing c.self.inside.size c.self.inside.at armed c.self.invariant in
    let seen = c.in-Ok.ensures.kept.same in
    let read = c.in-Done.ensures.kept.same ∙ seen in
    let long = told_length (g.D.Disk.bytes c.sight_head.new.disk) file c.in-Ok.seen.size (seen ∙ has.told) c.in-Ok.ensures.length in
    c.in-Ok-version_now.ensures.told file (read ∙ has.told)
    (version_there g.D.Disk.bytes old c.read_payload.new.disk c.in-Ok.seen.size file content armed within has read long))

pub returns-else-is_base-clause-steps : goal.returns-else-is_base-clause-steps
returns-else-is_base-clause-steps g c = λ file content.
    let old : Progress g.row.D.Denot = record { disk = c.self.inside.disk; standing = c.self.inside.standing; version = c.self.inside.version; size = c.self.inside.size; at = c.self.inside.at; payload = c.self.inside.payload.items; is_done = c.self.inside.is_done } in
    let version = c.in-Ok-version_now.version in
    let new : Progress g.row.D.Denot = record { disk = c.version_now.new.disk; standing = c.self.inside.standing; version = version; size = c.in-Ok.seen.size; at = c.self.inside.at + (5 + c.in-Frame.length); payload = c.read_payload.new.payload.items; is_done = false } in
    subst (λ (r : Progress g.row.D.Denot). HasRead g.D.Disk.bytes r file content → Follows file version content c.read_payload.new.payload.items c.self.inside.at × HasRead g.D.Disk.bytes new file (with_next content c.read_payload.new.payload.items))
    c.self.view_is
    (λ has.
    let armed = c.in_default.not-Bare in
    let within = within_size (g.D.Disk.bytes c.self.inside.disk) c.self.inside.standing c.self.inside.size c.self.inside.at armed c.self.invariant in
    let seen = c.in-Ok.ensures.kept.same in
    let read = c.in-Done.ensures.kept.same ∙ seen in
    let long = told_length (g.D.Disk.bytes c.sight_head.new.disk) file c.in-Ok.seen.size (seen ∙ has.told) c.in-Ok.ensures.length in
    let there = version_there g.D.Disk.bytes old c.read_payload.new.disk c.in-Ok.seen.size file content armed within has read long in
    step_payload_now g.D.Disk.bytes old c.version_now.new.disk c.in-Ok.seen.size file content armed within has (c.in-Ok-version_now.ensures.kept.same ∙ read) long
    c.in-Frame.length c.in-Frame.first (c.self.inside.at + (5 + c.in-Frame.length)) c.read_payload.new.payload.items
    (subst (λ (h : Head). IsHead h file c.self.inside.at) c.in-Frame.is (c.in-Ok.ensures.head file has.told))
    c.in-Done.ensures.size
    (told_range (g.D.Disk.bytes c.sight_head.new.disk) file (c.self.inside.at + 5) c.read_payload.new.payload.items (seen ∙ has.told) c.in-Done.ensures.taken)
    (omega arith) (omega (arith, room_in c.in-Ok.seen.head c.in-Frame.length c.in-Frame.first c.self.inside.at c.in-Ok.seen.size c.in-Frame.is c.in-Ok.ensures.within))
    version (c.in-Ok-version_now.ensures.told file (read ∙ has.told) there)
    (ap (is_base version) (sym c.deref-in-Done.ensures.value) ∙ sym c.is_base.ensures ∙ c.if-is_base.false))

pub returns-else-is_base-clause-moves : goal.returns-else-is_base-clause-moves
returns-else-is_base-clause-moves g c =
    let version = c.in-Ok-version_now.version in
    let new : Progress g.row.D.Denot = record { disk = c.version_now.new.disk; standing = c.self.inside.standing; version = version; size = c.in-Ok.seen.size; at = c.self.inside.at + (5 + c.in-Frame.length); payload = c.read_payload.new.payload.items; is_done = false } in (
      subst (λ (r : Progress g.row.D.Denot). GoesBehind c.self.inside.at r new) c.self.view_is
          (record { from = refl; to = omega (arith, c.in-Done.ensures.size); within = omega (arith, room_in c.in-Ok.seen.head c.in-Frame.length c.in-Frame.first c.self.inside.at c.in-Ok.seen.size c.in-Frame.is c.in-Ok.ensures.within); most = c.in-Ok.ensures.most }),
      ap (is_base version) (sym c.deref-in-Done.ensures.value) ∙ sym c.is_base.ensures ∙ c.if-is_base.false,
    )

pub returns-else-is_base-clause-version : goal.returns-else-is_base-clause-version
returns-else-is_base-clause-version g c = λ file content.
    let old : Progress g.row.D.Denot = record { disk = c.self.inside.disk; standing = c.self.inside.standing; version = c.self.inside.version; size = c.self.inside.size; at = c.self.inside.at; payload = c.self.inside.payload.items; is_done = c.self.inside.is_done } in
    subst (λ (r : Progress g.row.D.Denot). HasRead g.D.Disk.bytes r file content → c.in-Ok-version_now.version ≡ r.version)
    c.self.view_is
    (λ has.
    let armed = c.in_default.not-Bare in
    let within = within_size (g.D.Disk.bytes c.self.inside.disk) c.self.inside.standing c.self.inside.size c.self.inside.at armed c.self.invariant in
    let seen = c.in-Ok.ensures.kept.same in
    let read = c.in-Done.ensures.kept.same ∙ seen in
    let long = told_length (g.D.Disk.bytes c.sight_head.new.disk) file c.in-Ok.seen.size (seen ∙ has.told) c.in-Ok.ensures.length in
    c.in-Ok-version_now.ensures.told file (read ∙ has.told)
    (version_there g.D.Disk.bytes old c.read_payload.new.disk c.in-Ok.seen.size file content armed within has read long))
