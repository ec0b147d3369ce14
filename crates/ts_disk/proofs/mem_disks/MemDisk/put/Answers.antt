use Rattle.std.proofs.Common.{◌≡◌, ◌≤◌, ℕ, Bool, List, true, if◌then◌else◌, length, sym, ◌∙◌, ap, subst}
use Rattle.ts_disk.specs.CrashImage.{at_rest}
use Rattle.ts_disk.specs.MemDisk.{content, state_after}
use Rattle.ts_disk.specs.declared.disk_acts.Piece.{Piece}
use Rattle.ts_disk.proofs.ActLaws.{noted}
use Rattle.ts_disk.proofs.mem_disks.MemDisk.put.Goals as goal

pub invariant_of-self : goal.invariant_of-self
invariant_of-self c =
    let same_flag : c.make_changed.new.is_changed ≡ c.self.inside.is_changed = c.in_err-make_changed.ensures.flag_kept in
    let same_bytes : c.make_changed.new.bytes.items ≡ c.self.inside.bytes.items = c.in_err-make_changed.ensures.bytes_kept in (
      (λ k. if same_flag k then same_bytes k else c.self.inside.first.items) ∙ c.self.invariant.0,
      c.self.invariant.1,
    )

pub invariant_of-self-2 : goal.invariant_of-self-2
invariant_of-self-2 c =
    let is_set : c.make_changed.new.is_changed ≡ true = c.in_ok-make_changed.ensures.changed in
    let first = at_rest c.self.inside.first.items in
    let piece : Piece = record { at = c.args.at; bytes = c.args.piece.now } in
    let whole : c.make_changed.new.bytes.items ≡ (state_after first c.self.inside.acts.items).now = c.in_ok-make_changed.ensures.bytes ∙ c.self.invariant.0 in
    let begins : c.args.at ≤ length c.make_changed.new.bytes.items =
    subst (λ (file : List ℕ). c.args.at ≤ length file) (ap content (sym c.self.view_is) ∙ sym whole) c.requires.range in
    let both = noted first c.self.inside.acts.items c.note_write.new.acts.items piece c.make_changed.new.bytes.items c.note_write.new.bytes.items c.note_write.result whole c.self.invariant.1 begins
    c.note_write.ensures.bytes c.note_write.ensures.acts c.note_write.ensures.bytes_kept c.note_write.ensures.acts_kept in (
      ap (λ (b : Bool). if b then c.note_write.new.bytes.items else c.self.inside.first.items) is_set ∙ both.0,
      both.1,
    )
