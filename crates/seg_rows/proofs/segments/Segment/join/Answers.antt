use Rattle.std.proofs.Common.{◌≡◌, ◌++◌, length, refl}
use Rattle.seg_rows.proofs.LifeLaws.{joined_sealed, with_lives-append}
use Rattle.seg_rows.proofs.segments.Segment.join.Goals as goal

pub returns : goal.returns
returns c = record { joined = rw (c.in_ok-of.ensures.items, c.in_ok-new.ensures.ok, c.in_ok-lives.ensures.lives (length c.in_ok-rows.rows), c.in_ok-rows.ensures.rows, c.len.ensures.len, c.len-2.ensures.len, c.items.ensures.items, c.items-2.ensures.items, c.deref.ensures, c.deref-2.ensures, ← c.self.view_is, ← c.other.view_is) (with_lives-append c.self.inside.rows c.other.inside.rows _ _ c.self.invariant.covers) }

pub invariant_of-result : goal.invariant_of-result
invariant_of-result c =
    let rows : c.in_ok-of.field-0 ≡ c.self.inside.rows ++ c.other.inside.rows =
    rw (c.in_ok-of.ensures.items, c.in_ok-rows.ensures.rows, c.items.ensures.items, c.items-2.ensures.items) refl in
    joined_sealed c.self.inside.rows c.other.inside.rows _ c.self.inside.lives.value c.other.inside.lives.value _ c.self.inside.hull c.other.inside.hull _ c.self.inside.dead c.other.inside.dead _
    c.self.invariant c.other.invariant rows
    (λ n. rw (c.in_ok-new.ensures.ok, c.in_ok-lives.ensures.lives n, c.len.ensures.len, c.len-2.ensures.len, c.deref.ensures, c.deref-2.ensures) refl)
    c.join_hulls.ensures.joined c.both_died.ensures.later
