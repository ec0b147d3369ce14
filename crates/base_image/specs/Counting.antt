-- The number of bytes of an image.
use Rattle.std.specs.Prelude.{ℕ, ◌+◌, ◌*◌, length, sum_by}
use Rattle.ts_model.specs.Bytes.{event_bytes, value_bytes}
use Rattle.ts_model.specs.declared.events.Event.{Event}
use Rattle.ts_model.specs.declared.images.Image.{Image}
use Rattle.ts_model.specs.declared.images.SavedGroup.{SavedGroup}
use Rattle.ts_model.specs.declared.images.SavedView.{SavedView}
use Rattle.ts_model.specs.declared.images.Sums.{Sums}

abbrev pub framed_bytes : Event → ℕ
framed_bytes e = 4 + event_bytes e

abbrev pub sums_bytes : Sums → ℕ
sums_bytes s = 32 + value_bytes s.least + value_bytes s.most

abbrev pub group_bytes : SavedGroup → ℕ
group_bytes g = 8 + sum_by value_bytes g.keys + sum_by sums_bytes g.parts

abbrev pub saved_bytes : SavedView → ℕ
saved_bytes v =
    12 + 24 * length v.lasts + 16 * length v.dirty + sum_by group_bytes v.groups + value_bytes v.mark

-- the bytes that an image takes
abbrev pub image_bytes : Image → ℕ
image_bytes i =
    29 + sum_by framed_bytes i.roster + sum_by framed_bytes i.rows + sum_by saved_bytes i.views
    + 28 * length i.waiting + 16 * length i.done
