-- The bytes of a checkpoint image.
use Rattle.std.specs.Prelude.{ℕ, ℤ, List, ◌∷◌, ◌++◌, length}
use Rattle.std.specs.Int.{w128, to_le_bytes, cast_unsigned}
use Rattle.std.specs.List.{flat_map}
use Rattle.ts_model.specs.declared.events.Event.{Event}
use Rattle.ts_model.specs.declared.images.Finished.{Finished}
use Rattle.ts_model.specs.declared.images.Image.{Image}
use Rattle.ts_model.specs.declared.images.SavedGroup.{SavedGroup}
use Rattle.ts_model.specs.declared.images.SavedLast.{SavedLast}
use Rattle.ts_model.specs.declared.images.SavedView.{SavedView}
use Rattle.ts_model.specs.declared.images.Sums.{Sums}
use Rattle.ts_model.specs.declared.refreshes.Waiting.{Waiting}
use Rattle.event_codec.specs.Spelling.{four, eight, signed_bytes, many, value, span, event}

-- a signed number in sixteen bytes, by two's complement, the lowest byte first
unfoldable pub wide : ℤ → List ℕ
wide z = to_le_bytes w128 (cast_unsigned w128 z)

-- an event after the count of its bytes
abbrev pub bytes_of_frame : Event → List ℕ
bytes_of_frame e = four (length (event e)) ++ event e

abbrev pub sums : Sums → List ℕ
sums s = eight s.count ++ (eight s.values ++ (wide s.sum ++ (value s.least ++ value s.most)))

-- the number of keys and parts of a group follows from its aggregate
abbrev pub group : SavedGroup → List ℕ
group g = signed_bytes g.start ++ (flat_map value g.keys ++ flat_map sums g.parts)

abbrev pub last : SavedLast → List ℕ
last l = span l.span ++ eight l.pos

abbrev pub bytes_of_saved_view : SavedView → List ℕ
bytes_of_saved_view v = many last v.lasts ++ (many span v.dirty ++ (many group v.groups ++ value v.mark))

abbrev pub bytes_of_waiting : Waiting → List ℕ
bytes_of_waiting w = eight w.cut ++ (four w.view ++ span w.span)

abbrev pub bytes_of_finished : Finished → List ℕ
bytes_of_finished f = eight f.cut ++ eight f.built

-- the byte that no event begins with, and all parts in order
abbrev pub image : Image → List ℕ
image i =
    8 ∷ (eight i.pos ++ (many bytes_of_frame i.roster ++ (many bytes_of_frame i.rows
    ++ (many bytes_of_saved_view i.views ++ (many bytes_of_waiting i.waiting ++ many bytes_of_finished i.done)))))
