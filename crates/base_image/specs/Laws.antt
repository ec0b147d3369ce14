-- Laws of the bytes of images, each in one sentence.
use Rattle.std.specs.Prelude.{◌≡◌, length}
use Rattle.ts_model.specs.declared.images.Image.{Image}
use Rattle.base_image.specs.Counting.{image_bytes}
use Rattle.base_image.specs.Spelling as spelling

-- an image has as many bytes as its size says
abbrev pub BytesAreCounted : Type 0
BytesAreCounted = (i : Image) → length (spelling.image i) ≡ image_bytes i
