-- The result of reading an image.
use Rattle.ts_model.specs.declared.images.Image.{Image}
use Rattle.base_image.specs.declared.read_outcome.ReadImage.{ReadImage}
use Rattle.base_image.specs.declared.read_outcome.ReadImage.TheVariants as answers

-- P of an image that was read
abbrev pub IfImage : ReadImage → (Image → Type 0) → Type 0
IfImage (answers.Image i) P = P i
IfImage answers.BadImage P = Unit {0}
IfImage answers.NoMemory P = Unit {0}

-- P if no image was read, and memory was enough
abbrev pub IfBad : ReadImage → Type 0 → Type 0
IfBad (answers.Image i) P = Unit {0}
IfBad answers.BadImage P = P
IfBad answers.NoMemory P = Unit {0}
