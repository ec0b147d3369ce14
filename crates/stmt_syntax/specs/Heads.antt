-- The output name of a bucket.
use Rattle.std.specs.Prelude.{ℕ, List, Option, Some, None, codes}

-- the output name of the head of a fold: the one after AS, or the head's default name
abbrev pub head_name : List ℕ → Option (List ℕ) → List ℕ
head_name own None = own
head_name own (Some x) = x

-- the default name of a bucket
abbrev pub bucket_word : List ℕ
bucket_word = codes "time_bucket"

-- the default name of a bucket of the calendar
abbrev pub calendar_word : List ℕ
calendar_word = codes "calendar_bucket"
