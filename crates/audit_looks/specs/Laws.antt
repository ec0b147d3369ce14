-- The laws of texts.
use Rattle.std.specs.Prelude.{◌≡◌, ℕ, suc, ◌<◌, ◌^◌, false, List}
use Rattle.std.specs.List.{AllByRecursion, list_any}
use Rattle.result_text.specs.declared.replies.Said.{Said}
use Rattle.ts_sessions.specs.Looks.{looks_told}
use Rattle.ts_sessions.specs.Made.{made_in}
use Rattle.ts_sessions.specs.Script.{text_of}
use Rattle.audit_looks.specs.Replies.{is_line_end, looks_in, numbers_in}

-- the positions read from the text of a reply are the read positions that the reply prints. The number of the event
-- after each has 64 bits, and the name of the session has no line end
abbrev pub TextsTellLooks : Type 0
TextsTellLooks =
    (name : List ℕ) (lines : List Said) → list_any is_line_end name ≡ false
    → AllByRecursion (λ p. suc p < 2 ^ 64) (looks_told lines) → looks_in name (text_of name lines) ≡ looks_told lines

-- the numbers read from the text of a reply are those of the events that the reply names. These have 64 bits, and the
-- name of the session has no line end
abbrev pub TextsTellNumbers : Type 0
TextsTellNumbers =
    (name : List ℕ) (lines : List Said) → list_any is_line_end name ≡ false
    → AllByRecursion (λ n. n < 2 ^ 64) (made_in lines) → numbers_in name (text_of name lines) ≡ made_in lines
