use Rattle.std.specs.Prelude.{ℕ, ◌+◌, ℤ, Bool, false, ◌&&◌, ◌||◌, ◌==◌, if◌then◌else◌, List, [], ◌∷◌, take, drop, Option, Some, None, nat_le}
use Rattle.std.specs.Char.{is_ascii_digit}
use Rattle.std.specs.List.{prefix_len}
use Rattle.std.specs.Str.Parse.{signed_digits_value}
use Rattle.stmt_syntax.specs.Limits.{is_i64}
use Rattle.stmt_tokens.specs.Bytes.{is_space, begins_word, continues_word, lower}
use Rattle.stmt_tokens.specs.declared.tokens.Mark.{Mark}
use Rattle.stmt_tokens.specs.declared.tokens.Mark.TheVariants.{Open, Close, Comma, Semicolon, Point, Star, Equal, Less, Greater, AtMost, AtLeast, Differs, Unequal, Arrow}
use Rattle.stmt_tokens.specs.declared.tokens.TokenAt.{TokenAt}
use Rattle.stmt_tokens.specs.declared.tokens.TokenAt.TheVariants as at
use Rattle.stmt_tokens.specs.declared.tokens.TokenKind.TheVariants as kinds

-- a word and a quoted name are in lower case; a number is any whole number
pub data Token : Type 0 where
  word : List ℕ → Token
  number : ℤ → Token
  quoted : List ℕ → Token
  mark : Mark → Token

-- a token and how many bytes it takes
pub record Lexeme : Type 0 where
  pub token : Token
  pub len : ℕ

-- ---- a token at the front of bytes that aren't blank

-- as many bytes as continue a word, 1 to 63 of them
abbrev pub word_at : List ℕ → Option Lexeme
word_at bytes =
    let n = prefix_len continues_word bytes in
    if nat_le n 63 then Some (record { token = word (lower (take n bytes)); len = n }) else None

-- the first byte is this one
abbrev pub begins_with : ℕ → List ℕ → Bool
begins_with b [] = false
begins_with b (c ∷ bytes) = c == b

-- 1 if a minus is in front, otherwise 0
abbrev pub sign_len : List ℕ → ℕ
sign_len bytes = if begins_with 45 bytes then 1 else 0

-- all digits that follow, and a minus directly before them if there is one
abbrev pub number_at : List ℕ → Option Lexeme
number_at bytes =
    let sign = sign_len bytes in
    let digits = prefix_len is_ascii_digit (drop sign bytes) in
    if digits == 0 then None
    else Some (record { token = number (signed_digits_value 10 (take (sign + digits) bytes)); len = sign + digits })

-- after the quote: a word of 1 to 63 bytes and a second quote
abbrev pub quoted_at : List ℕ → Option Lexeme
quoted_at [] = None
quoted_at (b ∷ bytes) =
    let n = prefix_len continues_word (b ∷ bytes) in
    if begins_word b && nat_le n 63 && begins_with 39 (drop n (b ∷ bytes))
    then Some (record { token = quoted (lower (take n (b ∷ bytes))); len = n + 2 })
    else None

-- <= >= <> != =>
abbrev pub long_mark : ℕ → ℕ → Option Mark
long_mark a b =
    if a == 60 && b == 61 then Some AtMost
    else if a == 62 && b == 61 then Some AtLeast
    else if a == 60 && b == 62 then Some Differs
    else if a == 33 && b == 61 then Some Unequal
    else if a == 61 && b == 62 then Some Arrow
    else None

-- ( ) , ; . * = < >
abbrev pub short_mark : ℕ → Option Mark
short_mark a =
    if a == 40 then Some Open
    else if a == 41 then Some Close
    else if a == 44 then Some Comma
    else if a == 59 then Some Semicolon
    else if a == 46 then Some Point
    else if a == 42 then Some Star
    else if a == 61 then Some Equal
    else if a == 60 then Some Less
    else if a == 62 then Some Greater
    else None

-- a mark of this many bytes
abbrev pub mark_of_len : ℕ → Option Mark → Option Lexeme
mark_of_len n None = None
mark_of_len n (Some m) = Some (record { token = mark m; len = n })

-- one token, or the other if there isn't a first
abbrev pub or_else : Option Lexeme → Option Lexeme → Option Lexeme
or_else (Some l) other = Some l
or_else None other = other

-- the longest mark that fits
abbrev pub mark_at : List ℕ → Option Lexeme
mark_at [] = None
mark_at (a ∷ []) = mark_of_len 1 (short_mark a)
mark_at (a ∷ b ∷ bytes) = or_else (mark_of_len 2 (long_mark a b)) (mark_of_len 1 (short_mark a))

-- the token that begins here; none begins at the end, or if the answer is None
abbrev pub lexeme_at : List ℕ → Option Lexeme
lexeme_at [] = None
lexeme_at (b ∷ bytes) =
    if begins_word b then word_at (b ∷ bytes)
    else if is_ascii_digit b || b == 45 then number_at (b ∷ bytes)
    else if b == 39 then quoted_at bytes
    else mark_at (b ∷ bytes)

-- ---- the next token of a text

-- exactly one byte, CR
abbrev pub is_return : List ℕ → Bool
is_return [] = false
is_return (b ∷ []) = b == 13
is_return (b ∷ c ∷ bytes) = false

-- how many blanks are in front: spaces, tabs, and a CR at the end of the text
abbrev pub blank_len : List ℕ → ℕ
blank_len bytes = let n = prefix_len is_space bytes in if is_return (drop n bytes) then n + 1 else n

-- what comes after blanks: a token with its first byte and the byte after it, counted from 0; the end; or a byte at
-- which
-- no token begins
pub data Next : Type 0 where
  token : Token → ℕ → ℕ → Next
  ended : Next
  nothing : ℕ → Next

-- a token that begins at a place, if one does
abbrev pub of_lexeme : ℕ → Option Lexeme → Next
of_lexeme begin None = nothing begin
of_lexeme begin (Some l) = token l.token begin (begin + l.len)

-- what comes next at a place, where no blank is
abbrev pub next_here : ℕ → List ℕ → Next
next_here begin [] = ended
next_here begin (b ∷ bytes) = of_lexeme begin (lexeme_at (b ∷ bytes))

-- what comes after the first `skip` bytes of a text
abbrev pub next : List ℕ → ℕ → Next
next text skip = let begin = skip + blank_len (drop skip text) in next_here begin (drop begin text)

-- ---- what `next_token` returns

-- places count from 1
abbrev pub token_at_of : ℕ → Next → TokenAt
token_at_of skip ended = at.End (skip + 1)
token_at_of skip (nothing begin) = at.NoToken (begin + 1)
token_at_of skip (token (word w) begin end) = at.Token kinds.Word begin end
token_at_of skip (token (number z) begin end) =
    if is_i64 z then at.Token (kinds.Number z) begin end else at.BadNumber (begin + 1)
token_at_of skip (token (quoted w) begin end) = at.Token kinds.Quoted begin end
token_at_of skip (token (mark m) begin end) = at.Token kinds.Mark begin end

-- the next token after the first `skip` bytes
abbrev pub token_at : List ℕ → ℕ → TokenAt
token_at text skip = token_at_of skip (next text skip)
