use Rattle.std.specs.Prelude.{ℕ, ◌+◌, ◌<◌, ◌≤◌, ℤ, pos, neg_ℤ, ◌==◌, if◌then◌else◌, List, length, Option, Some, None, IsTrue}
use Rattle.ts_schema.specs.Names.{is_name}
use Rattle.stmt_tokens.specs.Bytes.{lower}
use Rattle.stmt_tokens.specs.Tokens as spec
use Rattle.stmt_syntax.specs.Limits.{is_i64}
use Rattle.stmt_tokens.specs.declared.tokens.Mark.{Mark}
use Rattle.stmt_tokens.specs.declared.tokens.Token.{Token}
use Rattle.stmt_tokens.specs.declared.tokens.Token.TheVariants as tokens
use Rattle.stmt_tokens.specs.declared.tokens.Lexeme.{Lexeme}
use Rattle.stmt_tokens.specs.declared.tokens.NextToken.{NextToken}
use Rattle.stmt_tokens.specs.declared.tokens.NextToken.TheVariants as heads
use Rattle.stmt_tokens.specs.declared.tokens.TokenAt.{TokenAt}
use Rattle.stmt_tokens.specs.declared.tokens.TokenAt.TheVariants as at
use Rattle.stmt_tokens.specs.declared.tokens.TokenKind.TheVariants as kinds

-- What the code keeps of a token: its bytes in lower case, and a number only if it is an i64.
pub data Seen : Type 0 where
  word : List ℕ → Seen
  number : Option ℤ → Seen
  quoted : List ℕ → Seen
  mark : Mark → Seen

-- a number if it is an i64
abbrev pub i64_of : ℤ → Option ℤ
i64_of z = if is_i64 z then Some z else None

-- the number with a sign of this many bytes, a minus or none, and this value of the digits after it
abbrev pub signed_number : ℕ → ℕ → ℤ
signed_number sign value = if sign == 0 then pos value else neg_ℤ (pos value)

-- what the code keeps of a token
abbrev pub seen_token : spec.Token → Seen
seen_token (spec.word w) = word w
seen_token (spec.number z) = number (i64_of z)
seen_token (spec.quoted w) = quoted w
seen_token (spec.mark m) = mark m

-- what the code has of a token
abbrev pub view : Token → Seen
view (tokens.Word w) = word (lower w.now)
view (tokens.Number n) = number n
view (tokens.Quoted w) = quoted (lower w.now)
view (tokens.Mark m) = mark m

-- a token and how many bytes it takes
pub record SeenLexeme : Type 0 where
  pub token : Seen
  pub len : ℕ

-- what the code keeps of a token and its bytes
abbrev pub seen_lexeme : Option spec.Lexeme → Option SeenLexeme
seen_lexeme None = None
seen_lexeme (Some l) = Some (record { token = seen_token l.token; len = l.len })

-- what the code has of them
abbrev pub view_lexeme : Option Lexeme → Option SeenLexeme
view_lexeme None = None
view_lexeme (Some l) = Some (record { token = view l.token; len = l.len })

-- what comes next
pub data SeenNext : Type 0 where
  token : Seen → ℕ → ℕ → SeenNext
  ended : SeenNext
  nothing : ℕ → SeenNext

-- what the code keeps of what comes next
abbrev pub seen_next : spec.Next → SeenNext
seen_next (spec.token t begin end) = token (seen_token t) begin end
seen_next spec.ended = ended
seen_next (spec.nothing begin) = nothing begin

-- what the code has of it
abbrev pub view_ahead : NextToken → SeenNext
view_ahead (heads.Token t begin end) = token (view t) begin end
view_ahead heads.End = ended
view_ahead (heads.Nothing begin) = nothing begin

-- what `next_token` returns for a token
abbrev pub shown_token : Seen → ℕ → ℕ → TokenAt
shown_token (word w) begin end = at.Token kinds.Word begin end
shown_token (number None) begin end = at.BadNumber (begin + 1)
shown_token (number (Some z)) begin end = at.Token (kinds.Number z) begin end
shown_token (quoted w) begin end = at.Token kinds.Quoted begin end
shown_token (mark m) begin end = at.Token kinds.Mark begin end

-- what comes next lies after `skip` and before the end
abbrev pub SeenFits : ℕ → ℕ → SeenNext → Type 0
SeenFits skip most (token t begin end) = (skip ≤ begin) × (begin < end) × (end ≤ most)
SeenFits skip most ended = Unit {0}
SeenFits skip most (nothing begin) = (skip ≤ begin) × (begin < most)

-- a word or a quoted name is a name
abbrev pub IsNamedToken : Seen → Type 0
IsNamedToken (word w) = IsTrue (is_name w) × (length w ≤ 63)
IsNamedToken (number z) = Unit {0}
IsNamedToken (quoted w) = IsTrue (is_name w) × (length w ≤ 63)
IsNamedToken (mark m) = Unit {0}

-- a token, if there is one, is a name if it is a word or quoted
abbrev pub IsNamed : Option Token → Type 0
IsNamed None = Unit {0}
IsNamed (Some t) = IsNamedToken (view t)
