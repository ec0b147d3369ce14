-- The parts of a line: its session, its statement, and a comment.
use Rattle.std.specs.Prelude.{ℕ, suc, ◌+◌, ◌-◌, ◌≤◌, Bool, false, not, ◌&&◌, ◌||◌, ◌==◌, if◌then◌else◌, List, [], ◌∷◌, length, take, drop, nat_le, IsTrue}
use Rattle.std.specs.List.{prefix_len, list_all}
use Rattle.std.specs.Char.{is_ascii}
use Rattle.ts_schema.specs.Names.{is_name}
use Rattle.stmt_tokens.specs.Tokens.{blank_len, begins_with}
use Rattle.stmt_tokens.specs.declared.lines.LineKind.{LineKind}
use Rattle.stmt_tokens.specs.declared.lines.LineKind.TheVariants.{Blank, NotAscii, NoSession, Stmt}

-- how many bytes are before the comment, which begins at the first two bytes --, within quotes too
abbrev pub comment_at : List ℕ → ℕ
comment_at [] = 0
comment_at (b ∷ bytes) = if b == 45 && begins_with 45 bytes then 0 else 1 + comment_at bytes

-- a letter from a to z
abbrev pub begins_session : ℕ → Bool
begins_session b = nat_le 97 b && nat_le b 122

-- a letter from a to z, a digit or _
abbrev pub continues_session : ℕ → Bool
continues_session b = begins_session b || (nat_le 48 b && nat_le b 57) || b == 95

-- as many bytes as continue a session name
abbrev pub session_len : List ℕ → ℕ
session_len bytes = prefix_len continues_session bytes

-- a session name of 1 to 16 bytes and a colon are in front
abbrev pub has_session : List ℕ → Bool
has_session [] = false
has_session (b ∷ bytes) =
    begins_session b && nat_le (session_len (b ∷ bytes)) 16
    && begins_with 58 (drop (session_len (b ∷ bytes)) (b ∷ bytes))

-- a line whose text before the comment is this one, with this many blanks in front
abbrev pub of_text : List ℕ → ℕ → LineKind
of_text text blanks =
    if nat_le (length text) blanks then Blank
    else if not (list_all is_ascii text) then NotAscii
    else if has_session (drop blanks text)
    then (let n = session_len (drop blanks text) in Stmt n (blanks + n + 1) (length text))
    else NoSession

-- what a line is: blank; with a byte outside ASCII before its comment; without a session name; or a statement
-- of a session. A statement has the length of the session's name, the number of bytes before the statement, and
-- the number before the comment. The colon is the last byte before the statement
abbrev pub line_kind : List ℕ → LineKind
line_kind line = let text = take (comment_at line) line in of_text text (blank_len text)

-- the name of the session of a line: it is before the colon, which is the last byte skipped
abbrev pub session_name : List ℕ → ℕ → ℕ → List ℕ
session_name line len skip = take len (drop (skip - suc len) line)

-- the places of a line with a statement: a good name is directly before the colon, the colon before the
-- statement, and the statement before the comment
pub record IsStatementLine (line : List ℕ) (len skip end : ℕ) : Type 0 where
  pub named : IsTrue (is_name (session_name line len skip))
  pub colon : suc len ≤ skip
  pub statement : skip ≤ end
  pub within : end ≤ length line
