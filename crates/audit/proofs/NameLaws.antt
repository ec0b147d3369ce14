-- Names of sessions, and lines within the limit.
use Rattle.std.proofs.Common.{◌≡◌, ◌≤◌, ℕ, zero, suc, true, false, ◌&&◌, List, [], ◌∷◌, length, refl, ◌∙◌, arith}
use Rattle.std.specs.Prelude.{nat_le, ◌||◌}
use Rattle.std.specs.List.{list_all, list_any}
use Rattle.std.proofs.lemmas.Bool.{and_parts, leb-true, le-leb}
use Rattle.std.proofs.lemmas.Bool.Decides.{nat_tests}
use Rattle.ts_schema.specs.Names.{is_head, is_name, is_tail}
use Rattle.stmt_syntax.specs.Limits.{longest_line}
use Rattle.stmt_tokens.specs.Lines.{begins_session, continues_session, line_kind}
use Rattle.audit_looks.specs.Replies.{is_line_end}
use Rattle.transcript.specs.Shape.{is_line_of, is_one_line, is_session_name, is_sound_talk, speaks_in}
use Rattle.transcript.specs.declared.transcripts.Exchange.{Exchange}
use Rattle.transcript.specs.declared.transcripts.SessionTranscript.{SessionTranscript}
use Rattle.audit.specs.Short.{AreShort, AreShortTalks}

-- ---- names

head_apart : (b : ℕ) → is_head b ≡ true → is_line_end b ≡ false
head_apart b e = grind (arith, nat_tests, e)

tail_apart : (b : ℕ) → is_tail b ≡ true → is_line_end b ≡ false
tail_apart b e = grind (arith, nat_tests, e)

tails_apart : (bs : List ℕ) → list_all is_tail bs ≡ true → list_any is_line_end bs ≡ false
tails_apart [] e = refl
tails_apart (b ∷ bs) e =
    let parts = and_parts (is_tail b) (list_all is_tail bs) e in
    (λ i. tail_apart b parts.0 i || list_any is_line_end bs) ∙ tails_apart bs parts.1

-- a name has no line end
pub name_of_one_line : (name : List ℕ) → is_name name ≡ true → list_any is_line_end name ≡ false
name_of_one_line [] e = refl
name_of_one_line (b ∷ bs) e =
    let parts = and_parts (nat_le (length (b ∷ bs)) 63 && is_head b) (list_all is_tail bs) e in
    let front = and_parts (nat_le (length (b ∷ bs)) 63) (is_head b) parts.0 in
    (λ i. head_apart b front.1 i || list_any is_line_end bs) ∙ tails_apart bs parts.1

begins_head : (b : ℕ) → begins_session b ≡ true → is_head b ≡ true
begins_head b e = grind (arith, nat_tests, e)

goes_on_tail : (b : ℕ) → continues_session b ≡ true → is_tail b ≡ true
goes_on_tail b e = grind (arith, nat_tests, e)

go_on_tails : (bs : List ℕ) → list_all continues_session bs ≡ true → list_all is_tail bs ≡ true
go_on_tails [] e = refl
go_on_tails (b ∷ bs) e =
    let parts = and_parts (continues_session b) (list_all continues_session bs) e in
    λ i. goes_on_tail b parts.0 i && go_on_tails bs parts.1 i

-- the name of a session is a name
pub session_is_named : (name : List ℕ) → is_session_name name ≡ true → is_name name ≡ true
session_is_named (b ∷ bs) e =
    let parts = and_parts (begins_session b && list_all continues_session bs) (nat_le (length bs) 15) e in
    let front = and_parts (begins_session b) (list_all continues_session bs) parts.0 in
    let few : length bs ≤ 15 = leb-true (length bs) 15 parts.1 in
    let short : nat_le (length (b ∷ bs)) 63 ≡ true = le-leb (length (b ∷ bs)) 63 (omega arith) in
    λ i. (short i && begins_head b front.0 i) && go_on_tails bs front.1 i
session_is_named [] e = e

pub talk_is_named : (talk : SessionTranscript) → is_sound_talk talk ≡ true → is_name talk.name ≡ true
talk_is_named talk e = session_is_named talk.name (and_parts (is_session_name talk.name) (list_all (λ f. is_line_of talk.name f.line) talk.replies) e).0

pub names_of_one_line : (talk : SessionTranscript) → is_sound_talk talk ≡ true → list_any is_line_end talk.name ≡ false
names_of_one_line talk e = name_of_one_line talk.name (talk_is_named talk e)

-- ---- lines

short_lines : (name : List ℕ) (es : List Exchange) → list_all (λ f. is_line_of name f.line) es ≡ true → AreShort es
short_lines name [] e k d within = absurd (omega arith)
short_lines name (f ∷ es) e zero d within =
    let here = and_parts (is_line_of name f.line) (list_all (λ f. is_line_of name f.line) es) e in
    let parts = and_parts (nat_le (length f.line) longest_line && is_one_line f.line) (speaks_in name f.line (line_kind f.line)) here.0 in
    leb-true (length f.line) longest_line (and_parts (nat_le (length f.line) longest_line) (is_one_line f.line) parts.0).0
short_lines name (f ∷ es) e (suc k) d within =
    short_lines name es (and_parts (is_line_of name f.line) (list_all (λ f. is_line_of name f.line) es) e).1 k d (omega arith)

pub talk_is_short : (talk : SessionTranscript) → is_sound_talk talk ≡ true → AreShort talk.replies
talk_is_short talk e = short_lines talk.name talk.replies (and_parts (is_session_name talk.name) (list_all (λ f. is_line_of talk.name f.line) talk.replies) e).1

pub talks_are_short : (talks : List SessionTranscript) → list_all is_sound_talk talks ≡ true → AreShortTalks talks
talks_are_short [] e k d within = absurd (omega arith)
talks_are_short (talk ∷ talks) e zero d within = talk_is_short talk (and_parts (is_sound_talk talk) (list_all is_sound_talk talks) e).0
talks_are_short (talk ∷ talks) e (suc k) d within = talks_are_short talks (and_parts (is_sound_talk talk) (list_all is_sound_talk talks) e).1 k d (omega arith)
