-- The statements that policies run are read as such, and are short.
use lib.Signed.{mag}
use Rattle.std.proofs.Common.{◌≡◌, ◌∙◌, refl, sym, ap, subst, ℕ, ◌+◌, ◌<◌, ◌≤◌, ◌^◌, ℤ, pos, true, false, ◌&&◌, leb, List, [], ◌∷◌, ◌++◌, drop, length, Option, Some, None, Ok, codes, arith}
use Rattle.std.specs.Prelude.{Result, Err, IfOk}
use Rattle.std.specs.Char.{is_ascii_digit}
use Rattle.std.specs.Fmt.{signed_decimal}
use Rattle.std.specs.List.{list_all}
use Rattle.std.proofs.lemmas.Bool.{and_parts, leb-true}
use Rattle.std.proofs.lemmas.Fmt.{length_signed_le}
use Rattle.std.proofs.lemmas.Int.{ints}
use Rattle.std.proofs.lemmas.List.{append_assoc, length-append}
use Rattle.ts_schema.specs.declared.memory.NoMemory.{NoMemory}
use Rattle.ts_schema.specs.Names.{is_head, is_name, is_tail}
use Rattle.ts_bucket.specs.Bucket.{is_time}
use Rattle.stmt_reader.specs.Reading.{bind, call_rest, drop_rest, end, form, number, older_than, one, select_rest, semicolon, statement, takes, value, token_parser, window}
use Rattle.stmt_tokens.specs.Streams.{Stream, ends, ◌then◌, stream}
use Rattle.stmt_tokens.specs.Tokens.{Token, word, number as number_at, mark, quoted}
use Rattle.stmt_syntax.specs.Limits.{is_i64}
use Rattle.stmt_syntax.specs.declared.statements.Stmt.{Stmt}
use Rattle.stmt_syntax.specs.declared.statements.Stmt.TheVariants as stmts
use Rattle.stmt_tokens.specs.declared.tokens.Mark.TheVariants.{Open, Close, Comma}
use Rattle.ts_sessions.specs.Actors.{ReadsEvent}
use Rattle.policy_jobs.specs.Adding.{has_offsets, is_from, is_offset}
use Rattle.policy_jobs.specs.declared.jobs.Job.{Job}
use Rattle.policy_jobs.specs.declared.jobs.Job.TheVariants as jobs
use Rattle.policy_jobs.specs.Laws.{bound_of, due_statement, relation_in}
use Rattle.policy_jobs.specs.Policies.{due_text, end_of, end_text, refresh_text, retention_text}
use Rattle.policy_jobs.specs.Runs.{IsRunnable}
use Rattle.policy_jobs.proofs.CleanTexts.{IsClean, both, closing, comma, less, name_clean, signed_clean}
use Rattle.policy_jobs.proofs.TokenLaws.{Comes, behind_space, comes, ends_at, first_token, is_word, number_token, quoted_token}

-- ---- ends of windows

-- the time this long before another is a number of 63 bits with its sign
end_small : (now before : ℤ) → is_time now ≡ true → is_from (pos 0) before ≡ true → mag (end_of now before) < 2 ^ 62 + 1
end_small now before t f = grind (arith, ints)

-- an end of a window is open, or its time is at most 2^62 in magnitude
abbrev pub IsEnd : ℤ → Option ℤ → Type 0
IsEnd now None = Unit {0}
IsEnd now (Some before) = mag (end_of now before) < 2 ^ 62 + 1

-- the token of an end
abbrev end_token : ℤ → Option ℤ → Token
end_token now None = word (codes "null")
end_token now (Some before) = number_at (end_of now before)

end_first : (now : ℤ) (o : Option ℤ) (b : ℕ) (rest : List ℕ) → first_token (codes "NULL" ++ (b ∷ rest)) ≡ Some (word (codes "null"), b ∷ rest) → is_ascii_digit b ≡ false → IsEnd now o → first_token (end_text now o ++ (b ∷ rest)) ≡ Some (end_token now o, b ∷ rest)
end_first now None b rest e d s = e
end_first now (Some before) b rest e d s = number_token (end_of now before) (b ∷ rest) (omega (arith, s)) (rw d refl)

end_len : (now : ℤ) (o : Option ℤ) → IsEnd now o → length (end_text now o) ≤ 20
end_len now None s = omega arith
end_len now (Some before) s = length_signed_le 19 (end_of now before) (omega (arith, s)) (omega (arith, s))

name_len : (name : List ℕ) → is_name name ≡ true → length name ≤ 63
name_len [] e = omega arith
name_len (b ∷ bs) e =
    let k = and_parts (leb (length (b ∷ bs)) 63 && is_head b) (list_all is_tail bs) e in
    leb-true (length (b ∷ bs)) 63 (and_parts (leb (length (b ∷ bs)) 63) (is_head b) k.0).0

-- ---- refreshes

-- the tokens of a refresh
abbrev refresh_stream : List ℕ → Token → Token → ℕ → ℕ → ℕ → ℕ → ℕ → ℕ → ℕ → ℕ → ℕ → ℕ → Stream
refresh_stream view from to a b c d e f g h i p =
    (record { at = a; token = word (codes "call") }) then ((record { at = b; token = word (codes "refresh_continuous_aggregate") })
    then ((record { at = c; token = mark Open }) then ((record { at = d; token = quoted view }) then ((record { at = e; token = mark Comma })
    then ((record { at = f; token = from }) then ((record { at = g; token = mark Comma }) then ((record { at = h; token = to })
    then ((record { at = i; token = mark Close }) then (ends p)))))))))

small_word : (z : ℤ) → mag z < 2 ^ 62 + 1 → is_i64 z ≡ true
small_word z s = is_word z (omega (arith, s))

refresh_is_read : (now : ℤ) (view : List ℕ) (from to : Option ℤ) (a b c d e f g h i p : ℕ) → IsEnd now from → IsEnd now to
    → statement (refresh_stream view (end_token now from) (end_token now to) a b c d e f g h i p) ≡ Ok (stmts.Refresh view (bound_of now from) (bound_of now to), ends p)
unfolding statement form bind takes token_parser one call_rest window value number semicolon end
refresh_is_read now view None None a b c d e f g h i p s t = refl
refresh_is_read now view None (Some to) a b c d e f g h i p s t = rw (small_word (end_of now to) t) refl
refresh_is_read now view (Some from) None a b c d e f g h i p s t = rw (small_word (end_of now from) s) refl
refresh_is_read now view (Some from) (Some to) a b c d e f g h i p s t = rw (small_word (end_of now from) s, small_word (end_of now to) t) refl

-- what is read from a text after its first bytes
pub record Reads (text : List ℕ) (skip : ℕ) (s : Stmt) : Type 0 where
  pub left : Stream
  pub is : statement (stream text skip) ≡ Ok (s, left)

-- the tokens of a refresh in order
refresh_tokens : (text : List ℕ) (skip : ℕ) (view r1 r2 r3 r4 r5 r6 r7 r8 : List ℕ) (t u : Token) (begins : Comes text skip (word (codes "call")) r1) (two : Comes text begins.end (word (codes "refresh_continuous_aggregate")) r2)
    → (three : Comes text two.end (mark Open) r3) (four : Comes text three.end (quoted view) r4) (five : Comes text four.end (mark Comma) r5) (six : Comes text five.end t r6)
    → (seven : Comes text six.end (mark Comma) r7) (eight : Comes text seven.end u r8) (nine : Comes text eight.end (mark Close) [])
    → stream text skip ≡ refresh_stream view t u begins.at two.at three.at four.at five.at six.at seven.at eight.at nine.at (nine.end + 1)
refresh_tokens text skip view r1 r2 r3 r4 r5 r6 r7 r8 t u begins two three four five six seven eight nine =
    rw (begins.is, two.is, three.is, four.is, five.is, six.is, seven.is, eight.is, nine.is, ends_at text nine.end nine.left) refl

-- the text after CALL
abbrev refresh_rest : ℤ → List ℕ → Option ℤ → Option ℤ → List ℕ
refresh_rest now view from to =
    codes " refresh_continuous_aggregate('" ++ (view ++ 39 ∷ 44 ∷ 32 ∷ (end_text now from ++ 44 ∷ 32 ∷ (end_text now to ++ 41 ∷ [])))

refresh_apart : (now : ℤ) (view : List ℕ) (from to : Option ℤ) → refresh_text now view from to ≡ codes "CALL" ++ refresh_rest now view from to
refresh_apart now view from to = simp append_assoc refl

-- a refresh is read, wherever CALL comes next
refresh_reads : (text : List ℕ) (skip : ℕ) (now : ℤ) (view : List ℕ) (from to : Option ℤ) → is_name view ≡ true → IsEnd now from → IsEnd now to → Comes text skip (word (codes "call")) (refresh_rest now view from to)
    → Reads text skip (stmts.Refresh view (bound_of now from) (bound_of now to))
refresh_reads text skip now view from to n s t one =
    let i_rest : List ℕ = 41 ∷ [] in
    let h_rest : List ℕ = end_text now to ++ i_rest in
    let g_rest : List ℕ = 44 ∷ 32 ∷ h_rest in
    let f_rest : List ℕ = end_text now from ++ g_rest in
    let e_rest : List ℕ = 44 ∷ 32 ∷ f_rest in
    let d_rest : List ℕ = 39 ∷ (view ++ 39 ∷ e_rest) in
    let b_rest : List ℕ = refresh_rest now view from to in
    let two = comes text b_rest (40 ∷ d_rest) one.end (word (codes "refresh_continuous_aggregate")) one.left refl in
    let three = comes text (40 ∷ d_rest) d_rest two.end (mark Open) two.left refl in
    let four = comes text d_rest e_rest three.end (quoted view) three.left (quoted_token view e_rest n) in
    let five = comes text e_rest (32 ∷ f_rest) four.end (mark Comma) four.left refl in
    let six = comes text (32 ∷ f_rest) g_rest five.end (end_token now from) five.left (behind_space f_rest ∙ end_first now from 44 (32 ∷ h_rest) refl refl s) in
    let seven = comes text g_rest (32 ∷ h_rest) six.end (mark Comma) six.left refl in
    let eight = comes text (32 ∷ h_rest) i_rest seven.end (end_token now to) seven.left (behind_space h_rest ∙ end_first now to 41 [] refl refl t) in
    let nine = comes text i_rest [] eight.end (mark Close) eight.left refl in
    let tokens = refresh_tokens text skip view b_rest (40 ∷ d_rest) d_rest e_rest (32 ∷ f_rest) g_rest (32 ∷ h_rest) i_rest (end_token now from) (end_token now to) one two three four five six seven eight nine in
    record { left = ends (nine.end + 1); is = ap statement tokens ∙ refresh_is_read now view from to one.at two.at three.at four.at five.at six.at seven.at eight.at nine.at (nine.end + 1) s t }

-- ---- retention

abbrev drop_stream : List ℕ → ℤ → ℕ → ℕ → ℕ → ℕ → ℕ → ℕ → ℕ → ℕ → Stream
drop_stream table z a b c d e f g p =
    (record { at = a; token = word (codes "select") }) then ((record { at = b; token = word (codes "drop_chunks") })
    then ((record { at = c; token = mark Open }) then ((record { at = d; token = quoted table }) then ((record { at = e; token = mark Comma })
    then ((record { at = f; token = number_at z }) then ((record { at = g; token = mark Close }) then (ends p)))))))

drop_is_read : (table : List ℕ) (z : ℤ) (a b c d e f g p : ℕ) → is_i64 z ≡ true → statement (drop_stream table z a b c d e f g p) ≡ Ok (stmts.Drop table z, ends p)
unfolding statement form bind takes token_parser one select_rest drop_rest older_than number semicolon end
drop_is_read table z a b c d e f g p s = rw s refl

drop_tokens : (text : List ℕ) (skip : ℕ) (table r1 r2 r3 r4 r5 r6 : List ℕ) (z : ℤ) (begins : Comes text skip (word (codes "select")) r1) (two : Comes text begins.end (word (codes "drop_chunks")) r2)
    → (three : Comes text two.end (mark Open) r3) (four : Comes text three.end (quoted table) r4) (five : Comes text four.end (mark Comma) r5) (six : Comes text five.end (number_at z) r6)
    → (seven : Comes text six.end (mark Close) []) → stream text skip ≡ drop_stream table z begins.at two.at three.at four.at five.at six.at seven.at (seven.end + 1)
drop_tokens text skip table r1 r2 r3 r4 r5 r6 z begins two three four five six seven =
    rw (begins.is, two.is, three.is, four.is, five.is, six.is, seven.is, ends_at text seven.end seven.left) refl

-- the text after SELECT
abbrev retention_rest : ℤ → List ℕ → ℤ → List ℕ
retention_rest now table after = codes " drop_chunks('" ++ (table ++ 39 ∷ 44 ∷ 32 ∷ (signed_decimal (end_of now after) ++ 41 ∷ []))

retention_apart : (now : ℤ) (table : List ℕ) (after : ℤ) → retention_text now table after ≡ codes "SELECT" ++ retention_rest now table after
retention_apart now table after = simp append_assoc refl

retention_reads : (text : List ℕ) (skip : ℕ) (now : ℤ) (table : List ℕ) (after : ℤ) → is_name table ≡ true → IsEnd now (Some after) → Comes text skip (word (codes "select")) (retention_rest now table after)
    → Reads text skip (stmts.Drop table (end_of now after))
retention_reads text skip now table after n s one =
    let z : ℤ = end_of now after in
    let g_rest : List ℕ = 41 ∷ [] in
    let f_rest : List ℕ = signed_decimal z ++ g_rest in
    let e_rest : List ℕ = 44 ∷ 32 ∷ f_rest in
    let d_rest : List ℕ = 39 ∷ (table ++ 39 ∷ e_rest) in
    let b_rest : List ℕ = retention_rest now table after in
    let two = comes text b_rest (40 ∷ d_rest) one.end (word (codes "drop_chunks")) one.left refl in
    let three = comes text (40 ∷ d_rest) d_rest two.end (mark Open) two.left refl in
    let four = comes text d_rest e_rest three.end (quoted table) three.left (quoted_token table e_rest n) in
    let five = comes text e_rest (32 ∷ f_rest) four.end (mark Comma) four.left refl in
    let six = comes text (32 ∷ f_rest) g_rest five.end (number_at z) five.left (behind_space f_rest ∙ end_first now (Some after) 41 [] refl refl s) in
    let seven = comes text g_rest [] six.end (mark Close) six.left refl in
    let tokens = drop_tokens text skip table b_rest (40 ∷ d_rest) d_rest e_rest (32 ∷ f_rest) g_rest z one two three four five six seven in
    record { left = ends (seven.end + 1); is = ap statement tokens ∙ drop_is_read table z one.at two.at three.at four.at five.at six.at seven.at (seven.end + 1) (small_word z s) }

-- ---- both

end_given : (now : ℤ) (o : Option ℤ) → is_time now ≡ true → is_offset o ≡ true → IsEnd now o
end_given now None t f = tt
end_given now (Some before) t f = end_small now before t f

-- the text of what a job runs is read as its statement, also after a space
pub record ReadsDue (now : ℤ) (job : Job) : Type 0 where
  pub alone : Reads (due_text now job) 0 (due_statement now job)
  pub behind : (text : List ℕ) (skip : ℕ) → skip ≤ length text → drop skip text ≡ 32 ∷ due_text now job → Reads text skip (due_statement now job)

pub due_reads : (now : ℤ) (job : Job) → is_name (relation_in job) ≡ true → is_time now ≡ true → has_offsets job ≡ true → ReadsDue now job
due_reads now (jobs.Refresh view from to) n t o =
    let k = and_parts (is_offset from) (is_offset to) o in
    let s = end_given now from t k.0 in
    let u = end_given now to t k.1 in
    let rest = refresh_rest now view from to in
    let same = refresh_apart now view from to in
    record {
      alone = refresh_reads (refresh_text now view from to) 0 now view from to n s u (comes (refresh_text now view from to) (codes "CALL" ++ rest) rest 0 (word (codes "call")) (record { within = omega arith; left = same }) refl);
      behind = λ text skip within left. refresh_reads text skip now view from to n s u (comes text (32 ∷ (codes "CALL" ++ rest)) rest skip (word (codes "call")) (record { within = within; left = left ∙ ap (λ bytes. 32 ∷ bytes) same }) refl);
    }
due_reads now (jobs.Drop table after) n t o =
    let s = end_small now after t o in
    let rest = retention_rest now table after in
    let same = retention_apart now table after in
    record {
      alone = retention_reads (retention_text now table after) 0 now table after n s (comes (retention_text now table after) (codes "SELECT" ++ rest) rest 0 (word (codes "select")) (record { within = omega arith; left = same }) refl);
      behind = λ text skip within left. retention_reads text skip now table after n s (comes text (32 ∷ (codes "SELECT" ++ rest)) rest skip (word (codes "select")) (record { within = within; left = left ∙ ap (λ bytes. 32 ∷ bytes) same }) refl);
    }

-- the length of a text is the sum of the lengths of its pieces
two_len : (a b : List ℕ) (n : ℕ) → length a ≤ n → length (a ++ b) ≤ n + length b
two_len a b n le = let whole = length-append a b in omega (arith, whole, le)

four_len : (a b c d : List ℕ) → length (((a ++ b) ++ c) ++ d) ≤ length a + length b + length c + length d
four_len a b c d = two_len ((a ++ b) ++ c) d _ (two_len (a ++ b) c _ (two_len a b _ (omega arith)))

pub refresh_runs : (now : ℤ) (view : List ℕ) (from to : Option ℤ) → is_name view ≡ true → is_time now ≡ true → has_offsets (jobs.Refresh view from to) ≡ true → IsRunnable (refresh_text now view from to)
refresh_runs now view from to n t o =
    let k = and_parts (is_offset from) (is_offset to) o in
    let s = end_given now from t k.0 in
    let u = end_given now to t k.1 in
    let reads = (due_reads now (jobs.Refresh view from to) n t o).alone in
    record {
      short =
          let front = codes "CALL refresh_continuous_aggregate('" in
          let named = four_len front view (codes "', ") (end_text now from) in
          let whole = four_len (((front ++ view) ++ codes "', ") ++ end_text now from) (codes ", ") (end_text now to) (codes ")") in
          omega (arith, whole, named, name_len view n, end_len now from s, end_len now to u);
      event = subst ReadsEvent (sym reads.is) refl;
    }

pub retention_runs : (now : ℤ) (table : List ℕ) (after : ℤ) → is_name table ≡ true → is_time now ≡ true → has_offsets (jobs.Drop table after) ≡ true → IsRunnable (retention_text now table after)
retention_runs now table after n t f =
    let s = end_small now after t f in
    let reads = (due_reads now (jobs.Drop table after) n t f).alone in
    record {
      short =
          let named = two_len (codes "SELECT drop_chunks('") table 20 (omega arith) in
          let whole = four_len (codes "SELECT drop_chunks('" ++ table) (codes "', ") (signed_decimal (end_of now after)) (codes ")") in
          omega (arith, whole, named, name_len table n, end_len now (Some after) s);
      event = subst ReadsEvent (sym reads.is) refl;
    }

-- such a text may be run
pub runs_as : {text : List ℕ} (r : Result (List ℕ) NoMemory) → IfOk r (λ t. t ≡ text) → IsRunnable text → IfOk r IsRunnable
runs_as (Ok t) e runs = subst IsRunnable (sym e) runs
runs_as (Err x) e runs = tt

-- ---- no comment

end_clean : (now : ℤ) (o : Option ℤ) → IsEnd now o → IsClean 21 (end_text now o)
end_clean now None s = record { comment = λ rest. omega arith; ascii = refl; bytes = omega arith }
end_clean now (Some before) s = signed_clean (end_of now before) (omega (arith, s))

call_clean : IsClean 36 (codes "CALL refresh_continuous_aggregate('")
call_clean = record { comment = λ rest. omega arith; ascii = refl; bytes = omega arith }

select_clean : IsClean 20 (codes "SELECT drop_chunks('")
select_clean = record { comment = λ rest. omega arith; ascii = refl; bytes = omega arith }

quote_clean : IsClean 3 (codes "', ")
quote_clean = record { comment = λ rest. omega arith; ascii = refl; bytes = omega arith }

-- no comment begins in what a policy runs
pub due_clean : (now : ℤ) (job : Job) → is_name (relation_in job) ≡ true → is_time now ≡ true → has_offsets job ≡ true → IsClean 600 (due_text now job)
due_clean now (jobs.Refresh view from to) n t o =
    let k = and_parts (is_offset from) (is_offset to) o in
    less 147 600 _ (omega arith)
    (both 146 1 _ _ (both 125 21 _ _ (both 123 2 _ _ (both 102 21 _ _ (both 99 3 _ _ (both 36 63 _ _ call_clean (name_clean view n)) quote_clean) (end_clean now from (end_given now from t k.0))) comma) (end_clean now to (end_given now to t k.1))) closing)
due_clean now (jobs.Drop table after) n t o =
    less 108 600 _ (omega arith)
    (both 107 1 _ _ (both 86 21 _ _ (both 83 3 _ _ (both 20 63 _ _ select_clean (name_clean table n)) quote_clean) (end_clean now (Some after) (end_small now after t o))) closing)
