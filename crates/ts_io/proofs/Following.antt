-- What each step of a reader of lines means for the text to come.
use Rattle.std.proofs.Common.{◌≡◌, ℕ, ◌+◌, ◌-◌, ◌<◌, ◌≤◌, List, [], ◌∷◌, ◌++◌, length, take, drop, None, Some, refl, sym, ◌∙◌, ap, subst, arith, append_assoc, append-nil, length-append, length-take-le, take-add, take_at, drop_at}
use Rattle.std.proofs.lemmas.List.{take-append-le}
use Rattle.std.specs.Prelude.{Option}
use Rattle.std.specs.Io.KnownBytes.{Consumes, IsAtEnd, prepend_known}
use Rattle.std.proofs.KnownBytes.{Consumes-trans}
use Rattle.ts_io.specs.Lines.{ended_lines, lines_within, IsFirstEnd}
use Rattle.ts_io.specs.Reader.{ReadsLine, SkipsLong}
use Rattle.ts_io.specs.declared.limits.TheConstants.{LINE_LIMIT}
use Rattle.ts_io.specs.declared.line_reader.LineEnd.TheVariants.{Line, LineLong, End, InputLong}
use Rattle.ts_io.proofs.LineLaws.{ended_lines-append_none}
use Rattle.ts_io.proofs.LineEnds.{split_end}
use Rattle.ts_io.proofs.Reading.{grown}
use Rattle.ts_io.proofs.Within.{lines_within-nil, lines_within-last, lines_within-cut, lines_within-at}

-- ---- how the text to come moves

-- a read moves bytes from the source to those held
pub same_filled : (left now : Option (List ℕ)) (held more : List ℕ) → take (length held) more ≡ held → Consumes left now (drop (length held) more)
    → Consumes (prepend_known held left) (prepend_known more now) []
same_filled None now held more front took = tt
same_filled (Some xs) None held more front took = took
same_filled (Some xs) (Some ys) held more front took =
    ap (λ l. held ++ l) took ∙ sym (append_assoc held (drop (length held) more) ys) ∙ ap (λ l. l ++ ys) (grown held more front)

-- what is held is dropped
pub gone_held : (left : Option (List ℕ)) (held rest : List ℕ) → rest ≡ [] → Consumes (prepend_known held left) (prepend_known rest left) held
gone_held None held rest empty = tt
gone_held (Some xs) held rest empty = ap (λ l. held ++ (l ++ xs)) (sym empty)

-- two steps, the second of which takes nothing
pub gone_same : (start mid now : Option (List ℕ)) (gone : List ℕ) → Consumes start mid gone → Consumes mid now [] → Consumes start now gone
gone_same start mid now gone took same = subst (Consumes start now) (append-nil gone) (Consumes-trans start mid now gone [] took same)

-- ---- what an answer says

-- a line that ends among the bytes held
pub line_given : (start left : Option (List ℕ)) (held : List ℕ) (n k : ℕ) → Consumes start (prepend_known held left) [] → IsFirstEnd held k → k < n → k ≤ LINE_LIMIT
    → ReadsLine Line n start (n - (k + 1)) (prepend_known (drop (k + 1) held) left) (take k held)
line_given None left held n k same found below short = tt
line_given (Some xs) None held n k same found below short = same
line_given (Some xs) (Some ys) held n k same found below short =
    let long : length (take k held) ≡ k = length-take-le k held (omega (arith, found.0)) in
    let rest = drop (k + 1) held ++ ys in
    let split : xs ≡ take k held ++ 10 ∷ rest = same ∙ ap (λ l. l ++ ys) (split_end held k found) ∙ append_assoc (take k held) (10 ∷ drop (k + 1) held) ys in
    let first = lines_within-at n (take k held) rest found.2 (omega arith) in
    (ap (lines_within n) split ∙ first ∙ ap (λ j. take k held ∷ lines_within (n - (j + 1)) rest) long, omega arith)

-- a line that began with bytes that are gone and ends among those held, and is too long
pub long_given : (start left : Option (List ℕ)) (gone held line : List ℕ) (n m k : ℕ) → Consumes start (prepend_known held left) gone → ended_lines gone ≡ [] → n ≡ m + length gone
    → IsFirstEnd held k → k < m → LINE_LIMIT < length gone + k → ReadsLine LineLong n start (m - (k + 1)) (prepend_known (drop (k + 1) held) left) line
long_given None left gone held line n m k took none fewer found below long = tt
long_given (Some xs) None gone held line n m k took none fewer found below long = took
long_given (Some xs) (Some ys) gone held line n m k took none fewer found below long =
    let first = gone ++ take k held in
    let rest = drop (k + 1) held ++ ys in
    let size : length first ≡ length gone + k = length-append gone (take k held) ∙ ap (λ j. length gone + j) (length-take-le k held (omega (arith, found.0))) in
    let split : xs ≡ first ++ 10 ∷ rest =
    took ∙ ap (λ l. gone ++ (l ++ ys)) (split_end held k found) ∙ ap (λ l. gone ++ l) (append_assoc (take k held) (10 ∷ drop (k + 1) held) ys)
    ∙ sym (append_assoc gone (take k held) (10 ∷ rest)) in
    let left_over : n - (length first + 1) ≡ m - (k + 1) = omega arith in
    let lines : lines_within n xs ≡ first ∷ lines_within (m - (k + 1)) rest =
    ap (lines_within n) split ∙ lines_within-at n first rest (ended_lines-append_none gone (take k held) none found.2) (omega arith)
    ∙ ap (λ j. first ∷ lines_within j rest) left_over in
    let P : List (List ℕ) → Type 0 = λ ls. SkipsLong ls (lines_within (m - (k + 1)) rest) in
    subst P (sym lines) (omega arith, refl)

-- the bytes held are the last line
pub last_given : (start left : Option (List ℕ)) (held : List ℕ) (n m : ℕ) → Consumes start (prepend_known held left) [] → IsAtEnd left → ended_lines held ≡ [] → 0 < length held
    → length held ≤ n → length held ≤ LINE_LIMIT → ReadsLine Line n start m (prepend_known [] left) held
last_given None left held n m same end none some within short = tt
last_given (Some xs) None held n m same end none some within short = same
last_given (Some xs) (Some ys) held n m same end none some within short =
    let whole : xs ≡ held = same ∙ ap (λ l. held ++ l) end ∙ append-nil held in
    (ap (lines_within n) whole ∙ lines_within-last n held none some within ∙ ap (λ ls. held ∷ ls) (sym (ap (lines_within m) end ∙ lines_within-nil m)), short)

-- the bytes that are gone are the last line, and it is too long
pub long_last_given : (start left : Option (List ℕ)) (gone line : List ℕ) (n m : ℕ) → Consumes start (prepend_known [] left) gone → IsAtEnd left → ended_lines gone ≡ []
    → n ≡ m + length gone → LINE_LIMIT < length gone → ReadsLine LineLong n start m (prepend_known [] left) line
long_last_given None left gone line n m took end none fewer long = tt
long_last_given (Some xs) None gone line n m took end none fewer long = took
long_last_given (Some xs) (Some ys) gone line n m took end none fewer long =
    let whole : xs ≡ gone = took ∙ ap (λ l. gone ++ l) end ∙ append-nil gone in
    let lines : lines_within n xs ≡ gone ∷ [] = ap (lines_within n) whole ∙ lines_within-last n gone none (omega arith) (omega arith) in
    let P : List (List ℕ) → Type 0 = λ ls. SkipsLong ls (lines_within m ys) in
    subst P (sym lines) (long, sym (ap (lines_within m) end ∙ lines_within-nil m))

-- a byte beyond the limit is held, and no line ends within it
pub over_given : (start left : Option (List ℕ)) (gone held line : List ℕ) (n m : ℕ) → Consumes start (prepend_known held left) gone → ended_lines gone ≡ [] → n ≡ m + length gone
    → ended_lines (take m held) ≡ [] → m < length held → ReadsLine InputLong n start m (prepend_known held left) line
over_given None left gone held line n m took none fewer more over = tt
over_given (Some xs) None gone held line n m took none fewer more over = took
over_given (Some xs) (Some ys) gone held line n m took none fewer more over =
    let all = gone ++ (held ++ ys) in
    let beyond : n < length xs = omega (arith, ap length took, length-append gone (held ++ ys), length-append held ys) in
    let index : n ≡ length gone + m = omega arith in
    let cut : take n xs ≡ gone ++ take m held =
    ap (take n) took ∙ ap (λ j. take j all) index ∙ take-add (length gone) m all
    ∙ ap (λ l. l ++ take m (drop (length gone) all)) (take_at gone (held ++ ys) (length gone) refl)
    ∙ ap (λ l. gone ++ take m l) (drop_at gone (held ++ ys) (length gone) refl)
    ∙ ap (λ l. gone ++ l) (take-append-le m held ys (omega arith)) in
    (lines_within-cut n xs beyond ∙ ap ended_lines cut ∙ ended_lines-append_none gone (take m held) none more, beyond)

-- nothing is held and nothing is left
pub end_given : (held : List ℕ) (left : Option (List ℕ)) (n : ℕ) (line : List ℕ) → held ≡ [] → IsAtEnd left → ReadsLine End n (prepend_known held left) n (prepend_known held left) line
end_given held None n line empty end = tt
end_given held (Some xs) n line empty end =
    let none : held ++ xs ≡ [] = ap (λ l. l ++ xs) empty ∙ end in
    (ap (lines_within n) none ∙ lines_within-nil n, none, none)
