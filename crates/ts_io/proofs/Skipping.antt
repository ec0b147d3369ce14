-- A line that is skipped.
use Rattle.std.proofs.Common.{◌≡◌, ℕ, ◌+◌, ◌-◌, ◌<◌, ◌≤◌, List, [], ◌++◌, length, take, drop, sym, subst, arith, length-append, take_all, ◌∙◌}
use Rattle.std.proofs.lemmas.List.{drop_all}
use Rattle.std.specs.Prelude.{Option}
use Rattle.std.specs.Io.KnownBytes.{Consumes, IsAtEnd, prepend_known}
use Rattle.std.proofs.KnownBytes.{Consumes-trans}
use Rattle.ts_io.specs.Lines.{ended_lines, IsFirstEnd}
use Rattle.ts_io.specs.Reader.{ReadsLine}
use Rattle.ts_io.specs.declared.limits.TheConstants.{LINE_LIMIT}
use Rattle.ts_io.specs.declared.line_reader.LineEnd.TheVariants.{LineLong, InputLong}
use Rattle.ts_io.proofs.LineLaws.{ended_lines-append_none}
use Rattle.ts_io.proofs.Following.{gone_held, gone_same, same_filled, long_given, long_last_given, over_given}

-- bytes without a line end are gone, and with this many more they are too long for a line
pub record Skips (start now : Option (List ℕ)) (n m more : ℕ) : Type 0 where
  pub gone : List ℕ
  pub took : Consumes start now gone
  pub none : ended_lines gone ≡ []
  pub fewer : n ≡ m + length gone
  pub long : LINE_LIMIT < length gone + more

-- the bytes held go too
pub Skips-dropped : (start left : Option (List ℕ)) (held rest : List ℕ) (n m fewer : ℕ) → Skips start (prepend_known held left) n m (length held) → ended_lines held ≡ []
    → length held ≤ m → rest ≡ [] → fewer ≡ m - length held → Skips start (prepend_known rest left) n fewer 0
Skips-dropped start left held rest n m fewer skips none within empty less = record {
  gone = skips.gone ++ held;
  took = Consumes-trans start (prepend_known held left) (prepend_known rest left) skips.gone held skips.took (gone_held left held rest empty);
  none = ended_lines-append_none skips.gone held skips.none none;
  fewer = omega (arith, skips.fewer, length-append skips.gone held);
  long = omega (arith, skips.long, length-append skips.gone held);
}

-- others come
pub Skips-filled : (start mid now : Option (List ℕ)) (n m more : ℕ) → Skips start mid n m 0 → Consumes mid now [] → Skips start now n m more
Skips-filled start mid now n m more skips same =
    record { gone = skips.gone; took = gone_same start mid now skips.gone skips.took same; none = skips.none; fewer = skips.fewer; long = omega (arith, skips.long) }

-- all that was held was dropped, and one read brought others
pub Skips-step : (start left now : Option (List ℕ)) (held rest brought : List ℕ) (n m fewer dropped more : ℕ) → Skips start (prepend_known held left) n m (length held)
    → ended_lines (take m held) ≡ [] → length held ≤ m → dropped ≡ length held → rest ≡ drop dropped held → fewer ≡ m - dropped
    → take (length rest) brought ≡ rest → Consumes left now (drop (length rest) brought) → Skips start (prepend_known brought now) n fewer more
Skips-step start left now held rest brought n m fewer dropped more skips none within all emptied less front took =
    let empty : rest ≡ [] = emptied ∙ drop_all dropped held (omega arith) in
    let bare : ended_lines held ≡ [] = subst (λ l. ended_lines l ≡ []) (take_all m held within) none in
    let gone = Skips-dropped start left held rest n m fewer skips bare within empty (omega arith) in
    Skips-filled start (prepend_known rest left) (prepend_known brought now) n fewer more gone (same_filled left now rest brought front took)

-- the line ends among the bytes held
pub Skips-ends : (start left : Option (List ℕ)) (held line : List ℕ) (n m k : ℕ) → Skips start (prepend_known held left) n m 0 → IsFirstEnd held k → k < m
    → ReadsLine LineLong n start (m - (k + 1)) (prepend_known (drop (k + 1) held) left) line
Skips-ends start left held line n m k skips found below =
    long_given start left skips.gone held line n m k skips.took skips.none skips.fewer found below (omega (arith, skips.long))

-- the line ends with the text
pub Skips-last : (start left : Option (List ℕ)) (held line : List ℕ) (n m : ℕ) → Skips start (prepend_known held left) n m 0 → held ≡ [] → IsAtEnd left
    → ReadsLine LineLong n start m (prepend_known held left) line
Skips-last start left held line n m skips empty end =
    let Goal : List ℕ → Type 0 = λ xs. Skips start (prepend_known xs left) n m 0 → ReadsLine LineLong n start m (prepend_known xs left) line in
    subst Goal (sym empty) (λ s. long_last_given start left s.gone line n m s.took end s.none s.fewer (omega (arith, s.long))) skips

-- the line doesn't end within the limit
pub Skips-over : (start left : Option (List ℕ)) (held line : List ℕ) (n m more : ℕ) → Skips start (prepend_known held left) n m more → ended_lines (take m held) ≡ [] → m < length held
    → ReadsLine InputLong n start m (prepend_known held left) line
Skips-over start left held line n m more skips none over =
    over_given start left skips.gone held line n m skips.took skips.none skips.fewer none over
