-- Laws of last refreshes as pieces: merged, they are ranges of whole buckets, of maximal length.
use Rattle.std.proofs.Common.{◌≡◌, ℕ, zero, suc, Bool, true, false, cond, ◌&&◌, ◌||◌, ◌==◌, ◌<◌, ℤ, pos, ◌-ℤ◌, ◌≤ℤ◌, ◌<ℤ◌, List, [], ◌∷◌, ◌++◌, take, length, get_or, Option, Some, None, Result, IfOk, refl, sym, ap, ◌∙◌, subst, arith, true≢false}
use Rattle.std.specs.Prelude.{◌≢◌, is_none, is_some, nat_lt}
use Rattle.std.proofs.Math.Bool.{or-false}
use Rattle.std.specs.Ordering.{int_eq}
use Rattle.std.specs.List.{AllByRecursion}
use Rattle.std.proofs.lemmas.Bool.{false≢true, and_parts, eqb-true, eq-eqb}
use Rattle.std.proofs.lemmas.Bool.Decides.{Decides-int_eq}
use Rattle.std.proofs.lemmas.Int.{ints, by_lt_z}
use Rattle.std.proofs.lemmas.Result.{IfOk-weaker}
use Rattle.ts_bucket.specs.Bucket.{WidthValue, IsWidth, is_bucket, bucket_of}
use Rattle.ts_bucket.specs.Ranges.{IsWholeRange, lies_in}
use Rattle.ts_bucket.specs.Spans.{SpanValue, in_span}
use Rattle.ts_bucket.specs.WholeSpans.{whole_span, greatest}
use Rattle.ts_bucket.proofs.BucketLaws.{is_bucket-bucket_of, is_bucket-first}
use Rattle.ts_bucket.proofs.WholeSpanLaws.{in_span-bucket}
use Rattle.span_map.specs.Combined.{combined_by}
use Rattle.span_map.specs.declared.rules.Rule.TheVariants.{Above, Over}
use Rattle.mat_log.specs.Logs.{IsInStep}
use Rattle.ts_bucket.proofs.SpanLaws.{in_span-ends, in_span-from_ends}
use Rattle.span_map.specs.declared.pieces.Piece.{Piece}
use Rattle.span_map.specs.Pieces.{piece_at, ArePieces}
use Rattle.mat_log.specs.Lasts.{Follows, PiecesRise, AreLasts, goes_on, longer, pieces_merged, all_merged}
use Rattle.mat_log.proofs.RangeLaws.{changes_at_bucket, differ, differ', one_span, out_above, out_below}

-- ---- the values of merged pieces

-- a piece has numbers, and ends at or below lo
abbrev IsOpen : Piece → ℤ → Type 0
IsOpen p lo = (p.span.lo <ℤ p.span.hi) × (p.span.hi ≤ℤ lo)

two_are_one : (a b : Bool) (x y : ℕ) (v : Option ℕ) → x ≡ y → cond (a || b) (Some x) v ≡ cond a (Some x) (cond b (Some y) v)
two_are_one true b x y v e = refl
two_are_one false b x y v e = ap (λ n. cond b (Some n) v) e

values_merged : (lo hi : ℤ) (p : Piece) (ps : List Piece) (t : ℤ) → IsOpen p lo → ArePieces lo hi ps → piece_at (pieces_merged p ps) t ≡ piece_at (p ∷ ps) t
values_merged lo hi p [] t o a = refl
values_merged lo hi p (q ∷ qs) t o a = by (goes_on p q) refl (λ l. values_merged q.span.hi hi (longer p q) qs t l a.3) (values_merged q.span.hi hi q qs t (a.1, omega (arith, ints)) a.3)
  where
    by : (b : Bool) → goes_on p q ≡ b → (IsOpen (longer p q) q.span.hi → piece_at (pieces_merged (longer p q) qs) t ≡ piece_at (longer p q ∷ qs) t) → piece_at (pieces_merged q qs) t ≡ piece_at (q ∷ qs) t → piece_at (cond b (pieces_merged (longer p q) qs) (p ∷ pieces_merged q qs)) t ≡ piece_at (p ∷ q ∷ qs) t
    by true e joined apart =
        let both = and_parts (int_eq p.span.hi q.span.lo) (p.pos == q.pos) e in
        let same : p.span.hi ≡ q.span.lo = (Decides-int_eq p.span.hi q.span.lo).0 both.0 in
        let size : p.span.lo <ℤ p.span.hi = o.0 in
        let more : q.span.lo <ℤ q.span.hi = a.1 in
        joined (omega (arith, ints), omega (arith, ints))
        ∙ ap (λ b. cond b (Some p.pos) (piece_at qs t)) (one_span p.span q.span t o.0 a.1 same)
        ∙ two_are_one (in_span p.span t) (in_span q.span t) p.pos q.pos (piece_at qs t) (eqb-true p.pos q.pos both.1)
    by false e joined apart = ap (cond (in_span p.span t) (Some p.pos)) apart

pub values_all_merged : (lo hi : ℤ) (ps : List Piece) (t : ℤ) → ArePieces lo hi ps → piece_at (all_merged ps) t ≡ piece_at ps t
values_all_merged lo hi [] t a = refl
values_all_merged lo hi (p ∷ ps) t a = values_merged p.span.hi hi p ps t (a.1, omega (arith, ints)) a.3

-- ---- merged pieces rise

abbrev IsBefore : Piece → List Piece → Type 0
IsBefore p [] = Unit {0}
IsBefore p (q ∷ qs) = Follows p q

before_merged : (p q : Piece) (qs : List Piece) → Follows p q → IsBefore p (pieces_merged q qs)
before_merged p q [] f = f
before_merged p q (r ∷ rs) f =
    elim (goes_on q r) as (λ b. IsBefore p (cond b (pieces_merged (longer q r) rs) (q ∷ pieces_merged r rs))) [
      | true ↦ before_merged p (longer q r) rs (record { above = f.above; other = f.other })
      | false ↦ f
    ]

-- pieces with numbers rise
abbrev AreSized : List Piece → Type 0
AreSized [] = Unit {0}
AreSized (p ∷ ps) = (p.span.lo <ℤ p.span.hi) × IsBefore p ps × AreSized ps

not_on : (p q : Piece) → goes_on p q ≡ false → p.span.hi ≡ q.span.lo → p.pos ≢ q.pos
not_on p q e touch same = true≢false (sym (both (int_eq p.span.hi q.span.lo) (p.pos == q.pos) ((Decides-int_eq p.span.hi q.span.lo).1 touch) (eq-eqb p.pos q.pos same)) ∙ e)
  where
    both : (a b : Bool) → a ≡ true → b ≡ true → (a && b) ≡ true
    both true b x y = y
    both false b x y = absurd (true≢false (sym x))

sized_merged : (lo hi : ℤ) (p : Piece) (ps : List Piece) → IsOpen p lo → ArePieces lo hi ps → AreSized (pieces_merged p ps)
sized_merged lo hi p [] o a = (o.0, tt, tt)
sized_merged lo hi p (q ∷ qs) o a = by (goes_on p q) refl (λ l. sized_merged q.span.hi hi (longer p q) qs l a.3) (sized_merged q.span.hi hi q qs (a.1, omega (arith, ints)) a.3)
  where
    by : (b : Bool) → goes_on p q ≡ b → (IsOpen (longer p q) q.span.hi → AreSized (pieces_merged (longer p q) qs)) → AreSized (pieces_merged q qs) → AreSized (cond b (pieces_merged (longer p q) qs) (p ∷ pieces_merged q qs))
    by true e joined apart =
        let same : p.span.hi ≡ q.span.lo = (Decides-int_eq p.span.hi q.span.lo).0 (and_parts (int_eq p.span.hi q.span.lo) (p.pos == q.pos) e).0 in
        let size : p.span.lo <ℤ p.span.hi = o.0 in
        let more : q.span.lo <ℤ q.span.hi = a.1 in
        joined (omega (arith, ints), omega (arith, ints))
    by false e joined apart =
        let end : p.span.hi ≤ℤ lo = o.1 in
        let start : lo ≤ℤ q.span.lo = a.0 in
        (o.0, before_merged p q qs (record { above = omega (arith, ints); other = not_on p q e }), apart)

sized_all : (lo hi : ℤ) (ps : List Piece) → ArePieces lo hi ps → AreSized (all_merged ps)
sized_all lo hi [] a = tt
sized_all lo hi (p ∷ ps) a = sized_merged p.span.hi hi p ps (a.1, omega (arith, ints)) a.3

sized_rise : (ps : List Piece) → AreSized ps → PiecesRise ps
sized_rise [] s = tt
sized_rise (p ∷ []) s = tt
sized_rise (p ∷ q ∷ ps) s = (s.1, sized_rise (q ∷ ps) s.2)

-- ---- whole buckets

-- no number below the first of the pieces is in one
none_before : (ps : List Piece) (t : ℤ) → AreSized ps → (x : ℤ) → ((q : Piece) (qs : List Piece) → ps ≡ q ∷ qs → x ≤ℤ q.span.lo) → t <ℤ x → piece_at ps t ≡ None
none_before [] t s x first l = refl
none_before (p ∷ ps) t s x first l =
    let start : x ≤ℤ p.span.lo = first p ps refl in
    let size : p.span.lo <ℤ p.span.hi = s.0 in
    ap (λ b. cond b (Some p.pos) (piece_at ps t)) (out_below p.span t (omega (arith, ints)))
    ∙ none_before ps t s.2 p.span.hi (next ps s.1) (omega (arith, ints))
  where
    next : (ps : List Piece) → IsBefore p ps → (q : Piece) (qs : List Piece) → ps ≡ q ∷ qs → p.span.hi ≤ℤ q.span.lo
    next ps b q qs is = (subst (IsBefore p) is b).above

-- there is this value
abbrev is_value : ℕ → Option ℕ → Bool
is_value v None = false
is_value v (Some x) = v == x

same_value : (v : ℕ) → (v == v) ≡ true
same_value v = eq-eqb v v refl

other_value : (v x : ℕ) → v ≢ x → (v == x) ≡ false
other_value v x d = elim (v == x) as (λ t. (v == x) ≡ t → t ≡ false) [ true ↦ λ e. absurd (d (eqb-true v x e)) | false ↦ λ _. refl ] refl

-- the value after a piece differs from it
behind : (p : Piece) (ps : List Piece) → AreSized (p ∷ ps) → is_value p.pos (piece_at (p ∷ ps) p.span.hi) ≡ false
behind p ps s =
    let end : in_span p.span p.span.hi ≡ false = out_above p.span p.span.hi (omega (arith, ints)) in
    ap (λ b. is_value p.pos (cond b (Some p.pos) (piece_at ps p.span.hi))) end ∙ rest ps s.1 s.2
  where
    rest : (ps : List Piece) → IsBefore p ps → AreSized ps → is_value p.pos (piece_at ps p.span.hi) ≡ false
    rest [] b z = refl
    rest (q ∷ qs) b z = by_lt_z p.span.hi q.span.lo
        (λ below. ap (is_value p.pos) (none_before (q ∷ qs) p.span.hi z q.span.lo (λ r rs e. own r rs e) below))
        (λ above.
        let up : p.span.hi ≤ℤ q.span.lo = b.above in
        let touch : p.span.hi ≡ q.span.lo = omega (arith, ints) in
        let size : q.span.lo <ℤ q.span.hi = z.0 in
        ap (λ c. is_value p.pos (cond c (Some q.pos) (piece_at qs p.span.hi))) (in_span-from_ends q.span p.span.hi (omega (arith, ints)) (omega (arith, ints)))
        ∙ other_value p.pos q.pos (b.other touch))
      where
        own : (r : Piece) (rs : List Piece) → (q ∷ qs) ≡ r ∷ rs → q.span.lo ≤ℤ r.span.lo
        own r rs e = let same : q ≡ r = cc in subst (λ (x : Piece). q.span.lo ≤ℤ x.span.lo) same (omega (arith, ints))

-- and the value before the next one differs from it
ahead : (p q : Piece) (qs : List Piece) → AreSized (p ∷ q ∷ qs) → is_value q.pos (piece_at (p ∷ q ∷ qs) (q.span.lo -ℤ pos 1)) ≡ false
ahead p q qs s =
    let up : p.span.hi ≤ℤ q.span.lo = s.1.above in
    let size : p.span.lo <ℤ p.span.hi = s.0 in
    by_lt_z p.span.hi q.span.lo
    (λ below.
    ap (λ c. is_value q.pos (cond c (Some p.pos) (piece_at (q ∷ qs) (q.span.lo -ℤ pos 1)))) (out_above p.span (q.span.lo -ℤ pos 1) (omega (arith, ints)))
    ∙ ap (is_value q.pos) (none_before (q ∷ qs) (q.span.lo -ℤ pos 1) s.2 q.span.lo own (omega (arith, ints))))
    (λ above.
    let touch : p.span.hi ≡ q.span.lo = omega (arith, ints) in
    ap (λ c. is_value q.pos (cond c (Some p.pos) (piece_at (q ∷ qs) (q.span.lo -ℤ pos 1)))) (in_span-from_ends p.span (q.span.lo -ℤ pos 1) (omega (arith, ints)) (omega (arith, ints)))
    ∙ other_value q.pos p.pos (λ e. s.1.other touch (sym e)))
  where
    own : (r : Piece) (rs : List Piece) → (q ∷ qs) ≡ r ∷ rs → q.span.lo ≤ℤ r.span.lo
    own r rs e = let same : q ≡ r = cc in subst (λ (x : Piece). q.span.lo ≤ℤ x.span.lo) same (omega (arith, ints))

-- a piece of a function that has one value for a whole bucket starts and ends where buckets do
whole_one : (w : WidthValue) (f : ℤ → Option ℕ) (p : Piece) (ps : List Piece) → IsWidth w → ((t : ℤ) → f t ≡ f (bucket_of w t)) → AreSized (p ∷ ps) → is_value p.pos (f (p.span.lo -ℤ pos 1)) ≡ false → ((t : ℤ) → p.span.lo ≤ℤ t → piece_at (p ∷ ps) t ≡ f t) → IsWholeRange w p.span
whole_one w f p ps h one s before is =
    let size : p.span.lo <ℤ p.span.hi = s.0 in
    let test : ℤ → Bool = λ t. is_value p.pos (f t) in
    let test_one : (t : ℤ) → is_value p.pos (f t) ≡ is_value p.pos (f (bucket_of w t)) = λ t. ap (is_value p.pos) (one t) in
    let inside : (t : ℤ) → p.span.lo ≤ℤ t → t <ℤ p.span.hi → is_value p.pos (f t) ≡ true = λ t l g. ap (is_value p.pos) (sym (is t l)) ∙ ap (λ c. is_value p.pos (cond c (Some p.pos) (piece_at ps t))) (in_span-from_ends p.span t l g) ∙ same_value p.pos in
    let after : is_value p.pos (f p.span.hi) ≡ false = ap (is_value p.pos) (sym (is p.span.hi (omega (arith, ints)))) ∙ behind p ps s in
    record {
      starts = changes_at_bucket w test p.span.lo h test_one (differ (test (p.span.lo -ℤ pos 1)) (test p.span.lo) before (inside p.span.lo (omega (arith, ints)) size));
      ends = changes_at_bucket w test p.span.hi h test_one (differ' (test (p.span.hi -ℤ pos 1)) (test p.span.hi) (inside (p.span.hi -ℤ pos 1) (omega (arith, ints)) (omega (arith, ints))) after);
      some = size;
    }

-- and so does each piece
whole_each : (w : WidthValue) (f : ℤ → Option ℕ) (p : Piece) (ps : List Piece) → IsWidth w → ((t : ℤ) → f t ≡ f (bucket_of w t)) → AreSized (p ∷ ps) → is_value p.pos (f (p.span.lo -ℤ pos 1)) ≡ false → ((t : ℤ) → p.span.lo ≤ℤ t → piece_at (p ∷ ps) t ≡ f t) → AllByRecursion (λ (q : Piece). IsWholeRange w q.span) (p ∷ ps)
whole_each w f p [] h one s before is = (whole_one w f p [] h one s before is, tt)
whole_each w f p (q ∷ qs) h one s before is =
    let size : p.span.lo <ℤ p.span.hi = s.0 in
    let up : p.span.hi ≤ℤ q.span.lo = s.1.above in (
      whole_one w f p (q ∷ qs) h one s before is,
      whole_each w f q qs h one s.2
          (ap (is_value q.pos) (sym (is (q.span.lo -ℤ pos 1) (omega (arith, ints)))) ∙ ahead p q qs s)
          (λ t l. sym (ap (λ c. cond c (Some p.pos) (piece_at (q ∷ qs) t)) (out_above p.span t (omega (arith, ints)))) ∙ is t (omega (arith, ints))),
    )

whole_all : (w : WidthValue) (f : ℤ → Option ℕ) (ps : List Piece) → IsWidth w → ((t : ℤ) → f t ≡ f (bucket_of w t)) → AreSized ps → ((t : ℤ) → piece_at ps t ≡ f t) → AllByRecursion (λ (q : Piece). IsWholeRange w q.span) ps
whole_all w f [] h one s is = tt
whole_all w f (p ∷ ps) h one s is =
    whole_each w f p ps h one s
    (ap (is_value p.pos) (sym (is (p.span.lo -ℤ pos 1)) ∙ none_before (p ∷ ps) (p.span.lo -ℤ pos 1) s p.span.lo own (omega (arith, ints))))
    (λ t l. is t)
  where
    own : (r : Piece) (rs : List Piece) → (p ∷ ps) ≡ r ∷ rs → p.span.lo ≤ℤ r.span.lo
    own r rs e = let same : p ≡ r = cc in subst (λ (x : Piece). p.span.lo ≤ℤ x.span.lo) same (omega (arith, ints))

-- the merged pieces of the whole span of a function that has one value for a whole bucket
pub lasts_merged : (w : WidthValue) (f g : ℤ → Option ℕ) (s : SpanValue) (pieces : List Piece) → IsWidth w → ((t : ℤ) → f t ≡ f (bucket_of w t)) → ((t : ℤ) → in_span s t ≡ in_span s (bucket_of w t)) → s ≡ whole_span w → ((t : ℤ) → g t ≡ f t) → ((t : ℤ) → piece_at pieces t ≡ cond (in_span s t) (g t) None) → ArePieces s.lo s.hi pieces → AreLasts w f (all_merged pieces)
lasts_merged w f g s pieces h one bucket is_whole same values rising =
    let part : ℤ → Option ℕ = λ t. cond (in_span s t) (f t) None in
    let one_part : (t : ℤ) → cond (in_span s t) (f t) None ≡ cond (in_span s (bucket_of w t)) (f (bucket_of w t)) None = λ t. ap (λ b. cond b (f t) None) (bucket t) ∙ ap (λ v. cond (in_span s (bucket_of w t)) v None) (one t) in
    let sized = sized_all s.lo s.hi pieces rising in
    let are : (t : ℤ) → piece_at (all_merged pieces) t ≡ cond (in_span s t) (f t) None = λ t. values_all_merged s.lo s.hi pieces t rising ∙ values t ∙ ap (λ v. cond (in_span s t) v None) (same t) in
    record {
      whole = whole_all w part (all_merged pieces) h one_part sized are;
      rise = sized_rise (all_merged pieces) sized;
      exact = λ b q. are b ∙ ap (λ (x : SpanValue). cond (in_span x b) (f b) None) is_whole;
    }

-- the same for results
pub lasts_as : {E : Type 0} (w : WidthValue) (f g : ℤ → Option ℕ) (s : SpanValue) (pieces : List Piece) (found : Result (List Piece) E) → IsWidth w → ((t : ℤ) → f t ≡ f (bucket_of w t)) → s ≡ whole_span w → ((t : ℤ) → g t ≡ f t) → ((t : ℤ) → piece_at pieces t ≡ cond (in_span s t) (g t) None) → ArePieces s.lo s.hi pieces → IfOk found (λ ps. ps ≡ all_merged pieces) → IfOk found (AreLasts w f)
lasts_as w f g s pieces found h one is_whole same values rising =
    IfOk-weaker found _ _ (λ ps e. subst (AreLasts w f) (sym e) (lasts_merged w f g s pieces h one bucket is_whole same values rising))
  where
    bucket : (t : ℤ) → in_span s t ≡ in_span s (bucket_of w t)
    bucket t = ap (λ (x : SpanValue). in_span x t) is_whole ∙ in_span-bucket w (whole_span w) t h (is_bucket-first w h) (is_bucket-bucket_of w greatest h) ∙ ap (λ (x : SpanValue). in_span x (bucket_of w t)) (sym is_whole)

-- ---- what is pending if the last refreshes are known

pending_is : (v : Option ℕ) (inside dirty : Bool) (at : ℕ) → combined_by Over (combined_by Above v (cond inside (Some 0) None)) (cond dirty (Some at) None) ≡ cond dirty (Some at) (cond (inside && is_none v) (Some 0) None)
pending_is v inside true at = refl
pending_is None true false at = refl
pending_is None false false at = refl
pending_is (Some s) false false at = refl
pending_is (Some s) true false at = ap (λ b. cond b (Some 0) None) (none s)
  where
    none : (s : ℕ) → nat_lt s 0 ≡ false
    none s = grind arith

-- a piece of whole buckets has one value for a whole bucket
one_piece : (w : WidthValue) (ps : List Piece) (t : ℤ) → IsWidth w → AllByRecursion (λ (p : Piece). IsWholeRange w p.span) ps → piece_at ps t ≡ piece_at ps (bucket_of w t)
one_piece w [] t h whole = refl
one_piece w (p ∷ ps) t h whole =
    ap (λ b. cond b (Some p.pos) (piece_at ps t)) (in_span-bucket w p.span t h whole.0.starts whole.0.ends)
    ∙ ap (cond (in_span p.span (bucket_of w t)) (Some p.pos)) (one_piece w ps t h whole.1)

one_range : (w : WidthValue) (ss : List SpanValue) (t : ℤ) → IsWidth w → AllByRecursion (IsWholeRange w) ss → lies_in ss t ≡ lies_in ss (bucket_of w t)
one_range w [] t h whole = refl
one_range w (s ∷ ss) t h whole =
    ap (λ b. b || lies_in ss t) (in_span-bucket w s t h whole.0.starts whole.0.ends)
    ∙ ap (λ b. in_span s (bucket_of w t) || b) (one_range w ss t h whole.1)

pub in_step-resumed : (w : WidthValue) (ps : List Piece) (ss : List SpanValue) (at : ℕ) (p r : ℤ → Option ℕ) → IsWidth w → AllByRecursion (λ (q : Piece). IsWholeRange w q.span) ps → AllByRecursion (IsWholeRange w) ss
    → ((t : ℤ) → r t ≡ piece_at ps t) → ((t : ℤ) → p t ≡ cond (lies_in ss t) (Some at) (cond (in_span (whole_span w) t && is_none (piece_at ps t)) (Some 0) None)) → IsInStep w p r
in_step-resumed w ps ss at p r h pieces ranges rs are = record {
  bounds = h;
  one_pending = λ t. are t ∙ one_value t ∙ sym (are (bucket_of w t));
  one_refreshed = λ t. rs t ∙ one_piece w ps t h pieces ∙ sym (rs (bucket_of w t));
  marked = λ t inside. ap (λ v. is_some v || is_some (p t)) (rs t) ∙ ap (λ v. is_some (piece_at ps t) || is_some v) (are t) ∙ either (piece_at ps t) (lies_in ss t) (in_span (whole_span w) t) inside;
}
  where
    one_value : (t : ℤ) → cond (lies_in ss t) (Some at) (cond (in_span (whole_span w) t && is_none (piece_at ps t)) (Some 0) None) ≡ cond (lies_in ss (bucket_of w t)) (Some at) (cond (in_span (whole_span w) (bucket_of w t) && is_none (piece_at ps (bucket_of w t))) (Some 0) None)
    one_value t =
        ap (λ b. cond b (Some at) (cond (in_span (whole_span w) t && is_none (piece_at ps t)) (Some 0) None)) (one_range w ss t h ranges)
        ∙ ap (λ b. cond (lies_in ss (bucket_of w t)) (Some at) (cond (b && is_none (piece_at ps t)) (Some 0) None)) (in_span-bucket w (whole_span w) t h (is_bucket-first w h) (is_bucket-bucket_of w greatest h))
        ∙ ap (λ v. cond (lies_in ss (bucket_of w t)) (Some at) (cond (in_span (whole_span w) (bucket_of w t) && is_none v) (Some 0) None)) (one_piece w ps t h pieces)

    either : (v : Option ℕ) (dirty inside : Bool) → inside ≡ true → (is_some v || is_some (cond dirty (Some at) (cond (inside && is_none v) (Some 0) None))) ≡ true
    either (Some x) dirty inside e = refl
    either None true inside e = refl
    either None false inside e = ap (λ b. is_some {T = ℕ} (cond (b && true) (Some 0) None)) e

-- what is pending, by the maps that it is combined from
pub pending_resumed : (w : WidthValue) (ps : List Piece) (ss : List SpanValue) (at : ℕ) (s : SpanValue) (r n p : Option ℕ) (t : ℤ) → s ≡ whole_span w → r ≡ piece_at ps t → n ≡ combined_by Above r (cond (lies_in (s ∷ []) t) (Some 0) None) → p ≡ combined_by Over n (cond (lies_in ss t) (Some at) None)
    → p ≡ cond (lies_in ss t) (Some at) (cond (in_span (whole_span w) t && is_none (piece_at ps t)) (Some 0) None)
pending_resumed w ps ss at s r n p t whole rs ns is =
    is
    ∙ ap (λ v. combined_by Over v (cond (lies_in ss t) (Some at) None)) (ns ∙ ap (λ b. combined_by Above r (cond b (Some 0) None)) (or-false (in_span s t)))
    ∙ pending_is r (in_span s t) (lies_in ss t) at
    ∙ ap (λ v. cond (lies_in ss t) (Some at) (cond (in_span s t && is_none v) (Some 0) None)) rs
    ∙ ap (λ (x : SpanValue). cond (lies_in ss t) (Some at) (cond (in_span x t && is_none (piece_at ps t)) (Some 0) None)) whole

-- ---- the map of pieces that rise

-- no number of a piece is in one before it
pub none_earlier : (lo hi : ℤ) (ps : List Piece) (i : ℕ) (d : Piece) (t : ℤ) → ArePieces lo hi ps → i < length ps → in_span (get_or ps i d).span t ≡ true → piece_at (take i ps) t ≡ None
none_earlier lo hi [] i d t a l e = absurd (omega arith)
none_earlier lo hi (p ∷ ps) zero d t a l e = refl
none_earlier lo hi (p ∷ ps) (suc i) d t a l e =
    let from : p.span.hi ≤ℤ t = low p.span.hi ps i a.3 (omega arith) e in
    ap (λ b. cond b (Some p.pos) (piece_at (take i ps) t)) (out_above p.span t from) ∙ none_earlier p.span.hi hi ps i d t a.3 (omega arith) e
  where
    low : (lo : ℤ) (ps : List Piece) (i : ℕ) → ArePieces lo hi ps → i < length ps → in_span (get_or ps i d).span t ≡ true → lo ≤ℤ t
    low lo [] i a l e = absurd (omega arith)
    low lo (p ∷ ps) zero a l e =
        let start : lo ≤ℤ p.span.lo = a.0 in
        let at : p.span.lo ≤ℤ t = (in_span-ends p.span t e).0 in
        omega (arith, ints)
    low lo (p ∷ ps) (suc i) a l e =
        let start : lo ≤ℤ p.span.lo = a.0 in
        let size : p.span.lo <ℤ p.span.hi = a.1 in
        let rest : p.span.hi ≤ℤ t = low p.span.hi ps i a.3 (omega arith) e in
        omega (arith, ints)

-- one more piece
pub piece_more : (lo hi : ℤ) (ps : List Piece) (i : ℕ) (p : Piece) (t : ℤ) → ArePieces lo hi ps → i < length ps → p ≡ get_or ps i p → cond (in_span p.span t) (Some p.pos) (piece_at (take i ps) t) ≡ piece_at (take (suc i) ps) t
piece_more lo hi [] i p t a l is = absurd (omega arith)
piece_more lo hi (q ∷ qs) zero p t a l is = ap (λ (x : Piece). cond (in_span x.span t) (Some x.pos) None) is
piece_more lo hi (q ∷ qs) (suc i) p t a l is =
    by (in_span p.span t) refl ∙ ap (cond (in_span q.span t) (Some q.pos)) (piece_more q.span.hi hi qs i p t a.3 (omega arith) is)
  where
    by : (b : Bool) → in_span p.span t ≡ b → cond b (Some p.pos) (cond (in_span q.span t) (Some q.pos) (piece_at (take i qs) t)) ≡ cond (in_span q.span t) (Some q.pos) (cond b (Some p.pos) (piece_at (take i qs) t))
    by false e = refl
    by true e =
        let there : in_span (get_or qs i p).span t ≡ true = subst (λ (x : Piece). in_span x.span t ≡ true) is e in
        let none = none_earlier lo hi (q ∷ qs) (suc i) p t a l there in
        out (in_span q.span t) (piece_at (take i qs) t) none
      where
        out : (c : Bool) (v : Option ℕ) → cond c (Some q.pos) v ≡ None → Some p.pos ≡ cond c (Some q.pos) (Some p.pos)
        out true v none = absurd (cc)
        out false v none = refl
