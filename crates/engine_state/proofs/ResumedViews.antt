-- Aggregates of a history that begins with an image.
use Rattle.std.proofs.Common.{◌≡◌, ℕ, suc, Bool, true, false, ◌&&◌, ◌||◌, cond, nat_lt, not, List, [], ◌∷◌, map, filter, length, ℤ, ◌≤ℤ◌, ◌<ℤ◌, int_le, int_lt, Option, Some, None, sym, refl, ap, ◌∙◌, subst, arith}
use Rattle.std.specs.Prelude.{◌==◌, is_none, is_some, IsSome, option_and_then, slice_get, unwrap_or}
use Rattle.std.specs.List.{AllByRecursion, list_all}
use Rattle.std.specs.List.Sorted.{IsStrictlySortedBy}
use Rattle.std.specs.Ordering.{int_eq, is_lt}
use Rattle.std.specs.declared.cmp.Ordering.{Ordering}
use Rattle.std.specs.declared.cmp.Ordering.TheVariants.{Less, Equal, Greater}
use Rattle.std.proofs.lemmas.Bool.{true≢false, and_parts, and_from, ne_eqb}
use Rattle.std.proofs.lemmas.Bool.Decides.{Decides-int_eq}
use Rattle.std.proofs.lemmas.Int.{ints}
use Rattle.ts_bucket.specs.Bucket.{IsWidth, first_of, is_bucket}
use Rattle.ts_bucket.specs.Ranges.{IsWholeRange, lies_in}
use Rattle.ts_bucket.specs.Spans.{in_span}
use Rattle.ts_bucket.specs.WholeSpans.{greatest, is_below, least, whole_span}
use Rattle.ts_bucket.specs.declared.spans.Span.{Span}
use Rattle.ts_bucket.specs.declared.widths.Width.{Width}
use Rattle.ts_bucket.proofs.SpanLaws.{in_span-ends}
use Rattle.ts_schema.proofs.Cases.{by_test, le-int_le, int_le-true, int_lt-true}
use Rattle.ts_schema.specs.declared.rows.Row.{Row}
use Rattle.partial_agg.specs.Groups.{AreInOrder, group_cmp}
use Rattle.partial_agg.specs.declared.groups.Group.{Group}
use Rattle.span_map.specs.declared.pieces.Piece.{Piece}
use Rattle.span_map.specs.Pieces.{ArePieces, piece_at}
use Rattle.mat_log.specs.Logs.{last_at, pending_at}
use Rattle.mat_rows.specs.Replacing.{AreSpans, BucketsAreOfBoth, PassAsBoth, SpansRise, of_bucket}
use Rattle.ts_model.specs.declared.images.Image.{Image}
use Rattle.ts_model.specs.declared.images.SavedGroup.{SavedGroup}
use Rattle.ts_model.specs.declared.images.SavedLast.{SavedLast}
use Rattle.ts_model.specs.declared.images.SavedView.{SavedView}
use Rattle.ts_model.specs.declared.views.Fold.{Fold}
use Rattle.ts_model.specs.declared.views.ViewDef.{ViewDef}
use Rattle.ts_model.specs.Groups.{groups_in, groups_of}
use Rattle.ts_model.specs.History.{resumed}
use Rattle.ts_model.specs.Limits.{is_word}
use Rattle.ts_model.specs.Refreshes.{last}
use Rattle.ts_model.specs.Refreshes.{threshold}
use Rattle.ts_model.specs.Roster.{hyper_of, table_of, view_of}
use Rattle.ts_model.specs.declared.tables.Hyper.{Hyper as HyperInfo}
use Rattle.ts_model.specs.declared.tables.TableInfo.{TableInfo}
use Rattle.ts_model.specs.Sound.{view_fits}
use Rattle.engine_state.specs.Lists.{Each}
use Rattle.engine_state.proofs.AnswerFacts.{asked_hyper}
use Rattle.engine_state.proofs.EachLaws.{each_at}
use Rattle.ts_model.specs.Rows.{in_order}
use Rattle.ts_model.specs.Saved.{appended_over, group_of, groups_among, is_dirty, nothing_saved, pos_in, saved_view}
use Rattle.ts_model.specs.Answers.{buckets_in}
use Rattle.ts_model.specs.Sound.{span_fits}
use Rattle.ts_model.specs.Valid.{all_rise, views_kept, dirty_fits, group_fits, groups_fit, has_lasts, image_roster, lasts_fit, mark_fits, row_marked, spans_rise, sums_fit, valid, view_kept}
use Rattle.ts_model.proofs.RangeLaws.{among, among-buckets_in}
use Rattle.ts_model.proofs.RosterLaws.{is_of_itself}
use Rattle.ts_model.proofs.RowLaws.{in_order-twice}
use Rattle.ts_model.proofs.SoundLaws.{rosters_are_sound, view_width}
use Rattle.ts_model.proofs.ValidLaws.{KeptFacts, image_rows, kept_facts, kept_of, valid_is}
use Rattle.group_fold.proofs.BucketGroups.{groups_of_one_bucket, order_plays_no_part}
use Rattle.coverage.specs.Notes.{notes_from, number_of}
use Rattle.coverage.proofs.ImageLaws.{image_covered}
use Rattle.coverage.proofs.StepLaws.{same_cover}
use Rattle.engine_state.specs.Groups.{GroupsStand, groups_left, is_materialised}
use Rattle.engine_state.proofs.GroupSteps.{all_starts}
use Rattle.engine_state.specs.Images.{piece_of}
use Rattle.engine_state.specs.Notes.{noted_in, notes_in}
use Rattle.engine_state.specs.Resumed.{HasLog, IsKeptOf, IsSavedOf, ResumedAt}
use Rattle.engine_state.specs.GroupRebuilds.{IsRefolded, was_refreshed}
use Rattle.engine_state.specs.Tables.{TableIs, TableValue, table_at}
use Rattle.engine_state.specs.Views.{ViewStands, ViewValue}

-- ---- the parts that a valid image keeps of an aggregate

pub record KeptParts (p : ℕ) (def : ViewDef) (v : SavedView) : Type 0 where
  pub lasts : list_all (λ l. span_fits l.span (Some def) && nat_lt l.pos p) v.lasts ≡ true
  pub lasts_rise : spans_rise (map (λ (l : SavedLast). l.span) v.lasts) ≡ true
  pub dirty : list_all (λ s. span_fits s (Some def) && has_lasts def.fold.width v.lasts s) v.dirty ≡ true
  pub dirty_rise : spans_rise v.dirty ≡ true
  pub groups : list_all (group_fits def v.dirty) v.groups ≡ true
  pub groups_rise : all_rise group_cmp (map group_of v.groups) ≡ true

kept_parts_of : (p : ℕ) (def : ViewDef) (rows : List Row) (v : SavedView) → view_kept p def rows v ≡ true → KeptParts p def v
kept_parts_of p def rows v e =
    let rows_marked = and_parts _ (list_all (row_marked def.fold v) rows) e in
    let groups_marked = and_parts _ (list_all (λ g. is_below g.start v.mark) v.groups) rows_marked.0 in
    let marks = and_parts _ (mark_fits def.fold.width v.mark) groups_marked.0 in
    let groups = and_parts _ (groups_fit def v.dirty v.groups) marks.0 in
    let ranges = and_parts (lasts_fit def p v.lasts) (dirty_fits def v.lasts v.dirty) groups.0 in
    let lasts = and_parts _ (spans_rise (map (λ (l : SavedLast). l.span) v.lasts)) ranges.0 in
    let dirty = and_parts _ (spans_rise v.dirty) ranges.1 in
    let fits = and_parts (list_all (group_fits def v.dirty) v.groups) _ groups.1 in
    record { lasts = lasts.0; lasts_rise = lasts.1; dirty = dirty.0; dirty_rise = dirty.1; groups = fits.0; groups_rise = fits.1 }

pub kept_parts : (i : Image) (n : ℕ) (def : ViewDef) (v : SavedView) → valid i ≡ true → view_of (image_roster i) n ≡ Some def → saved_view n i ≡ v → KeptParts i.pos def v
kept_parts i n def v ok there is =
    subst (KeptParts i.pos def) is
    (kept_of n i (λ o v. (d : ViewDef) → o ≡ Some d → KeptParts i.pos d v) ok
    (λ d e. absurd (cc))
    (λ found v kept d e. (let same : found ≡ d = cc in subst (λ d. KeptParts i.pos d v) same (kept_parts_of i.pos found (image_rows i found.table) v kept)))
    def there)

-- ---- ranges

-- a span that fits is one of whole buckets that isn't empty, with bounds of 64 bits
record IsFitting (w : Width) (s : Span) : Type 0 where
  starts : is_bucket w s.lo ≡ true
  ends : is_bucket w s.hi ≡ true
  some : s.lo <ℤ s.hi
  from_first : first_of w ≤ℤ s.lo
  low : least ≤ℤ s.lo
  high : s.hi ≤ℤ greatest

fitting : (s : Span) (def : ViewDef) → span_fits s (Some def) ≡ true → IsFitting def.fold.width s
fitting s def e =
    let high = and_parts _ (is_word s.hi) e in
    let low = and_parts _ (is_word s.lo) high.0 in
    let first = and_parts _ (int_le (first_of def.fold.width) s.lo) low.0 in
    let some = and_parts _ (int_lt s.lo s.hi) first.0 in
    let ends = and_parts (is_bucket def.fold.width s.lo) (is_bucket def.fold.width s.hi) some.0 in
    record {
      starts = ends.0;
      ends = ends.1;
      some = int_lt-true s.lo s.hi some.1;
      from_first = int_le-true (first_of def.fold.width) s.lo first.1;
      low = int_le-true least s.lo (and_parts (int_le least s.lo) _ low.1).0;
      high = int_le-true s.hi greatest (and_parts _ (int_le s.hi greatest) high.1).1;
    }

range_of : (w : Width) (s : Span) → IsFitting w s → IsWholeRange w s
range_of w s f = record { starts = f.starts; ends = f.ends; some = f.some }

fitting_lasts : (p : ℕ) (def : ViewDef) (ls : List SavedLast) → list_all (λ l. span_fits l.span (Some def) && nat_lt l.pos p) ls ≡ true → AllByRecursion (λ (l : SavedLast). IsFitting def.fold.width l.span) ls
fitting_lasts p def [] e = tt
fitting_lasts p def (l ∷ ls) e =
    let parts = and_parts (span_fits l.span (Some def) && nat_lt l.pos p) _ e in
    (fitting l.span def (and_parts (span_fits l.span (Some def)) (nat_lt l.pos p) parts.0).0, fitting_lasts p def ls parts.1)

fitting_dirty : (def : ViewDef) (ls : List SavedLast) (ss : List Span) → list_all (λ s. span_fits s (Some def) && has_lasts def.fold.width ls s) ss ≡ true → AllByRecursion (IsFitting def.fold.width) ss
fitting_dirty def ls [] e = tt
fitting_dirty def ls (s ∷ ss) e =
    let parts = and_parts (span_fits s (Some def) && has_lasts def.fold.width ls s) _ e in
    (fitting s def (and_parts (span_fits s (Some def)) (has_lasts def.fold.width ls s) parts.0).0, fitting_dirty def ls ss parts.1)

-- the pieces of last refreshes rise
pieces_rise : (w : Width) (lo : ℤ) (ls : List SavedLast) → AllByRecursion (λ (l : SavedLast). IsFitting w l.span) ls → spans_rise (map (λ (l : SavedLast). l.span) ls) ≡ true → ((l : SavedLast) (ms : List SavedLast) → ls ≡ l ∷ ms → lo ≤ℤ l.span.lo) → ArePieces lo greatest (map piece_of ls)
pieces_rise w lo [] fits rise first = tt
pieces_rise w lo (l ∷ []) fits rise first = (first l [] refl, fits.0.some, fits.0.high, tt)
pieces_rise w lo (l ∷ m ∷ ls) fits rise first =
    let parts = and_parts (int_le l.span.hi m.span.lo) (spans_rise (m.span ∷ map (λ (l : SavedLast). l.span) ls)) rise in
    (first l (m ∷ ls) refl, fits.0.some, fits.0.high, pieces_rise w l.span.hi (m ∷ ls) fits.1 parts.1 (next (int_le-true l.span.hi m.span.lo parts.0)))
  where
    next : l.span.hi ≤ℤ m.span.lo → (k : SavedLast) (ms : List SavedLast) → (m ∷ ls) ≡ k ∷ ms → l.span.hi ≤ℤ k.span.lo
    next le k ms is = let same : m ≡ k = cc in subst (λ (x : SavedLast). l.span.hi ≤ℤ x.span.lo) same le

pub pieces_are : (i : Image) (def : ViewDef) (v : SavedView) → KeptParts i.pos def v → (lo : ℤ) × (hi : ℤ) × ArePieces lo hi (map piece_of v.lasts)
pieces_are i def v kept =
    let fits = fitting_lasts i.pos def v.lasts kept.lasts in
    (least, greatest, pieces_rise def.fold.width least v.lasts fits kept.lasts_rise (first v.lasts fits))
  where
    first : (ls : List SavedLast) → AllByRecursion (λ (l : SavedLast). IsFitting def.fold.width l.span) ls → (l : SavedLast) (ms : List SavedLast) → ls ≡ l ∷ ms → least ≤ℤ l.span.lo
    first [] fits l ms is = absurd (cc)
    first (k ∷ ks) fits l ms is = let same : k ≡ l = cc in subst (λ (x : SavedLast). least ≤ℤ x.span.lo) same fits.0.low

pub pieces_whole : (p : ℕ) (def : ViewDef) (v : SavedView) → KeptParts p def v → AllByRecursion (λ (q : Piece). IsWholeRange def.fold.width q.span) (map piece_of v.lasts)
pieces_whole p def v kept = each v.lasts (fitting_lasts p def v.lasts kept.lasts)
  where
    each : (ls : List SavedLast) → AllByRecursion (λ (l : SavedLast). IsFitting def.fold.width l.span) ls → AllByRecursion (λ (q : Piece). IsWholeRange def.fold.width q.span) (map piece_of ls)
    each [] fits = tt
    each (l ∷ ls) fits = (range_of def.fold.width l.span fits.0, each ls fits.1)

pub dirty_whole : (p : ℕ) (def : ViewDef) (v : SavedView) → KeptParts p def v → AllByRecursion (IsWholeRange def.fold.width) v.dirty
dirty_whole p def v kept = each v.dirty (fitting_dirty def v.lasts v.dirty kept.dirty)
  where
    each : (ss : List Span) → AllByRecursion (IsFitting def.fold.width) ss → AllByRecursion (IsWholeRange def.fold.width) ss
    each [] fits = tt
    each (s ∷ ss) fits = (range_of def.fold.width s fits.0, each ss fits.1)

sized : (w : Width) (ss : List Span) → AllByRecursion (IsFitting w) ss → AreSpans ss
sized w [] fits = tt
sized w (s ∷ ss) fits = (let some : s.lo <ℤ s.hi = fits.0.some in omega (arith, ints), sized w ss fits.1)

rising : (ss : List Span) → spans_rise ss ≡ true → SpansRise ss
rising [] e = tt
rising (s ∷ []) e = tt
rising (s ∷ t ∷ ss) e = let parts = and_parts (int_le s.hi t.lo) (spans_rise (t ∷ ss)) e in (int_le-true s.hi t.lo parts.0, rising (t ∷ ss) parts.1)

pub dirty_sized : (p : ℕ) (def : ViewDef) (v : SavedView) → KeptParts p def v → AreSpans v.dirty × SpansRise v.dirty
dirty_sized p def v kept = (sized def.fold.width v.dirty (fitting_dirty def v.lasts v.dirty kept.dirty), rising v.dirty kept.dirty_rise)

pub lasts_sized : (p : ℕ) (def : ViewDef) (v : SavedView) → KeptParts p def v → AreSpans (map (λ (l : SavedLast). l.span) v.lasts) × SpansRise (map (λ (l : SavedLast). l.span) v.lasts)
lasts_sized p def v kept = (sized def.fold.width (map (λ (l : SavedLast). l.span) v.lasts) (each v.lasts (fitting_lasts p def v.lasts kept.lasts)), rising (map (λ (l : SavedLast). l.span) v.lasts) kept.lasts_rise)
  where
    each : (ls : List SavedLast) → AllByRecursion (λ (l : SavedLast). IsFitting def.fold.width l.span) ls → AllByRecursion (IsFitting def.fold.width) (map (λ (l : SavedLast). l.span) ls)
    each [] fits = tt
    each (l ∷ ls) fits = (fits.0, each ls fits.1)

-- ---- positions of ranges

pub piece_is : (ls : List SavedLast) (b : ℤ) → piece_at (map piece_of ls) b ≡ pos_in ls b
piece_is [] b = refl
piece_is (l ∷ ls) b = ap (cond (in_span l.span b) (Some l.pos)) (piece_is ls b)

lies_where : (ls : List SavedLast) (b : ℤ) → lies_in (map (λ (l : SavedLast). l.span) ls) b ≡ is_some (pos_in ls b)
lies_where [] b = refl
lies_where (l ∷ ls) b = ap (λ t. in_span l.span b || t) (lies_where ls b) ∙ by (in_span l.span b) (pos_in ls b)
  where
    by : (t : Bool) (o : Option ℕ) → (t || is_some o) ≡ is_some (cond t (Some l.pos) o)
    by true o = refl
    by false o = refl

-- a position of a range is below that of the image
pos_below : (p : ℕ) (def : ViewDef) (ls : List SavedLast) (b : ℤ) (s : ℕ) → list_all (λ l. span_fits l.span (Some def) && nat_lt l.pos p) ls ≡ true → pos_in ls b ≡ Some s → nat_lt s p ≡ true
pos_below p def [] b s e f = absurd (cc)
pos_below p def (l ∷ ls) b s e f =
    let parts = and_parts (span_fits l.span (Some def) && nat_lt l.pos p) _ e in
    elim (in_span l.span b) as (λ t. cond t (Some l.pos) (pos_in ls b) ≡ Some s → nat_lt s p ≡ true) [
      | true ↦ λ g. (let same : l.pos ≡ s = cc in subst (λ k. nat_lt k p ≡ true) same (and_parts (span_fits l.span (Some def)) (nat_lt l.pos p) parts.0).1)
      | false ↦ λ g. pos_below p def ls b s parts.1 g
    ] f

-- a bucket of a dirty range has a last refresh
test_among : (p : ℤ → Bool) (bs : List ℤ) (b : ℤ) → list_all p bs ≡ true → among b bs ≡ true → p b ≡ true
test_among p [] b all in_list = absurd (true≢false (sym in_list))
test_among p (x ∷ xs) b all in_list =
    let parts = and_parts (p x) (list_all p xs) all in
    by_test (int_eq x b)
    (λ here. subst (λ c. p c ≡ true) ((Decides-int_eq x b).0 here) parts.0)
    (λ other. test_among p xs b parts.1 (sym (ap (λ t. t || among b xs) other) ∙ in_list))

dirty_last : (def : ViewDef) (ls : List SavedLast) (ss : List Span) (b : ℤ) → list_all (λ s. span_fits s (Some def) && has_lasts def.fold.width ls s) ss ≡ true → is_bucket def.fold.width b ≡ true → lies_in ss b ≡ true → is_some (pos_in ls b) ≡ true
dirty_last def ls [] b e bucket lies = absurd (true≢false (sym lies))
dirty_last def ls (s ∷ ss) b e bucket lies =
    let parts = and_parts (span_fits s (Some def) && has_lasts def.fold.width ls s) _ e in
    let own = and_parts (span_fits s (Some def)) (has_lasts def.fold.width ls s) parts.0 in
    by_test (in_span s b)
    (λ inside.
    let f = fitting s def own.0 in
    let from : s.lo ≤ℤ b = (in_span-ends s b inside).0 in
    let first : first_of def.fold.width ≤ℤ s.lo = f.from_first in
    let low : int_le (first_of def.fold.width) b ≡ true = le-int_le (first_of def.fold.width) b (omega (arith, ints)) in
    test_among (λ b. is_some (pos_in ls b)) (buckets_in def.fold.width s) b own.1 (among-buckets_in def.fold.width s b ∙ and_from _ _ inside (and_from _ _ bucket low)))
    (λ outside. dirty_last def ls ss b parts.1 bucket (sym (ap (λ t. t || lies_in ss b) outside) ∙ lies))

-- ---- groups

-- a list that rises is in order
pub rises_ordered : (gs : List Group) → all_rise group_cmp gs ≡ true → AreInOrder gs
unfolding IsStrictlySortedBy
rises_ordered [] e = tt
rises_ordered (g ∷ gs) e =
    let parts = and_parts (list_all (λ y. is_lt (group_cmp g y)) gs) (all_rise group_cmp gs) e in
    (each gs parts.0, rises_ordered gs parts.1)
  where
    is_less : (o : Ordering) → is_lt o ≡ true → o ≡ Less
    is_less Less e = refl
    is_less Equal e = absurd (true≢false (sym e))
    is_less Greater e = absurd (true≢false (sym e))

    each : (hs : List Group) → list_all (λ y. is_lt (group_cmp g y)) hs ≡ true → AllByRecursion (λ y. group_cmp g y ≡ Less) hs
    each [] e = tt
    each (h ∷ hs) e = let parts = and_parts (is_lt (group_cmp g h)) _ e in (is_less (group_cmp g h) parts.0, each hs parts.1)

pub sums_bounded : (def : ViewDef) (dirty : List Span) (gs : List SavedGroup) → list_all (group_fits def dirty) gs ≡ true → list_all (λ (g : SavedGroup). list_all sums_fit g.parts) gs ≡ true
sums_bounded def dirty [] e = refl
sums_bounded def dirty (g ∷ gs) e =
    let parts = and_parts (group_fits def dirty g) _ e in
    and_from _ _ (and_parts _ (list_all sums_fit g.parts) parts.0).1 (sums_bounded def dirty gs parts.1)

kept_buckets : (def : ViewDef) (dirty : List Span) (gs : List SavedGroup) → list_all (group_fits def dirty) gs ≡ true → list_all (λ g. is_bucket def.fold.width g.start) (map group_of gs) ≡ true
kept_buckets def dirty [] e = refl
kept_buckets def dirty (g ∷ gs) e =
    let parts = and_parts (group_fits def dirty g) _ e in
    let sums = and_parts _ (list_all sums_fit g.parts) parts.0 in
    let aggs = and_parts _ _ sums.0 in
    let keys = and_parts _ _ aggs.0 in
    and_from _ _ (and_parts (is_bucket def.fold.width g.start) (lies_in dirty g.start) keys.0).0 (kept_buckets def dirty gs parts.1)

among_is : (gs : List SavedGroup) (b : ℤ) → of_bucket b (map group_of gs) ≡ groups_among gs b
among_is [] b = refl
among_is (g ∷ gs) b =
    elim (int_eq g.start b) as (λ t. cond t (group_of g ∷ of_bucket b (map group_of gs)) (of_bucket b (map group_of gs)) ≡ map group_of (cond t (g ∷ filter (λ g. int_eq g.start b) gs) (filter (λ g. int_eq g.start b) gs))) [
      | true ↦ ap (λ xs. group_of g ∷ xs) (among_is gs b)
      | false ↦ among_is gs b
    ]

-- groups of buckets below a mark, if a bucket that isn't below it has none
below_by_buckets : (def : ViewDef) (mark : Option ℤ) (gs : List Group) → list_all (λ g. is_bucket def.fold.width g.start) gs ≡ true → ((b : ℤ) → is_bucket def.fold.width b ≡ true → is_below b mark ≡ false → of_bucket b gs ≡ []) → list_all (is_materialised def mark) gs ≡ true
below_by_buckets def mark [] all none = refl
below_by_buckets def mark (g ∷ gs) all none =
    let parts = and_parts (is_bucket def.fold.width g.start) (list_all (λ g. is_bucket def.fold.width g.start) gs) all in
    let below : is_below g.start mark ≡ true =
    by_test (is_below g.start mark) (λ e. e)
    (λ high. absurd (not_none g (of_bucket g.start gs) (sym (ap (λ t. cond t (g ∷ of_bucket g.start gs) (of_bucket g.start gs)) ((Decides-int_eq g.start g.start).1 refl)) ∙ none g.start parts.0 high))) in
    and_from _ _ (and_from _ _ parts.0 below)
    (below_by_buckets def mark gs parts.1 (λ b bucket high. rest_none b (none b bucket high)))
  where
    not_none : (g : Group) (gs : List Group) → g ∷ gs ≡ [] → ⊥
    not_none g gs e = absurd (cc)

    rest_none : (b : ℤ) → of_bucket b (g ∷ gs) ≡ [] → of_bucket b gs ≡ []
    rest_none b e = by_test (int_eq g.start b) (λ here. absurd (not_none g (of_bucket b gs) (sym (ap (λ t. cond t (g ∷ of_bucket b gs) (of_bucket b gs)) here) ∙ e))) (λ other. sym (ap (λ t. cond t (g ∷ of_bucket b gs) (of_bucket b gs)) other) ∙ e)

-- the groups of rows, bucket by bucket
folded_buckets : (fold : Fold) (xs : List Row) (b : ℤ) → IsWidth fold.width → is_bucket fold.width b ≡ true → of_bucket b (groups_of fold xs) ≡ groups_in fold (in_order xs) b
folded_buckets fold xs b wide bucket =
    ap (of_bucket b) (order_plays_no_part fold xs (in_order xs) wide (sym (in_order-twice xs)))
    ∙ groups_of_one_bucket fold (in_order xs) b wide bucket

-- the groups of an aggregate, combined from the saved ones and those recomputed from the rows of an image
module _ (i : Image) (n : ℕ) (def : ViewDef) (v : SavedView) (anew : List Group) (of : IsKeptOf i n def v anew) where
  parts : KeptParts i.pos def v
  parts = kept_parts i n def v of.ok of.there of.kept_is

  wide : IsWidth def.fold.width
  wide = view_width (resumed i) n def of.ok of.there

  facts : KeptFacts def i v
  facts = subst (KeptFacts def i) of.kept_is (kept_facts n def i of.ok (is_of_itself def (view_of (image_roster i) n) of.there))

  -- a bucket with a last refresh has the groups of its rows
  anew_at : (b : ℤ) → is_bucket def.fold.width b ≡ true → cond (lies_in (map (λ (l : SavedLast). l.span) v.lasts) b) (of_bucket b anew) [] ≡ cond (is_some (pos_in v.lasts b)) (groups_in def.fold (image_rows i def.table) b) []
  anew_at b bucket = by_lasts v.lasts refl
    where
      by_lasts : (ls : List SavedLast) → v.lasts ≡ ls → cond (lies_in (map (λ (l : SavedLast). l.span) v.lasts) b) (of_bucket b anew) [] ≡ cond (is_some (pos_in v.lasts b)) (groups_in def.fold (image_rows i def.table) b) []
      by_lasts [] e =
          ap (λ (ls : List SavedLast). cond (lies_in (map (λ (l : SavedLast). l.span) ls) b) (of_bucket b anew) []) e
          ∙ sym (ap (λ (ls : List SavedLast). cond (is_some (pos_in ls b)) (groups_in def.fold (image_rows i def.table) b) []) e)
      by_lasts (l ∷ ls) e =
          let refreshed : was_refreshed v ≡ true = ap (λ (ls : List SavedLast). not (length ls == 0)) e ∙ ap not (ne_eqb (suc (length ls)) 0 (λ none. absurd (omega (arith, none)))) in
          let are : anew ≡ groups_of def.fold (appended_over def.table i.rows) = of.anew_are ∙ ap (λ t. cond t (groups_of def.fold (appended_over def.table i.rows)) []) refreshed in
          ap (λ t. cond t (of_bucket b anew) []) (lies_where v.lasts b)
          ∙ ap (λ gs. cond (is_some (pos_in v.lasts b)) gs []) (ap (of_bucket b) are ∙ folded_buckets def.fold (appended_over def.table i.rows) b wide bucket)

  anew_starts : list_all (λ g. is_bucket def.fold.width g.start) anew ≡ true
  anew_starts =
      ap (list_all (λ g. is_bucket def.fold.width g.start)) of.anew_are
      ∙ by_test (was_refreshed v)
      (λ yes. ap (λ t. list_all (λ g. is_bucket def.fold.width g.start) (cond t (groups_of def.fold (appended_over def.table i.rows)) [])) yes ∙ all_starts def.fold (appended_over def.table i.rows) wide)
      (λ no. ap (λ t. list_all (λ g. is_bucket def.fold.width g.start) (cond t (groups_of def.fold (appended_over def.table i.rows)) [])) no)

  module _ (clean all : List Group) (order : AreInOrder all)
      (cleaned : BucketsAreOfBoth (map (λ (l : SavedLast). l.span) v.lasts) anew [] clean) (passed : PassAsBoth anew [] clean)
      (both : BucketsAreOfBoth v.dirty (map group_of v.groups) clean all) (pass : PassAsBoth (map group_of v.groups) clean all) where
    dirty_at : (b : ℤ) → lies_in v.dirty b ≡ true → of_bucket b all ≡ groups_among v.groups b
    dirty_at b lies = both b ∙ ap (λ t. cond t (of_bucket b (map group_of v.groups)) (of_bucket b clean)) lies ∙ among_is v.groups b

    clean_at : (b : ℤ) → is_bucket def.fold.width b ≡ true → lies_in v.dirty b ≡ false → of_bucket b all ≡ cond (is_some (pos_in v.lasts b)) (groups_in def.fold (image_rows i def.table) b) []
    clean_at b bucket none =
        both b ∙ ap (λ t. cond t (of_bucket b (map group_of v.groups)) (of_bucket b clean)) none ∙ cleaned b ∙ anew_at b bucket

    last_is : (b : ℤ) → last n (resumed i) b ≡ pos_in v.lasts b
    last_is b = ap (λ (w : SavedView). pos_in w.lasts b) of.kept_is

    dirty_is : (b : ℤ) → is_dirty n i b ≡ lies_in v.dirty b
    dirty_is b = ap (λ (w : SavedView). lies_in w.dirty b) of.kept_is

    left_is : (b : ℤ) (o : Option ℕ) → is_bucket def.fold.width b ≡ true → pos_in v.lasts b ≡ o → of_bucket b all ≡ groups_left n def (resumed i) b o
    left_is b None bucket at =
        by_test (lies_in v.dirty b)
        (λ dirty. absurd (true≢false (sym (dirty_last def v.lasts v.dirty b parts.dirty bucket dirty) ∙ ap is_some at)))
        (λ clean. clean_at b bucket clean ∙ ap (λ t. cond t (groups_in def.fold (image_rows i def.table) b) []) (ap is_some at))
    left_is b (Some s) bucket at =
        let low : nat_lt s i.pos ≡ true = pos_below i.pos def v.lasts b s parts.lasts at in
        by_test (lies_in v.dirty b)
        (λ dirty.
        dirty_at b dirty ∙ sym (ap (λ (w : SavedView). groups_among w.groups b) of.kept_is)
        ∙ sym (ap (λ t. cond t (groups_among (saved_view n i).groups b) (groups_in def.fold (image_rows i def.table) b)) (and_from _ _ low (dirty_is b ∙ dirty))))
        (λ clean.
        clean_at b bucket clean ∙ ap (λ t. cond t (groups_in def.fold (image_rows i def.table) b) []) (ap is_some at)
        ∙ sym (ap (λ t. cond (t && is_dirty n i b) (groups_among (saved_view n i).groups b) (groups_in def.fold (image_rows i def.table) b)) low ∙ ap (λ t. cond t (groups_among (saved_view n i).groups b) (groups_in def.fold (image_rows i def.table) b)) (dirty_is b ∙ clean)))

    none_above : (b : ℤ) → is_bucket def.fold.width b ≡ true → is_below b v.mark ≡ false → of_bucket b all ≡ []
    none_above b bucket high =
        by_test (lies_in v.dirty b)
        (λ dirty. dirty_at b dirty ∙ facts.groups_below b high)
        (λ clean. clean_at b bucket clean ∙ by_last (pos_in v.lasts b) refl clean)
      where
        by_last : (o : Option ℕ) → pos_in v.lasts b ≡ o → lies_in v.dirty b ≡ false → cond (is_some (pos_in v.lasts b)) (groups_in def.fold (image_rows i def.table) b) [] ≡ []
        by_last None at clean = ap (λ t. cond t (groups_in def.fold (image_rows i def.table) b) []) (ap is_some at)
        by_last (Some s) at clean =
            ap (λ t. cond t (groups_in def.fold (image_rows i def.table) b) []) (ap is_some at)
            ∙ ap (Rattle.ts_model.specs.Groups.bucket_groups def.fold b) (facts.rows_below b wide bucket (ap is_some at) clean high)

    pub groups_resumed : GroupsStand n def (resumed i) v.mark all
    groups_resumed = record {
      in_order = order;
      all = below_by_buckets def v.mark all (pass (λ g. is_bucket def.fold.width g.start) (kept_buckets def v.dirty v.groups parts.groups) (passed (λ g. is_bucket def.fold.width g.start) anew_starts refl)) none_above;
      exact = λ b bucket. left_is b (pos_in v.lasts b) bucket refl ∙ sym (ap (groups_left n def (resumed i) b) (last_is b));
    }

  -- ---- the aggregate

  pub view_resumed : (table : TableValue) → table.log.threshold ≡ number_of (threshold def.table (resumed i)) → table.log.entries ≡ [] → (view : ViewValue) → view.table ≡ def.table → view.log.width ≡ def.fold.width → view.mark ≡ v.mark
      → ((b : ℤ) → pending_at view.log b ≡ cond (lies_in v.dirty b) (Some i.pos) (cond (in_span (whole_span def.fold.width) b && is_none (piece_at (map piece_of v.lasts) b)) (Some 0) None))
      → ((b : ℤ) → last_at view.log b ≡ piece_at (map piece_of v.lasts) b) → GroupsStand n def (resumed i) v.mark view.groups → ViewStands (resumed i) n def table.log view
  view_resumed table threshold_is entries_are view table_is width mark pending refreshed groups = record {
    table = table_is;
    width = width;
    covered = same_cover n def (resumed i) (notes_from n def i) (notes_in table.log view.log)
        (record {
          threshold = threshold_is;
          log = ap noted_in entries_are;
          pending = λ b bucket.
              pending b ∙ ap (λ o. cond (lies_in v.dirty b) (Some i.pos) (cond (in_span (whole_span def.fold.width) b && is_none o) (Some 0) None)) (piece_is v.lasts b)
              ∙ sym (ap (λ (w : SavedView). cond (lies_in w.dirty b) (Some i.pos) (cond (in_span (whole_span def.fold.width) b && is_none (pos_in w.lasts b)) (Some 0) None)) of.kept_is);
          refreshed = λ b bucket. refreshed b ∙ piece_is v.lasts b ∙ sym (ap (λ (w : SavedView). pos_in w.lasts b) of.kept_is);
        })
        (image_covered n def i of.ok (is_of_itself def (view_of (image_roster i) n) of.there));
    mark = mark ∙ sym (ap (λ (w : SavedView). w.mark) of.kept_is);
    groups = subst (λ m. GroupsStand n def (resumed i) m view.groups) (sym mark) groups;
  }

-- ---- the tables of an image

-- a hypertable of an image has a state
pub record HasState (i : Image) (t : ℕ) (tables : List (Option TableValue)) (table : TableValue) : Type 0 where
  pub at : table_at tables t ≡ Some table
  pub threshold_is : table.log.threshold ≡ number_of (threshold t (resumed i))
  pub entries_are : table.log.entries ≡ []

pub has_state : (i : Image) (t : ℕ) (tables : List (Option TableValue)) → Each (ResumedAt i) (image_roster i).tables tables → IsSome (hyper_of (image_roster i) t) → (table : TableValue) × HasState i t tables table
has_state i t tables each some = by_info (table_of (image_roster i) t) refl some
  where
    by_state : (info : TableInfo) (hyper : Option HyperInfo) (o : Option TableValue) → info.hyper ≡ hyper → IsSome hyper → slice_get tables t ≡ Some o → TableIs (resumed i) t hyper o → HasLog (number_of (threshold t (resumed i))) o → (table : TableValue) × HasState i t tables table
    by_state info None o e some at is log = absurd (true≢false (sym some))
    by_state info (Some hyper) None e some at is log = absurd is
    by_state info (Some hyper) (Some table) e some at is log = (table, record { at = ap (option_and_then (λ o. o)) at; threshold_is = log.0; entries_are = log.1 })

    by_info : (o : Option TableInfo) → table_of (image_roster i) t ≡ o → IsSome (option_and_then (λ (info : TableInfo). info.hyper) o) → (table : TableValue) × HasState i t tables table
    by_info None at some = absurd (true≢false (sym some))
    by_info (Some info) at some =
        let found = each_at (ResumedAt i) t (image_roster i).tables tables info each at in
        by_state info info.hyper found.0 refl some found.1 found.2.0 found.2.1

-- the table of an aggregate is a hypertable
pub view_table : (i : Image) (n : ℕ) (def : ViewDef) → valid i ≡ true → view_of (image_roster i) n ≡ Some def → IsSome (hyper_of (image_roster i) def.table)
view_table i n def ok there = asked_hyper (view_fits def) (table_of (image_roster i) def.table) ((rosters_are_sound (resumed i) ok).views n def there)

-- and the image keeps something of each aggregate
pub as_many_kept : (i : Image) → valid i ≡ true → length i.views ≡ length (image_roster i).views
as_many_kept i ok = many (image_roster i).views i.views (valid_is i ok).views
  where
    many : (defs : List ViewDef) (vs : List SavedView) → views_kept i.pos (image_rows i) defs vs ≡ true → length vs ≡ length defs
    many [] [] e = refl
    many [] (v ∷ vs) e = absurd (true≢false (sym e))
    many (def ∷ defs) [] e = absurd (true≢false (sym e))
    many (def ∷ defs) (v ∷ vs) e = ap suc (many defs vs (and_parts (view_kept i.pos def (image_rows i def.table) v) _ e).1)

-- the saved parts of an aggregate, with the table found for it
pub saved_of : (i : Image) (n : ℕ) (def : ViewDef) (v : SavedView) (tables : List (Option TableValue)) (table : TableValue) (anew : List Group) → valid i ≡ true → Each (ResumedAt i) (image_roster i).tables tables → view_of (image_roster i) n ≡ Some def → slice_get i.views n ≡ Some v
    → table_at tables def.table ≡ Some table → IsRefolded i def (saved_view n i) anew → IsSavedOf i n def v table anew
saved_of i n def v tables table anew ok each there kept at are =
    let found = has_state i def.table tables each (view_table i n def ok there) in
    let same : found.0 ≡ table = one (sym found.1.at ∙ at) in
    let state : HasState i def.table tables table = subst (HasState i def.table tables) same found.1 in
    let kept_is : saved_view n i ≡ v = ap (λ (o : Option SavedView). unwrap_or o nothing_saved) kept in
    record {
      is_kept = record { ok = ok; there = there; kept_is = kept_is; anew_are = subst (λ (w : SavedView). IsRefolded i def w anew) kept_is are };
      threshold_is = state.threshold_is;
      entries_are = state.entries_are;
    }
  where
    one : {x y : TableValue} → Some x ≡ Some y → x ≡ y
    one e = cc
