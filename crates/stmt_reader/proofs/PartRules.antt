-- Each reading reads its rule of the grammar.
use Rattle.std.proofs.Common.{◌≡◌, ℕ, Bool, true, false, List, [], ◌∷◌, Option, Some, None, refl, sym, subst, pos, inl, inr}
use Rattle.std.specs.Prelude.{codes}
use Rattle.std.proofs.lemmas.Bool.{both_ways}
use Rattle.ts_num.specs.declared.values.Fun.{Fun}
use Rattle.ts_num.specs.declared.values.Fun.TheVariants as fun
use Rattle.ts_schema.specs.declared.conditions.Cmp.TheVariants as cmp
use Rattle.ts_schema.specs.declared.conditions.Cmp.{Cmp}
use Rattle.stmt_tokens.specs.Tokens.{Token, word, quoted, mark}
use Rattle.stmt_tokens.specs.Scan as scan
use Rattle.stmt_tokens.specs.Scan.{Seen, seen_token}
use Rattle.stmt_tokens.specs.Words.{is_keyword, is_mark, word_of, quoted_of, flag_of, comparison_of, function_of, is_star_of, is_item}
use Rattle.stmt_reader.specs.Reading as read
use Rattle.stmt_reader.specs.Reading.{takes, parts}
use Rattle.stmt_tokens.specs.Streams.{Stream, ends, stops, ◌then◌, onto, heads}
use Rattle.stmt_reader.specs.Grammar as rule
use Rattle.stmt_reader.specs.Grammar.{Rule, sequence, either}
use Rattle.stmt_reader.specs.Refusals.{Begins}
use Rattle.stmt_tokens.specs.declared.keywords.Keyword.{Keyword}
use Rattle.stmt_tokens.specs.declared.keywords.Keyword.TheVariants as kw
use Rattle.stmt_tokens.specs.declared.tokens.Mark.TheVariants as marks
use Rattle.stmt_reader.specs.declared.phrases.Separator.TheVariants as separators
use Rattle.stmt_syntax.specs.declared.statements.NamedAgg.{NamedAgg}
use Rattle.stmt_reader.proofs.Placed.{nothing_placed}
use Rattle.stmt_reader.proofs.Rules.{Reads, none, heads-none, any, Avoids, alike-refl, reads_alike, reads_gives, reads_bind, reads_then}
use Rattle.stmt_reader.proofs.RuleTokens.{behind, reads_one, reads_wanted, reads_keyword, reads_mark, reads_number, reads_takes, takes_keyword, takes_mark, inner_of, same_text, keyword_only, mark_only, avoids_means, avoids_keyword, avoids_mark, avoids_one, avoids_number, avoids_sequence}
use Rattle.stmt_reader.proofs.RuleLists.{reads_listed, reads_rest, avoids_rest, reads_items_from}

begins_one : {A : Type 0} (f : Seen → Option A) (t : Token) (a : A) → f (seen_token t) ≡ Some a → Begins (rule.one f) []
unfolding rule.one
begins_one f t a e = (t ∷ [], a, (t, refl, e))

-- what was read, in another form
pub avoids_end : {B : Type 0} (c : Seen → Bool) (b : B) → Avoids c (rule.means b) c
unfolding rule.means
avoids_end c b ts a left (e, k) free = subst (λ us. heads c (onto us left) ≡ false) (sym (nothing_placed ts e)) free

reads_gives_on : (n : ℕ) {A : Type 0} (c : Seen → Bool) (a : A) → Reads n (read.gives a) (rule.means a) c
reads_gives_on n c a = reads_alike n (read.gives a) (read.gives a) (rule.means a) (rule.means a) none c (λ s. refl) (alike-refl (rule.means a)) (λ s _. heads-none s) (reads_gives n a)

pub reads_last : (n : ℕ) {A B : Type 0} {p : read.Parser A} {L : Rule A} {c : Seen → Bool} (f : A → B) → Reads n p L c → Reads n (read.bind p (λ a. read.gives (f a))) (sequence L (λ a. rule.means (f a))) c
reads_last n {c = c} f r = reads_bind n r (λ a. reads_gives_on n c (f a)) (λ a. avoids_end c (f a))

-- a branch that is never taken
never_heads : (test : Seen → Bool) → ((t : Seen) → test t ≡ false) → (s : Stream) → heads test s ≡ false
never_heads test h (ends q) = refl
never_heads test h (stops q) = refl
never_heads test h (t then s) = h (seen_token t.token)

never_takes : {A : Type 0} (test : Seen → Bool) (p q : read.Parser A) → ((t : Seen) → test t ≡ false) → (s : Stream) → takes test p q s ≡ q s
unfolding takes
never_takes test p q h s = rw (never_heads test h s) refl

never_to : {A : Type 0} (test : Seen → Bool) (L M : Rule A) → ((t : Seen) → test t ≡ false) → (ts : List Token) (a : A) → either (behind test L) M ts a → M ts a
unfolding either sequence rule.token_rule
never_to test L M h ts a (inl (us, vs, u, e, (t, e2, k), l)) = absurd (both_ways (test (seen_token t)) (h (seen_token t)) k)
never_to test L M h ts a (inr m) = m

never_back : {A : Type 0} (test : Seen → Bool) (L M : Rule A) (ts : List Token) (a : A) → M ts a → either (behind test L) M ts a
unfolding either
never_back test L M ts a m = inr m

reads_never : (n : ℕ) {A : Type 0} (test : Seen → Bool) (p : read.Parser A) (L : Rule A) {q : read.Parser A} {M : Rule A} {c d : Seen → Bool} → ((t : Seen) → test t ≡ false) → ((s : Stream) → heads d s ≡ false → heads c s ≡ false) → Reads n q M c → Reads n (takes test p q) (either (behind test L) M) d
reads_never n test p L {q = q} {M = M} {c = c} {d = d} h weaker r =
    reads_alike n q (takes test p q) M (either (behind test L) M) c d (never_takes test p q h) (record { to = never_back test L M; back = never_to test L M h }) weaker r

-- ---- one token

pub reads_name : (n : ℕ) → Reads n read.name rule.name none
reads_name n = reads_one n word_of refl (begins_one word_of (word (codes "x")) (codes "x") refl)

pub reads_quoted : (n : ℕ) → Reads n read.quoted_name rule.quoted_name none
reads_quoted n = reads_one n quoted_of refl (begins_one quoted_of (quoted (codes "x")) (codes "x") refl)

pub reads_flag : (n : ℕ) → Reads n (read.one flag_of) rule.flag none
reads_flag n = reads_one n flag_of refl (begins_one flag_of (word (codes "true")) true refl)

reads_comparison : (n : ℕ) → Reads n read.comparison (rule.one comparison_of) none
reads_comparison n = reads_one n comparison_of refl (begins_one comparison_of (mark marks.Less) cmp.Lt refl)

reads_function : (n : ℕ) → Reads n (read.one function_of) (rule.one function_of) none
reads_function n = reads_one n function_of refl (begins_one function_of (word (codes "sum")) fun.Sum refl)

-- ---- values and rows

pub reads_value : (n : ℕ) → Reads n read.value rule.value (any (is_keyword kw.Null) (any none none))
unfolding read.value
reads_value n =
    takes_keyword n kw.Null (λ m. reads_gives m None) (reads_last n Some (reads_number n))
    (avoids_sequence _ _ _ _ (avoids_number _ _ (λ o. refl)))

pub reads_row : (n : ℕ) → Reads n read.row rule.row none
unfolding read.row
reads_row n =
    reads_then n (reads_mark n marks.Open) (λ _.
    reads_bind n (reads_listed n separators.Comma (mark marks.Comma) refl refl reads_value (mark_only _ marks.Comma refl))
    (λ vs. reads_then n (reads_mark n marks.Close) (λ _. reads_gives n vs))
    (λ vs. avoids_sequence _ _ _ _ (avoids_mark _ marks.Close _ refl)))

-- ---- columns

abbrev pub on_not : Seen → Bool
on_not = any (is_keyword kw.Not) (any none none)

reads_not_null : (n : ℕ) → Reads n read.not_null rule.not_null on_not
unfolding read.not_null
reads_not_null n =
    takes_keyword n kw.Not (λ m. reads_then m (reads_keyword m kw.Null) (λ _. reads_gives m true)) (reads_gives n false) (avoids_means _ _ _)

pub reads_column : (n : ℕ) → Reads n read.column rule.column on_not
unfolding read.column
reads_column n =
    reads_then n (reads_name n) (λ c. reads_then n (reads_keyword n kw.Bigint) (λ _. reads_last n (λ must. record { name = c; must = must }) (reads_not_null n)))

-- ---- tests

reads_null_test : (n : ℕ) (c : List ℕ) → Reads n (read.null_test c) (rule.null_test c) on_not
unfolding read.null_test
reads_null_test n c =
    takes_keyword n kw.Not
    (λ m. reads_then m (reads_keyword m kw.Null) (λ _. reads_gives m _))
    (reads_then n (reads_keyword n kw.Null) (λ _. reads_gives n _))
    (avoids_sequence _ _ _ _ (avoids_keyword _ kw.Null _ refl))

reads_number_test : (n : ℕ) (c : List ℕ) → Reads n (read.number_test c) (rule.number_test c) none
unfolding read.number_test
reads_number_test n c = reads_then n (reads_comparison n) (λ op. reads_last n (λ z. record { col = c; cmp = op; num = z }) (reads_number n))

comparison_only : (k : Keyword) (t : Seen) (a : Cmp) → comparison_of t ≡ Some a → is_keyword k t ≡ false
comparison_only k (scan.word w) a e = absurd cc
comparison_only k (scan.number z) a e = absurd cc
comparison_only k (scan.quoted w) a e = absurd cc
comparison_only k (scan.mark m) a e = refl

abbrev pub on_test : Seen → Bool
on_test = any (is_keyword kw.Is) (any on_not none)

reads_test : (n : ℕ) → Reads n read.any_test rule.test on_test
unfolding read.any_test
reads_test n =
    reads_then n (reads_name n) (λ c.
    takes_keyword n kw.Is (λ m. reads_null_test m c) (reads_number_test n c) (avoids_sequence _ _ _ _ (avoids_one _ comparison_of _ (comparison_only kw.Is))))

abbrev pub on_filters : Seen → Bool
on_filters = any (is_keyword kw.Where) (any (any (parts separators.And) on_test) none)

pub reads_filters : (n : ℕ) → Reads n read.filters rule.filters on_filters
unfolding read.filters
reads_filters n =
    takes_keyword n kw.Where
    (λ m. reads_listed m separators.And (word (codes "and")) refl refl reads_test (keyword_only _ kw.And refl))
    (reads_gives n []) (avoids_means _ _ _)

pub reads_source : (n : ℕ) → Reads n read.source rule.source on_filters
unfolding read.source
reads_source n = reads_then n (reads_keyword n kw.From) (λ _. reads_then n (reads_name n) (λ t. reads_last n (λ tests. (t, tests)) (reads_filters n)))

-- ---- aggregates

abbrev pub on_as : Seen → Bool
on_as = any (is_keyword kw.As) (any none none)

pub reads_alias : (n : ℕ) → Reads n read.alias rule.alias on_as
unfolding read.alias
reads_alias n = takes_keyword n kw.As (λ m. reads_last m Some (reads_name m)) (reads_gives n None) (avoids_means _ _ _)

abbrev pub on_star : Fun → Seen → Bool
on_star f = any (is_star_of f) (any none none)

word_only : (f : Fun) (t : Seen) (w : List ℕ) → word_of t ≡ Some w → is_star_of f t ≡ false
word_only fun.CountAll t w e = refl
word_only fun.Count (scan.word v) w e = refl
word_only fun.Count (scan.number z) w e = absurd cc
word_only fun.Count (scan.quoted v) w e = absurd cc
word_only fun.Count (scan.mark m) w e = absurd cc
word_only fun.Sum t w e = refl
word_only fun.Min t w e = refl
word_only fun.Max t w e = refl
word_only fun.Avg t w e = refl

abbrev column_of : Fun → List ℕ → Fun × Option (List ℕ)
column_of f c = (f, Some c)

abbrev star_of : Fun × Option (List ℕ)
star_of = (fun.CountAll, None)

reads_column_of : (n : ℕ) (f : Fun) → Reads n (read.bind read.name (λ c. read.gives (column_of f c))) (sequence rule.name (λ c. rule.means (column_of f c))) none
reads_column_of n f = reads_last n (column_of f) (reads_name n)

reads_star : (n : ℕ) → Reads n (read.argument fun.Count) (rule.argument fun.Count) (on_star fun.Count)
unfolding read.argument
reads_star n =
    reads_takes n (is_star_of fun.Count) (mark marks.Star) (read.gives star_of) (rule.means star_of) none refl refl (inner_of n (λ m. reads_gives m star_of)) (reads_gives 0 star_of).starts (reads_column_of n fun.Count)
    (avoids_sequence _ _ _ _ (avoids_one _ word_of _ (word_only fun.Count)))

reads_argument : (n : ℕ) (f : Fun) → Reads n (read.argument f) (rule.argument f) (on_star f)
unfolding read.argument
reads_argument n fun.CountAll = reads_never n (is_star_of fun.CountAll) _ (rule.means star_of) (λ t. refl) (λ s _. heads-none s) (reads_column_of n fun.CountAll)
reads_argument n fun.Count = reads_star n
reads_argument n fun.Sum = reads_never n (is_star_of fun.Sum) _ (rule.means star_of) (λ t. refl) (λ s _. heads-none s) (reads_column_of n fun.Sum)
reads_argument n fun.Min = reads_never n (is_star_of fun.Min) _ (rule.means star_of) (λ t. refl) (λ s _. heads-none s) (reads_column_of n fun.Min)
reads_argument n fun.Max = reads_never n (is_star_of fun.Max) _ (rule.means star_of) (λ t. refl) (λ s _. heads-none s) (reads_column_of n fun.Max)
reads_argument n fun.Avg = reads_never n (is_star_of fun.Avg) _ (rule.means star_of) (λ t. refl) (λ s _. heads-none s) (reads_column_of n fun.Avg)

close_is_no_star : (f : Fun) → on_star f (scan.mark marks.Close) ≡ false
close_is_no_star fun.CountAll = refl
close_is_no_star fun.Count = refl
close_is_no_star fun.Sum = refl
close_is_no_star fun.Min = refl
close_is_no_star fun.Max = refl
close_is_no_star fun.Avg = refl

pub reads_aggregate_rest : (n : ℕ) (f : Fun) → Reads n (read.aggregate_rest f) (rule.aggregate_rest f) on_as
unfolding read.aggregate_rest
reads_aggregate_rest n f =
    reads_bind n (reads_argument n f)
    (λ a. reads_then n (reads_mark n marks.Close) (λ _. reads_last n (λ x. record { fun = a.0; col = a.1; name = x }) (reads_alias n)))
    (λ a. avoids_sequence _ _ _ _ (avoids_mark _ marks.Close _ (close_is_no_star f)))

pub reads_aggregate : (n : ℕ) → Reads n read.aggregate rule.aggregate on_as
unfolding read.aggregate
reads_aggregate n = reads_then n (reads_function n) (λ f. reads_then n (reads_mark n marks.Open) (λ _. reads_aggregate_rest n f))

abbrev pub on_aggregates : Seen → Bool
on_aggregates = any (parts separators.Comma) on_as

-- the aggregates; the first begins after its opening parenthesis
abbrev pub aggregates_of : Fun → Rule (List NamedAgg)
aggregates_of f = sequence (rule.aggregate_rest f) (λ a. sequence (rule.many (behind (parts separators.Comma) rule.aggregate)) (λ others. rule.means (a ∷ others)))

pub reads_aggregates : (n : ℕ) (f : Fun) → Reads n (read.aggregates f) (aggregates_of f) on_aggregates
unfolding read.aggregates
reads_aggregates n f =
    reads_bind n (reads_aggregate_rest n f)
    (λ a. reads_rest n (parts separators.Comma) (mark marks.Comma) read.aggregate rule.aggregate on_as a refl refl reads_aggregate (mark_only on_as marks.Comma refl))
    (λ a. avoids_rest (parts separators.Comma) on_as rule.aggregate a (mark_only on_as marks.Comma refl))

-- ---- buckets and groups

reads_offset : (n : ℕ) → Reads n read.offset rule.offset (any (is_mark marks.Comma) (any none none))
unfolding read.offset
reads_offset n = takes_mark n marks.Comma reads_number (reads_gives n (pos 0)) (avoids_means _ _ _)

pub reads_bucket : (n : ℕ) → Reads n read.bucket rule.bucket on_as
unfolding read.bucket
reads_bucket n =
    reads_then n (reads_keyword n kw.TimeBucket) (λ _. reads_then n (reads_mark n marks.Open) (λ _. reads_then n (reads_number n) (λ step.
    reads_then n (reads_mark n marks.Comma) (λ _. reads_then n (reads_name n) (λ at.
    reads_bind n (reads_offset n)
    (λ shift. reads_then n (reads_mark n marks.Close) (λ _. reads_last n (λ x. record { step = step; shift = shift; at = at; name = x }) (reads_alias n)))
    (λ shift. avoids_sequence _ _ _ _ (avoids_mark _ marks.Close _ refl)))))))

pub reads_calendar_bucket : (n : ℕ) → Reads n read.calendar_bucket rule.calendar_bucket on_as
unfolding read.calendar_bucket
reads_calendar_bucket n =
    reads_then n (reads_mark n marks.Open) (λ _. reads_then n (reads_number n) (λ z. reads_then n (reads_mark n marks.Comma) (λ _. reads_then n (reads_quoted n) (λ u.
    reads_then n (reads_mark n marks.Comma) (λ _. reads_then n (reads_name n) (λ c. reads_then n (reads_mark n marks.Close) (λ _.
    reads_last n (λ x. record { number = z; unit = u; head = record { step = pos 1; shift = pos 0; at = c; name = x } }) (reads_alias n))))))))

pub reads_grouping : (n : ℕ) (first : List ℕ) (keys : List (List ℕ)) → Reads n (read.group_by first keys) (rule.group_by first keys) none
unfolding read.group_by read.items
reads_grouping n first keys =
    reads_then n (reads_keyword n kw.Group) (λ _. reads_then n (reads_keyword n kw.By) (λ _.
    reads_then n (reads_wanted n (is_item 0 first) (word first) refl (same_text first)) (λ _. reads_items_from n 1 keys)))
