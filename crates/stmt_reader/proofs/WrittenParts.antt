-- The grammar's parts are whole, and their texts have at least this many bytes.
use Rattle.std.proofs.Common.{◌≡◌, ℕ, ◌+◌, ◌*◌, ◌<◌, ◌≤◌, Bool, true, false, cond, List, [], ◌∷◌, length, Option, Some, None, refl, sym, ap, subst, ◌∙◌, arith, ℤ, pos}
use Rattle.std.specs.Prelude.{codes, sum_by, is_some}
use Rattle.std.specs.Str.{bytes_eq}
use Rattle.std.specs.List.{AllByRecursion}
use Rattle.std.proofs.lemmas.List.Sums.{sum_by-cons}
use Rattle.std.proofs.lemmas.Slice.Eq.{bytes_eq-Decides}
use Rattle.ts_num.specs.declared.values.Fun.{Fun}
use Rattle.ts_num.specs.declared.values.Fun.TheVariants as fun
use Rattle.ts_schema.specs.declared.conditions.Cmp.{Cmp}
use Rattle.ts_schema.specs.declared.conditions.Cmp.TheVariants as cmp
use Rattle.stmt_tokens.specs.Tokens.{Token, word, number, quoted, mark}
use Rattle.stmt_tokens.specs.Scan.{seen_token}
use Rattle.stmt_syntax.specs.Heads.{head_name, bucket_word}
use Rattle.stmt_tokens.specs.Words.{comparison_of, comparison_of_mark, function_of, function_of_word, is_star_of}
use Rattle.stmt_reader.specs.Grammar as rule
use Rattle.stmt_reader.specs.Grammar.{Rule}
use Rattle.stmt_syntax.specs.Written.{is_null_test, IsWholeTest, takes_argument, IsWholeAgg, IsWholeFold, IsWholeRow, name_size, column_size, row_size, test_size, argument_size, alias_size, agg_size, fold_size}
use Rattle.stmt_tokens.specs.declared.keywords.Keyword.TheVariants as kw
use Rattle.stmt_tokens.specs.declared.tokens.Mark.{Mark}
use Rattle.stmt_tokens.specs.declared.tokens.Mark.TheVariants as marks
use Rattle.stmt_reader.specs.declared.folds.Head.{Head}
use Rattle.stmt_syntax.specs.declared.statements.NamedAgg.{NamedAgg}
use Rattle.stmt_syntax.specs.declared.statements.NamedFold.{NamedFold}
use Rattle.stmt_syntax.specs.declared.statements.NamedTest.{NamedTest}
use Rattle.stmt_reader.proofs.Yields.{Yields, Item, Items, Listed, token_size, yields_means, yields_then, yields_either, yields_many, yields_listed, yields_one, yields_wanted, yields_keyword, yields_mark, yields_name, yields_number, yields_quoted}

-- no condition on a value
abbrev pub Any : {A : Type 0} → A → Type 0
Any a = Unit {0}

-- ---- values and rows

pub yields_value : Yields rule.value (λ v n. 1 ≤ n)
yields_value =
    yields_either
    (yields_then (yields_keyword kw.Null) (λ _ a ha. yields_means None _ (omega arith)))
    (yields_then yields_number (λ z a ha. yields_means (Some z) _ (omega arith)))

two_each : (values : List (Option ℤ)) → sum_by (λ _. 2) values ≡ 2 * length values
two_each [] = refl
two_each (v ∷ values) =
    let total : sum_by (λ _. 2) (v ∷ values) ≡ 2 + sum_by (λ _. 2) values = sum_by-cons (λ _. 2) v values in
    omega (arith, two_each values)

value_item : Yields rule.value (λ v n. Item Any (λ _. 2) v (1 + n))
value_item = record { holds = λ ts v l. let k = yields_value.holds ts v l in record { is = tt; size = omega arith } }

pub yields_row : Yields rule.row (Item IsWholeRow row_size)
yields_row =
    yields_then (yields_mark marks.Open) (λ _ a ha.
    yields_then (yields_listed 1 (λ _. 2) (yields_mark marks.Comma) value_item) (λ values b hb.
    yields_then (yields_mark marks.Close) (λ _ c hc.
    yields_means values _ (record { is = record { some = hb.some }; size = omega (arith, hb.size, two_each values) }))))

-- ---- columns

yields_not_null : Yields rule.not_null (λ _ n. 0 ≤ n)
yields_not_null =
    yields_either
    (yields_then (yields_keyword kw.Not) (λ _ a ha. yields_then (yields_keyword kw.Null) (λ _ b hb. yields_means true _ (omega arith))))
    (yields_means false _ (omega arith))

pub yields_column : Yields rule.column (λ c n. Item Any column_size c (1 + n))
yields_column =
    yields_then yields_name (λ name a ha.
    yields_then (yields_keyword kw.Bigint) (λ _ b hb.
    yields_then yields_not_null (λ must c hc.
    yields_means (record { name = name; must = must }) _ (record { is = tt; size = omega arith }))))

-- ---- tests

compares_mark : (m : Mark) (op : Cmp) → comparison_of_mark m ≡ Some op → is_null_test op ≡ false
compares_mark marks.Open op e = absurd cc
compares_mark marks.Close op e = absurd cc
compares_mark marks.Comma op e = absurd cc
compares_mark marks.Semicolon op e = absurd cc
compares_mark marks.Point op e = absurd cc
compares_mark marks.Star op e = absurd cc
compares_mark marks.Equal op e = let k : cmp.Eq ≡ op = cc in subst (λ (c : Cmp). is_null_test c ≡ false) k refl
compares_mark marks.Less op e = let k : cmp.Lt ≡ op = cc in subst (λ (c : Cmp). is_null_test c ≡ false) k refl
compares_mark marks.Greater op e = let k : cmp.Gt ≡ op = cc in subst (λ (c : Cmp). is_null_test c ≡ false) k refl
compares_mark marks.AtMost op e = let k : cmp.Le ≡ op = cc in subst (λ (c : Cmp). is_null_test c ≡ false) k refl
compares_mark marks.AtLeast op e = let k : cmp.Ge ≡ op = cc in subst (λ (c : Cmp). is_null_test c ≡ false) k refl
compares_mark marks.Differs op e = let k : cmp.Ne ≡ op = cc in subst (λ (c : Cmp). is_null_test c ≡ false) k refl
compares_mark marks.Unequal op e = let k : cmp.Ne ≡ op = cc in subst (λ (c : Cmp). is_null_test c ≡ false) k refl
compares_mark marks.Arrow op e = absurd cc

-- a comparison that isn't on NULL, by one token
record Compares (op : Cmp) (n : ℕ) : Type 0 where
  pub plain : is_null_test op ≡ false
  pub size : 1 ≤ n

compares : (t : Token) (op : Cmp) → comparison_of (seen_token t) ≡ Some op → Compares op (token_size t + 0)
compares (word w) op e = absurd cc
compares (number z) op e = absurd cc
compares (quoted w) op e = absurd cc
compares (mark m) op e = record { plain = compares_mark m op e; size = omega arith }

-- the rest of a test after its column
record TestOf (c : List ℕ) (t : NamedTest) (n : ℕ) : Type 0 where
  pub col : t.col ≡ c
  pub whole : IsWholeTest t
  pub size : 2 ≤ n

null_test_of : (c : List ℕ) (op : Cmp) (n : ℕ) → 2 ≤ n → TestOf c (record { col = c; cmp = op; num = pos 0 }) n
null_test_of c op n some = record { col = refl; whole = record { number = λ e. refl }; size = some }

yields_null_test : (c : List ℕ) → Yields (rule.null_test c) (TestOf c)
yields_null_test c =
    yields_either
    (yields_then (yields_keyword kw.Not) (λ _ a ha. yields_then (yields_keyword kw.Null) (λ _ b hb. yields_means _ _ (null_test_of c cmp.NotNull _ (omega arith)))))
    (yields_then (yields_keyword kw.Null) (λ _ a ha. yields_means _ _ (null_test_of c cmp.IsNull _ (omega arith))))

number_test_of : (c : List ℕ) (op : Cmp) (z : ℤ) (n : ℕ) → is_null_test op ≡ false → 2 ≤ n → TestOf c (record { col = c; cmp = op; num = z }) n
number_test_of c op z n plain some = record {
  col = refl;
  whole = record { number = λ e. let k : true ≡ false = sym e ∙ plain in absurd cc };
  size = some;
}

yields_number_test : (c : List ℕ) → Yields (rule.number_test c) (TestOf c)
yields_number_test c =
    yields_then (yields_one comparison_of Compares compares) (λ op a ha.
    yields_then yields_number (λ z b hb.
    yields_means _ _ (number_test_of c op z _ ha.plain (omega (arith, ha.size)))))

test_of_column : (c : List ℕ) (a n : ℕ) (t : NamedTest) → length c ≤ a → TestOf c t n → Item IsWholeTest test_size t (3 + (a + n))
test_of_column c a n t ha r = record { is = r.whole; size = omega (arith, ap length r.col, r.size) }

yields_test_of : {L : Rule NamedTest} (c : List ℕ) (a k : ℕ) → length c ≤ a → Yields L (TestOf c) → Yields L (λ t n. Item IsWholeTest test_size t (3 + (a + (k + n))))
yields_test_of c a k ha y = record { holds = λ ts t l. let r = y.holds ts t l in record { is = r.whole; size = omega (arith, ap length r.col, r.size) } }

pub yields_test : Yields rule.test (λ t n. Item IsWholeTest test_size t (3 + n))
yields_test =
    yields_then yields_name (λ c a ha.
    yields_either
    (yields_then (yields_keyword kw.Is) (λ _ b hb. yields_test_of c a b ha (yields_null_test c)))
    (plain_test c a ha))
  where
    plain_test : (c : List ℕ) (a : ℕ) → length c ≤ a → Yields (rule.number_test c) (λ t n. Item IsWholeTest test_size t (3 + (a + n)))
    plain_test c a ha = record { holds = λ ts t l. test_of_column c a _ t ha ((yields_number_test c).holds ts t l) }

pub yields_filters : Yields rule.filters (Items IsWholeTest test_size)
yields_filters =
    yields_either
    (yields_then (yields_keyword kw.Where) (λ _ a ha.
    weaker (yields_listed 3 test_size (yields_keyword kw.And) yields_test) a ha))
    (yields_means [] _ (record { each = tt; size = omega arith }))
  where
    weaker : {L : Rule (List NamedTest)} → Yields L (Listed 3 IsWholeTest test_size) → (a : ℕ) → 5 ≤ a → Yields L (λ tests n. Items IsWholeTest test_size tests (a + n))
    weaker y a ha = record { holds = λ ts tests l. let k = y.holds ts tests l in record { each = k.each; size = omega (arith, k.size) } }

-- FROM n [WHERE tests]
pub record SourceOf (from : List ℕ × List NamedTest) (n : ℕ) : Type 0 where
  pub tests : AllByRecursion IsWholeTest from.1
  pub size : 4 + length from.0 + sum_by test_size from.1 ≤ n

pub yields_source : Yields rule.source SourceOf
yields_source =
    yields_then (yields_keyword kw.From) (λ _ a ha.
    yields_then yields_name (λ table b hb.
    yields_then yields_filters (λ tests c hc.
    yields_means (table, tests) _ (record { tests = hc.each; size = omega (arith, hc.size) }))))

-- ---- folds

-- [AS x]
yields_alias : Yields rule.alias (λ x n. alias_size x ≤ n)
yields_alias =
    yields_either
    (yields_then (yields_keyword kw.As) (λ _ a ha. yields_then yields_name (λ x b hb. yields_means (Some x) _ (omega arith))))
    (yields_means None _ (omega arith))

-- a function with a word of its own: it takes an argument
record Named (f : Fun) (n : ℕ) : Type 0 where
  pub takes : takes_argument f ≡ true
  pub size : 3 ≤ n

named_by : (text : List ℕ) (w : List ℕ) (known f : Fun) → takes_argument known ≡ true → 3 ≤ length text → bytes_eq w text ≡ true → known ≡ f → Named f (length w + 0)
named_by text w known f takes long e same = record {
  takes = subst (λ (g : Fun). takes_argument g ≡ true) same takes;
  size = omega (arith, ap length ((bytes_eq-Decides w text).0 e));
}

-- a choice by a test of words
chosen : (test : Bool) (known f : Fun) (other : Option Fun) (P : Type 0) → cond test (Some known) other ≡ Some f → (test ≡ true → known ≡ f → P) → (other ≡ Some f → P) → P
chosen true known f other P e here there = here refl cc
chosen false known f other P e here there = there e

named_word : (w : List ℕ) (f : Fun) → function_of_word w ≡ Some f → Named f (length w + 0)
named_word w f e =
    chosen _ fun.Count f _ _ e (named_by (codes "count") w fun.Count f refl (omega arith)) (λ e.
    chosen _ fun.Sum f _ _ e (named_by (codes "sum") w fun.Sum f refl (omega arith)) (λ e.
    chosen _ fun.Min f _ _ e (named_by (codes "min") w fun.Min f refl (omega arith)) (λ e.
    chosen _ fun.Max f _ _ e (named_by (codes "max") w fun.Max f refl (omega arith)) (λ e.
    chosen _ fun.Avg f _ _ e (named_by (codes "avg") w fun.Avg f refl (omega arith)) (λ e. absurd cc)))))

named : (t : Token) (f : Fun) → function_of (seen_token t) ≡ Some f → Named f (token_size t + 0)
named (word w) f e = named_word w f e
named (number z) f e = absurd cc
named (quoted w) f e = absurd cc
named (mark m) f e = absurd cc

-- * or c: a function with an argument if it takes one
record ArgumentOf (a : Fun × Option (List ℕ)) (n : ℕ) : Type 0 where
  pub whole : is_some a.1 ≡ takes_argument a.0
  pub size : argument_size a.1 ≤ n

star_mark : (f : Fun) (t : Token) → is_star_of f (seen_token t) ≡ true → 1 ≤ token_size t + 0
star_mark fun.Count (word w) e = absurd cc
star_mark fun.Count (number z) e = absurd cc
star_mark fun.Count (quoted w) e = absurd cc
star_mark fun.Count (mark m) e = omega arith
star_mark fun.CountAll t e = absurd cc
star_mark fun.Sum t e = absurd cc
star_mark fun.Min t e = absurd cc
star_mark fun.Max t e = absurd cc
star_mark fun.Avg t e = absurd cc

yields_argument : (f : Fun) → takes_argument f ≡ true → Yields (rule.argument f) ArgumentOf
yields_argument f takes =
    yields_either
    (yields_then (yields_wanted (is_star_of f) (λ n. 1 ≤ n) (star_mark f)) (λ _ a ha. yields_means (fun.CountAll, None) _ (record { whole = refl; size = omega arith })))
    (yields_then yields_name (λ c a ha. yields_means (f, Some c) _ (record { whole = sym takes; size = omega arith })))

yields_aggregate_rest : (f : Fun) (n : ℕ) → Named f n → Yields (rule.aggregate_rest f) (λ a m. Item IsWholeAgg agg_size a (2 + (n + m)))
yields_aggregate_rest f n h =
    yields_then (yields_argument f h.takes) (λ arg b hb.
    yields_then (yields_mark marks.Close) (λ _ c hc.
    yields_then yields_alias (λ x d hd.
    yields_means (record { fun = arg.0; col = arg.1; name = x }) _
    (record { is = record { argument = hb.whole }; size = omega (arith, hb.size, h.size) }))))

pub yields_aggregate : Yields rule.aggregate (λ a n. Item IsWholeAgg agg_size a (1 + n))
yields_aggregate =
    yields_then (yields_one function_of Named named) (λ f a ha.
    yields_then (yields_mark marks.Open) (λ _ b hb.
    closer a (yields_aggregate_rest f a ha) b hb))
  where
    closer : {L : Rule NamedAgg} (a : ℕ) → Yields L (λ x m. Item IsWholeAgg agg_size x (2 + (a + m))) → (b : ℕ) → 1 ≤ b → Yields L (λ x m. Item IsWholeAgg agg_size x (1 + (a + (b + m))))
    closer a y b hb = record { holds = λ ts x l. let k = y.holds ts x l in record { is = k.is; size = omega (arith, k.size) } }

yields_offset : Yields rule.offset (λ z n. 0 ≤ n)
yields_offset =
    yields_either
    (yields_then (yields_mark marks.Comma) (λ _ a ha. record { holds = λ ts z l. omega arith }))
    (yields_means (pos 0) _ (omega arith))

-- time_bucket ( num , c ) AS x
yields_bucket : Yields rule.bucket (λ b n. 15 + length b.at + alias_size b.name ≤ n)
yields_bucket =
    yields_then (yields_keyword kw.TimeBucket) (λ _ a ha.
    yields_then (yields_mark marks.Open) (λ _ b hb.
    yields_then yields_number (λ step c hc.
    yields_then (yields_mark marks.Comma) (λ _ d hd.
    yields_then yields_name (λ col e he.
    yields_then yields_offset (λ shift f hf.
    yields_then (yields_mark marks.Close) (λ _ g hg.
    yields_then yields_alias (λ x i hi.
    yields_means (record { step = step; shift = shift; at = col; name = x }) _ (omega arith)))))))))

-- { , c } , agg { , agg }
record ListOf (list : List (List ℕ) × List NamedAgg) (n : ℕ) : Type 0 where
  pub some : 0 < length list.1
  pub aggs : AllByRecursion IsWholeAgg list.1
  pub size : sum_by name_size list.0 + sum_by agg_size list.1 ≤ n

key_item : Yields (rule.◌>>◌ (rule.mark marks.Comma) rule.name) (Item Any name_size)
key_item = yields_then (yields_mark marks.Comma) (λ _ a ha. record { holds = λ ts w l. record { is = tt; size = omega (arith, yields_name.holds ts w l) } })

yields_select_list : Yields rule.select_list ListOf
yields_select_list =
    yields_then (yields_many key_item) (λ keys a ha.
    yields_then (yields_mark marks.Comma) (λ _ b hb.
    yields_then (yields_listed 1 agg_size (yields_mark marks.Comma) yields_aggregate) (λ aggs c hc.
    yields_means (keys, aggs) _ (record { some = hc.some; aggs = hc.each; size = omega (arith, ha.size, hc.size) }))))

yields_items : (i : ℕ) (names : List (List ℕ)) → Yields (rule.items_from i names) (λ _ n. 0 ≤ n)
yields_items i names = record { holds = λ ts u l. omega arith }

yields_grouping : (first : List ℕ) (keys : List (List ℕ)) → Yields (rule.group_by first keys) (λ _ n. 7 ≤ n)
yields_grouping first keys =
    yields_then (yields_keyword kw.Group) (λ _ m hm.
    yields_then (yields_keyword kw.By) (λ _ n hn.
    record { holds = λ ts u l. omega arith }))

-- a fold whose head has this column and this name, and the rest of the fold
pub record BehindHead (b : Head) (f : NamedFold) (n : ℕ) : Type 0 where
  pub is : IsWholeFold f
  pub size : fold_size f ≤ 15 + length b.at + alias_size b.name + n

pub yields_fold_behind : (own : List ℕ) (b : Head) → Yields (rule.fold_behind own b) (BehindHead b)
yields_fold_behind own b =
    yields_then yields_select_list (λ list n hn.
    yields_then yields_source (λ from k hk.
    yields_then (yields_grouping (head_name own b.name) list.0) (λ _ i hi.
    yields_means (record { step = b.step; shift = b.shift; at = b.at; name = b.name; keys = list.0; aggs = list.1; table = from.0; tests = from.1 }) _
    (record { is = record { some = hn.some; aggs = hn.aggs; tests = hk.tests }; size = omega (arith, hn.size, hk.size) }))))

pub yields_fold : Yields rule.fold (Item IsWholeFold fold_size)
yields_fold =
    yields_then yields_bucket (λ b m hm.
    record { holds = λ ts f l. let k = (yields_fold_behind bucket_word b).holds ts f l in record { is = k.is; size = omega (arith, k.size) } })

-- ( num , 'unit' , c ) AS x
pub yields_calendar_bucket : Yields rule.calendar_bucket (λ h n. 7 + length h.unit + length h.head.at + alias_size h.head.name ≤ n)
yields_calendar_bucket =
    yields_then (yields_mark marks.Open) (λ _ a ha.
    yields_then yields_number (λ z b hb.
    yields_then (yields_mark marks.Comma) (λ _ c hc.
    yields_then yields_quoted (λ u d hd.
    yields_then (yields_mark marks.Comma) (λ _ e he.
    yields_then yields_name (λ col f hf.
    yields_then (yields_mark marks.Close) (λ _ g hg.
    yields_then yields_alias (λ x i hi.
    yields_means (record { number = z; unit = u; head = record { step = pos 1; shift = pos 0; at = col; name = x } }) _ (omega arith)))))))))
