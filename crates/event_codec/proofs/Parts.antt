-- The parts of events, and events, are read exactly.
use Rattle.std.proofs.Common.{◌≡◌, ℕ, ◌-◌, ◌<◌, ◌≤◌, ◌^◌, Bool, true, false, ◌&&◌, nat_lt, nat_le, List, [], ◌∷◌, ◌++◌, length, Option, Some, None, ℤ, pos, ◌+ℤ◌, ◌-ℤ◌, ◌≤ℤ◌, refl, sym, ap, arith}
use Rattle.std.specs.List.{flat_map, list_all, AllByRecursion}
use Rattle.std.proofs.lemmas.Bool.{and_parts, and_from, ltb-true, lt-ltb, leb-true, le-leb, true≢false}
use Rattle.std.proofs.lemmas.Int.{ints}
use Rattle.ts_bucket.specs.WholeSpans.{least, greatest}
use Rattle.ts_bucket.specs.Bucket.{max_step, max_time, min_time}
use Rattle.ts_num.specs.declared.values.Fun.{Fun}
use Rattle.ts_num.specs.declared.values.Fun.TheVariants.{CountAll, Count, Sum, Min, Max, Avg}
use Rattle.ts_schema.specs.Names.{is_head, is_tail}
use Rattle.ts_schema.specs.declared.conditions.Cmp.{Cmp}
use Rattle.ts_schema.specs.declared.conditions.Cmp.TheVariants.{Eq, Ne, Lt, Le, Gt, Ge, IsNull, NotNull}
use Rattle.ts_model.specs.declared.events.Op.{Op}
use Rattle.ts_model.specs.declared.events.Op.TheVariants as ops
use Rattle.event_codec.specs.declared.kinds.OpKind.{OpKind}
use Rattle.event_codec.specs.declared.kinds.OpKind.TheVariants as op_kinds
use Rattle.event_codec.specs.Codes.{op_code}
use Rattle.event_codec.specs.Formed.{Within, Few, Many, IsFour, IsName, IsValue, IsRow, IsTest, IsAgg, IsColumn, IsStep, IsSpan, IsFold, IsOp, IsTable, IsHyper, IsView, IsWord, least_number, most_number, most_column}
use Rattle.event_codec.specs.Spelling.{four, signed_bytes, few, many, name, flag, value, row, test, agg, column, width, span, fold, op, table, hyper, view}
use Rattle.event_codec.specs.Reading.{Reads, gives, pair, byte_where, put_before, items, second, any_byte, any_four, four_upto, between, any_word, few_of, many_of, coded_byte, flag_of, cmp_of, fun_of, op_kind_of, is_name_length, name_text, name_at, value_body, value_at, to_row, row_at, to_test, test_at, to_agg, agg_at, to_column, column_at, to_width, width_at, to_span, span_at, to_fold, fold_at, to_insert, to_delete, op_body, op_at, to_table, table_at, to_hyper, hyper_at, to_view, view_at}
use Rattle.event_codec.proofs.Formats.{IsFormat, Source, gives_format, byte_format, pair_format, map_format, items_format, listed_format, alike}
use Rattle.event_codec.proofs.NumberLaws.{byte_count, four_format, any_four_format, between_format, any_word_format}
use Rattle.event_codec.proofs.Coded.{Any, flag_format, cmp_format, fun_format, op_kind_format}

-- ---- lists

pub few_format : {A : Type 0} (spell : A → List ℕ) (fits : A → Type 0) (p : Reads A) → IsFormat spell fits p → IsFormat (few spell) (Few fits) (few_of p)
few_format spell fits p first = listed_format spell fits p first (λ n. n ∷ []) (λ n. n < 2 ^ 8) any_byte byte_count

pub many_format : {A : Type 0} (spell : A → List ℕ) (fits : A → Type 0) (p : Reads A) → IsFormat spell fits p → IsFormat (many spell) (Many fits) (many_of p)
many_format spell fits p first = listed_format spell fits p first four IsFour any_four any_four_format

-- ---- names

-- a text of n bytes that is a name
abbrev pub IsNameOf : ℕ → List ℕ → Type 0
IsNameOf n text = (length text ≡ n) × IsName text

abbrev text_of : List ℕ → List ℕ
text_of text = text

tails : (bytes : List ℕ) → list_all is_tail bytes ≡ true → AllByRecursion (λ b. is_tail b ≡ true) bytes
tails [] h = tt
tails (b ∷ bytes) h = let parts = and_parts (is_tail b) (list_all is_tail bytes) h in (parts.0, tails bytes parts.1)

all_tails : (bytes : List ℕ) → AllByRecursion (λ b. is_tail b ≡ true) bytes → list_all is_tail bytes ≡ true
all_tails [] h = refl
all_tails (b ∷ bytes) h = and_from _ _ h.0 (all_tails bytes h.1)

spelled_bytes : (bytes : List ℕ) → flat_map (λ (b : ℕ). b ∷ []) bytes ≡ bytes
spelled_bytes [] = refl
spelled_bytes (b ∷ bytes) = ap (λ (l : List ℕ). b ∷ l) (spelled_bytes bytes)

tail_format : IsFormat (λ b. b ∷ []) (λ b. is_tail b ≡ true) (byte_where is_tail)
tail_format = byte_format is_tail 95 refl

pub text_format : (n : ℕ) → is_name_length n ≡ true → IsFormat (λ text. text) (IsNameOf n) (name_text n)
unfolding name_text
text_format n ok = map_format put_before (λ x. (x.0 ∷ []) ++ flat_map (λ (b : ℕ). b ∷ []) x.1) (λ x. (is_head x.0 ≡ true) × ((length x.1 ≡ n - 1) × AllByRecursion (λ b. is_tail b ≡ true) x.1)) (pair (byte_where is_head) (λ b. items (n - 1) (byte_where is_tail))) (λ text. text) (IsNameOf n)
    (pair_format _ _ _ _ _ _ (byte_format is_head 95 refl) (λ b h. items_format _ _ _ tail_format (n - 1)))
    (record { there = there; back = back })
  where
    some : 0 < n
    some = ltb-true 0 n (and_parts (nat_lt 0 n) (nat_le n 63) ok).0

    few_bytes : n ≤ 63
    few_bytes = leb-true n 63 (and_parts (nat_lt 0 n) (nat_le n 63) ok).1

    there : (x : ℕ × List ℕ) → (is_head x.0 ≡ true) × ((length x.1 ≡ n - 1) × AllByRecursion (λ b. is_tail b ≡ true) x.1) → IsNameOf n (put_before x) × (put_before x ≡ (x.0 ∷ []) ++ flat_map (λ (b : ℕ). b ∷ []) x.1)
    there x h =
        let short = le-leb (length (x.0 ∷ x.1)) 63 (omega (arith, h.1.0, few_bytes, some)) in
        ((omega (arith, h.1.0, some), and_from _ _ (and_from _ _ short h.0) (all_tails x.1 h.1.1)), ap (λ (l : List ℕ). x.0 ∷ l) (sym (spelled_bytes x.1)))

    back : (text : List ℕ) → IsNameOf n text → Source put_before (λ x. (x.0 ∷ []) ++ flat_map (λ (b : ℕ). b ∷ []) x.1) (λ x. (is_head x.0 ≡ true) × ((length x.1 ≡ n - 1) × AllByRecursion (λ b. is_tail b ≡ true) x.1)) (λ text. text) text
    back [] h = absurd (true≢false (sym h.1))
    back (b ∷ bytes) h =
        let tail = and_parts (nat_le (length (b ∷ bytes)) 63 && is_head b) (list_all is_tail bytes) h.1 in
        let head = and_parts (nat_le (length (b ∷ bytes)) 63) (is_head b) tail.0 in
        record { value = (b, bytes); ok = (head.1, (omega (arith, h.0), tails bytes tail.1)); same = refl; spelled = ap (λ (l : List ℕ). b ∷ l) (sym (spelled_bytes bytes)) }

name_length : (text : List ℕ) → IsName text → is_name_length (length text) ≡ true
name_length [] h = absurd (true≢false (sym h))
name_length (b ∷ bytes) h =
    let tail = and_parts (nat_le (length (b ∷ bytes)) 63 && is_head b) (list_all is_tail bytes) h in
    let head = and_parts (nat_le (length (b ∷ bytes)) 63) (is_head b) tail.0 in
    and_from _ _ (lt-ltb 0 (length (b ∷ bytes)) (omega arith)) head.0

pub name_format : IsFormat name IsName name_at
unfolding name_at
name_format = map_format second (λ x. (x.0 ∷ []) ++ x.1) (λ x. (is_name_length x.0 ≡ true) × IsNameOf x.0 x.1) (pair (byte_where is_name_length) name_text) name IsName
    (pair_format _ _ _ _ _ _ (byte_format is_name_length 1 refl) text_format)
    (record {
      there = λ x h. (h.1.1, ap (λ (n : ℕ). n ∷ x.1) h.1.0);
      back = λ text h. record { value = (length text, text); ok = (name_length text h, (refl, h)); same = refl; spelled = refl };
    })

-- ---- rows

-- a value after its flag
abbrev value_rest : Bool → Option ℤ → List ℕ
value_rest b None = []
value_rest b (Some v) = signed_bytes v

abbrev IsTold : Bool → Option ℤ → Type 0
IsTold false v = v ≡ None
IsTold true None = ⊥
IsTold true (Some v) = IsWord v

told_format : (b : Bool) → IsFormat (value_rest b) (IsTold b) (value_body b)
told_format false = alike (λ v. []) (value_rest false) (λ v. v ≡ None) (IsTold false) (gives None) (gives_format None) (λ v h. (h, ap (value_rest false) (sym h))) (λ v h. (h, ap (value_rest false) h))
told_format true = map_format Some signed_bytes IsWord any_word (value_rest true) (IsTold true) any_word_format (record { there = λ v h. (h, refl); back = back })
  where
    back : (v : Option ℤ) → IsTold true v → Source Some signed_bytes IsWord (value_rest true) v
    back None h = absurd h
    back (Some v) h = record { value = v; ok = h; same = refl; spelled = refl }

pub value_format : IsFormat value IsValue value_at
unfolding value_at
value_format = map_format second (λ x. flag x.0 ++ value_rest x.0 x.1) (λ x. Any x.0 × IsTold x.0 x.1) (pair (coded_byte flag_of) value_body) value IsValue
    (pair_format _ _ _ value_rest IsTold _ flag_format (λ b h. told_format b))
    (record { there = λ x h. there x.0 x.1 h.1; back = back })
  where
    there : (b : Bool) (v : Option ℤ) → IsTold b v → IsValue v × (value v ≡ flag b ++ value_rest b v)
    there false None h = (tt, refl)
    there false (Some v) h = absurd cc
    there true None h = absurd h
    there true (Some v) h = (h, refl)

    back : (v : Option ℤ) → IsValue v → Source second (λ (x : Bool × Option ℤ). flag x.0 ++ value_rest x.0 x.1) (λ x. Any x.0 × IsTold x.0 x.1) value v
    back None h = record { value = (false, None); ok = (tt, refl); same = refl; spelled = refl }
    back (Some v) h = record { value = (true, Some v); ok = (tt, h); same = refl; spelled = refl }

pub row_format : IsFormat row IsRow row_at
unfolding row_at
row_format = map_format to_row (λ x. signed_bytes x.0 ++ few value x.1) (λ x. Within min_time max_time x.0 × Few IsValue x.1) (pair (between min_time max_time) (λ time. few_of value_at)) row IsRow
    (pair_format _ _ _ _ _ _ (between_format min_time max_time (omega (arith, ints)) (omega (arith, ints)) (omega (arith, ints))) (λ time h. few_format _ _ _ value_format))
    (record { there = λ x h. (record { time = h.0; values = h.1 }, refl); back = λ r h. record { value = (r.at, r.vals); ok = (h.time, h.values); same = refl; spelled = refl } })

-- ---- tests and aggregates

number_of : (c : Cmp) → IsFormat signed_bytes (Within (least_number c) (most_number c)) (between (least_number c) (most_number c))
number_of Eq = any_word_format
number_of Ne = any_word_format
number_of Lt = any_word_format
number_of Le = any_word_format
number_of Gt = any_word_format
number_of Ge = any_word_format
number_of IsNull = between_format (pos 0) (pos 0) (omega (arith, ints)) (omega (arith, ints)) (omega (arith, ints))
number_of NotNull = between_format (pos 0) (pos 0) (omega (arith, ints)) (omega (arith, ints)) (omega (arith, ints))

-- such a number exists
pub number_range : (c : Cmp) → least_number c ≤ℤ most_number c
number_range Eq = omega (arith, ints)
number_range Ne = omega (arith, ints)
number_range Lt = omega (arith, ints)
number_range Le = omega (arith, ints)
number_range Gt = omega (arith, ints)
number_range Ge = omega (arith, ints)
number_range IsNull = omega (arith, ints)
number_range NotNull = omega (arith, ints)

pub test_format : IsFormat test IsTest test_at
unfolding test_at
test_format = map_format to_test _ _ (pair any_four (λ col. pair (coded_byte cmp_of) (λ cmp. between (least_number cmp) (most_number cmp)))) test IsTest
    (pair_format _ _ _ _ _ _ any_four_format (λ col h. pair_format _ _ _ _ _ _ cmp_format (λ cmp k. number_of cmp)))
    (record { there = λ x h. (record { column = h.0; number = h.1.1 }, refl); back = λ t h. record { value = (t.col, (t.cmp, t.num)); ok = (h.column, (tt, h.number)); same = refl; spelled = refl } })

most_column_small : (f : Fun) → most_column f < 2 ^ 32
most_column_small CountAll = omega arith
most_column_small Count = omega arith
most_column_small Sum = omega arith
most_column_small Min = omega arith
most_column_small Max = omega arith
most_column_small Avg = omega arith

pub agg_format : IsFormat agg IsAgg agg_at
unfolding agg_at
agg_format = map_format to_agg _ _ (pair (coded_byte fun_of) (λ fun. four_upto (most_column fun))) agg IsAgg
    (pair_format _ _ _ _ _ _ fun_format (λ fun h. four_format (most_column fun) (most_column_small fun)))
    (record { there = λ x h. (h.1, refl); back = λ a h. record { value = (a.fun, a.col); ok = (tt, h); same = refl; spelled = refl } })

-- ---- columns, widths, spans and folds

pub column_format : IsFormat column IsColumn column_at
unfolding column_at
column_format = map_format to_column _ _ (pair name_at (λ name. coded_byte flag_of)) column IsColumn
    (pair_format _ _ _ _ _ _ name_format (λ name h. flag_format))
    (record { there = λ x h. (h.0, refl); back = λ c h. record { value = (c.name, c.must); ok = (h, tt); same = refl; spelled = refl } })

pub width_format : IsFormat width IsStep width_at
unfolding width_at
width_format = map_format to_width _ _ (pair (between (pos 1) max_step) (λ step. between (pos 0) (step -ℤ pos 1))) width IsStep
    (pair_format _ _ _ _ _ _ (between_format (pos 1) max_step (omega (arith, ints)) (omega (arith, ints)) (omega (arith, ints)))
    (λ step h. between_format (pos 0) (step -ℤ pos 1) (omega (arith, ints, h.0)) (omega (arith, ints)) (omega (arith, ints, h.1))))
    (record { there = λ x h. (record { step = h.0; shift = h.1 }, refl); back = λ w h. record { value = (w.step, w.shift); ok = (h.step, h.shift); same = refl; spelled = refl } })

pub span_format : IsFormat span IsSpan span_at
unfolding span_at
span_format = map_format to_span _ _ (pair (between least (greatest -ℤ pos 1)) (λ lo. between (lo +ℤ pos 1) greatest)) span IsSpan
    (pair_format _ _ _ _ _ _ (between_format least (greatest -ℤ pos 1) (omega (arith, ints)) (omega (arith, ints)) (omega (arith, ints)))
    (λ lo h. between_format (lo +ℤ pos 1) greatest (omega (arith, ints, h.1)) (omega (arith, ints, h.0)) (omega (arith, ints))))
    (record { there = λ x h. (record { lo = h.0; hi = h.1 }, refl); back = λ s h. record { value = (s.lo, s.hi); ok = (h.lo, h.hi); same = refl; spelled = refl } })

pub fold_format : IsFormat fold IsFold fold_at
unfolding fold_at
fold_format = map_format to_fold _ _ (pair width_at (λ width. pair (few_of any_four) (λ keys. pair (few_of agg_at) (λ aggs. many_of test_at)))) fold IsFold
    (pair_format _ _ _ _ _ _ width_format (λ width h. pair_format _ _ _ _ _ _ (few_format _ _ _ any_four_format) (λ keys k. pair_format _ _ _ _ _ _ (few_format _ _ _ agg_format) (λ aggs l. many_format _ _ _ test_format))))
    (record {
      there = λ x h. (record { width = h.0; keys = h.1.0; aggs = h.1.1.0; tests = h.1.1.1 }, refl);
      back = λ f h. record { value = (f.width, (f.keys, (f.aggs, f.tests))); ok = (h.width, (h.keys, (h.aggs, h.tests))); same = refl; spelled = refl };
    })

-- ---- operations

abbrev IsOpOf : OpKind → Op → Type 0
IsOpOf op_kinds.Insert (ops.Insert t rows) = IsOp (ops.Insert t rows)
IsOpOf op_kinds.Insert (ops.Delete t tests) = ⊥
IsOpOf op_kinds.Delete (ops.Insert t rows) = ⊥
IsOpOf op_kinds.Delete (ops.Delete t tests) = IsOp (ops.Delete t tests)

-- an operation without its kind
abbrev op_rest : Op → List ℕ
op_rest (ops.Insert t rows) = four t ++ many row rows
op_rest (ops.Delete t tests) = four t ++ many test tests

op_body_format : (k : OpKind) → IsFormat op_rest (IsOpOf k) (op_body k)
op_body_format op_kinds.Insert = map_format to_insert (λ x. four x.0 ++ many row x.1) (λ x. IsFour x.0 × Many IsRow x.1) (pair any_four (λ table. many_of row_at)) op_rest (IsOpOf op_kinds.Insert)
    (pair_format _ _ _ _ _ _ any_four_format (λ table h. many_format _ _ _ row_format))
    (record { there = λ x h. (h, refl); back = back })
  where
    back : (o : Op) → IsOpOf op_kinds.Insert o → Source to_insert (λ x. four x.0 ++ many row x.1) (λ x. IsFour x.0 × Many IsRow x.1) op_rest o
    back (ops.Insert t rows) h = record { value = (t, rows); ok = h; same = refl; spelled = refl }
    back (ops.Delete t tests) h = absurd h
op_body_format op_kinds.Delete = map_format to_delete (λ x. four x.0 ++ many test x.1) (λ x. IsFour x.0 × Many IsTest x.1) (pair any_four (λ table. many_of test_at)) op_rest (IsOpOf op_kinds.Delete)
    (pair_format _ _ _ _ _ _ any_four_format (λ table h. many_format _ _ _ test_format))
    (record { there = λ x h. (h, refl); back = back })
  where
    back : (o : Op) → IsOpOf op_kinds.Delete o → Source to_delete (λ x. four x.0 ++ many test x.1) (λ x. IsFour x.0 × Many IsTest x.1) op_rest o
    back (ops.Insert t rows) h = absurd h
    back (ops.Delete t tests) h = record { value = (t, tests); ok = h; same = refl; spelled = refl }

pub op_format : IsFormat op IsOp op_at
unfolding op_at
op_format = map_format second (λ x. (op_code x.0 ∷ []) ++ op_rest x.1) (λ x. Any x.0 × IsOpOf x.0 x.1) (pair (coded_byte op_kind_of) op_body) op IsOp
    (pair_format _ _ _ _ _ _ op_kind_format (λ k h. op_body_format k))
    (record { there = λ x h. there x.0 x.1 h.1; back = back })
  where
    there : (k : OpKind) (o : Op) → IsOpOf k o → IsOp o × (op o ≡ (op_code k ∷ []) ++ op_rest o)
    there op_kinds.Insert (ops.Insert t rows) h = (h, refl)
    there op_kinds.Insert (ops.Delete t tests) h = absurd h
    there op_kinds.Delete (ops.Insert t rows) h = absurd h
    there op_kinds.Delete (ops.Delete t tests) h = (h, refl)

    back : (o : Op) → IsOp o → Source second (λ (x : OpKind × Op). (op_code x.0 ∷ []) ++ op_rest x.1) (λ x. Any x.0 × IsOpOf x.0 x.1) op o
    back (ops.Insert t rows) h = record { value = (op_kinds.Insert, ops.Insert t rows); ok = (tt, h); same = refl; spelled = refl }
    back (ops.Delete t tests) h = record { value = (op_kinds.Delete, ops.Delete t tests); ok = (tt, h); same = refl; spelled = refl }

-- ---- tables, hypertables and aggregates

pub table_format : IsFormat table IsTable table_at
unfolding table_at
table_format = map_format to_table _ _ (pair name_at (λ name. few_of column_at)) table IsTable
    (pair_format _ _ _ _ _ _ name_format (λ name h. few_format _ _ _ column_format))
    (record { there = λ x h. (record { name = h.0; columns = h.1 }, refl); back = λ def h. record { value = (def.name, def.cols); ok = (h.name, h.columns); same = refl; spelled = refl } })

pub hyper_format : IsFormat hyper IsHyper hyper_at
unfolding hyper_at
hyper_format = map_format to_hyper _ _ (pair any_four (λ place. any_word)) hyper IsHyper
    (pair_format _ _ _ _ _ _ any_four_format (λ place h. any_word_format))
    (record { there = λ x h. (record { place = h.0; interval = h.1 }, refl); back = λ y h. record { value = (y.at, y.interval); ok = (h.place, h.interval); same = refl; spelled = refl } })

pub view_format : IsFormat view IsView view_at
unfolding view_at
view_format = map_format to_view _ _ (pair name_at (λ name. pair any_four (λ table. pair fold_at (λ fold. pair (few_of name_at) (λ names. coded_byte flag_of))))) view IsView
    (pair_format _ _ _ _ _ _ name_format (λ name h. pair_format _ _ _ _ _ _ any_four_format (λ table i. pair_format _ _ _ _ _ _ fold_format (λ fold j. pair_format _ _ _ _ _ _ (few_format _ _ _ name_format) (λ names k. flag_format)))))
    (record {
      there = λ x h. (record { name = h.0; table = h.1.0; fold = h.1.1.0; names = h.1.1.1.0 }, refl);
      back = λ def h. record { value = (def.name, (def.table, (def.fold, (def.names, def.only)))); ok = (h.name, (h.table, (h.fold, (h.names, tt)))); same = refl; spelled = refl };
    })
