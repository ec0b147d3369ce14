-- The bytes of an event are as many as it takes in a journal.
use Rattle.std.proofs.Common.{◌≡◌, ℕ, ◌+◌, ◌*◌, List, [], ◌∷◌, ◌++◌, length, length-append, Option, Some, None, ℤ, refl, arith}
use Rattle.std.specs.Prelude.{sum_by}
use Rattle.std.specs.List.{flat_map, fold as folded}
use Rattle.ts_schema.specs.declared.columns.Column.{Column}
use Rattle.ts_schema.specs.declared.conditions.Test.{Test}
use Rattle.ts_schema.specs.declared.rows.Row.{Row}
use Rattle.ts_model.specs.Bytes.{fold_bytes, name_bytes, op_bytes, row_bytes, value_bytes}
use Rattle.ts_model.specs.declared.events.Event.TheVariants as events
use Rattle.ts_model.specs.declared.events.Op.{Op}
use Rattle.ts_model.specs.declared.events.Op.TheVariants as ops
use Rattle.ts_model.specs.declared.views.Agg.{Agg}
use Rattle.ts_model.specs.declared.views.Fold.{Fold}
use Rattle.event_codec.specs.Codes.{cmp_code}
use Rattle.event_codec.specs.Laws.{BytesAreCounted}
use Rattle.event_codec.specs.Spelling as spelling
use Rattle.event_codec.specs.Spelling.{four, eight, signed_bytes, few, many, name, value, row, test, agg, column, fold, op}
use Rattle.event_codec.proofs.Fronts.{four_length, eight_length, signed_length}
use Rattle.ts_model.proofs.FieldLaws.{sum_cons}

sum_from : {X : Type 0} (f : X → ℕ) (n : ℕ) (xs : List X) → folded (λ a x. a + f x) n xs ≡ n + sum_by f xs
sum_from f n [] = omega arith
sum_from f n (x ∷ xs) = omega (arith, sum_from f (n + f x) xs, sum_from f (0 + f x) xs)

-- items whose bytes are counted one by one
counted : {X : Type 0} (spell : X → List ℕ) (f : X → ℕ) → ((x : X) → length (spell x) ≡ f x) → (xs : List X) → length (flat_map spell xs) ≡ sum_by f xs
counted spell f each [] = refl
counted spell f each (x ∷ xs) = omega (arith, length-append (spell x) (flat_map spell xs), each x, counted spell f each xs, sum_cons f x xs)

-- items with this many bytes each
evenly : {X : Type 0} (spell : X → List ℕ) (n : ℕ) → ((x : X) → length (spell x) ≡ n) → (xs : List X) → length (flat_map spell xs) ≡ n * length xs
evenly spell n each [] = omega arith
evenly spell n each (x ∷ xs) = omega (arith, length-append (spell x) (flat_map spell xs), each x, evenly spell n each xs, more n (length xs))
  where
    more : (n k : ℕ) → n * (k + 1) ≡ n * k + n
    more n k = omega arith

test_count : (t : Test) → length (test t) ≡ 13
test_count t = omega (arith, length-append (four t.col) (cmp_code t.cmp ∷ signed_bytes t.num), four_length t.col, signed_length t.num)

agg_count : (a : Agg) → length (agg a) ≡ 5
agg_count a = omega (arith, four_length a.col)

value_count : (v : Option ℤ) → length (value v) ≡ value_bytes v
value_count None = refl
value_count (Some v) = omega (arith, signed_length v)

name_count : (text : List ℕ) → length (name text) ≡ name_bytes text
name_count text = omega arith

row_count : (r : Row) → length (row r) ≡ row_bytes r
row_count r = omega (arith, length-append (signed_bytes r.at) (few value r.vals), signed_length r.at, counted value value_bytes value_count r.vals)

column_count : (c : Column) → length (column c) ≡ name_bytes c.name + 1
column_count c = omega (arith, length-append (name c.name) (spelling.flag c.must), name_count c.name)

many_tests : (tests : List Test) → length (many test tests) ≡ 4 + 13 * length tests
many_tests tests = omega (arith, length-append (four (length tests)) (flat_map test tests), four_length (length tests), evenly test 13 test_count tests)

op_count : (o : Op) → length (op o) ≡ op_bytes o
op_count (ops.Insert t rows) = omega (arith, length-append (four t) (many row rows), four_length t, length-append (four (length rows)) (flat_map row rows), four_length (length rows), counted row row_bytes row_count rows)
op_count (ops.Delete t tests) = omega (arith, length-append (four t) (many test tests), four_length t, many_tests tests)

fold_count : (f : Fold) → length (fold f) ≡ fold_bytes f
fold_count f = omega (
  arith,
  length-append (spelling.width f.width) (few four f.keys ++ (few agg f.aggs ++ many test f.tests)),
  length-append (signed_bytes f.width.step) (signed_bytes f.width.shift),
  signed_length f.width.step,
  signed_length f.width.shift,
  length-append (few four f.keys) (few agg f.aggs ++ many test f.tests),
  evenly four 4 four_length f.keys,
  length-append (few agg f.aggs) (many test f.tests),
  evenly agg 5 agg_count f.aggs,
  many_tests f.tests,
)

pub bytes_counted : BytesAreCounted
bytes_counted (events.Table def) = omega (arith, length-append (name def.name) (few column def.cols), name_count def.name, counted column (λ c. name_bytes c.name + 1) column_count def.cols)
bytes_counted (events.Hyper t h) = omega (arith, length-append (four t) (spelling.hyper h), four_length t, length-append (four h.at) (signed_bytes h.interval), four_length h.at, signed_length h.interval)
bytes_counted (events.View def) = omega (
  arith,
  length-append (name def.name) (four def.table ++ (fold def.fold ++ (few name def.names ++ spelling.flag def.only))),
  name_count def.name,
  length-append (four def.table) (fold def.fold ++ (few name def.names ++ spelling.flag def.only)),
  four_length def.table,
  length-append (fold def.fold) (few name def.names ++ spelling.flag def.only),
  fold_count def.fold,
  length-append (few name def.names) (spelling.flag def.only),
  counted name name_bytes name_count def.names,
)
bytes_counted (events.Mode v only) = omega (arith, length-append (four v) (spelling.flag only), four_length v)
bytes_counted (events.Commit ops) = omega (arith, length-append (four (length ops)) (flat_map op ops), four_length (length ops), counted op op_bytes op_count ops)
bytes_counted (events.Cut v s) = omega (arith, length-append (four v) (spelling.span s), four_length v, length-append (signed_bytes s.lo) (signed_bytes s.hi), signed_length s.lo, signed_length s.hi)
bytes_counted (events.Built cut snap) = omega (arith, length-append (eight cut) (eight snap), eight_length cut, eight_length snap)
