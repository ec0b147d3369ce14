-- The aggregation from scratch: the result rows of a bucket, from the rows only.
use Rattle.std.specs.Prelude.{ℕ, ◌&&◌, List, [], ◌∷◌, map, filter, flat_map, ℤ, Option, ◌++◌}
use Rattle.std.specs.Ordering.{is_eq, int_cmp}
use Rattle.std.specs.declared.cmp.Ordering.{Ordering}
use Rattle.std.specs.BTreeSet.{insert_key}
use Rattle.ts_num.specs.Aggregates.{aggregate, shown_or_null}
use Rattle.ts_num.specs.declared.values.Datum.{Datum}
use Rattle.ts_num.specs.declared.values.Datum.TheVariants.{Int}
use Rattle.ts_bucket.specs.Bucket.{holds, bucket_of}
use Rattle.ts_schema.specs.declared.rows.Row.{Row}
use Rattle.ts_schema.specs.Rows.{field_of, values_cmp}
use Rattle.ts_schema.specs.Conditions.{passes_all}
use Rattle.ts_model.specs.declared.views.Agg.{Agg}
use Rattle.ts_model.specs.declared.views.Fold.{Fold}
use Rattle.ts_model.specs.declared.views.ViewDef.{ViewDef}
use Rattle.ts_model.specs.History.{History}
use Rattle.ts_model.specs.Rows.{rows}

-- what an aggregate shows of a group of rows
abbrev pub cell : List Row → Agg → Datum
cell group agg = aggregate agg.fun (map (λ row. field_of row agg.col) group)

-- the keys of a row
abbrev pub keys_of : List ℕ → Row → List (Option ℤ)
keys_of keys row = map (field_of row) keys

-- each of these once, in order
abbrev pub once : {K : Type 0} → (K → K → Ordering) → List K → List K
once cmp [] = []
once cmp (k ∷ ks) = insert_key cmp (once cmp ks) k

-- the rows of a bucket that pass every test
abbrev pub bucket_rows : Fold → ℤ → List Row → List Row
bucket_rows fold b rows = filter (λ row. holds fold.width b row.at && passes_all row fold.tests) rows

-- the lists of keys that occur in a group of rows, each once, in order
abbrev pub key_lists : Fold → List Row → List (List (Option ℤ))
key_lists fold group = once values_cmp (map (keys_of fold.keys) group)

-- the rows with these keys
abbrev pub with_keys : Fold → List (Option ℤ) → List Row → List Row
with_keys fold keys group = filter (λ row. is_eq (values_cmp (keys_of fold.keys row) keys)) group

-- one result row: the bucket, the keys, and each aggregate
abbrev pub result_row : Fold → ℤ → List (Option ℤ) → List Row → List Datum
result_row fold b keys group = Int b ∷ (map shown_or_null keys ++ map (cell group) fold.aggs)

-- the result rows of a bucket over its rows: one for each list of keys, in order
abbrev pub group_rows : Fold → ℤ → List Row → List (List Datum)
group_rows fold b group = map (λ keys. result_row fold b keys (with_keys fold keys group)) (key_lists fold group)

-- the result rows of a bucket over the rows of a table
abbrev pub scratch_of : Fold → ℤ → List Row → List (List Datum)
scratch_of fold b rows = group_rows fold b (bucket_rows fold b rows)

-- the aggregation from scratch of a bucket at a history
abbrev pub scratch : ViewDef → History → ℤ → List (List Datum)
scratch def h b = scratch_of def.fold b (rows def.table h)

-- the buckets that hold a row which passes every test, each once, in order
abbrev pub occurring_buckets : Fold → List Row → List ℤ
occurring_buckets fold rows =
    once int_cmp (map (λ row. bucket_of fold.width row.at) (filter (λ row. passes_all row fold.tests) rows))

-- the result rows of all buckets over the rows of a table, in order
abbrev pub fold_rows : Fold → List Row → List (List Datum)
fold_rows fold rows = flat_map (λ b. scratch_of fold b rows) (occurring_buckets fold rows)
