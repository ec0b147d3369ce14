-- Reading from left to right: the value in front and the bytes after it, or, if there is none, the bytes after
-- the longest prefix that begins one.
use Rattle.std.specs.Prelude.{◌≡◌, ℕ, zero, suc, ◌+◌, ◌-◌, ◌*◌, ◌/◌, ◌%◌, ◌^◌, nat_lt, nat_le, ◌==◌, ℤ, pos, negsuc, ◌+ℤ◌, ◌-ℤ◌, ◌≤ℤ◌, int_le, unsigned_abs, Bool, true, false, ◌&&◌, if◌then◌else◌, List, [], ◌∷◌, Result, Ok, Err, Option, Some, None}
use Rattle.ts_bucket.specs.WholeSpans.{least, greatest}
use Rattle.ts_bucket.specs.Bucket.{max_step, max_time, min_time}
use Rattle.ts_bucket.specs.declared.spans.Span.{Span}
use Rattle.ts_bucket.specs.declared.widths.Width.{Width}
use Rattle.ts_num.specs.declared.values.Fun.{Fun}
use Rattle.ts_num.specs.declared.values.Fun.TheVariants.{CountAll, Count, Sum, Min, Max, Avg}
use Rattle.ts_schema.specs.Names.{is_head, is_tail}
use Rattle.ts_schema.specs.declared.columns.Column.{Column}
use Rattle.ts_schema.specs.declared.conditions.Cmp.{Cmp}
use Rattle.ts_schema.specs.declared.conditions.Cmp.TheVariants.{Eq, Ne, Lt, Le, Gt, Ge, IsNull, NotNull}
use Rattle.ts_schema.specs.declared.conditions.Test.{Test}
use Rattle.ts_schema.specs.declared.rows.Row.{Row}
use Rattle.ts_model.specs.declared.events.Event.{Event}
use Rattle.ts_model.specs.declared.events.Event.TheVariants as events
use Rattle.ts_model.specs.declared.events.Op.{Op}
use Rattle.ts_model.specs.declared.events.Op.TheVariants as ops
use Rattle.ts_model.specs.declared.tables.Hyper.{Hyper}
use Rattle.ts_model.specs.declared.tables.TableDef.{TableDef}
use Rattle.ts_model.specs.declared.views.Agg.{Agg}
use Rattle.ts_model.specs.declared.views.Fold.{Fold}
use Rattle.ts_model.specs.declared.views.ViewDef.{ViewDef}
use Rattle.event_codec.specs.declared.errors.ReadError.{ReadError}
use Rattle.event_codec.specs.declared.errors.ReadError.TheVariants as errors
use Rattle.event_codec.specs.declared.kinds.Kind.{Kind}
use Rattle.event_codec.specs.declared.kinds.Kind.TheVariants as kinds
use Rattle.event_codec.specs.declared.kinds.OpKind.{OpKind}
use Rattle.event_codec.specs.declared.kinds.OpKind.TheVariants as op_kinds
use Rattle.event_codec.specs.Codes.{flag_code, cmp_code, fun_code, kind_code, op_code}
use Rattle.event_codec.specs.Formed.{least_number, most_number, most_column}

abbrev pub Reads : Type 0 → Type 0
Reads A = List ℕ → Result (A × List ℕ) (List ℕ)

-- the result of a function of the code, with these bytes left, is that of reading, unless memory ran out
abbrev pub Gives : {A : Type 0} → Result A ReadError → Result (A × List ℕ) (List ℕ) → List ℕ → Type 0
Gives (Ok a) read left = read ≡ Ok (a, left)
Gives (Err errors.Memory) read left = Unit {0}
Gives (Err errors.Bad) read left = read ≡ Err left

-- the result of a function of the code, mapped, is that of reading
abbrev pub Matches :
    {X Y A : Type 0} → (X → A × List ℕ) → (Y → List ℕ) → Result X Y → Result (A × List ℕ) (List ℕ) → Type 0
Matches view end (Ok x) read = read ≡ Ok (view x)
Matches view end (Err y) read = read ≡ Err (end y)

-- if a reading fails, these bytes are left
abbrev pub StopsAt : {A : Type 0} → Result (A × List ℕ) (List ℕ) → List ℕ → Type 0
StopsAt (Ok x) left = Unit {0}
StopsAt (Err end) left = left ≡ end

-- ---- combining readings

-- two readings in order
abbrev pub go_on : {A B : Type 0} → Result (A × List ℕ) (List ℕ) → (A → Reads B) → Result (B × List ℕ) (List ℕ)
go_on (Ok x) q = q x.0 x.1
go_on (Err left) q = Err left

-- a value that takes no bytes
abbrev pub gives : {A : Type 0} → A → Reads A
gives a bytes = Ok (a, bytes)

-- one reading, and another that may depend on its value
abbrev pub pair : {A B : Type 0} → Reads A → (A → Reads B) → Reads (A × B)
pair p q bytes = go_on (p bytes) (λ a left. go_on (q a left) (λ b end. Ok ((a, b), end)))

-- the same, mapped by a function
abbrev pub read_map : {A B : Type 0} → (A → B) → Reads A → Reads B
read_map f p bytes = go_on (p bytes) (λ a left. Ok (f a, left))

-- a byte that passes a test
abbrev pub byte_where : (ℕ → Bool) → Reads ℕ
byte_where test [] = Err []
byte_where test (b ∷ bytes) = if test b then Ok (b, bytes) else Err (b ∷ bytes)

-- an item and more of them
abbrev pub put_before : {A : Type 0} → A × List A → List A
put_before x = x.0 ∷ x.1

-- a number of items
unfoldable pub items : {A : Type 0} → ℕ → Reads A → Reads (List A)
items zero p = gives []
items (suc n) p = read_map put_before (pair p (λ a. items n p))

abbrev pub second : {A B : Type 0} → A × B → B
second x = x.1

-- a count, and that many items
abbrev pub counted_list : {A : Type 0} → Reads ℕ → Reads A → Reads (List A)
counted_list count p = read_map second (pair count (λ n. items n p))

-- ---- numbers

-- the lowest byte of a whole number, and the number without it, rounded down
abbrev pub low_byte : ℤ → ℕ
low_byte (pos n) = n % 256
low_byte (negsuc n) = 255 - n % 256

abbrev pub without_low : ℤ → ℤ
without_low (pos n) = pos (n / 256)
without_low (negsuc n) = negsuc (n / 256)

-- the number with this lowest byte
abbrev pub with_low : ℕ → ℤ → ℤ
with_low b (pos n) = pos (256 * n + b)
with_low b (negsuc n) = negsuc (256 * n + (255 - b))

-- the least number that with this lowest byte is at least lo, and the greatest that with it is at most hi
abbrev pub least_above : ℤ → ℕ → ℤ
least_above lo b = without_low (lo +ℤ pos (255 - b))

abbrev pub most_below : ℤ → ℕ → ℤ
most_below hi b = without_low (hi -ℤ pos b)

-- within 2 ^ 65 of 0
pub record IsNear (z : ℤ) : Type 0 where
  pub low : negsuc (2 ^ 65) ≤ℤ z
  pub high : z ≤ℤ pos (2 ^ 65)

-- the lowest byte of some number from lo to hi
abbrev pub is_low_byte : ℤ → ℤ → ℕ → Bool
is_low_byte lo hi b = nat_lt b 256 && int_le (least_above lo b) (most_below hi b)

abbrev pub put_low : ℕ × ℤ → ℤ
put_low x = with_low x.0 x.1

-- a number from lo to hi in this many bytes, the lowest first
unfoldable pub number : ℕ → ℤ → ℤ → Reads ℤ
number zero lo hi = gives lo
number (suc k) lo hi =
    read_map put_low (pair (byte_where (is_low_byte lo hi)) (λ b. number k (least_above lo b) (most_below hi b)))

-- ---- numbers of the types

abbrev pub any_byte : Reads ℕ
any_byte = byte_where (λ b. nat_lt b 256)

-- in four bytes, up to a greatest one
abbrev pub four_upto : ℕ → Reads ℕ
four_upto most = read_map unsigned_abs (number 4 (pos 0) (pos most))

abbrev pub any_four : Reads ℕ
any_four = four_upto (2 ^ 32 - 1)

abbrev pub any_eight : Reads ℕ
any_eight = read_map unsigned_abs (number 8 (pos 0) (pos (2 ^ 64 - 1)))

-- in eight bytes, from lo to hi
abbrev pub between : ℤ → ℤ → Reads ℤ
between lo hi = number 8 lo hi

abbrev pub any_word : Reads ℤ
any_word = between least greatest

abbrev pub few_of : {A : Type 0} → Reads A → Reads (List A)
few_of p = counted_list any_byte p

abbrev pub many_of : {A : Type 0} → Reads A → Reads (List A)
many_of p = counted_list any_four p

-- ---- a byte that is a code

-- the one of these that has this code
abbrev pub with_code : {A : Type 0} → (A → ℕ) → List A → ℕ → Option A
with_code code [] b = None
with_code code (a ∷ all) b = if b == code a then Some a else with_code code all b

-- something was read, with the rest after it; or nothing was, and everything from here on is left
abbrev pub read_as : {A : Type 0} → Option A → List ℕ → List ℕ → Result (A × List ℕ) (List ℕ)
read_as None here left = Err here
read_as (Some a) here left = Ok (a, left)

-- the value whose code is the first byte
abbrev pub coded_byte : {A : Type 0} → (ℕ → Option A) → Reads A
coded_byte find [] = Err []
coded_byte find (b ∷ bytes) = read_as (find b) (b ∷ bytes) bytes

abbrev pub flag_of : ℕ → Option Bool
flag_of = with_code flag_code (false ∷ true ∷ [])

abbrev pub cmp_of : ℕ → Option Cmp
cmp_of = with_code cmp_code (Eq ∷ Ne ∷ Lt ∷ Le ∷ Gt ∷ Ge ∷ IsNull ∷ NotNull ∷ [])

abbrev pub fun_of : ℕ → Option Fun
fun_of = with_code fun_code (CountAll ∷ Count ∷ Sum ∷ Min ∷ Max ∷ Avg ∷ [])

abbrev pub kind_of : ℕ → Option Kind
kind_of =
    with_code kind_code
    (kinds.Table ∷ kinds.Hyper ∷ kinds.View ∷ kinds.Mode ∷ kinds.Commit ∷ kinds.Cut ∷ kinds.Built ∷ [])

abbrev pub op_kind_of : ℕ → Option OpKind
op_kind_of = with_code op_code (op_kinds.Insert ∷ op_kinds.Delete ∷ [])

-- ---- names

-- a name has from 1 to 63 bytes
abbrev pub is_name_length : ℕ → Bool
is_name_length n = nat_lt 0 n && nat_le n 63

-- this many bytes that are a name
unfoldable pub name_text : ℕ → Reads (List ℕ)
name_text n = read_map put_before (pair (byte_where is_head) (λ b. items (n - 1) (byte_where is_tail)))

unfoldable pub name_at : Reads (List ℕ)
name_at = read_map second (pair (byte_where is_name_length) name_text)

-- ---- parts

abbrev pub value_body : Bool → Reads (Option ℤ)
value_body false = gives None
value_body true = read_map Some any_word

unfoldable pub value_at : Reads (Option ℤ)
value_at = read_map second (pair (coded_byte flag_of) value_body)

abbrev pub to_row : ℤ × List (Option ℤ) → Row
to_row x = record { at = x.0; vals = x.1 }

unfoldable pub row_at : Reads Row
row_at = read_map to_row (pair (between min_time max_time) (λ time. few_of value_at))

abbrev pub to_test : ℕ × (Cmp × ℤ) → Test
to_test x = record { col = x.0; cmp = x.1.0; num = x.1.1 }

unfoldable pub test_at : Reads Test
test_at =
    read_map to_test (pair any_four (λ col. pair (coded_byte cmp_of) (λ cmp. between (least_number cmp) (most_number cmp))))

abbrev pub to_agg : Fun × ℕ → Agg
to_agg x = record { fun = x.0; col = x.1 }

unfoldable pub agg_at : Reads Agg
agg_at = read_map to_agg (pair (coded_byte fun_of) (λ fun. four_upto (most_column fun)))

abbrev pub to_column : List ℕ × Bool → Column
to_column x = record { name = x.0; must = x.1 }

unfoldable pub column_at : Reads Column
column_at = read_map to_column (pair name_at (λ name. coded_byte flag_of))

abbrev pub to_width : ℤ × ℤ → Width
to_width x = record { step = x.0; shift = x.1 }

unfoldable pub width_at : Reads Width
width_at = read_map to_width (pair (between (pos 1) max_step) (λ step. between (pos 0) (step -ℤ pos 1)))

abbrev pub to_span : ℤ × ℤ → Span
to_span x = record { lo = x.0; hi = x.1 }

unfoldable pub span_at : Reads Span
span_at = read_map to_span (pair (between least (greatest -ℤ pos 1)) (λ lo. between (lo +ℤ pos 1) greatest))

abbrev pub to_fold : Width × (List ℕ × (List Agg × List Test)) → Fold
to_fold x = record { width = x.0; keys = x.1.0; aggs = x.1.1.0; tests = x.1.1.1 }

unfoldable pub fold_at : Reads Fold
fold_at =
    read_map to_fold
    (pair width_at (λ width. pair (few_of any_four) (λ keys. pair (few_of agg_at) (λ aggs. many_of test_at))))

-- ---- operations

abbrev pub to_insert : ℕ × List Row → Op
to_insert x = ops.Insert x.0 x.1

abbrev pub to_delete : ℕ × List Test → Op
to_delete x = ops.Delete x.0 x.1

abbrev pub op_body : OpKind → Reads Op
op_body op_kinds.Insert = read_map to_insert (pair any_four (λ table. many_of row_at))
op_body op_kinds.Delete = read_map to_delete (pair any_four (λ table. many_of test_at))

unfoldable pub op_at : Reads Op
op_at = read_map second (pair (coded_byte op_kind_of) op_body)

-- ---- events

abbrev pub to_table : List ℕ × List Column → TableDef
to_table x = record { name = x.0; cols = x.1 }

unfoldable pub table_at : Reads TableDef
table_at = read_map to_table (pair name_at (λ name. few_of column_at))

abbrev pub to_hyper : ℕ × ℤ → Hyper
to_hyper x = record { at = x.0; interval = x.1 }

unfoldable pub hyper_at : Reads Hyper
hyper_at = read_map to_hyper (pair any_four (λ place. any_word))

abbrev pub to_view : List ℕ × (ℕ × (Fold × (List (List ℕ) × Bool))) → ViewDef
to_view x = record { name = x.0; table = x.1.0; fold = x.1.1.0; names = x.1.1.1.0; only = x.1.1.1.1 }

unfoldable pub view_at : Reads ViewDef
view_at =
    read_map to_view
    (pair name_at (λ name. pair any_four (λ table. pair fold_at (λ fold. pair (few_of name_at) (λ names. coded_byte flag_of)))))

abbrev pub to_hyper_event : ℕ × Hyper → Event
to_hyper_event x = events.Hyper x.0 x.1

abbrev pub to_mode : ℕ × Bool → Event
to_mode x = events.Mode x.0 x.1

abbrev pub to_cut : ℕ × Span → Event
to_cut x = events.Cut x.0 x.1

abbrev pub to_built : ℕ × ℕ → Event
to_built x = events.Built x.0 x.1

abbrev pub event_body : Kind → Reads Event
event_body kinds.Table = read_map events.Table table_at
event_body kinds.Hyper = read_map to_hyper_event (pair any_four (λ table. hyper_at))
event_body kinds.View = read_map events.View view_at
event_body kinds.Mode = read_map to_mode (pair any_four (λ view. coded_byte flag_of))
event_body kinds.Commit = read_map events.Commit (many_of op_at)
event_body kinds.Cut = read_map to_cut (pair any_four (λ view. span_at))
event_body kinds.Built = read_map to_built (pair any_eight (λ cut. any_eight))

unfoldable pub event_at : Reads Event
event_at = read_map second (pair (coded_byte kind_of) event_body)

-- an event, if nothing is left
abbrev pub at_end : Event → Reads Event
at_end e [] = Ok (e, [])
at_end e (b ∷ bytes) = Err (b ∷ bytes)

unfoldable pub whole_event : Reads Event
whole_event bytes = go_on (event_at bytes) at_end
