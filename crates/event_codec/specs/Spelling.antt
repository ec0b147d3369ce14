-- The bytes of an event.
use Rattle.std.specs.Prelude.{ℕ, ℤ, Bool, List, [], ◌∷◌, ◌++◌, length, Option, Some, None}
use Rattle.std.specs.Int.{w32, w64, to_le_bytes, cast_unsigned}
use Rattle.std.specs.List.{flat_map}
use Rattle.ts_bucket.specs.declared.spans.Span.{Span}
use Rattle.ts_bucket.specs.declared.widths.Width.{Width}
use Rattle.ts_schema.specs.declared.columns.Column.{Column}
use Rattle.ts_schema.specs.declared.conditions.Test.{Test}
use Rattle.ts_schema.specs.declared.rows.Row.{Row}
use Rattle.ts_model.specs.declared.events.Event.{Event}
use Rattle.ts_model.specs.declared.events.Event.TheVariants as events
use Rattle.ts_model.specs.declared.events.Op.{Op}
use Rattle.ts_model.specs.declared.events.Op.TheVariants as ops
use Rattle.ts_model.specs.declared.tables.Hyper.{Hyper}
use Rattle.ts_model.specs.declared.tables.TableDef.{TableDef}
use Rattle.ts_model.specs.declared.views.Agg.{Agg}
use Rattle.ts_model.specs.declared.views.Fold.{Fold}
use Rattle.ts_model.specs.declared.views.ViewDef.{ViewDef}
use Rattle.event_codec.specs.Codes.{flag_code, cmp_code, fun_code}

-- ---- numbers, the lowest byte first

-- in four bytes
unfoldable pub four : ℕ → List ℕ
four n = to_le_bytes w32 n

-- in eight bytes
unfoldable pub eight : ℕ → List ℕ
eight n = to_le_bytes w64 n

-- in eight bytes, by two's complement
unfoldable pub signed_bytes : ℤ → List ℕ
signed_bytes z = to_le_bytes w64 (cast_unsigned w64 z)

-- ---- lists

-- a count of one byte, and the items
abbrev pub few : {A : Type 0} → (A → List ℕ) → List A → List ℕ
few spell items = length items ∷ flat_map spell items

-- a count of four bytes, and the items
abbrev pub many : {A : Type 0} → (A → List ℕ) → List A → List ℕ
many spell items = four (length items) ++ flat_map spell items

-- ---- parts

-- the length in one byte, and the name
abbrev pub name : List ℕ → List ℕ
name text = length text ∷ text

abbrev pub flag : Bool → List ℕ
flag b = flag_code b ∷ []

-- 0 for NULL, or 1 and the number
abbrev pub value : Option ℤ → List ℕ
value None = 0 ∷ []
value (Some v) = 1 ∷ signed_bytes v

abbrev pub row : Row → List ℕ
row r = signed_bytes r.at ++ few value r.vals

abbrev pub test : Test → List ℕ
test t = four t.col ++ (cmp_code t.cmp ∷ signed_bytes t.num)

abbrev pub agg : Agg → List ℕ
agg a = fun_code a.fun ∷ four a.col

abbrev pub column : Column → List ℕ
column c = name c.name ++ flag c.must

abbrev pub width : Width → List ℕ
width w = signed_bytes w.step ++ signed_bytes w.shift

abbrev pub span : Span → List ℕ
span s = signed_bytes s.lo ++ signed_bytes s.hi

abbrev pub fold : Fold → List ℕ
fold f = width f.width ++ (few four f.keys ++ (few agg f.aggs ++ many test f.tests))

abbrev pub op : Op → List ℕ
op (ops.Insert t rows) = 1 ∷ (four t ++ many row rows)
op (ops.Delete t tests) = 2 ∷ (four t ++ many test tests)

abbrev pub table : TableDef → List ℕ
table def = name def.name ++ few column def.cols

abbrev pub hyper : Hyper → List ℕ
hyper h = four h.at ++ signed_bytes h.interval

abbrev pub view : ViewDef → List ℕ
view def = name def.name ++ (four def.table ++ (fold def.fold ++ (few name def.names ++ flag def.only)))

-- ---- events

-- the kind, and the fields of that kind
abbrev pub event : Event → List ℕ
event (events.Table def) = 1 ∷ table def
event (events.Hyper t h) = 2 ∷ (four t ++ hyper h)
event (events.View def) = 3 ∷ view def
event (events.Mode v only) = 4 ∷ (four v ++ flag only)
event (events.Commit ops) = 5 ∷ many op ops
event (events.Cut v s) = 6 ∷ (four v ++ span s)
event (events.Built cut snap) = 7 ∷ (eight cut ++ eight snap)
