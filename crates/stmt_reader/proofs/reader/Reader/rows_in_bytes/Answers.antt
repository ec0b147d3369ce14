use Rattle.std.proofs.Common.{ℕ, ◌≤◌, List, length, sym, ap, subst, ◌∙◌, arith}
use Rattle.stmt_reader.specs.Reading.{more, parts, row}
use Rattle.stmt_tokens.specs.Streams.{size}
use Rattle.stmt_reader.specs.declared.phrases.Separator.TheVariants.{Comma}
use Rattle.stmt_reader.proofs.RowBytes.{read_before, read_behind}
use Rattle.stmt_reader.proofs.reader.Reader.rows_in_bytes.Goals as goal

pub rows_behind-requires : goal.rows_behind-requires
rows_behind-requires c = record { within = subst (λ (t : List ℕ). c.read_len.result ≤ length t) (sym c.text.ensures.text) c.read_len.ensures.within }

pub go_on_behind-requires : goal.go_on_behind-requires
go_on_behind-requires c = record { within = subst (λ (t : List ℕ). c.in_ok-end.end ≤ length t) c.text.ensures.text c.in_ok-end.ensures.within }

pub returns-clause-read : goal.returns-clause-read
returns-clause-read c =
    let before = read_before c.text.result.now c.read_len.result c.args.self.now c.text.ensures.text c.read_len.ensures.len in
    let behind = read_behind c.text.result.now c.in_ok-end.end c.args.self.now c.go_on_behind.new.self c.text.ensures.text c.go_on_behind.ensures.goes in
    ap (more (parts Comma) row c.rows_behind.new.rows) (sym behind) ∙ c.in_ok-end.ensures.read ∙ ap (more (parts Comma) row c.args.rows.now) before

pub returns-clause-forward : goal.returns-clause-forward
returns-clause-forward c =
    let before = read_before c.text.result.now c.read_len.result c.args.self.now c.text.ensures.text c.read_len.ensures.len in
    let behind = read_behind c.text.result.now c.in_ok-end.end c.args.self.now c.go_on_behind.new.self c.text.ensures.text c.go_on_behind.ensures.goes in
    omega (arith, ap size before, ap size behind, c.in_ok-end.ensures.forward)
