use Rattle.std.proofs.Common.{◌≡◌, ℕ, ◌≤◌, List, Option, length, sym, ap, subst, ◌∙◌}
use Rattle.std.specs.Prelude.{Ok, IfSome}
use Rattle.stmt_reader.specs.Cursor.{ahead}
use Rattle.stmt_reader.specs.Reading.{row}
use Rattle.stmt_tokens.specs.Streams.{stream}
use Rattle.stmt_reader.proofs.RowBytes.{read_before, read_behind}
use Rattle.stmt_reader.proofs.reader.Reader.row.Goals as goal

pub row_behind-requires : goal.row_behind-requires
row_behind-requires c = record { within = subst (λ (t : List ℕ). c.read_len.result ≤ length t) (sym c.text.ensures.text) c.read_len.ensures.within }

pub go_on_behind-requires : goal.go_on_behind-requires
go_on_behind-requires c =
    let within = subst (λ (found : Option ℕ). IfSome found (λ end. end ≤ length c.text.result.now)) c.in-Some.is c.in_ok-end.ensures.within in
    record { within = subst (λ (t : List ℕ). c.in-Some.end ≤ length t) c.text.ensures.text within }

pub returns-in-Some : goal.returns-in-Some
returns-in-Some c =
    let text = c.text.result.now in
    let vs = c.row_behind.new.values.items in
    let read = subst (λ (found : Option ℕ). IfSome found (λ end. row (stream text c.read_len.result) ≡ Ok (vs, stream text end))) c.in-Some.is c.in_ok-end.ensures.read in
    ap row (sym (read_before text c.read_len.result c.args.self.now c.text.ensures.text c.read_len.ensures.len)) ∙ read
    ∙ ap (λ left. Ok (vs, left)) (read_behind text c.in-Some.end c.args.self.now c.go_on_behind.new.self c.text.ensures.text c.go_on_behind.ensures.goes)
    ∙ ap (λ ws. Ok (ws, ahead c.go_on_behind.new.self)) (sym c.of.ensures.items)
