use Rattle.std.proofs.Common.{◌≡◌, ◌<◌, ◌++◌, List, length, sym, ap, ◌∙◌, append_assoc, arith}
use Rattle.std.specs.List.{flat_map}
use Rattle.std.proofs.lemmas.Result.{on_ok_weaker}
use Rattle.event_codec.specs.Spelling.{row}
use Rattle.ts_schema.specs.declared.rows.Row.{Row}
use Rattle.base_image.specs.Outlines.{commit_head}
use Rattle.base_image.specs.declared.tallies.Tally.{Tally}
use Rattle.base_image.proofs.OutlineLaws.{commit_is, fits}
use Rattle.base_image.proofs.row_writers.put_commit.Goals as goal

pub put_head-requires-clause-few_bytes : goal.put_head-requires-clause-few_bytes
put_head-requires-clause-few_bytes g c =
    omega (arith, (fits c.args.table (g.I.Imaged.held c.args.of.now c.args.table) c.requires.framed).bytes, ap (λ (t : Tally). t.bytes) c.requires.tallied)

pub returns-clause-put : goal.returns-clause-put
returns-clause-put g c =
    let held : List Row = g.I.Imaged.held c.args.of.now c.args.table in
    let some : 0 < length held = omega (arith, c.if-tally-eq0.false, ap (λ (t : Tally). t.rows) c.requires.tallied) in
    on_ok_weaker c.put_rows.result
    (λ e.
    e ∙ ap (λ xs. xs ++ flat_map row held) c.in_ok-put_head.ensures.put
    ∙ append_assoc c.args.out.now.items (commit_head c.args.table c.args.tally) (flat_map row held)
    ∙ ap (λ t. c.args.out.now.items ++ (commit_head c.args.table t ++ flat_map row held)) c.requires.tallied
    ∙ ap (λ xs. c.args.out.now.items ++ xs) (sym (commit_is c.args.table held c.requires.framed some)))
    c.put_rows.ensures.put
