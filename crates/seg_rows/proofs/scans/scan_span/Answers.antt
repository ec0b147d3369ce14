use Rattle.std.proofs.Common.{◌≡◌, ◌∙◌, true, [], ap, sym}
use Rattle.std.proofs.lemmas.List.{append-nil}
use Rattle.seg_rows.specs.Hulls.{hull_of, misses}
use Rattle.seg_rows.specs.Lives.{versions_of}
use Rattle.seg_rows.specs.Versions.{rows_at, rows_of}
use Rattle.seg_rows.proofs.LifeLaws.{rows_of-versions}
use Rattle.seg_rows.proofs.VersionLaws.{none_shown}
use Rattle.seg_rows.proofs.scans.scan_span.Goals as goal

pub returns-then-is_missed-clause-rows : goal.returns-then-is_missed-clause-rows
returns-then-is_missed-clause-rows g c =
    let versions = versions_of c.args.rows.now c.args.lives.now in
    let hull_is : c.args.hull ≡ hull_of (rows_of versions) = c.requires.hull ∙ ap hull_of (sym (rows_of-versions c.args.rows.now c.args.lives.now c.requires.covers)) in
    let missed : misses c.args.span (hull_of (rows_of versions)) ≡ true = ap (misses c.args.span) (sym hull_is) ∙ (sym c.is_missed.ensures ∙ c.if-is_missed.true) in
    let none : rows_at c.args.pos c.args.span versions ≡ [] = none_shown c.args.pos c.args.span versions missed in
    rw none (sym (append-nil c.args.out.now))
