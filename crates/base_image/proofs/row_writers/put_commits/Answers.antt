use Rattle.std.proofs.Common.{◌≡◌, ◌==◌, not, ◌++◌, List, length, ap, ◌∙◌, append_assoc}
use Rattle.std.specs.List.{count_by, flat_map}
use Rattle.std.proofs.lemmas.Result.{on_ok_weaker}
use Rattle.event_codec.specs.Spelling.{four}
use Rattle.base_image.specs.Outlines.{commits}
use Rattle.base_image.specs.Spelling.{bytes_of_frame}
use Rattle.base_image.specs.declared.tallies.Tally.{Tally}
use Rattle.base_image.proofs.OutlineLaws.{commits_counted}
use Rattle.base_image.proofs.row_writers.put_commits.Goals as goal

pub returns-clause-put : goal.returns-clause-put
returns-clause-put g c =
    let held = g.I.Imaged.held c.args.of.now in
    let count : c.count_held.result ≡ length (commits (g.I.Imaged.held c.args.of.now) 0 (length c.args.each.now)) =
    c.count_held.ensures ∙ ap (count_by (λ (tally : Tally). not (tally.rows == 0))) c.requires.tallied ∙ commits_counted held 0 (length c.args.each.now) in
    let all = flat_map bytes_of_frame (commits held 0 (length c.args.each.now)) in
    on_ok_weaker c.put_each.result
    (λ e.
    e ∙ ap (λ xs. xs ++ all) (c.in_ok-put_four.ensures.put ∙ ap (λ n. c.args.out.now.items ++ four n) count)
    ∙ append_assoc c.args.out.now.items (four (length (commits held 0 (length c.args.each.now)))) all)
    c.put_each.ensures.put
