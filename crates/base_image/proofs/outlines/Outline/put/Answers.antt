use Rattle.std.proofs.Common.{◌≡◌, ◌∷◌, ◌++◌, List, length, sym, ap, ◌∙◌, subst}
use Rattle.std.proofs.lemmas.Result.{on_ok_weaker}
use Rattle.event_codec.specs.Formed.{Many}
use Rattle.event_codec.specs.Spelling.{eight, many}
use Rattle.base_image.specs.Formed.{IsFramed}
use Rattle.base_image.specs.Outlines.{commits}
use Rattle.base_image.specs.Spelling.{bytes_of_finished, bytes_of_frame, bytes_of_saved_view, bytes_of_waiting}
use Rattle.base_image.specs.declared.tallies.Tally.{Tally}
use Rattle.base_image.proofs.OutlineLaws.{joined, rest_writable}
use Rattle.base_image.proofs.WritableLaws.{writable}
use Rattle.base_image.proofs.outlines.Outline.put.Goals as goal

pub put_front-requires : goal.put_front-requires
put_front-requires g c = rest_writable (g.I.Imaged.held c.args.of.now) c.args.self.now c.requires.outline.no_rows (writable _ c.requires.valid c.requires.few)

pub put_commits-requires-clause-framed : goal.put_commits-requires-clause-framed
put_commits-requires-clause-framed g c =
    subst (λ (ts : List Tally). Many IsFramed (commits (g.I.Imaged.held c.args.of.now) 0 (length ts))) (sym c.items.ensures.items) (writable _ c.requires.valid c.requires.few).rows

pub put_behind-requires : goal.put_behind-requires
put_behind-requires g c = rest_writable (g.I.Imaged.held c.args.of.now) c.args.self.now c.requires.outline.no_rows (writable _ c.requires.valid c.requires.few)

pub returns : goal.returns
returns g c =
    let held = g.I.Imaged.held c.args.of.now in
    let rest = c.args.self.now.rest in
    let out = c.args.out.now.items in
    let behind = many bytes_of_saved_view rest.views ++ (many bytes_of_waiting rest.waiting ++ many bytes_of_finished rest.done) in
    let framed_by = λ (ts : List Tally). many bytes_of_frame (commits held 0 (length ts)) in
    record {
      put = on_ok_weaker c.put_behind.result
          (λ e.
          joined out c.put_front.new.out.items c.put_commits.new.out.items c.put_behind.new.out.items (eight rest.pos) (many bytes_of_frame rest.roster) (framed_by c.items.result.now) behind c.in_ok-put_front.ensures.put c.in_ok-put_commits.ensures.put e
          ∙ ap (λ ts. out ++ (8 ∷ (eight rest.pos ++ (many bytes_of_frame rest.roster ++ (framed_by ts ++ behind))))) c.items.ensures.items)
          c.put_behind.ensures.put;
    }
