use Rattle.std.proofs.Common.{◌≡◌, ◌++◌, drop, ◌∙◌, ap, arith}
use Rattle.std.specs.Int.{w32, to_le_bytes}
use Rattle.std.proofs.lemmas.Result.{IfOk-weaker}
use Rattle.ts_model.specs.Bytes.{event_bytes}
use Rattle.event_codec.specs.Spelling as spelling
use Rattle.ts_store.proofs.DraftLaws.{fits_framed, framed, small_count}
use Rattle.ts_store.proofs.drafts.frame_of.Goals as goal

pub open_frame-requires : goal.open_frame-requires
open_frame-requires c = omega (arith, small_count (event_bytes c.args.event.now) c.bytes_of.result c.bytes_of.ensures c.requires.few, c.requires.few)

pub close_frame-requires-clause-begun : goal.close_frame-requires-clause-begun
close_frame-requires-clause-begun c =
    (framed c.args.event.now c.put_event_bytes.new.out.items
    (c.in_ok-put_event_bytes.ensures.appended ∙ ap (λ l. l ++ spelling.event c.args.event.now) (c.in_ok-bytes.ensures.begun ∙ ap (to_le_bytes w32) (small_count (event_bytes c.args.event.now) c.bytes_of.result c.bytes_of.ensures c.requires.few)))).0

pub close_frame-requires-clause-fits : goal.close_frame-requires-clause-fits
close_frame-requires-clause-fits c =
    fits_framed c.args.event.now c.put_event_bytes.new.out.items
    (framed c.args.event.now c.put_event_bytes.new.out.items
    (c.in_ok-put_event_bytes.ensures.appended ∙ ap (λ l. l ++ spelling.event c.args.event.now) (c.in_ok-bytes.ensures.begun ∙ ap (to_le_bytes w32) (small_count (event_bytes c.args.event.now) c.bytes_of.result c.bytes_of.ensures c.requires.few)))).1
    c.requires.few

pub returns : goal.returns
returns c = record {
  frame = IfOk-weaker c.close_frame.result (λ made. made ≡ drop 4 c.put_event_bytes.new.out.items) (λ made. made ≡ spelling.event c.args.event.now)
      (λ made is. is ∙ (framed c.args.event.now c.put_event_bytes.new.out.items
      (c.in_ok-put_event_bytes.ensures.appended ∙ ap (λ l. l ++ spelling.event c.args.event.now) (c.in_ok-bytes.ensures.begun ∙ ap (to_le_bytes w32) (small_count (event_bytes c.args.event.now) c.bytes_of.result c.bytes_of.ensures c.requires.few)))).1)
      c.close_frame.ensures.payload;
}
