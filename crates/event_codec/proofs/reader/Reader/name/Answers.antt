use Rattle.std.proofs.Common.{sym, take}
use Rattle.std.proofs.lemmas.List.{length-take-le}
use Rattle.event_codec.proofs.NameLaws.{text_fits}
use Rattle.event_codec.proofs.reader.Reader.name.Goals as goal

pub slice_bounds-read-end : goal.slice_bounds-read-end
slice_bounds-read-end c = sym (length-take-le c.in_ok-len.len c.rest-text.result.now (text_fits c.in_ok-len.len c.rest-text.result.now (take c.in_ok-len.len c.rest-text.result.now) c.in-Ok.rest.now c.in_ok-len.ensures.length c.in-Ok.ensures))
