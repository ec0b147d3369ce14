use Rattle.std.proofs.lemmas.Result.{err_from_is_err_and}
use Rattle.event_codec.specs.Reading.{items}
use Rattle.event_codec.proofs.Loops.{goes_on, ends, is_done}
use Rattle.base_image.proofs.parts.read_items.Goals as goal

pub returns-in_err-read : goal.returns-in_err-read
returns-in_err-read g c =
    let p = err_from_is_err_and c.from_residual.result c.from_residual.ensures.1 in
    rw (p.1, p.2) (ends (g.T.Part.reading c.args.shape) c.in_err-read.field-0.0 c.loop.items c.args.count c.loop.counter c.loop.reader c.read.new.reader (items c.args.count (g.T.Part.reading c.args.shape) c.args.reader.now) c.loop-test.true c.in_err-read.ensures.read c.loop.invariant)

pub loop-preserved : goal.loop-preserved
loop-preserved g c =
    rw c.in_ok-push.ensures.pushed (goes_on (g.T.Part.reading c.args.shape) c.loop.items c.args.count c.loop.counter c.loop.reader c.read.new.reader c.in_ok-read.field-0 (items c.args.count (g.T.Part.reading c.args.shape) c.args.reader.now) c.loop-test.true c.in_ok-read.ensures.read c.loop.invariant)

pub returns : goal.returns
returns g c = is_done (g.T.Part.reading c.args.shape) c.loop.items c.args.count c.loop.counter c.loop.reader (items c.args.count (g.T.Part.reading c.args.shape) c.args.reader.now) c.loop-test.false c.loop.invariant
