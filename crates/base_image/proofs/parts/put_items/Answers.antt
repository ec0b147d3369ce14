use Rattle.std.proofs.lemmas.List.Elements.{All-from_recursion}
use Rattle.base_image.proofs.parts.put_items.Goals as goal

pub put-requires : goal.put-requires
put-requires g c = record { fits = rw c.item-item.is (All-from_recursion g.T.Part.fits c.args.items.now c.requires.fit c.loop-item.item-index _ c.loop-item-test.true) }
