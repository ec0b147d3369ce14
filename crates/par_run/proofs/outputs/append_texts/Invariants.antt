use Rattle.std.proofs.Common.{◌≡◌, ◌++◌, flat_map, take}
use Rattle.par_run.proofs.outputs.append_texts.Given as goal

abbrev pub invariant-loop-exchange : goal.invariant-loop-exchange
invariant-loop-exchange l = l.text.items ≡ l.fn.text.items ++ flat_map (λ exchange. exchange.reply) (take l.exchange-index l.exchanges)
