use Rattle.std.proofs.Common.{◌∙◌, ◌++◌, append-nil, ap, sym}
use Rattle.par_run.proofs.OutputLaws.{texts_all, texts_more}
use Rattle.par_run.proofs.outputs.append_texts.Goals as goal

pub loop-exchange-init : goal.loop-exchange-init
loop-exchange-init c = sym (append-nil c.args.text.now.items)

pub loop-exchange-preserved : goal.loop-exchange-preserved
loop-exchange-preserved c =
    texts_more c.args.exchanges.now c.loop-exchange.exchange-index c.exchange-item.result c.args.text.now.items c.loop-exchange.text.items _ c.loop-exchange-test.true c.exchange-item.is c.loop-exchange.invariant
    (c.in_ok-extend_from_slice.ensures.items ∙ ap (λ t. c.loop-exchange.text.items ++ t) c.items.ensures.items)

pub returns : goal.returns
returns c = record { text = texts_all c.args.exchanges.now c.loop-exchange.exchange-index c.args.text.now.items c.loop-exchange.text.items c.loop-exchange-test.false c.loop-exchange.invariant }
