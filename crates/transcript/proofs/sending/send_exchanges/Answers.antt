use Rattle.std.proofs.Common.{◌∙◌, []}
use Rattle.transcript.proofs.SendingLists.{exchange_next, exchange_failed, exchanges_end}
use Rattle.transcript.proofs.sending.send_exchanges.Goals as goal

pub returns-in-Err-clause-sent : goal.returns-in-Err-clause-sent
returns-in-Err-clause-sent g c = exchange_failed _ _ _ _ _ [] _ c.loop-exchange.later c.loop-exchange.left.now c.in-Some.rest.now c.in-Some.exchange.now c.loop-exchange.invariant.some c.in-Some.ensures.cases.0 c.in-Err.ensures.sent

pub loop-exchange-preserved : goal.loop-exchange-preserved
loop-exchange-preserved g c = record {
  some = exchange_next _ _ _ _ _ _ _ c.loop-exchange.later c.loop-exchange.left.now c.in-Some.rest.now c.in-Some.exchange.now c.loop-exchange.invariant.some c.in-Some.ensures.cases.0 c.in-Ok.ensures.sent;
  counted = c.in-Ok.ensures.counted ∙ c.loop-exchange.invariant.counted;
}

pub returns-clause-sent : goal.returns-clause-sent
returns-clause-sent g c = exchanges_end _ _ _ _ _ _ _ c.loop-exchange.later c.loop-exchange.left.now c.send.result c.loop-exchange.invariant.some c.in_default.ensures.cases c.send.ensures.sent
