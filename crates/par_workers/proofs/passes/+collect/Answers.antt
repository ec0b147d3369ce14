use Rattle.par_workers.proofs.SlotLaws.{known_more, pass_of_store, passes_first, there_is_pass}
use Rattle.par_workers.proofs.passes.+collect.Goals as goal
use Rattle.turn_lock.proofs.Gathering.{stays_then}

pub take_pass-pass-requires : goal.take_pass-pass-requires
take_pass-pass-requires g t c = there_is_pass c.args.store.now c.in-Some.slot.now (passes_first c.args.store.now _ c.in-Some.slot.now c.in-Some.rest.now c.in-Some.ensures.cases.0 c.requires.passes)

pub join-all-requires-clause-second : goal.join-all-requires-clause-second
join-all-requires-clause-second g t c = pass_of_store c.args.store.now c.in-Some.slot.now c.take_pass-pass.result c.take_pass-pass.ensures.had (passes_first c.args.store.now _ c.in-Some.slot.now c.in-Some.rest.now c.in-Some.ensures.cases.0 c.requires.passes)

pub returns-in-Some-clause-stays : goal.returns-in-Some-clause-stays
returns-in-Some-clause-stays g t c = stays_then c.collect.result c.join-all.result c.args.all c.join-all.ensures.stays.0 c.collect.ensures.stays

pub returns-in-Some-clause-known : goal.returns-in-Some-clause-known
returns-in-Some-clause-known g t c =
    known_more c.collect.result c.join-all.result c.take_pass-pass.result _ c.in-Some.slot.now c.in-Some.rest.now c.in-Some.ensures.cases.0 c.take_pass-pass.ensures.had
    (c.join-all.ensures.begins.1, c.join-all.ensures.stays.1)
    (c.collect.ensures.begins, c.collect.ensures.stays)
    c.collect.ensures.known
