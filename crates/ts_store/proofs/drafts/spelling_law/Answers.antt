use Rattle.std.proofs.Common.{◌<◌, ◌^◌, nat_lt, subst, rules}
use Rattle.std.proofs.lemmas.Bool.{and_parts, ltb-true}
use Rattle.ts_model.specs.Bytes.{event_bytes}
use Rattle.ts_model.specs.History.{position}
use Rattle.ts_model.specs.Sound.{sound, sound_at}
use Rattle.ts_model.specs.Timely.{timely}
use Rattle.ts_model.proofs.AllowedLaws.{consistent_of}
use Rattle.engine_core.specs.Histories.{history_of}
use Rattle.ts_store.proofs.drafts.spelling_law.Goals as goal

pub returns-clause-formed : goal.returns-clause-formed
returns-clause-formed c =
    let h = history_of c.args.engine.now.past in
    let few : position (history_of c.args.engine.now.past) < 2 ^ 64 = subst (λ n. n < 2 ^ 64) c.length-position.ensures.position (search rules) in
    c.sound_events_are_formed.ensures h c.args.event.now (consistent_of h c.requires.sound.allowed) few (and_parts (sound h c.args.event.now) (timely h c.args.event.now) c.requires.allowed).0

pub returns-clause-few : goal.returns-clause-few
returns-clause-few c =
    let h = history_of c.args.engine.now.past in
    let is = (and_parts (sound h c.args.event.now) (timely h c.args.event.now) c.requires.allowed).0 in
    ltb-true (event_bytes c.args.event.now) (2 ^ 32) (and_parts (sound_at h c.args.event.now) (nat_lt (event_bytes c.args.event.now) (2 ^ 32)) is).1
