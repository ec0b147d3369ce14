-- The first commit, and then the others.
use Rattle.std.proofs.Common.{◌≡◌, ℕ, ◌<◌, ◌-◌, ◌^◌, true, [], ◌∷◌, List, length, take, drop, refl, sym, ap, ◌∙◌, subst, arith, rules}
use Rattle.std.specs.List.{AllByRecursion, list_all, list_any}
use Rattle.std.proofs.lemmas.Bool.{and_parts}
use Rattle.std.proofs.lemmas.List.{nil_from_length}
use Rattle.std.proofs.lemmas.Result.{on_ok_weaker}
use Rattle.base_image.specs.Held.{is_timed}
use Rattle.ts_schema.specs.Counts.{Ticks}
use Rattle.ts_model.specs.declared.events.Event.{Event}
use Rattle.ts_model.specs.Saved.{appended_over}
use Rattle.engine_state.specs.GroupRebuilds.{CanTake, event_reads, events_read, is_over}
use Rattle.engine_state.proofs.RefoldLaws.{all_can_after, any_over_after, each_then, first_and, first_then, none_taken, same_reads, then_read}
use Rattle.engine_state.proofs.group_rebuilds.+take_events.Goals as goal

pub take_events-requires : goal.take_events-requires
take_events-requires g t c κs within =
    let rest : List Event = take (length c.args.events.now - 1) (drop 1 c.args.events.now) in
    let whole : c.args.events.now ≡ c.event-item.result ∷ rest = first_and c.args.events.now rest c.event-item.result (omega (arith, c.in-len1-up.len_at_least)) refl c.event-item.is in
    let timed : list_all is_timed (take (length c.args.events.now - 1) (drop 1 c.args.events.now)) ≡ true = (and_parts (is_timed c.event-item.result) (list_all is_timed rest) (ap (list_all is_timed) (sym whole) ∙ c.requires.timed)).1 in
    let can : AllByRecursion CanTake c.take_event.new.refolds = all_can_after (λ u. appended_over u (c.event-item.result ∷ [])) c.args.refolds.now c.take_event.new.refolds c.requires.before c.in_ok-take_event-in-len1-up.ensures.taken in
    search rules

pub returns-in-empty-clause-taken : goal.returns-in-empty-clause-taken
returns-in-empty-clause-taken g t c =
    let none : length c.args.events.now ≡ 0 = omega (arith, c.in-empty.len_below) in
    none_taken (λ u. appended_over u c.args.events.now) c.args.refolds.now (λ u. ap (appended_over u) (nil_from_length c.args.events.now none))

pub returns-in_ok-take_event-in-len1-up-clause-taken : goal.returns-in_ok-take_event-in-len1-up-clause-taken
returns-in_ok-take_event-in-len1-up-clause-taken g t c =
    let rest : List Event = take (length c.args.events.now - 1) (drop 1 c.args.events.now) in
    let whole : c.args.events.now ≡ c.event-item.result ∷ rest = first_and c.args.events.now rest c.event-item.result (omega (arith, c.in-len1-up.len_at_least)) refl c.event-item.is in
    let event = c.event-item.result in
    on_ok_weaker c.take_events.result
    (each_then (λ u. appended_over u (event ∷ [])) (λ u. appended_over u rest) (λ u. appended_over u c.args.events.now) c.args.refolds.now c.take_event.new.refolds c.take_events.new.refolds
    (λ u. ap (appended_over u) whole ∙ first_then event rest u) c.in_ok-take_event-in-len1-up.ensures.taken)
    c.take_events.ensures.taken

pub returns-in_ok-take_event-in-len1-up-clause-read : goal.returns-in_ok-take_event-in-len1-up-clause-read
returns-in_ok-take_event-in-len1-up-clause-read g t c =
    let rest : List Event = take (length c.args.events.now - 1) (drop 1 c.args.events.now) in
    let whole : c.args.events.now ≡ c.event-item.result ∷ rest = first_and c.args.events.now rest c.event-item.result (omega (arith, c.in-len1-up.len_at_least)) refl c.event-item.is in
    let event = c.event-item.result in
    let p = λ (u : ℕ). list_any (is_over u) c.args.refolds.now in
    let q = λ (u : ℕ). list_any (is_over u) c.take_event.new.refolds in
    let same : events_read q rest ≡ events_read p rest = same_reads q p rest (λ u. any_over_after (λ v. appended_over v (event ∷ [])) u c.args.refolds.now c.take_event.new.refolds c.in_ok-take_event-in-len1-up.ensures.taken) in
    let small : c.args.steps.now < 2 ^ 64 = omega (arith, c.count-so_far.type_inv, c.count-so_far.ensures.count) in
    then_read c.take_events.result (event_reads p event) (events_read p rest) (events_read p c.args.events.now) c.args.steps.now c.take_event.new.steps c.take_events.new.steps small c.in_ok-take_event-in-len1-up.ensures.read
    (subst (λ n. Ticks c.take_events.result n c.take_event.new.steps c.take_events.new.steps) same c.take_events.ensures.read) (ap (events_read p) whole)
