use Rattle.std.proofs.Common.{rules, ap, ◌≡◌, ◌∙◌, ◌∷◌, [], Some}
use Rattle.atomic_table.specs.Table.{rest}
use Rattle.turn_lock.specs.Pass.{found_at, found_closed_at}
use Rattle.turn_lock.proofs.Turning.{posts, posted_is, advances}
use Rattle.turn_lock.proofs.lock.TurnLock.publish.Goals as goal

pub store-requires : goal.store-requires
store-requires g c =
    let old = c.args.seat.now in let x = c.args.value in let now = c.exchange.ensures.3 in
    let out : c.exchange.new.seat.me.1 ≡ (0, Some x) ∷ [] = ap (λ m. m.1) now ∙ (λ i. (0, Some x) ∷ rest (c.requires.turn.1 i)) in (
      search rules,
      search rules,
      posts g.V.Grown.base g.V.Grown.first g.V.Grown.events g.V.Grown.closed c.self.inside.table.shared.key _ c.exchange.new.seat.id c.exchange.new.seat.me c.args.ticket c.args.position
          (found_at old.me.0.stage) (found_closed_at old.me.0.stage) x
          record {
            turn = ap (λ m. m.0.stage) now ∙ c.requires.turn.0;
            live = search rules;
            one_base = ap (λ m. m.0.base) now ∙ c.requires.base;
            grown = c.requires.grown;
            stays = c.requires.stays;
          } out c.requires.position,
    )

pub store-requires-2 : goal.store-requires-2
store-requires-2 g c =
    let old = c.args.seat.now in let x = c.args.value in let now = c.exchange.ensures.3 in
    let out : c.exchange.new.seat.me.1 ≡ (0, Some x) ∷ [] = ap (λ m. m.1) now ∙ (λ i. (0, Some x) ∷ rest (c.requires.turn.1 i)) in
    let told = posted_is g.V.Grown.base g.V.Grown.first g.V.Grown.events g.V.Grown.closed c.self.inside.table.shared.key c.exchange.new.seat.me c.store.new.seat.me c.args.ticket (found_at old.me.0.stage) (found_closed_at old.me.0.stage) x
    (ap (λ m. m.0.stage) now ∙ c.requires.turn.0) out c.store.ensures.2 in (
      search rules,
      search rules,
      advances g.V.Grown.base g.V.Grown.first g.V.Grown.events g.V.Grown.closed c.self.inside.table.shared.key _ c.store.new.seat.id c.store.new.seat.me c.args.ticket x
          (ap (λ m. m.0.stage) told) (search rules) (ap (λ m. m.0.base) told ∙ (ap (λ m. m.0.base) now ∙ c.requires.base)) (ap (λ m. m.1) told ∙ out),
    )
