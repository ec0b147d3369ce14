use Rattle.std.proofs.Common.{◌≡◌, ◌-◌, ◌∷◌, List, length, take, drop, refl, arith}
use Rattle.ts_model.specs.declared.tables.TableInfo.{TableInfo}
use Rattle.base_image.proofs.ListLaws.{front, none_left}
use Rattle.base_image.proofs.TakingLaws.{tables_go_on, fewer_left, tables_end}
use Rattle.base_image.proofs.roster_events.push_tables.Goals as goal

pub loop-left-preserved : goal.loop-left-preserved
loop-left-preserved c =
    let rest : List TableInfo = take (length c.loop-left.left.now - 1) (drop 1 c.loop-left.left.now) in
    let whole : c.loop-left.left.now ≡ c.info-item.result ∷ rest = front c.loop-left.left.now rest c.info-item.result (omega (arith, c.in-len1-up.len_at_least)) refl c.info-item.is in (
      tables_go_on c.loop-left.events c.push_table.new.events c.args.events.now c.loop-left.table c.info-item.result c.loop-left.left.now rest c.args.tables.now whole c.in_ok-push_table.ensures.pushed c.loop-left.invariant.0,
      fewer_left c.loop-left.table c.loop-left.left.now rest c.info-item.result (length c.args.tables.now) whole c.loop-left.invariant.1,
    )

pub returns : goal.returns
returns c = record { pushed = tables_end c.loop-left.events c.args.events.now c.loop-left.table c.loop-left.left.now c.args.tables.now (none_left c.loop-left.left.now c.in_default.len_below) c.loop-left.invariant.0 }
