use Rattle.std.proofs.Common.{◌≡◌, ◌-◌, ◌∷◌, List, length, take, drop, refl, arith}
use Rattle.std.proofs.lemmas.Result.{err_from_is_err_and}
use Rattle.ts_model.specs.declared.views.ViewDef.{ViewDef}
use Rattle.base_image.specs.Reading.{saved_each}
use Rattle.base_image.proofs.EachView.{goes_on, ends, is_done, begins}
use Rattle.base_image.proofs.ListLaws.{front, none_left}
use Rattle.base_image.proofs.views.read_each.Goals as goal

pub loop-left-init : goal.loop-left-init
loop-left-init c = rw c.new-views.ensures.items (begins (saved_each c.args.defs.now c.args.reader.now))

pub returns-in_err-read : goal.returns-in_err-read
returns-in_err-read c =
    let rest : List ViewDef = take (length c.loop-left.left.now - 1) (drop 1 c.loop-left.left.now) in
    let whole : c.loop-left.left.now ≡ c.def-item.result ∷ rest = front c.loop-left.left.now rest c.def-item.result (omega (arith, c.in-len1-up.len_at_least)) refl c.def-item.is in
    let p = err_from_is_err_and c.from_residual.result c.from_residual.ensures.1 in
    rw (p.1, p.2) (ends c.in_err-read.field-0.0 c.loop-left.views c.def-item.result rest c.loop-left.left.now c.of.result c.loop-left.reader c.read.new.reader (saved_each c.args.defs.now c.args.reader.now) c.of.ensures whole c.in_err-read.ensures.read c.loop-left.invariant)

pub loop-left-preserved : goal.loop-left-preserved
loop-left-preserved c =
    let rest : List ViewDef = take (length c.loop-left.left.now - 1) (drop 1 c.loop-left.left.now) in
    let whole : c.loop-left.left.now ≡ c.def-item.result ∷ rest = front c.loop-left.left.now rest c.def-item.result (omega (arith, c.in-len1-up.len_at_least)) refl c.def-item.is in
    rw c.in_ok-push.ensures.pushed (goes_on c.loop-left.views c.def-item.result rest c.loop-left.left.now c.of.result c.loop-left.reader c.read.new.reader c.in_ok-read.field-0 (saved_each c.args.defs.now c.args.reader.now) c.of.ensures whole c.in_ok-read.ensures.read c.loop-left.invariant)

pub returns : goal.returns
returns c = is_done c.loop-left.views c.loop-left.left.now c.loop-left.reader (saved_each c.args.defs.now c.args.reader.now) (none_left c.loop-left.left.now c.in_default.len_below) c.loop-left.invariant
