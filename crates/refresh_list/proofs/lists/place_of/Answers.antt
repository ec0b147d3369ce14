use Rattle.std.proofs.Common.{◌≡◌, ◌<◌, ◌≤◌, length, sym, ap, ◌∙◌, arith}
use Rattle.refresh_list.specs.declared.refreshes.Refresh.{Refresh}
use Rattle.refresh_list.proofs.PlaceLaws.{found_there, none_left, other_there, any_default}
use Rattle.refresh_list.proofs.lists.place_of.Goals as goal

pub returns-then-place-len : goal.returns-then-place-len
returns-then-place-len c =
    let end : length c.args.list.now.items ≤ c.first_from-place.result = omega arith in
    record { place = none_left c.args.cut c.first_from-place.result c.args.list.now.items c.first_from-place.ensures.below end }

pub returns-then-get-cut : goal.returns-then-get-cut
returns-then-get-cut c =
    let items = c.args.list.now.items in
    let p = c.first_from-place.result in
    let within : c.first_from-place.result < length c.args.list.now.items = omega (arith, c.first_from-place.ensures.within) in
    let same : c.get.result.now.cut ≡ c.args.cut = omega arith in
    let named = λ (d : Refresh). ap (λ x. x.cut) (any_default items p d c.get.result.now within ∙ sym c.get.ensures.item) ∙ same in
    record { place = record { within = within; named = named; found = λ d. found_there c.args.cut p d items c.first_from-place.ensures.below within (named d) } }

pub returns-else-get-cut : goal.returns-else-get-cut
returns-else-get-cut c =
    let items = c.args.list.now.items in
    let r = c.get.result.now in
    let within : c.first_from-place.result < length c.args.list.now.items = omega (arith, c.first_from-place.ensures.within) in
    record { place = other_there c.args.cut c.first_from-place.result 0 r items c.requires.rise c.first_from-place.ensures.below c.first_from-place.ensures.from within (λ is. c.if-get-cut.false (ap (λ x. x.cut) c.get.ensures.item ∙ is)) }
