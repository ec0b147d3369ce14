use Rattle.std.proofs.Common.{◌∙◌, ◌<◌, ◌^◌, None, ap, length, sym, subst}
use Rattle.ts_bucket.specs.Bucket.{first_of}
use Rattle.stmt_check.proofs.RosterLaws.{rosters_are_numbered}
use Rattle.ts_sessions.specs.Sound.{number_from}
use Rattle.ts_sessions.proofs.events.whole_refresh.Goals as goal

pub view_number-requires : goal.view_number-requires
view_number-requires g c =
    let s = c.requires in
    subst (λ vs. length vs < 2 ^ 32) (sym (c.items.ensures.items ∙ ap (λ r. r.views) (c.roster.ensures s.history s.holds))) (rosters_are_numbered s.history s.allowed).relations.views

pub returns : goal.returns
returns g c = λ h stands.
    c.all_of.ensures ∙ ap (λ v. record { view = v; lo = None; hi = None; min = first_of c.args.new.now.width })
    (c.view_number.ensures ∙ ap (number_from c.args.new.now.name 0) (c.items.ensures.items ∙ ap (λ r. r.views) (c.roster.ensures h stands)))
