use Rattle.std.proofs.Common.{◌∙◌, FitsSigned, w64, ap, arith, refl, sym, rules}
use Rattle.std.proofs.lemmas.Int.{to_z-of_z}
use Rattle.std.specs.Prelude.{Ok}
use Rattle.ts_sessions.specs.Places.{cuts}
use Rattle.ts_sessions.specs.Procedures.{followed_by}
use Rattle.ts_sessions.specs.Step.{after_cut, after_snapshot, takes_snapshot}
use Rattle.ts_sessions.proofs.follows.after_refresh_cut.Goals as goal

pub returns-in-Cut : goal.returns-in-Cut
returns-in-Cut g c = λ h.
    let min = c.args.asked.now.min in
    let pos = c.in-Cut.pos in
    let fits : FitsSigned w64 min = search rules in
    record {
      rest_so = λ p read.
          ap (λ m. followed_by (takes_snapshot pos) (after_snapshot (cuts pos p) pos c.in-Cut.span m)) (to_z-of_z w64 min fits)
          ∙ ap (after_cut p min) (sym (c.in-Ok.is ∙ ap Ok c.in-Cut.is));
      fits = λ s bytes. tt;
      spent_so = λ read. refl;
      shorter = omega arith;
    }
