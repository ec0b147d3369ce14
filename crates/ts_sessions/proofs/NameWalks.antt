-- Resolved names that stay the same.
use Rattle.std.proofs.Common.{◌≡◌, ℕ, Option, Some, None, sym, refl, ap, ◌∙◌}
use Rattle.std.specs.Prelude.{IsSome}
use Rattle.std.proofs.lemmas.Bool.{true≢false}
use Rattle.ts_model.specs.declared.rosters.Roster.{Roster}
use Rattle.ts_model.specs.declared.views.ViewDef.{ViewDef}
use Rattle.ts_model.specs.History.{History, Begins}
use Rattle.ts_model.specs.Laws.{KeepsView}
use Rattle.ts_model.specs.Roster.{roster, view_of}
use Rattle.ts_model.proofs.RosterLaws.{relations_stay}
use Rattle.ts_sessions.specs.Step.{least_start}

-- the first bucket of an aggregate starts at the same time as before
start_stays : (def : ViewDef) (o : Option ViewDef) → KeepsView def o → least_start o ≡ least_start (Some def)
start_stays def o k = ap least_start k.there

start_kept : (r s : Roster) (n : ℕ) (o : Option ViewDef) → view_of r n ≡ o → IsSome o → ((def : ViewDef) → view_of r n ≡ Some def → KeepsView def (view_of s n)) → least_start (view_of s n) ≡ least_start (view_of r n)
start_kept r s n None e i k = absurd (true≢false (sym i))
start_kept r s n (Some def) e i k = start_stays def (view_of s n) (k def e) ∙ ap least_start (sym e)

pub least_stays : (g h : History) (n : ℕ) → Begins g h → IsSome (view_of (roster g) n) → least_start (view_of (roster h) n) ≡ least_start (view_of (roster g) n)
least_stays g h n b i = start_kept (roster g) (roster h) n (view_of (roster g) n) refl i ((relations_stay g h b).views n)
