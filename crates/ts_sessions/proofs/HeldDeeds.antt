-- Store calls that finish a refresh with what a session holds.
use Rattle.std.proofs.Common.{◌≡◌, ℕ, Bool, false, Option, Some, None, sym, refl, ◌∙◌, ap, subst}
use Rattle.std.specs.Prelude.{ℤ, Result, Ok, Err, IfOk, IsTrue}
use Rattle.ts_schema.specs.declared.memory.NoMemory.{NoMemory}
use Rattle.ts_model.specs.declared.snapshots.Shown.{Ghosts as Shown}
use Rattle.ts_model.specs.History.{History, Begins}
use Rattle.ts_model.specs.States.{State}
use Rattle.ts_model.specs.Pending.{pending}
use Rattle.ts_sessions.specs.declared.deeds.Next.{Next}
use Rattle.ts_sessions.specs.declared.deeds.Next.TheVariants as nexts
use Rattle.ts_sessions.specs.declared.deeds.Deed.TheVariants as deeds
use Rattle.ts_sessions.specs.declared.deeds.FinishSource.TheVariants as finishing
use Rattle.ts_sessions.specs.declared.block_ends.HeldJob.TheVariants as held
use Rattle.ts_sessions.specs.declared.sessions.Session.{Session}
use Rattle.ts_sessions.specs.Deeds.{Leads, Takes, taken_next, without_entry}
use Rattle.ts_sessions.specs.Held.{Carries, GoesOn, HoldsOf, is_lost, places_in, positions}
use Rattle.ts_sessions.specs.Holding.{lost_stays}
use Rattle.ts_sessions.specs.Jobs.{TakesJob}
use Rattle.ts_sessions.specs.Parts.{finishes_meant}
use Rattle.ts_sessions.specs.Places.{Places, Turn, held_for, refuses}
use Rattle.ts_sessions.specs.Procedures.{Procedure, ends, looks}
use Rattle.ts_sessions.specs.Step.{finishes, finishes_held, lost_code, refresh_meant, unfinished_refusal}
use Rattle.ts_sessions.specs.Walks.{Breaks}
use Rattle.ts_model.specs.Numbers.{no_snapshot}
use Rattle.ts_sessions.proofs.JobLaws.{held_holds, lost_at}
use Rattle.ts_sessions.proofs.SessionLaws.{carried_held, carried_places, forgotten_held, forgotten_places, kept_held, same_places, spared, spares_meant, taken_held, taken_none, taken_places}
use Rattle.ts_sessions.proofs.StateLaws.{goes_seen}
use Rattle.ts_sessions.proofs.WalkLaws.{not_begun}

-- ---- the rest is what was asked for

pub leads_same : {A : Type 0} (alone : Bool) (s : State) (procedure : Procedure A) → Leads alone false s procedure s procedure
leads_same alone s procedure = record { walks = λ f new y w. w; breaks = λ new b. b }

meant : (p : Places) (number : Option ℤ) (m : Option ℕ) (alone : Bool) (s : State) (left : Procedure (Turn Places)) → refresh_meant p number ≡ m → Leads alone false s (looks (λ h. finishes p h m)) s left → Leads alone false s (finishes_meant p number) s left
meant p number m alone s left e k = subst (λ x. Leads alone false s (looks (λ h. finishes p h x)) s left) (sym e) k

at_held : (p : Places) (c : ℕ) (o : Option ℕ) (alone : Bool) (s : State) (left : Procedure (Turn Places)) → held_for c p.held ≡ o → Leads alone false s (looks (λ h. finishes_held p h c o)) s left → Leads alone false s (looks (λ h. finishes p h (Some c))) s left
at_held p c o alone s left e k = subst (λ x. Leads alone false s (looks (λ h. finishes_held p h c x)) s left) (sym e) k

pub stands_unheld : (p : Places) (number : Option ℤ) (c : ℕ) (s : State) → refresh_meant p number ≡ Some c → held_for c p.held ≡ None → (alone : Bool) → Leads alone false s (finishes_meant p number) s (looks (λ h. ends (refuses p (unfinished_refusal no_snapshot h (pending h c)))))
stands_unheld p number c s e f alone =
    meant p number (Some c) alone s _ e (at_held p c None alone s _ f (leads_same alone s (looks (λ h. ends (refuses p (unfinished_refusal no_snapshot h (pending h c)))))))

pub stands_held : (p : Places) (number : Option ℤ) (c at : ℕ) (s : State) → refresh_meant p number ≡ Some c → held_for c p.held ≡ Some at → (alone : Bool) → Leads alone false s (finishes_meant p number) s (looks (λ h. finishes_held p h c (Some at)))
stands_held p number c at s e f alone =
    meant p number (Some c) alone s _ e (at_held p c (Some at) alone s _ f (leads_same alone s (looks (λ h. finishes_held p h c (Some at)))))

-- a refresh that can't be finished any more is refused, as its finish would be
lost_leads : (alone : Bool) (s : State) (p : Places) (c at : ℕ) → IsTrue (is_lost s c) → Leads alone false s (looks (λ h. finishes_held p h c (Some at))) s (looks (λ h. ends (refuses p (unfinished_refusal (lost_code h) h (pending h c)))))
lost_leads alone s p c at lost = record {
  walks = λ f new y w. record {
    mid = w.mid;
    first = w.first;
    rest = lost_at alone f w.mid p c at (pending w.mid.history c) new y (lost_stays s w.mid c (goes_seen alone s w.mid w.first) lost) w.rest.0 w.rest.1 w.rest.2;
  };
  breaks = λ new b. record {
    mid = b.mid;
    first = b.first;
    rest = subst (λ x. Breaks alone b.mid (finishes_held p b.mid.history c (Some at)) x) (sym b.rest) (not_begun alone b.mid (finishes_held p b.mid.history c (Some at)));
  };
}

pub stands_lost : (p : Places) (number : Option ℤ) (c at : ℕ) (s : State) → refresh_meant p number ≡ Some c → held_for c p.held ≡ Some at → IsTrue (is_lost s c) → (alone : Bool) → Leads alone false s (finishes_meant p number) s (looks (λ h. ends (refuses p (unfinished_refusal (lost_code h) h (pending h c)))))
stands_lost p number c at s e f lost alone = meant p number (Some c) alone s _ e (at_held p c (Some at) alone s _ f (lost_leads alone s p c at lost))

-- ---- jobs taken from a session

module _ {T J : Type 0} (shown : Shown T J) (fits_on : (job : J) (g h : History) → Begins g h → shown.fits job g → shown.fits job h) (meant : Option ℕ) where
  kept_takes : (next : Next T J) (s t : Session T J) → taken_next next ≡ None → places_in t ≡ places_in s → ((g h : State) → HoldsOf shown s g → GoesOn g h → HoldsOf shown t h) → Takes shown meant next s t
  kept_takes next s t e p k = record {
    places = p;
    only = taken_none (taken_next next) meant e;
    holds = λ g h o on _. k g h o on;
    broken = λ u f.
        let carried : Carries t u = record { block = f.block; cut = f.cut; held = subst (λ x. u.held.entries ≡ without_entry x t.held.entries) e f.held } in
        (spared meant (places_in s) (places_in u) (carried_places t u carried ∙ p), λ g h o on. carried_held shown t u h carried (k g h o on));
  }

  -- nothing is taken
  pub takes_nothing : (next : Next T J) (s t : Session T J) → taken_next next ≡ None → t.block ≡ s.block → t.cut ≡ s.cut → t.held.entries ≡ s.held.entries → Takes shown meant next s t
  takes_nothing next s t n b k e = kept_takes next s t n (same_places s t b k (ap positions e)) (λ g h o on. kept_held shown fits_on s t g h b e on o)

  pub takes_none : (result : Result (Next T J) NoMemory) (s : Session T J) → IfOk result (λ n. taken_next n ≡ None) → IfOk result (λ n. Takes shown meant n s s)
  takes_none (Ok n) s e = takes_nothing n s s e refl refl refl
  takes_none (Err x) s e = tt

  pub takes_as : (result : Result (Next T J) NoMemory) (next : Next T J) (s : Session T J) → IfOk result (λ n. n ≡ next) → taken_next next ≡ None → IfOk result (λ n. Takes shown meant n s s)
  takes_as (Ok n) next s e k = takes_nothing n s s (ap taken_next e ∙ k) refl refl refl
  takes_as (Err x) next s e k = tt

  -- a job was taken before
  pub takes_lost : (c at : ℕ) (next : Next T J) (s t : Session T J) → taken_next next ≡ None → t.block ≡ s.block → t.cut ≡ s.cut → TakesJob c s.held.entries (held.Lost at) t.held.entries → Takes shown meant next s t
  takes_lost c at next s t n b k w =
      kept_takes next s t n (taken_places s t c at _ b k w.0 w.1)
      (λ g h o on. taken_held shown fits_on s t c at g h b w.1 on (lost_stays g h c on (held_holds shown g c s.held.entries _ o.snapshots w.0)) o)

  -- a job is taken
  pub takes_job : (c at : ℕ) (job : J) (s t : Session T J) → meant ≡ Some c → t.block ≡ s.block → t.cut ≡ s.cut → TakesJob c s.held.entries (held.Job at job) t.held.entries → Takes shown meant (nexts.Deed (deeds.Finish job (finishing.Held c at))) s t
  takes_job c at job s t e b k w = record {
    places = taken_places s t c at _ b k w.0 w.1;
    only = e;
    holds = λ g h o on lost. taken_held shown fits_on s t c at g h b w.1 on lost o;
    broken = λ u f. (spares_meant (Some c) meant (places_in s) (places_in u) e (forgotten_places s t u c at b k w.1 f.block f.cut f.held), λ g h o on. forgotten_held shown fits_on s t u c at g h b w.1 f.block f.held on o);
  }
