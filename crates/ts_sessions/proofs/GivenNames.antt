-- A reply names exactly the events that its line appended.
use Rattle.std.proofs.Common.{◌≡◌, ℕ, suc, ◌≤◌, List, [], ◌∷◌, ◌++◌, Option, Some, None, inl, inr, sym, ap, ◌∙◌, subst, arith}
use Rattle.std.specs.Prelude.{IfSome}
use Rattle.std.proofs.lemmas.List.{map-append}
use Rattle.ts_model.specs.declared.events.Event.{Event}
use Rattle.ts_model.specs.History.{History, ◌▸◌, base_position, position, prefix}
use Rattle.ts_sessions.specs.Gives.{Gives, numbers}
use Rattle.ts_sessions.specs.Named.{RepliesNameTheirEvents}
use Rattle.ts_sessions.specs.Procedures.{Procedure, sees, adds, ends}
use Rattle.ts_sessions.specs.Replies.{reply_to}
use Rattle.ts_sessions.proofs.MadeLaws.{Names, Lists, reply_named}
use Rattle.ts_sessions.specs.Stopped.{ReplyStopsAt}
use Rattle.ts_sessions.proofs.StopLaws.{EndsSo, Meets, meets_reply, position_at}

-- the position of the last printed read or event, if it is known, is `at`, and the history ends there
abbrev LastAt : History → ℕ → Option ℕ → Type 0
LastAt h at before = IfSome before (λ p. (p ≡ at) × (position h ≡ at))

module _ {A : Type 0} (M : List ℕ → A → Type 0) where
  -- a procedure that has ended appended no more events
  made_at_end : (P : A → Type 0) (all : History) (stop : Option ℕ) (at : ℕ) (so_far : List (ℕ × Event)) (h : History) (procedure : Procedure A) (looks : List (Option ℕ)) (last : ℕ) (given : List (ℕ × Event)) (y : A)
      → EndsSo P procedure → Names M (numbers so_far) h procedure → Gives all stop at so_far procedure looks last given y → M (numbers given) y
  made_at_end P all stop at so_far h (sees shown f) looks last given y t n g = absurd t
  made_at_end P all stop at so_far h (adds e next stop_next) looks last given y t n g = absurd t
  made_at_end P all stop at so_far h (ends a) [] last given y t n g = subst (λ es. M (numbers es) y) (sym g.1) (subst (M (numbers so_far)) (sym g.2) n)
  made_at_end P all stop at so_far h (ends a) (p ∷ ps) last given y t n g = absurd g

  -- a procedure appends each event directly after a printed read or an event, whose position it knows
  made_given : (N : Option ℕ → A → Type 0) (all : History) (stop : Option ℕ) (at : ℕ) (so_far : List (ℕ × Event)) (h : History) (procedure : Procedure A) (looks : List (Option ℕ)) (last : ℕ) (given : List (ℕ × Event)) (y : A) (before : Option ℕ)
      → base_position all ≤ at → LastAt h at before → Meets N before procedure → Names M (numbers so_far) h procedure → Gives all stop at so_far procedure looks last given y → M (numbers given) y
  made_given N all stop at so_far h (sees shown f) [] last given y before low same t n g = absurd g
  made_given N all stop at so_far h (sees shown f) (None ∷ ps) last given y before low same t n g =
      made_at_end (λ a. (stop : Option ℕ) → N stop a) all stop at so_far all (f all) ps last given y ((t all).1 g.0) (n all) g.1
  made_given N all stop at so_far h (sees shown f) (Some p ∷ ps) last given y before low same t n g =
      let on : at ≤ p = g.0 in
      let here : base_position all ≤ p = omega (arith, low, on) in
      let there = position_at all p here g.1 in
      made_given N all stop p so_far (prefix all p) (f (prefix all p)) ps last given y (Some (position (prefix all p))) here (there, there) ((t (prefix all p)).0 g.2) (n (prefix all p)) g.3
  made_given N all stop at so_far h (adds e next stop_next) ps last given y None low same t n g = absurd t
  made_given N all stop at so_far h (adds e next stop_next) ps last given y (Some p) low same t n (inl g) = made_at_end (N (Some p)) all stop at so_far h stop_next ps last given y t.1 n.1 g.1
  made_given N all stop at so_far h (adds e next stop_next) ps last given y (Some p) low same t n (inr g) =
      let one_more : numbers so_far ++ suc (position h) ∷ [] ≡ numbers (so_far ++ (suc at, e) ∷ []) = ap (λ k. numbers so_far ++ suc k ∷ []) same.1 ∙ sym (map-append (λ x. x.0) so_far ((suc at, e) ∷ [])) in
      made_given N all stop (suc at) (so_far ++ (suc at, e) ∷ []) (h ▸ e) next ps last given y (Some (suc p)) (omega (arith, low)) (ap suc same.0, ap suc same.1) t.0 (subst (λ ns. Names M ns (h ▸ e) next) one_more n.0) g.1
  made_given N all stop at so_far h (ends a) [] last given y before low same t n g = subst (λ es. M (numbers es) y) (sym g.1) (subst (M (numbers so_far)) (sym g.2) n)
  made_given N all stop at so_far h (ends a) (p ∷ ps) last given y before low same t n g = absurd g

pub replies_named : RepliesNameTheirEvents reply_to
replies_named all stop at p text skip looks last given y low g =
    made_given (Lists []) ReplyStopsAt all stop at [] all (reply_to p text skip) looks last given y None low tt (meets_reply None p text skip) (reply_named p text skip all) g
