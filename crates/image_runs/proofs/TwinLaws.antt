-- A history and its image with the same events after both, and what a procedure does to the two.
use Rattle.std.proofs.Common.{◌≡◌, ℕ, ◌-◌, ◌≤◌, Bool, true, List, [], ◌∷◌, ◌++◌, sym, refl, ap, ◌∙◌, subst}
use Rattle.std.specs.Prelude.{Result, Ok, Err}
use Rattle.std.proofs.lemmas.Bool.{and_parts, and_from}
use Rattle.ts_model.specs.declared.events.Event.{Event}
use Rattle.ts_model.specs.declared.images.Image.{Image}
use Rattle.ts_model.specs.declared.outcomes.Refusal.{Refusal}
use Rattle.ts_model.specs.Allowed.{all_allowed}
use Rattle.ts_model.specs.Calls.{Act, refuses, returns, makes}
use Rattle.ts_model.specs.History.{History, resumed, ◌▸▸◌, base_position, prefix}
use Rattle.ts_model.specs.Laws.{MakesAllowed}
use Rattle.ts_model.proofs.AllowedLaws.{allowed_begins}
use Rattle.ts_model.proofs.HistoryLaws.{base_begins, begins_followed, begins_prefix, followed_append}
use Rattle.image_laws.specs.Alike.{Alike, are_from}
use Rattle.image_laws.specs.Images.{IsImage}
use Rattle.image_laws.proofs.CheckpointLaws.{checkpoints_keep, prefix_from, upto}
use Rattle.ts_sessions.specs.Places.{Turn}
use Rattle.ts_sessions.specs.Procedures.{Procedure, sees, ends, followed_by, ending_as, tries_at}
use Rattle.ts_sessions.specs.Walks.{history_after, end_of_walk}
use Rattle.policy_jobs.proofs.AloneLaws.{ending_then, history_then}

-- ---- twins

-- one history is a history and these events, the other its image and the same events, and the other is allowed
pub record Twins (h : History) (i : Image) (g k : History) : Type 0 where
  pub events : List Event
  pub whole : g ≡ h ▸▸ events
  pub short : k ≡ resumed i ▸▸ events
  pub allowed : all_allowed k ≡ true

pub twins_on : (h : History) (i : Image) (g k : History) (es : List Event) → Twins h i g k → all_allowed (k ▸▸ es) ≡ true → Twins h i (g ▸▸ es) (k ▸▸ es)
twins_on h i g k es t ok = record {
  events = t.events ++ es;
  whole = ap (λ x. x ▸▸ es) t.whole ∙ sym (followed_append h t.events es);
  short = ap (λ x. x ▸▸ es) t.short ∙ sym (followed_append (resumed i) t.events es);
  allowed = ok;
}

pub twins_base : (h : History) (i : Image) (g k : History) → Twins h i g k → base_position k ≡ i.pos
twins_base h i g k t = ap base_position t.short ∙ base_begins (begins_followed (resumed i) t.events)

module _ (h : History) (i : Image) (ok : all_allowed h ≡ true) (is : IsImage h i) (g k : History) (t : Twins h i g k) where
  short_allowed : all_allowed (resumed i ▸▸ t.events) ≡ true
  short_allowed = sym (ap all_allowed t.short) ∙ t.allowed

  pub twins_alike : Alike g k
  twins_alike = subst (λ x. Alike x k) (sym t.whole) (subst (Alike (h ▸▸ t.events)) (sym t.short) (checkpoints_keep.alike h i t.events ok is short_allowed))

  pub twins_allowed : all_allowed g ≡ true
  twins_allowed =
      let good : all_allowed (resumed i) ≡ true = allowed_begins (begins_followed (resumed i) t.events) short_allowed in
      ap all_allowed t.whole ∙ (and_parts (all_allowed (h ▸▸ t.events)) (are_from i.pos t.events) (sym (checkpoints_keep.allowed h i t.events ok is good) ∙ short_allowed)).0

  -- at a position at or above that of the image
  pub twins_prefix : (at : ℕ) → i.pos ≤ at → Twins h i (prefix g at) (prefix k at)
  twins_prefix at le = record {
    events = upto (at - i.pos) t.events;
    whole = ap (λ x. prefix x at) t.whole ∙ subst (λ (p : ℕ). p ≤ at → prefix (h ▸▸ t.events) at ≡ h ▸▸ upto (at - p) t.events) (sym is.pos) (prefix_from h t.events at) le;
    short = ap (λ x. prefix x at) t.short ∙ prefix_from (resumed i) t.events at le;
    allowed = allowed_begins (begins_prefix k at) t.allowed;
  }

-- ---- procedures in order

-- two procedures append the same events to two histories, which are allowed after the second, and their results go
-- together
pub record Alongside {A : Type 0} (Go : History → A → A → Type 0) (g k : History) (d e : Procedure A) : Type 0 where
  pub events : List Event
  pub first : history_after d g ≡ g ▸▸ events
  pub second : history_after e k ≡ k ▸▸ events
  pub allowed : all_allowed (k ▸▸ events) ≡ true
  pub ends_go : Go (k ▸▸ events) (end_of_walk d g) (end_of_walk e k)

-- two turns leave the same session state, which fits the second history, and have the same lines
pub record SameEnd {P : Type 0} (Fit : History → P → Type 0) (k : History) (t u : Turn P) : Type 0 where
  pub places : t.places ≡ u.places
  pub said : t.said ≡ u.said
  pub fit : Fit k u.places

-- the same end
abbrev pub Same : {A : Type 0} → History → A → A → Type 0
Same k a b = a ≡ b

pub along_ends : {A : Type 0} (Go : History → A → A → Type 0) (g k : History) (a b : A) → all_allowed k ≡ true → Go k a b → Alongside Go g k (ends a) (ends b)
along_ends Go g k a b ok go = record { events = []; first = refl; second = refl; allowed = ok; ends_go = go }

pub along_sees : {A : Type 0} (Go : History → A → A → Type 0) (g k : History) (shown shown_too : History → Bool) (d e : History → Procedure A) → Alongside Go g k (d g) (e k) → Alongside Go g k (sees shown d) (sees shown_too e)
along_sees Go g k shown shown_too d e a = record { events = a.events; first = a.first; second = a.second; allowed = a.allowed; ends_go = a.ends_go }

module _ {A B : Type 0} (Go : History → A → A → Type 0) (Last : History → B → B → Type 0) (g k : History) (d e : Procedure A) where
  pub along_then : (f q : A → Procedure B) → Alongside Go g k d e → ((es : List Event) (a b : A) → all_allowed (k ▸▸ es) ≡ true → Go (k ▸▸ es) a b → Alongside Last (g ▸▸ es) (k ▸▸ es) (f a) (q b)) → Alongside Last g k (followed_by d f) (followed_by e q)
  along_then f q a next =
      let rest = next a.events (end_of_walk d g) (end_of_walk e k) a.allowed a.ends_go in
      let end : end_of_walk (followed_by d f) g ≡ end_of_walk (f (end_of_walk d g)) (g ▸▸ a.events) = ending_then d f g ∙ ap (end_of_walk (f (end_of_walk d g))) a.first in
      let end_too : end_of_walk (followed_by e q) k ≡ end_of_walk (q (end_of_walk e k)) (k ▸▸ a.events) = ending_then e q k ∙ ap (end_of_walk (q (end_of_walk e k))) a.second in
      let joined = followed_append k a.events rest.events in
      record {
        events = a.events ++ rest.events;
        first = history_then d f g ∙ ap (history_after (f (end_of_walk d g))) a.first ∙ rest.first ∙ sym (followed_append g a.events rest.events);
        second = history_then e q k ∙ ap (history_after (q (end_of_walk e k))) a.second ∙ rest.second ∙ sym joined;
        allowed = ap all_allowed joined ∙ rest.allowed;
        ends_go = subst (λ x. Last x (end_of_walk (followed_by d f) g) (end_of_walk (followed_by e q) k)) (sym joined) (subst (λ x. Last ((k ▸▸ a.events) ▸▸ rest.events) x (end_of_walk (followed_by e q) k)) (sym end) (subst (Last ((k ▸▸ a.events) ▸▸ rest.events) (end_of_walk (f (end_of_walk d g)) (g ▸▸ a.events))) (sym end_too) rest.ends_go));
      }

  pub along_as : (f q : A → B) → Alongside Go g k d e → ((es : List Event) (a b : A) → Go (k ▸▸ es) a b → Last (k ▸▸ es) (f a) (q b)) → Alongside Last g k (ending_as f d) (ending_as q e)
  along_as f q a next = along_then (λ x. ends (f x)) (λ x. ends (q x)) a (λ es x y ok go. along_ends Last (g ▸▸ es) (k ▸▸ es) (f x) (q y) ok (next es x y go))

-- ---- calls

tries_same : {A : Type 0} (g k : History) (act : Act A) → all_allowed k ≡ true → MakesAllowed k act → Alongside Same g k (tries_at g act) (tries_at k act)
tries_same g k (refuses r) ok m = along_ends Same g k (Err r) (Err r) ok refl
tries_same g k (returns a) ok m = along_ends Same g k (Ok a) (Ok a) ok refl
tries_same g k (makes e a) ok m = record { events = e ∷ []; first = refl; second = refl; allowed = and_from _ _ ok m; ends_go = refl }

-- a call that does the same at both
pub along_tries : {A : Type 0} (g k : History) (act act_too : Act A) → act ≡ act_too → all_allowed k ≡ true → MakesAllowed k act_too → Alongside Same g k (tries_at g act) (tries_at k act_too)
along_tries g k act act_too e ok m = subst (λ x. Alongside Same g k (tries_at g x) (tries_at k act_too)) (sym e) (tries_same g k act_too ok m)

-- a call with a function of its outcome
pub along_call : {A B : Type 0} (Last : History → B → B → Type 0) (g k : History) (act act_too : Act A) (f : Result A Refusal → B) → act ≡ act_too → all_allowed k ≡ true → MakesAllowed k act_too → ((es : List Event) (r : Result A Refusal) → Last (k ▸▸ es) (f r) (f r)) → Alongside Last g k (ending_as f (tries_at g act)) (ending_as f (tries_at k act_too))
along_call Last g k act act_too f e ok m go = along_as Same Last g k (tries_at g act) (tries_at k act_too) f f (along_tries g k act act_too e ok m) (λ es a b s. subst (λ x. Last (k ▸▸ es) x (f b)) (sym (ap f s)) (go es b))
