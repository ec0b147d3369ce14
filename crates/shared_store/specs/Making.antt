-- How a shared store is created.
use Rattle.std.specs.Prelude.{◌≡◌, ℕ, None, []}
use Rattle.turn_lock.specs.Pass.{shares_of, seen_of, closed_of, made_of}
use Rattle.shared_store.specs.Stores.{Ticket, Shared, IsPassOf}
use Rattle.shared_store.specs.declared.making.MadeStore.{MadeStore}
use Rattle.shared_store.specs.declared.making.MadeStore.TheVariants.{Made, NoMemory}

module _ {B : Type 0} where
  -- the first pass of a store over the backend: it has all shares, has seen what the backend holds, and has appended
  -- nothing
  pub record IsFirstPass (backend : B) (shares : ℕ) (store : Shared B) (pass : Ticket B) : Type 0 where
    pub of_store : IsPassOf store pass
    pub store_backend : store.opened.value ≡ backend
    pub store_shares : store.shares ≡ shares
    pub pass_shares : shares_of pass ≡ shares
    pub pass_seen : seen_of pass ≡ []
    pub pass_closed : closed_of pass ≡ None
    pub pass_made : made_of pass ≡ []

  -- a store and its first pass, or the backend that was given
  abbrev pub Makes : {S J : Type 0} → B → ℕ → MadeStore B S J → Type 0
  Makes backend shares (Made store pass) = IsFirstPass backend shares store pass
  Makes backend shares (NoMemory back) = back ≡ backend
