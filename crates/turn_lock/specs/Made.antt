-- The result of creating a lock.
use Rattle.std.specs.Prelude.{◌≡◌, ℕ, Option, Some, List, []}
use Rattle.turn_lock.specs.declared.making.MadeLock.{MadeLock}
use Rattle.turn_lock.specs.declared.making.MadeLock.TheVariants.{Made, NoMemory}
use Rattle.turn_lock.specs.Pass.{Carried, Guarded, IsPassOf, IsIdle, shares_of, base_of, seen_of, closed_of, made_of}

module _ {V B E : Type 0} (base : V → B) (events : V → List E) (closed : V → Option E) (value : V) (shares : ℕ) where
  -- the first pass of a lock around the value: it has all shares and the value's base, has seen its events, and has
  -- added nothing
  pub record IsFirstPass (lock : Guarded V) (pass : Carried V B E) : Type 0 where
    pub from_lock : IsPassOf lock pass
    pub idle : IsIdle pass
    pub lock_value : lock.opened ≡ value
    pub lock_shares : lock.shares ≡ shares
    pub pass_shares : shares_of pass ≡ shares
    pub pass_base : base_of pass ≡ Some (base value)
    pub pass_seen : seen_of pass ≡ events value
    pub pass_closed : closed_of pass ≡ closed value
    pub pass_made : made_of pass ≡ []

  -- a lock and its first pass, or the value that was given
  abbrev pub Makes : MadeLock V B E → Type 0
  Makes (Made lock pass) = IsFirstPass lock pass
  Makes (NoMemory v) = v ≡ value
