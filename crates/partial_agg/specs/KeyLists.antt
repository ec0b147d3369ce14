-- The keys of a group as a list.
use Rattle.std.specs.Prelude.{List, [], ◌∷◌, Option, ℤ}
use Rattle.partial_agg.specs.declared.keys.KeyStorage.{KeyStorage}
use Rattle.partial_agg.specs.declared.keys.KeyStorage.TheVariants.{One, Many}

-- the keys that are held, in order
abbrev pub keys_held : KeyStorage → List (Option ℤ)
keys_held (One key) = key ∷ []
keys_held (Many keys) = keys
