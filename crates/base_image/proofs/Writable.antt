-- Images that can be written.
use Rattle.std.proofs.Common.{◌≡◌, ◌-◌, ◌^◌, ◌<◌, List, [], ◌∷◌, length, min, ℤ, refl, arith}
use Rattle.std.specs.Int.{w128, to_le_bytes, cast_unsigned}
use Rattle.std.specs.List.{AllByRecursion}
use Rattle.ts_model.specs.Bytes.{event_bytes}
use Rattle.ts_model.specs.declared.events.Event.{Event}
use Rattle.event_codec.specs.Spelling.{event}
use Rattle.event_codec.proofs.BytesCounted.{bytes_counted as event_counted}
use Rattle.base_image.specs.Formed.{Any, IsFramed}
use Rattle.base_image.specs.Spelling.{wide}

pub any_all : {A : Type 0} (xs : List A) → AllByRecursion Any xs
any_all [] = tt
any_all (x ∷ xs) = (tt, any_all xs)

pub count_is : (e : Event) → IsFramed e → min (event_bytes e) (2 ^ 64 - 1) ≡ length (event e)
count_is e h = omega (arith, event_counted e, h.1)

pub count_small : (e : Event) → IsFramed e → min (event_bytes e) (2 ^ 64 - 1) < 2 ^ 32
count_small e h = omega (arith, event_counted e, h.1)

pub wide_is : (z : ℤ) → wide z ≡ to_le_bytes w128 (cast_unsigned w128 z)
unfolding wide
wide_is z = refl
