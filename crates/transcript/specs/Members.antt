-- The parts of a JSON value.
use Rattle.std.specs.Prelude.{ℕ, List, bytes_eq, ◌&&◌, if◌then◌else◌, Option, Some, None, option_and_then}
use Rattle.serde_json.specs.Data.{Data, Members, no_members, member}
use Rattle.serde_json.specs.Find.{as_object}

-- the values of two members with these names, if there are no others
abbrev pub two_of : List ℕ → List ℕ → Members → Option (Data × Data)
two_of first second no_members = None
two_of first second (member k d no_members) = None
two_of first second (member k d (member l e no_members)) =
    if bytes_eq k first && bytes_eq l second then Some (d, e) else None
two_of first second (member k d (member l e (member m f more))) = None

-- the values of the members of an object with exactly these two members, in the order of their names' bytes
abbrev pub two_members : List ℕ → List ℕ → Data → Option (Data × Data)
two_members first second d = option_and_then (two_of first second) (as_object d)
