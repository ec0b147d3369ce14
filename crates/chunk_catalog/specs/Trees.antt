-- A tree of chunks: its versions in the order of the chunks, its number of levels, and its invariant.
use Rattle.chunk_catalog.specs.Levels.{TreeValue, no_tree, tree_over, IsOver}
use Rattle.chunk_catalog.specs.declared.trees.Node.{Node}
use Rattle.chunk_catalog.specs.declared.trees.Node.TheVariants.{Empty, Fork}

abbrev pub tree_view : Node → TreeValue
tree_view Empty = no_tree
tree_view (Fork l chunk r starts height dead) = tree_over l.value chunk r.value

abbrev pub IsTree : Node → Type 0
IsTree Empty = Unit {0}
IsTree (Fork l chunk r starts height dead) = IsOver l.value chunk r.value starts height dead
