-- Images that can be encoded: all their parts are in the range of their fields.
use Rattle.std.specs.Prelude.{ℤ, negsuc, pos, ◌-◌, ◌^◌, length}
use Rattle.std.specs.List.{AllByRecursion}
use Rattle.ts_model.specs.declared.events.Event.{Event}
use Rattle.ts_model.specs.declared.images.Finished.{Finished}
use Rattle.ts_model.specs.declared.images.Image.{Image}
use Rattle.ts_model.specs.declared.images.SavedGroup.{SavedGroup}
use Rattle.ts_model.specs.declared.images.SavedLast.{SavedLast}
use Rattle.ts_model.specs.declared.images.SavedView.{SavedView}
use Rattle.ts_model.specs.declared.images.Sums.{Sums}
use Rattle.ts_model.specs.declared.refreshes.Waiting.{Waiting}
use Rattle.event_codec.specs.Formed.{Within, Many, IsFour, IsEight, IsValue, IsWord, IsSpan, IsFormed as IsFormedEvent}
use Rattle.event_codec.specs.Spelling.{event}

-- anything is in range
abbrev pub Any : {A : Type 0} → A → Type 0
Any a = Unit {0}

-- a number of 128 bits
abbrev pub IsWide : ℤ → Type 0
IsWide z = Within (negsuc (2 ^ 127 - 1)) (pos (2 ^ 127 - 1)) z

-- an event whose count of bytes fits its field
abbrev pub IsFramed : Event → Type 0
IsFramed e = IsFormedEvent e × IsFour (length (event e))

pub record IsSums (s : Sums) : Type 0 where
  pub count : IsEight s.count
  pub values : IsEight s.values
  pub sum : IsWide s.sum
  pub least : IsValue s.least
  pub most : IsValue s.most

pub record IsGroup (g : SavedGroup) : Type 0 where
  pub start : IsWord g.start
  pub keys : AllByRecursion IsValue g.keys
  pub parts : AllByRecursion IsSums g.parts

abbrev pub IsLast : SavedLast → Type 0
IsLast l = IsSpan l.span × IsEight l.pos

pub record IsSaved (v : SavedView) : Type 0 where
  pub lasts : Many IsLast v.lasts
  pub dirty : Many IsSpan v.dirty
  pub groups : Many IsGroup v.groups
  pub mark : IsValue v.mark

pub record IsWaiting (w : Waiting) : Type 0 where
  pub cut : IsEight w.cut
  pub view : IsFour w.view
  pub span : IsSpan w.span

abbrev pub IsFinished : Finished → Type 0
IsFinished f = IsEight f.cut × IsEight f.built

-- all parts of an image are in the range of their fields
pub record IsFormed (i : Image) : Type 0 where
  pub pos : IsEight i.pos
  pub roster : Many IsFramed i.roster
  pub rows : Many IsFramed i.rows
  pub views : Many IsSaved i.views
  pub waiting : Many IsWaiting i.waiting
  pub done : Many IsFinished i.done

-- ---- images that can be written: conditions on counts and events, since all numbers of the code are in range

-- the counts of the saved parts of an aggregate fit their fields
pub record HasCounts (v : SavedView) : Type 0 where
  pub lasts : Many Any v.lasts
  pub dirty : Many Any v.dirty
  pub groups : Many Any v.groups

-- all counts of an image fit their fields, and its events can be encoded
pub record IsWritable (i : Image) : Type 0 where
  pub roster : Many IsFramed i.roster
  pub rows : Many IsFramed i.rows
  pub views : Many HasCounts i.views
  pub waiting : Many Any i.waiting
  pub done : Many Any i.done
