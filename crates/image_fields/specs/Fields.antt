-- The numbers of an image are numbers of the code.
use Rattle.std.specs.List.{AllByRecursion}
use Rattle.ts_bucket.specs.declared.spans.Span.{Span}
use Rattle.ts_model.specs.declared.images.Image.{Image}
use Rattle.ts_model.specs.declared.images.SavedLast.{SavedLast}
use Rattle.ts_model.specs.declared.images.SavedView.{SavedView}
use Rattle.ts_model.specs.declared.refreshes.Waiting.{Waiting}
use Rattle.event_codec.specs.Formed.{IsEight, IsFour, IsValue, IsWord}
use Rattle.base_image.specs.Formed.{IsFinished, IsGroup}

abbrev pub HasSpan : Span → Type 0
HasSpan s = IsWord s.lo × IsWord s.hi

abbrev pub HasLast : SavedLast → Type 0
HasLast l = HasSpan l.span × IsEight l.pos

pub record HasSaved (v : SavedView) : Type 0 where
  pub lasts : AllByRecursion HasLast v.lasts
  pub dirty : AllByRecursion HasSpan v.dirty
  pub groups : AllByRecursion IsGroup v.groups
  pub mark : IsValue v.mark

pub record HasWaiting (w : Waiting) : Type 0 where
  pub cut : IsEight w.cut
  pub view : IsFour w.view
  pub span : HasSpan w.span

-- all numbers of an image except those of its events
pub record HasFields (i : Image) : Type 0 where
  pub pos : IsEight i.pos
  pub views : AllByRecursion HasSaved i.views
  pub waiting : AllByRecursion HasWaiting i.waiting
  pub done : AllByRecursion IsFinished i.done
