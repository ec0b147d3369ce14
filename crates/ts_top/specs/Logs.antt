-- The texts that a call prints of a journal.
use Rattle.std.specs.Prelude.{ℕ, suc, List, [], ◌∷◌, ◌++◌, Option, Some, None, codes, decimal}
use Rattle.ts_bucket.specs.Bucket.{first_of}
use Rattle.ts_model.specs.declared.events.Event.{Event}
use Rattle.ts_model.specs.declared.images.Image.{Image}
use Rattle.ts_model.specs.declared.refreshes.Waiting.{Waiting}
use Rattle.ts_model.specs.declared.rosters.Roster.{Roster}
use Rattle.ts_model.specs.declared.views.ViewDef.{ViewDef}
use Rattle.ts_model.specs.History.{History, start, resumed, ◌▸◌, base_position, events_of, position}
use Rattle.ts_model.specs.Pending.{waiting}
use Rattle.ts_model.specs.Roster.{roster, view_of}
use Rattle.result_text.specs.Events.{history_text, log_text, pending_text}
use Rattle.ts_top.specs.declared.commands.Text.{Text}
use Rattle.ts_top.specs.declared.commands.Text.TheVariants.{Log, Check}

-- a line for each of these events, which follow a position, by the names of a roster
abbrev pub lines_after : Roster → ℕ → List Event → List ℕ
lines_after names p [] = []
lines_after names p (e ∷ es) = log_text (suc p) names e ++ lines_after names (suc p) es

-- an image at a position
abbrev pub image_text : ℕ → List ℕ
image_text pos = codes "IMAGE @" ++ decimal pos ++ codes "\n"

abbrev pub begun_text : Option Image → List ℕ
begun_text None = []
begun_text (Some i) = image_text i.pos

-- the line of the image that a history begins with, if there is one
abbrev pub base_text : History → List ℕ
base_text start = []
base_text (resumed i) = image_text i.pos
base_text (h ▸ e) = base_text h

-- the log of a history: its image, and its events by the names at its end, which are never removed
abbrev pub log_of : History → List ℕ
log_of h = base_text h ++ lines_after (roster h) (base_position h) (events_of h)

-- a refresh that is pending, if its aggregate is in the roster
abbrev pub waiting_text : Waiting → Option ViewDef → List ℕ
waiting_text refresh None = []
waiting_text refresh (Some def) = pending_text refresh.cut def.name refresh.span (first_of def.fold.width)

abbrev pub waiting_texts : Roster → List Waiting → List ℕ
waiting_texts names [] = []
waiting_texts names (refresh ∷ more) = waiting_text refresh (view_of names refresh.view) ++ waiting_texts names more

-- the position of a history, and its pending refreshes
abbrev pub check_of : History → List ℕ
check_of h = history_text (position h) ++ waiting_texts (roster h) (waiting h)

-- the text that a call prints of a history
abbrev pub text_of : Text → History → List ℕ
text_of Log h = log_of h
text_of Check h = check_of h
