-- Scripts over a history and over its image.
use Rattle.std.specs.Prelude.{◌≡◌, ℕ, ◌≤◌, true, List, length, sum_by}
use Rattle.ts_model.specs.declared.events.Event.{Event}
use Rattle.ts_model.specs.declared.images.Image.{Image}
use Rattle.ts_model.specs.Allowed.{all_allowed}
use Rattle.ts_model.specs.History.{History, resumed, ◌▸▸◌}
use Rattle.image_laws.specs.Alike.{Alike}
use Rattle.image_laws.specs.Images.{IsImage}
use Rattle.stmt_syntax.specs.Limits.{longest_input}
use Rattle.ts_sessions.specs.Script.{ScriptState, Semantics, final_script_state, opening_script_state}
use Rattle.ts_sessions.specs.Script.{is_refused, output}

-- the state of a script after its lines over a history, by what lines mean
abbrev pub script_over : {P : Type 0} → Semantics P → History → List (List ℕ) → ScriptState P
script_over semantics h lines = final_script_state semantics (opening_script_state h) 1 lines

-- the same lines over two histories write the same text, and both or neither have a FAULT. The same events follow both
-- histories, which are then allowed and alike, and each session has the same state. The number of stored rows read may
-- differ, since an image has no deleted row
pub record WriteTheSame {P : Type 0} (semantics : Semantics P) (g h : History) (lines : List (List ℕ)) : Type 0 where
  pub text :
      output semantics (opening_script_state g) 1 lines ≡ output semantics (opening_script_state h) 1 lines
  pub faults :
      is_refused semantics (opening_script_state g) 1 lines ≡ is_refused semantics (opening_script_state h) 1 lines
  pub sessions : (script_over semantics g lines).sessions ≡ (script_over semantics h lines).sessions
  pub events : List Event
  pub first : (script_over semantics g lines).history ≡ g ▸▸ events
  pub second : (script_over semantics h lines).history ≡ h ▸▸ events
  pub first_allowed : all_allowed (g ▸▸ events) ≡ true
  pub second_allowed : all_allowed (h ▸▸ events) ≡ true
  pub alike : Alike (g ▸▸ events) (h ▸▸ events)

-- the lines of an input write the same over an allowed history and over its image. The same is true with the same
-- events after both, if these are allowed after the image
abbrev pub ScriptsGoOn : {P : Type 0} → Semantics P → Type 0
ScriptsGoOn semantics =
    (h : History) (i : Image) (es : List Event) (lines : List (List ℕ)) → all_allowed h ≡ true → IsImage h i
    → all_allowed (resumed i ▸▸ es) ≡ true → sum_by length lines ≤ longest_input
    → WriteTheSame semantics (h ▸▸ es) (resumed i ▸▸ es) lines
