-- A log is printed event by event.
use Rattle.std.proofs.Common.{◌≡◌, ℕ, suc, ◌+◌, ◌<◌, List, [], ◌∷◌, ◌++◌, length, drop, get_or, Option, Some, None, refl, sym, ap, ◌∙◌, subst, arith, append_assoc, append-nil}
use Rattle.std.proofs.lemmas.List.{drop_more}
use Rattle.std.specs.Io.KnownBytes.{Appends}
use Rattle.std.proofs.KnownBytes.{Appends-nil, Appends-trans}
use Rattle.ts_io.specs.Whole.{AppendsPart}
use Rattle.ts_model.specs.declared.events.Event.{Event}
use Rattle.ts_model.specs.declared.images.Image.{Image}
use Rattle.ts_model.specs.declared.rosters.Roster.{Roster}
use Rattle.ts_model.specs.History.{History, ◌▸◌, ◌▸▸◌, events_of, position}
use Rattle.ts_model.specs.Roster.{roster}
use Rattle.engine_core.specs.Histories.{begun_by, history_of}
use Rattle.engine_core.specs.Values.{Past}
use Rattle.engine_core.proofs.EventLaws.{base_of}
use Rattle.result_text.specs.Events.{log_text}
use Rattle.ts_top.specs.Logs.{base_text, begun_text, lines_after, log_of}

-- the events of a history that continues are its events and then the later ones
events_followed : (h : History) (es : List Event) → events_of (h ▸▸ es) ≡ events_of h ++ es
events_followed h [] = sym (append-nil (events_of h))
events_followed h (e ∷ es) = events_followed (h ▸ e) es ∙ append_assoc (events_of h) (e ∷ []) es

base_followed : (h : History) (es : List Event) → base_text (h ▸▸ es) ≡ base_text h
base_followed h [] = refl
base_followed h (e ∷ es) = base_followed (h ▸ e) es

none_at_first : (base : Option Image) → events_of (begun_by base) ≡ []
none_at_first None = refl
none_at_first (Some i) = refl

image_at_first : (base : Option Image) → base_text (begun_by base) ≡ begun_text base
image_at_first None = refl
image_at_first (Some i) = refl

pub events_of_past : (past : Past) → events_of (history_of past) ≡ past.events
events_of_past past = events_followed (begun_by past.base) past.events ∙ ap (λ (es : List Event). es ++ past.events) (none_at_first past.base)

-- the log of an engine's history
pub log_is : (past : Past) (names : Roster) (after : ℕ) → names ≡ roster (history_of past) → after ≡ position (begun_by past.base)
    → log_of (history_of past) ≡ begun_text past.base ++ lines_after names after past.events
log_is past names after named is =
    let first : base_text (history_of past) ≡ begun_text past.base = base_followed (begun_by past.base) past.events ∙ image_at_first past.base in
    (λ k. first k ++ lines_after (sym named k) ((sym (base_of past) ∙ sym is) k) (events_of_past past k))

-- ---- printing

-- the lines of some events were printed, and those of the others are left
pub record PrintedUpTo (old new : Option (List ℕ)) (whole rest : List ℕ) : Type 0 where
  pub done : List ℕ
  pub wrote : Appends old new done
  pub split : whole ≡ done ++ rest

pub printed_first : (w : Option (List ℕ)) (whole : List ℕ) → PrintedUpTo w w whole whole
printed_first w whole = record { done = []; wrote = Appends-nil w; split = refl }

pub printed_next : (old mid new : Option (List ℕ)) (whole line rest : List ℕ) → PrintedUpTo old mid whole (line ++ rest) → Appends mid new line → PrintedUpTo old new whole rest
printed_next old mid new whole line rest so_far more = record {
  done = so_far.done ++ line;
  wrote = Appends-trans old mid new so_far.done line so_far.wrote more;
  split = so_far.split ∙ sym (append_assoc so_far.done line rest);
}

-- a part of the next line is a part of the whole
pub printed_part : (old mid new : Option (List ℕ)) (whole line rest : List ℕ) → PrintedUpTo old mid whole (line ++ rest) → AppendsPart mid new line → AppendsPart old new whole
printed_part old mid new whole line rest so_far part = record {
  done = so_far.done ++ part.done;
  todo = part.todo ++ rest;
  split = so_far.split ∙ ap (λ (t : List ℕ). so_far.done ++ (t ++ rest)) part.split ∙ ap (λ (t : List ℕ). so_far.done ++ t) (append_assoc part.done part.todo rest) ∙ sym (append_assoc so_far.done part.done (part.todo ++ rest));
  grew = Appends-trans old mid new so_far.done part.done so_far.wrote part.grew;
}

pub printed_all : (old new : Option (List ℕ)) (whole : List ℕ) → PrintedUpTo old new whole [] → Appends old new whole
printed_all old new whole so_far = subst (Appends old new) (sym (so_far.split ∙ append-nil so_far.done)) so_far.wrote

-- the line of the event at an index, and those of the later events
pub next_line : (names : Roster) (number : ℕ) (events : List Event) (i : ℕ) (event : Event) → i < length events → event ≡ get_or events i event
    → lines_after names number (drop i events) ≡ log_text (number + 1) names event ++ lines_after names (number + 1) (drop (i + 1) events)
next_line names number events i event within is =
    let next : suc number ≡ number + 1 = omega arith in
    ap (lines_after names number) (drop_more events i event within)
    ∙ (λ k. log_text (next k) names (sym is k) ++ lines_after names (next k) (drop (i + 1) events))

-- ---- the image, and then the events

module _ (old mid new : Option (List ℕ)) (past : Past) (base : Option Image) (is_base : base ≡ past.base) where
  abbrev whole : List ℕ
  whole = log_of (history_of past)

  -- a part of the line of the image
  pub log_part_of_base : AppendsPart old new (begun_text base) → AppendsPart old new (log_of (history_of past))
  log_part_of_base part =
      let rest : List ℕ = lines_after (roster (history_of past)) (position (begun_by past.base)) past.events in
      let split = log_is past (roster (history_of past)) (position (begun_by past.base)) refl refl ∙ (λ k. begun_text (sym is_base k) ++ lines_after (roster (history_of past)) (position (begun_by past.base)) past.events) in
      printed_part old old new whole (begun_text base) rest (record { done = []; wrote = Appends-nil old; split = split }) part

  module _ (events : List Event) (after : ℕ) (names : Roster) (are : events ≡ past.events) (numbered : after ≡ position (begun_by past.base)) (named : names ≡ roster (history_of past)) (first : Appends old mid (begun_text base)) where
    so_far : PrintedUpTo old mid whole (lines_after names after events)
    so_far = record {
      done = begun_text base;
      wrote = first;
      split = log_is past names after named numbered ∙ (λ k. begun_text (sym is_base k) ++ lines_after names after (sym are k));
    }

    -- a part of the lines of the events
    pub log_part_of_events : AppendsPart mid new (lines_after names after events) → AppendsPart old new (log_of (history_of past))
    log_part_of_events part =
        printed_part old mid new whole (lines_after names after events) []
        (subst (PrintedUpTo old mid whole) (sym (append-nil (lines_after names after events))) so_far) part

    pub log_whole : Appends mid new (lines_after names after events) → Appends old new (log_of (history_of past))
    log_whole lines =
        printed_all old new whole
        (printed_next old mid new whole (lines_after names after events) [] (subst (PrintedUpTo old mid whole) (sym (append-nil (lines_after names after events))) so_far) lines)
