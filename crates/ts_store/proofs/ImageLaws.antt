-- Images of a store's disk.
use Rattle.std.proofs.Common.{◌≡◌, inl, inr, ⊎_elim, ℕ, ◌≤◌, List, [], ◌∷◌, ◌++◌, Option, Some, None, IsSomeAnd, refl, ◌∙◌, ap, sym, subst}
use Rattle.ts_model.specs.declared.events.Event.{Event}
use Rattle.ts_model.specs.History.{History, ◌▸◌, Begins, same, further}
use Rattle.ts_model.proofs.HistoryLaws.{begins_trans}
use Rattle.event_codec.specs.Spelling as spelling
use Rattle.ts_disk.specs.CrashImage.{LeavesOnly}
use Rattle.ts_disk.proofs.Told.{some_is}
use Rattle.txn_journal.specs.Calls.{Logged, IsTold}
use Rattle.txn_journal.specs.Contents.{Content, with_payload}
use Rattle.txn_journal.specs.Frames.{Holds, StandsFor, WithOrWithout, body, frames, front}
use Rattle.txn_journal.specs.declared.versions.Version.{Version}
use Rattle.txn_journal.proofs.JournalLaws.{lies_stands}
use Rattle.ts_store.specs.Images.{BeginSince, HasHeader, IsBetween, StandsForEither, StandsForMore, latest}
use Rattle.ts_store.specs.Stands.{Stands, IsSound, content_of}
use Rattle.ts_store.proofs.HistoryLaws.{event_counts}

-- a file that holds payloads has a header
header_before : (file : List ℕ) (mark : ℕ) (payloads : List (List ℕ)) (gate : ℕ) (rest : List ℕ) → file ≡ front mark payloads ++ gate ∷ rest → HasHeader file
header_before file mark [] gate rest is = record { mark = mark; gate = gate; rest = rest; begins = is }
header_before file mark (p ∷ payloads) gate rest is = record { mark = mark; gate = 1; rest = (body p ++ frames payloads) ++ gate ∷ rest; begins = is }

pub holds_header : (file : List ℕ) (content : Content) → Holds file content → HasHeader file
holds_header file content holds = header_before file holds.mark holds.all holds.gate holds.ignored holds.split

-- a file that holds the payloads of a history, with the bytes of one more event or without it
pub either_stands : (version : Version) (h : History) (e : Event) (payload c : List ℕ) → IsSound h → IsSound (h ▸ e) → payload ≡ spelling.event e → WithOrWithout version (content_of h) payload c
    → StandsForEither h (h ▸ e) c
either_stands version h e payload c before after is (inl without) = inl (record { holds = without; sound = before })
either_stands version h e payload c before after is (inr with) = inr (record { holds = subst (StandsFor c) (ap (with_payload version (content_of h)) is ∙ event_counts version h e) with; sound = after })

pub either_more : (h g k : History) (c : List ℕ) → Begins h g → Begins h k → StandsForEither g k c → StandsForMore h c
either_more h g k c before after (inl stands) = record { all = g; stands = stands; begins = before }
either_more h g k c before after (inr stands) = record { all = k; stands = stands; begins = after }

-- the failed event comes last
pub begins_latest : (h : History) (failed : Option Event) → Begins h (latest h failed)
begins_latest h None = same
begins_latest h (Some e) = further same

-- an image between two histories stays between them as the later one grows
pub between_on : (opening opened seen now : History) (failed : Option Event) (c : List ℕ) → opened ≡ opening → Begins seen now → IsBetween opening seen None c → IsBetween opened now failed c
between_on opening opened seen now failed c is goes b = record {
  history = b.history;
  stands = b.stands;
  from = subst (λ (h : History). Begins h b.history) (sym is) b.from;
  upto = inl (⊎_elim (λ before. begins_trans before goes) (λ whole. subst (λ (h : History). Begins h now) (sym whole) goes) b.upto);
}

-- an image of the history before a call, or of that history with the last event
pub between_either : (opening before seen : History) (failed : Option Event) (c : List ℕ) → Begins opening before → Begins before seen → StandsForEither before (latest seen failed) c → IsBetween opening seen failed c
between_either opening before seen failed c from goes (inl stands) = record { history = before; stands = stands; from = from; upto = inl goes }
between_either opening before seen failed c from goes (inr stands) = record {
  history = latest seen failed;
  stands = stands;
  from = begins_trans from (begins_trans goes (begins_latest seen failed));
  upto = inr refl;
}

module _ {D : Type 0} (bytes : D → Option (List ℕ)) (may_leave : D → List ℕ → Type 0) (moment : D → ℕ) (left_since : D → ℕ → List ℕ → Type 0) where
  -- images that begin with a history still do
  pub begin_on : (old new : D) (P : List ℕ → Type 0) (t : ℕ) (h : History) → LeavesOnly moment left_since old new P → ((c : List ℕ) → P c → StandsForMore h c) → t ≤ moment old → BeginSince left_since old t h → BeginSince left_since new t h
  begin_on old new P t h run more le begin c left = ⊎_elim (begin c) (more c) (run.before t c le left)

-- the content of reads of a journal that didn't stop
pub shown_told : {D : Type 0} (bytes : D → Option (List ℕ)) (journal : Logged D) (h : History) → IsSound h → IsTold bytes journal (content_of h) → IsSomeAnd (bytes journal.disk) (λ file. Stands file h)
shown_told bytes journal h sound tells = some_is (bytes journal.disk) tells.file (λ file. Stands file h) tells.told (record { holds = lies_stands journal.standing journal.version tells.file journal.end (content_of h) tells.lies; sound = sound })
