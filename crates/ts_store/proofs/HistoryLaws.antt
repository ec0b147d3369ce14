-- Histories and the bytes of their events.
use Rattle.std.proofs.Common.{◌≡◌, true, false, ℕ, List, [], ◌∷◌, length, Some, refl, sym, ◌∙◌, ap, subst, arith, length-append}
use Rattle.std.specs.Prelude.{IsTrue}
use Rattle.std.proofs.lemmas.Bool.{and_from}
use Rattle.std.proofs.lemmas.List.{append-nil}
use Rattle.ts_model.specs.declared.events.Event.{Event}
use Rattle.ts_model.specs.declared.events.Event.TheVariants.{Table, Hyper, View, Mode, Commit, Cut, Built}
use Rattle.ts_model.specs.declared.images.Image.{Image}
use Rattle.ts_model.specs.declared.rosters.Roster.{Roster}
use Rattle.ts_model.specs.Allowed.{allowed, all_allowed}
use Rattle.ts_model.specs.History.{History, start, resumed, ◌▸◌, Begins, same, further}
use Rattle.ts_model.proofs.AllowedLaws.{allowed_begins}
use Rattle.ts_model.specs.Valid.{image_roster, valid}
use Rattle.base_image.specs.Formed.{IsFormed as IsFormedImage}
use Rattle.base_image.specs.Reading.{whole_image}
use Rattle.base_image.specs.Spelling as images
use Rattle.base_image.proofs.PartLaws.{image_again}
use Rattle.base_image.proofs.ReadLaws.{readable}
use Rattle.event_codec.proofs.Formats.{same_value}
use Rattle.event_codec.specs.Formed.{IsFormed}
use Rattle.event_codec.specs.Spelling as spelling
use Rattle.event_codec.proofs.Decodings.{no_prefix}
use Rattle.txn_journal.specs.Contents.{is_base, with_payload}
use Rattle.txn_journal.specs.declared.versions.Version.{Version}
use Rattle.txn_journal.specs.declared.versions.Version.TheVariants.{One, Two}
use Rattle.txn_journal.proofs.ContentLaws.{next_counts}
use Rattle.txn_journal.proofs.FollowsLaws.{last_apart}
use Rattle.ts_store.specs.Stands.{base_of, content_of, payloads_of, AllFormed, IsSound, IsNoEvent, IsNoImage}

-- ---- the beginning of a history

pub formed_begins : {g h : History} → Begins g h → AllFormed h → AllFormed g
formed_begins same formed = formed
formed_begins (further b) formed = formed_begins b formed.0

pub sound_begins : {g h : History} → Begins g h → IsSound h → IsSound g
sound_begins b sound = record { allowed = allowed_begins b sound.allowed; formed = formed_begins b sound.formed }

pub sound_start : IsSound start
sound_start = record { allowed = refl; formed = tt }

-- one more event
pub sound_push : (h : History) (e : Event) → IsSound h → IsTrue (allowed h e) → IsFormed e → IsSound (h ▸ e)
sound_push h e sound fits formed = record { allowed = and_from (all_allowed h) (allowed h e) sound.allowed fits; formed = (sound.formed, formed) }

-- ---- the bytes of events

-- two events with the same bytes are the same
pub spelled_once : (d e : Event) → IsFormed d → IsFormed e → spelling.event d ≡ spelling.event e → d ≡ e
spelled_once d e fd fe is = sym (no_prefix e d [] fe fd (is ∙ sym (append-nil (spelling.event e)))).0

-- two valid images with the same bytes are the same
pub image_spelled_once : (i j : Image) → IsFormedImage i → IsFormedImage j → valid i ≡ true → valid j ≡ true → images.image i ≡ images.image j → i ≡ j
image_spelled_once i j fi fj vi vj is =
    ap (λ (x : Image × Roster). x.0)
    (same_value (i, image_roster i) (j, image_roster j) [] [] (sym (image_again i (readable i fi vi)) ∙ ap whole_image is ∙ image_again j (readable j fj vj)))

-- two sound histories with the same base and the same bytes of events are the same
pub content_once : (g h : History) → IsSound g → IsSound h → base_of g ≡ base_of h → payloads_of g ≡ payloads_of h → g ≡ h
content_once start start sg sh base is = refl
content_once start (resumed j) sg sh base is = absurd (cc base)
content_once (resumed i) start sg sh base is = absurd (cc base)
content_once (resumed i) (resumed j) sg sh base is =
    let bytes : images.image i ≡ images.image j = cc base in
    ap resumed (image_spelled_once i j sg.formed sh.formed sg.allowed sh.allowed bytes)
content_once start (h ▸ e) sg sh base is = absurd (omega (arith, ap length is, length-append (payloads_of h) (spelling.event e ∷ [])))
content_once (resumed i) (h ▸ e) sg sh base is = absurd (omega (arith, ap length is, length-append (payloads_of h) (spelling.event e ∷ [])))
content_once (g ▸ d) start sg sh base is = absurd (omega (arith, ap length is, length-append (payloads_of g) (spelling.event d ∷ [])))
content_once (g ▸ d) (resumed j) sg sh base is = absurd (omega (arith, ap length is, length-append (payloads_of g) (spelling.event d ∷ [])))
content_once (g ▸ d) (h ▸ e) sg sh base is =
    let parts = last_apart (payloads_of g) (payloads_of h) (spelling.event d) (spelling.event e) is in
    let before = content_once g h (sound_begins (further same) sg) (sound_begins (further same) sh) base parts.0 in
    let last = spelled_once d e sg.formed.1 sh.formed.1 parts.1 in
    (λ k. before k ▸ last k)

-- the base of a sound history is that of a valid image
pub base_is_image : (h : History) (payload : List ℕ) → IsSound h → base_of h ≡ Some payload → IsNoImage payload → ⊥
base_is_image start payload sound is none = absurd (cc is)
base_is_image (resumed i) payload sound is none =
    let bytes : payload ≡ images.image i = cc is in
    none i sound.formed sound.allowed bytes
base_is_image (h ▸ e) payload sound is none = base_is_image h payload (sound_begins (further same) sound) is none

pub sound_resumed : (i : Image) → IsFormedImage i → valid i ≡ true → IsSound (resumed i)
sound_resumed i formed is = record { allowed = is; formed = formed }

-- a payload is the bytes of one event, so if that event may not come next, no other may
pub no_other : (h : History) (e : Event) → IsFormed e → (allowed h e ≡ true → ⊥) → IsNoEvent h (spelling.event e)
no_other h e formed refused d next = refused (subst (λ (x : Event). allowed h x ≡ true) (sym (spelled_once e d formed next.formed next.spelled)) next.fits)

-- ---- the content of the bytes of events

-- no event is a base
pub no_event_is_base : (version : Version) (e : Event) → is_base version (spelling.event e) ≡ false
no_event_is_base One e = refl
no_event_is_base Two (Table def) = refl
no_event_is_base Two (Hyper table hyper) = refl
no_event_is_base Two (View def) = refl
no_event_is_base Two (Mode view only) = refl
no_event_is_base Two (Commit ops) = refl
no_event_is_base Two (Cut view span) = refl
no_event_is_base Two (Built cut snap) = refl

-- a payload that isn't a base counts along with the others
pub event_counts : (version : Version) (h : History) (e : Event) → with_payload version (content_of h) (spelling.event e) ≡ content_of (h ▸ e)
event_counts version h e = next_counts version (content_of h) (spelling.event e) (no_event_is_base version e)
