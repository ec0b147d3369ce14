-- A journal contains one history, or is damaged at one place.
use Rattle.std.proofs.Common.{◌≡◌, inl, inr, ⊎_elim, ℕ, ◌≤◌, true, List, [], ◌∷◌, ◌++◌, length, refl, sym, ◌∙◌, ap, subst, arith, append_assoc, length-append}
use Rattle.std.proofs.lemmas.List.{append-nil}
use Rattle.std.proofs.lemmas.Bool.{and_parts}
use Rattle.ts_model.specs.Allowed.{all_allowed, allowed}
use Rattle.ts_model.specs.History.{History, start, resumed, ◌▸◌, Begins, same, further}
use Rattle.event_codec.specs.Spelling as spelling
use Rattle.txn_journal.specs.Contents.{Content}
use Rattle.txn_journal.specs.Frames.{Follows, IsDamaged, body, frames}
use Rattle.txn_journal.specs.declared.versions.Version.{Version}
use Rattle.txn_journal.proofs.ContentLaws.{base_counts, next_counts}
use Rattle.txn_journal.proofs.FollowsLaws.{Beyond, ends_behind, follow_apart, last_apart, last_of}
use Rattle.txn_journal.proofs.FrameLaws.{front-push}
use Rattle.txn_journal.proofs.UniqueLaws.{stands_once, damaged_or_not, damaged_once, begins_magic}
use Rattle.ts_store.specs.Stands.{Stands, IsSound, IsWrong, IsNeither, IsNoEvent, base_of, content_of, payloads_of}
use Rattle.ts_store.specs.Laws.{StandsOnce, StandsOrDamaged, DamagedOnce}
use Rattle.ts_store.proofs.HistoryLaws.{base_is_image, content_once, sound_begins}

pub journals_stand_once : StandsOnce
journals_stand_once file g h a b =
    let one = stands_once file (content_of g) (content_of h) a.holds b.holds in
    content_once g h a.sound b.sound (ap (λ (c : Content). c.base) one) (ap (λ (c : Content). c.payloads) one)

-- ---- the beginning of a journal's content

-- a history whose events begin with these payloads begins with a history of them
pub record HasFront (h : History) (xs : List (List ℕ)) : Type 0 where
  pub part : History
  pub begins : Begins part h
  pub base : base_of part ≡ base_of h
  pub payloads : payloads_of part ≡ xs

none_of : (xs more : List (List ℕ)) → [] ≡ xs ++ more → [] ≡ xs
none_of [] more is = refl
none_of (x ∷ xs) more is = absurd (cc is)

front_of : (h : History) (xs more : List (List ℕ)) → payloads_of h ≡ xs ++ more → HasFront h xs
front_of start xs more is = record { part = start; begins = same; base = refl; payloads = none_of xs more is }
front_of (resumed i) xs more is = record { part = resumed i; begins = same; base = refl; payloads = none_of xs more is }
front_of (h ▸ e) xs more is = ⊎_elim
    (λ none. record { part = h ▸ e; begins = same; base = refl; payloads = is ∙ ap (λ (l : List (List ℕ)). xs ++ l) none ∙ append-nil xs })
    (λ some.
    let parts = last_apart (payloads_of h) (xs ++ some.0) (spelling.event e) some.1.0 (is ∙ ap (λ (l : List (List ℕ)). xs ++ l) some.1.1 ∙ sym (append_assoc xs some.0 (some.1.0 ∷ []))) in
    let before = front_of h xs some.0 parts.0 in
    record { part = before.part; begins = further before.begins; base = before.base; payloads = before.payloads })
    (last_of more)

-- a history with the same base, these payloads and one more has the event of that last one next
no_front : (g h : History) (w : List ℕ) → IsSound g → IsSound h → base_of g ≡ base_of h → payloads_of g ≡ payloads_of h ++ w ∷ [] → IsNoEvent h w → ⊥
no_front start h w sg sh base is none = absurd (omega (arith, ap length is, length-append (payloads_of h) (w ∷ [])))
no_front (resumed i) h w sg sh base is none = absurd (omega (arith, ap length is, length-append (payloads_of h) (w ∷ [])))
no_front (g ▸ e) h w sg sh base is none =
    let parts = last_apart (payloads_of g) (payloads_of h) (spelling.event e) w is in
    let before = content_once g h (sound_begins (further same) sg) sh base parts.0 in
    none e (record { spelled = sym parts.1; formed = sg.formed.1; fits = subst (λ (x : History). allowed x e ≡ true) before (and_parts (all_allowed g) (allowed g e) sg.allowed).1 })

no_wrong : (g h : History) (w : List ℕ) (more : List (List ℕ)) → IsSound g → IsSound h → base_of g ≡ base_of h → payloads_of g ≡ (payloads_of h ++ w ∷ []) ++ more → IsNoEvent h w → ⊥
no_wrong g h w more sg sh base is none =
    let f = front_of g (payloads_of h ++ w ∷ []) more is in
    no_front f.part h w (sound_begins f.begins sg) sh (f.base ∙ base) f.payloads none

-- the content of a sound history doesn't continue that of another by a payload that is neither an event nor an
-- image
no_beyond : (version : Version) (g h : History) (w : List ℕ) → IsSound g → IsSound h → IsNeither version h w → Beyond version (content_of h) w (content_of g) → ⊥
no_beyond version g h w sg sh (inl no_image) beyond =
    base_is_image g w sg (ap (λ (c : Content). c.base) (beyond.1 ∙ ap (λ (c : Content). record { base = c.base; payloads = c.payloads ++ beyond.0 }) (base_counts version (content_of h) w no_image.0))) no_image.1
no_beyond version g h w sg sh (inr no_event) beyond =
    let counts : content_of g ≡ record { base = base_of h; payloads = (payloads_of h ++ w ∷ []) ++ beyond.0 } =
    beyond.1 ∙ ap (λ (c : Content). record { base = c.base; payloads = c.payloads ++ beyond.0 }) (next_counts version (content_of h) w no_event.0) in
    no_wrong g h w beyond.0 sg sh (ap (λ (c : Content). c.base) counts) (ap (λ (c : Content). c.payloads) counts) no_event.1

-- ---- a file that contains a history isn't damaged

-- a payload is after nine bytes
long_before : (file : List ℕ) (version : Version) (content : Content) (payload : List ℕ) (at : ℕ) → Follows file version content payload at → length file ≤ 9 → ⊥
long_before file version content payload at follows short =
    absurd (omega (arith, short, ap length (follows.split ∙ front-push follows.mark follows.before payload (follows.gate ∷ follows.rest)), length-append (frames follows.before) (1 ∷ (body payload ++ follows.gate ∷ follows.rest)), length-append (body payload) (follows.gate ∷ follows.rest)))

apart_wrong : (file : List ℕ) (g h : History) (at : ℕ) → Stands file g → IsSound h → IsWrong file h at → ⊥
apart_wrong file g h at a sound wrong = ⊎_elim
    (λ short. long_before file wrong.version (content_of h) wrong.payload at wrong.follows short.0)
    (λ holds.
    let more = ends_behind file wrong.version (content_of h) wrong.payload at wrong.follows holds.mark holds.all holds.gate holds.ignored holds.fit (inl holds.closed) holds.split in
    no_beyond wrong.version g h wrong.payload a.sound sound wrong.neither (more.0, holds.counts ∙ more.1))
    a.holds

pub journals_stand_or_are_damaged : StandsOrDamaged
journals_stand_or_are_damaged file g at a damaged =
    let d = damaged.damage in
    ⊎_elim (damaged_or_not file (content_of g) (content_of damaged.history) at a.holds) (apart_wrong file g damaged.history at a d.sound) d.broken

-- ---- a file is damaged at one place

-- a file that breaks off after the events of one history isn't damaged after those of another
apart_broken : (file : List ℕ) (g h : History) (p q : ℕ) → IsSound g → IsSound h → IsDamaged file (content_of g) p → IsWrong file h q → ⊥
apart_broken file g h p q sg sh damaged wrong = ⊎_elim
    (λ foreign. foreign.begins (begins_magic file wrong.follows.mark (wrong.follows.before ++ wrong.payload ∷ []) (wrong.follows.gate ∷ wrong.follows.rest) wrong.follows.split))
    (λ broken.
    let more = ends_behind file wrong.version (content_of h) wrong.payload q wrong.follows broken.mark broken.all 1 broken.rest broken.fit (inr broken.short) broken.split in
    no_beyond wrong.version g h wrong.payload sg sh wrong.neither (more.0, broken.counts ∙ more.1))
    damaged.broken

wrong_once : (file : List ℕ) (g h : History) (p q : ℕ) → IsSound g → IsSound h → IsWrong file g p → IsWrong file h q → p ≡ q
wrong_once file g h p q sg sh a b = ⊎_elim
    (λ same. same.2)
    (λ apart. absurd (⊎_elim (no_beyond a.version h g a.payload sh sg a.neither) (no_beyond b.version g h b.payload sg sh b.neither) apart))
    (follow_apart file a.version b.version (content_of g) (content_of h) a.payload b.payload p q a.follows b.follows)

pub journals_are_damaged_once : DamagedOnce
journals_are_damaged_once file p q a b =
    let x = a.damage in
    let y = b.damage in
    ⊎_elim
    (λ one. ⊎_elim
    (λ other. (damaged_once file (content_of a.history) (content_of b.history) p q one other).1)
    (λ wrong. absurd (apart_broken file a.history b.history p q x.sound y.sound one wrong))
    y.broken)
    (λ wrong. ⊎_elim
    (λ other. absurd (apart_broken file b.history a.history q p y.sound x.sound other wrong))
    (λ other. wrong_once file a.history b.history p q x.sound y.sound wrong other)
    y.broken)
    x.broken
