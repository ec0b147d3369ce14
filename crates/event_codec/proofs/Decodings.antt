-- Decoding is exact.
use Rattle.std.proofs.Common.{◌≡◌, ℕ, ◌≤◌, ◌-◌, List, [], ◌∷◌, ◌++◌, length, length-append, take, drop, Ok, Err, refl, sym, ap, subst, ◌∙◌, append_assoc, arith, inl, inr}
use Rattle.std.proofs.lemmas.List.{append-nil, take_at, take-append-drop, length-drop}
use Rattle.ts_model.specs.declared.events.Event.{Event}
use Rattle.event_codec.specs.Decoding.{BeginsEvent}
use Rattle.event_codec.specs.Formed.{IsFormed}
use Rattle.event_codec.specs.Spelling as spelling
use Rattle.event_codec.specs.Reading.{event_at, at_end, whole_event}
use Rattle.event_codec.proofs.Formats.{Begins, Viable, parted, went_on, stopped, done, same_value, same_left}
use Rattle.event_codec.proofs.EventLaws.{event_format}

-- no event's bytes are a prefix of another's
pub same_event : (d e : Event) (x y : List ℕ) → IsFormed d → IsFormed e → spelling.event d ++ x ≡ spelling.event e ++ y → (d ≡ e) × (x ≡ y)
same_event d e x y f g h =
    let both : done d x ≡ done e y = sym (event_format.again d x f) ∙ ap event_at h ∙ event_format.again e y g in
    (same_value d e x y both, same_left d e x y both)

pub no_prefix : (d e : Event) (more : List ℕ) → IsFormed d → IsFormed e → spelling.event e ≡ spelling.event d ++ more → (d ≡ e) × (more ≡ [])
no_prefix d e more f g h = same_event d e more [] f g (sym h ∙ sym (append-nil (spelling.event e)))

-- ---- an event is decoded

ended : (e d : Event) (left end : List ℕ) → at_end e left ≡ Ok (d, end) → (e ≡ d) × (left ≡ [])
ended e d [] end h = (same_value e d [] end h, refl)
ended e d (b ∷ left) end h = absurd cc

whole : (bytes : List ℕ) (e : Event) (end : List ℕ) → whole_event bytes ≡ Ok (e, end) → IsFormed e × (bytes ≡ spelling.event e)
unfolding whole_event
whole bytes e end h =
    let w = went_on (event_at bytes) at_end (e, end) h in
    let last = ended w.0.0 e w.0.1 end w.2 in
    let read = event_format.takes bytes w.0.0 w.0.1 w.1 in
    (subst IsFormed last.0 read.ok, read.parts ∙ ap (λ (l : List ℕ). spelling.event w.0.0 ++ l) last.1 ∙ append-nil (spelling.event w.0.0) ∙ ap spelling.event last.0)

pub is_formed : (bytes : List ℕ) (e : Event) (end : List ℕ) → whole_event bytes ≡ Ok (e, end) → IsFormed e
is_formed bytes e end h = (whole bytes e end h).0

pub is_spelled : (bytes : List ℕ) (e : Event) (end : List ℕ) → whole_event bytes ≡ Ok (e, end) → bytes ≡ spelling.event e
is_spelled bytes e end h = (whole bytes e end h).1

-- ---- none is

-- the bytes left after the longest front that begins an event
record Fails (bytes left : List ℕ) : Type 0 where
  no_event : (e : Event) → IsFormed e → bytes ≡ spelling.event e → ⊥
  viable : Viable spelling.event IsFormed bytes left
  longest : (e : Event) (other : List ℕ) → IsFormed e → Begins bytes other (spelling.event e) → length left ≤ length other

not_ended : (e : Event) (left end : List ℕ) → at_end e left ≡ Err end → (left ≡ end) × (1 ≤ length left)
not_ended e [] end h = absurd cc
not_ended e (b ∷ left) end h = (cc, omega arith)

pub is_read : (e : Event) → IsFormed e → event_at (spelling.event e) ≡ Ok (e, [])
is_read e f = ap event_at (sym (append-nil (spelling.event e))) ∙ event_format.again e [] f

fails : (bytes left : List ℕ) → whole_event bytes ≡ Err left → Fails bytes left
unfolding whole_event
fails bytes left h = elim (stopped (event_at bytes) at_end left h) [
  | inl f ↦ record {
    no_event = λ e g is. let read : event_at bytes ≡ Ok (e, []) = ap event_at is ∙ is_read e g in absurd cc;
    viable = event_format.viable bytes left f;
    longest = event_format.longest bytes left f;
  }
  | inr w ↦
      let read = event_format.takes bytes w.0.0 w.0.1 w.1 in
      let last = not_ended w.0.0 w.0.1 left w.2 in
      let parts : bytes ≡ spelling.event w.0.0 ++ left = read.parts ∙ ap (λ (l : List ℕ). spelling.event w.0.0 ++ l) last.0 in
      record {
        no_event = λ e g is.
            let same = no_prefix w.0.0 e left read.ok g (sym is ∙ parts) in
            omega (arith, ap length same.1, ap length last.0, last.1);
        viable = record { value = w.0.0; ok = read.ok; begins = record { front = spelling.event w.0.0; more = []; parts = parts; begun = sym (append-nil (spelling.event w.0.0)) } };
        longest = λ e other g begins. elim (parted (spelling.event w.0.0) left begins.front other (sym parts ∙ begins.parts)) [
          | inl longer ↦
              let same = no_prefix w.0.0 e (longer.0 ++ begins.more) read.ok g (begins.begun ∙ ap (λ (t : List ℕ). t ++ begins.more) longer.1 ∙ append_assoc (spelling.event w.0.0) longer.0 begins.more) in
              omega (arith, ap length same.1, length-append longer.0 begins.more, ap length longer.2, length-append longer.0 other)
          | inr shorter ↦ omega (arith, ap length shorter.2, length-append shorter.0 left)
        ];
      }
]

pub is_no_event : (bytes left : List ℕ) → whole_event bytes ≡ Err left → (e : Event) → IsFormed e → bytes ≡ spelling.event e → ⊥
is_no_event bytes left h = (fails bytes left h).no_event

pub is_within : (bytes left : List ℕ) → whole_event bytes ≡ Err left → length left ≤ length bytes
is_within bytes left h =
    let v = (fails bytes left h).viable in
    omega (arith, ap length v.begins.parts, length-append v.begins.front left)

pub is_begun : (bytes left : List ℕ) → whole_event bytes ≡ Err left → BeginsEvent (take (length bytes - length left) bytes)
is_begun bytes left h =
    let v = (fails bytes left h).viable in
    let count : length v.begins.front ≡ length bytes - length left = omega (arith, ap length v.begins.parts, length-append v.begins.front left) in
    let front : take (length bytes - length left) bytes ≡ v.begins.front = ap (take (length bytes - length left)) v.begins.parts ∙ take_at v.begins.front left (length bytes - length left) count in
    record { event = v.value; formed = v.ok; more = v.begins.more; spelled = v.begins.begun ∙ ap (λ (t : List ℕ). t ++ v.begins.more) (sym front) }

pub is_longest : (bytes left : List ℕ) → whole_event bytes ≡ Err left → (m : ℕ) → m ≤ length bytes → BeginsEvent (take m bytes) → m ≤ length bytes - length left
is_longest bytes left h m l b =
    let f = fails bytes left h in
    let more = f.longest b.event (drop m bytes) b.formed (record { front = take m bytes; more = b.more; parts = sym (take-append-drop m bytes); begun = b.spelled }) in
    omega (arith, more, l, length-drop m bytes)
