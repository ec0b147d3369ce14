-- The payloads of a journal that count.
use Rattle.std.proofs.Common.{◌≡◌, ◌⊎◌, inl, inr, ⊎_elim, ◌||◌, ℕ, Bool, true, false, List, [], ◌∷◌, ◌++◌, length, take, refl, sym, ◌∙◌, ap, append_assoc}
use Rattle.std.specs.Prelude.{IsSome, is_some}
use Rattle.std.proofs.lemmas.Bool.{cond-true, cond-false, or_parts}
use Rattle.std.proofs.lemmas.List.{append-nil}
use Rattle.txn_journal.specs.Contents.{Content, IsFront, content_from, has_base, is_base, nothing, content_of_version_2, with_payload, with_payloads}
use Rattle.txn_journal.specs.Reading.{based_on, with_next}
use Rattle.txn_journal.specs.declared.versions.Version.{Version}
use Rattle.txn_journal.specs.declared.versions.Version.TheVariants.{One, Two}

-- ---- one payload more

pub base_counts : (version : Version) (content : Content) (payload : List ℕ) → is_base version payload ≡ true → with_payload version content payload ≡ based_on payload
base_counts version content payload is = cond-true _ (based_on payload) (with_next content payload) is

pub next_counts : (version : Version) (content : Content) (payload : List ℕ) → is_base version payload ≡ false → with_payload version content payload ≡ with_next content payload
next_counts version content payload is = cond-false _ (based_on payload) (with_next content payload) is

pub payloads_push : (version : Version) (content : Content) (payloads : List (List ℕ)) (payload : List ℕ)
    → with_payloads version content (payloads ++ payload ∷ []) ≡ with_payload version (with_payloads version content payloads) payload
payloads_push version content [] payload = refl
payloads_push version content (p ∷ payloads) payload = payloads_push version (with_payload version content p) payloads payload

pub payloads_join : (version : Version) (content : Content) (some more : List (List ℕ))
    → with_payloads version content (some ++ more) ≡ with_payloads version (with_payloads version content some) more
payloads_join version content [] more = refl
payloads_join version content (p ∷ some) more = payloads_join version (with_payload version content p) some more

-- ---- bases

pub head_and_rest : (version : Version) (payload : List ℕ) (payloads : List (List ℕ)) → has_base version (payload ∷ payloads) ≡ false → (is_base version payload ≡ false) × (has_base version payloads ≡ false)
head_and_rest version payload payloads none = or_parts (is_base version payload) (has_base version payloads) none

-- the first payload and the others are no bases if none of all is
pub none_of_either : (version : Version) (some more : List (List ℕ)) → has_base version (some ++ more) ≡ false → (has_base version some ≡ false) × (has_base version more ≡ false)
none_of_either version [] more none = (refl, none)
none_of_either version (p ∷ some) more none =
    let parts = head_and_rest version p (some ++ more) none in
    let rest = none_of_either version some more parts.1 in
    ((λ k. parts.0 k || rest.0 k), rest.1)

pub none_of_both : (version : Version) (some more : List (List ℕ)) → has_base version some ≡ false → has_base version more ≡ false → has_base version (some ++ more) ≡ false
none_of_both version [] more none_some none_more = none_more
none_of_both version (p ∷ some) more none_some none_more =
    let parts = head_and_rest version p some none_some in
    λ k. parts.0 k || none_of_both version some more parts.1 none_more k

pub none_of_one : (version : Version) (payload : List ℕ) → is_base version payload ≡ false → has_base version (payload ∷ []) ≡ false
none_of_one version payload is = λ k. is k || false

-- in version 1 there are no bases
pub none_in_one : (payloads : List (List ℕ)) → has_base One payloads ≡ false
none_in_one [] = refl
none_in_one (p ∷ payloads) = none_in_one payloads

-- one of these is the last base
pub record LastBase (version : Version) (all : List (List ℕ)) : Type 0 where
  pub before : List (List ℕ)
  pub payload : List ℕ
  pub behind : List (List ℕ)
  pub split : all ≡ (before ++ payload ∷ []) ++ behind
  pub base : is_base version payload ≡ true
  pub none : has_base version behind ≡ false

pub base_or_none : (version : Version) (all : List (List ℕ)) → (has_base version all ≡ false) ⊎ LastBase version all
base_or_none version [] = inl refl
base_or_none version (p ∷ all) = ⊎_elim
    (λ none. by_kind (is_base version p) refl none)
    (λ some. inr (record { before = p ∷ some.before; payload = some.payload; behind = some.behind; split = ap (λ (l : List (List ℕ)). p ∷ l) some.split; base = some.base; none = some.none }))
    (base_or_none version all)
  where
    by_kind : (b : Bool) → is_base version p ≡ b → has_base version all ≡ false → (has_base version (p ∷ all) ≡ false) ⊎ LastBase version (p ∷ all)
    by_kind true is none = inr (record { before = []; payload = p; behind = all; split = refl; base = is; none = none })
    by_kind false is none = inl (λ k. is k || none k)

-- if there are no bases, all payloads count
pub all_counts : (version : Version) (content : Content) (payloads : List (List ℕ)) → has_base version payloads ≡ false
    → with_payloads version content payloads ≡ record { base = content.base; payloads = content.payloads ++ payloads }
all_counts version content [] none = λ k. record { base = content.base; payloads = sym (append-nil content.payloads) k }
all_counts version content (p ∷ payloads) none =
    let parts = head_and_rest version p payloads none in
    ap (λ (c : Content). with_payloads version c payloads) (next_counts version content p parts.0)
    ∙ all_counts version (with_next content p) payloads parts.1
    ∙ (λ k. record { base = content.base; payloads = append_assoc content.payloads (p ∷ []) payloads k })

-- the payloads after the last base aren't bases
none_behind : (version : Version) (content : Content) (payloads : List (List ℕ)) → has_base version content.payloads ≡ false → has_base version (with_payloads version content payloads).payloads ≡ false
none_behind version content [] none = none
none_behind version content (p ∷ payloads) none = none_behind version (with_payload version content p) payloads (by_kind (is_base version p) refl)
  where
    by_kind : (b : Bool) → is_base version p ≡ b → has_base version (with_payload version content p).payloads ≡ false
    by_kind true is = ap (λ (c : Content). has_base version c.payloads) (base_counts version content p is)
    by_kind false is =
        ap (λ (c : Content). has_base version c.payloads) (next_counts version content p is)
        ∙ none_of_both version content.payloads (p ∷ []) none (none_of_one version p is)

-- once there is a base, there always is one
base_stays : (version : Version) (content : Content) (payloads : List (List ℕ)) → IsSome content.base → IsSome (with_payloads version content payloads).base
base_stays version content [] some = some
base_stays version content (p ∷ payloads) some = base_stays version (with_payload version content p) payloads (by_kind (is_base version p) refl)
  where
    by_kind : (b : Bool) → is_base version p ≡ b → IsSome (with_payload version content p).base
    by_kind true is = ap (λ (c : Content). is_some c.base) (base_counts version content p is)
    by_kind false is = ap (λ (c : Content). is_some c.base) (next_counts version content p is) ∙ some

-- if there is no base, all payloads count
pub all_without_base : (version : Version) (content : Content) (payloads : List (List ℕ)) → (IsSome (with_payloads version content payloads).base → ⊥)
    → (with_payloads version content payloads).payloads ≡ content.payloads ++ payloads
all_without_base version content [] none = sym (append-nil content.payloads)
all_without_base version content (p ∷ payloads) none = by_kind (is_base version p) refl (all_without_base version (with_payload version content p) payloads none)
  where
    by_kind : (b : Bool) → is_base version p ≡ b
        → (with_payloads version (with_payload version content p) payloads).payloads ≡ (with_payload version content p).payloads ++ payloads
        → (with_payloads version (with_payload version content p) payloads).payloads ≡ content.payloads ++ p ∷ payloads
    by_kind true is more = absurd (none (base_stays version (with_payload version content p) payloads (ap (λ (c : Content). is_some c.base) (base_counts version content p is))))
    by_kind false is more =
        more
        ∙ ap (λ (c : Content). c.payloads ++ payloads) (next_counts version content p is)
        ∙ append_assoc content.payloads (p ∷ []) payloads

-- ---- another version

-- without a payload that would be a base, the version makes no difference
pub raised_same : (content : Content) → has_base Two content.payloads ≡ false → content_of_version_2 content ≡ content
raised_same content none = all_counts Two (record { base = content.base; payloads = [] }) content.payloads none

pub raised_one : (payloads : List (List ℕ)) → content_of_version_2 (content_from One payloads) ≡ content_from Two payloads
raised_one payloads = ap content_of_version_2 (all_counts One nothing payloads (none_in_one payloads))

pub raised_two : (payloads : List (List ℕ)) → content_of_version_2 (content_from Two payloads) ≡ content_from Two payloads
raised_two payloads = raised_same (content_from Two payloads) (none_behind Two nothing payloads refl)

-- ---- what begins with what

pub fronts_begin : (before payloads : List (List ℕ)) (payload : List ℕ) → take (length before) payloads ≡ before → take (length before) (payloads ++ payload ∷ []) ≡ before
fronts_begin [] payloads payload is = refl
fronts_begin (b ∷ before) [] payload is = absurd (cc is)
fronts_begin (b ∷ before) (p ∷ payloads) payload is =
    let same_head : p ≡ b = cc is in
    let same_rest : take (length before) payloads ≡ before = cc is in
    let rest = fronts_begin before payloads payload same_rest in
    λ k. same_head k ∷ rest k

-- content keeps its front with one more payload
pub next_begins : (before content : Content) (payload : List ℕ) → IsFront before content → IsFront before (with_next content payload)
next_begins before content payload is = record { base = is.base; payloads = fronts_begin before.payloads content.payloads payload is.payloads }
