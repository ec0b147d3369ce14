-- The content before a payload of a file, and the end of its frames.
use Rattle.std.proofs.Common.{◌≡◌, ◌≢◌, ◌⊎◌, inl, inr, ⊎_elim, ℕ, Bool, true, false, List, [], ◌∷◌, ◌++◌, length, refl, sym, ◌∙◌, ap, subst, arith, append_assoc, length-append}
use Rattle.std.proofs.lemmas.Bool.{cond-false}
use Rattle.std.proofs.lemmas.List.{append-nil, append_cancel_left}
use Rattle.txn_journal.specs.Contents.{Content, content_from, has_base, is_base, nothing, version_of, with_payload, with_payloads}
use Rattle.txn_journal.specs.Frames.{AllFit, Follows, IsShort, NoBaseBehind, body, counted_before, frames, front, magic}
use Rattle.txn_journal.specs.declared.versions.Version.{Version}
use Rattle.txn_journal.proofs.ContentLaws.{all_counts, base_counts, head_and_rest, none_of_either, payloads_join, payloads_push}
use Rattle.txn_journal.proofs.UniqueLaws.{begin_all, compared}

-- ---- lists of frames

frames-append : (some more : List (List ℕ)) (rest : List ℕ) → frames (some ++ more) ++ rest ≡ frames some ++ (frames more ++ rest)
frames-append [] more rest = refl
frames-append (p ∷ some) more rest = ap (λ (l : List ℕ). 1 ∷ l)
    (append_assoc (body p) (frames (some ++ more)) rest
    ∙ ap (λ (l : List ℕ). body p ++ l) (frames-append some more rest)
    ∙ sym (append_assoc (body p) (frames some) (frames more ++ rest)))

pub front-append : (mark : ℕ) (some more : List (List ℕ)) (rest : List ℕ) → front mark (some ++ more) ++ rest ≡ front mark some ++ (frames more ++ rest)
front-append mark some more rest = ap (λ (l : List ℕ). magic ++ mark ∷ l) (frames-append some more rest)

-- a commit byte follows frames
pub gate_behind : (more : List (List ℕ)) (gate : ℕ) (rest : List ℕ) → (g : ℕ) × ((r : List ℕ) × (frames more ++ gate ∷ rest ≡ g ∷ r))
gate_behind [] gate rest = (gate, (rest, refl))
gate_behind (p ∷ more) gate rest = (1, ((body p ++ frames more) ++ gate ∷ rest, refl))

-- if frames end after these payloads and others, none of which is a base, no base follows these
pub none_there : (file : List ℕ) (mark : ℕ) (some behind : List (List ℕ)) (gate : ℕ) (rest : List ℕ) → AllFit (some ++ behind) → (gate ≢ 1) ⊎ IsShort rest
    → file ≡ front mark (some ++ behind) ++ gate ∷ rest → has_base (version_of mark) behind ≡ false → NoBaseBehind file mark some
none_there file mark some behind gate rest fit stops is none more g r fit_more is_more =
    let all = (begin_all file mark mark (some ++ more) (some ++ behind) g gate r rest fit_more fit stops is_more is).1 in
    let same : behind ≡ more ++ all.0 = append_cancel_left some behind (more ++ all.0) (all.1 ∙ append_assoc some more all.0) in
    (none_of_either (version_of mark) more all.0 (ap (has_base (version_of mark)) (sym same) ∙ none)).0

-- ---- a payload that follows

-- content that is other content with more payloads
abbrev pub GoesOn : Content → Content → List (List ℕ) → Type 0
GoesOn from to more = to ≡ record { base = from.base; payloads = from.payloads ++ more }

-- the content with a payload that follows is the content of the payloads up to it
counted_with : (file : List ℕ) (version : Version) (content : Content) (payload : List ℕ) (at : ℕ) → (follows : Follows file version content payload at)
    → content_from version (follows.before ++ payload ∷ []) ≡ with_payload version content payload
counted_with file version content payload at follows = payloads_push version nothing follows.before payload ∙ by_kind (is_base version payload) refl
  where
    by_kind : (b : Bool) → is_base version payload ≡ b → with_payload version (content_from version follows.before) payload ≡ with_payload version content payload
    by_kind true is = base_counts version (content_from version follows.before) payload is ∙ sym (base_counts version content payload is)
    by_kind false is = ap (λ (c : Content). with_payload version c payload) (sym (follows.counts ∙ cond-false _ nothing (content_from version follows.before) is))

-- the content of payloads that begin with those up to one that follows
module _ (file : List ℕ) (version : Version) (content : Content) (payload : List ℕ) (at : ℕ) (follows : Follows file version content payload at) where
  upto_goes_on : (more : List (List ℕ)) → has_base version more ≡ false → GoesOn (with_payload version content payload) (content_from version ((follows.before ++ payload ∷ []) ++ more)) more
  upto_goes_on more none =
      payloads_join version nothing (follows.before ++ payload ∷ []) more
      ∙ ap (λ (c : Content). with_payloads version c more) (counted_with file version content payload at follows)
      ∙ all_counts version (with_payload version content payload) more none

  none_more : (more : List (List ℕ)) (gate : ℕ) (rest : List ℕ) → AllFit ((follows.before ++ payload ∷ []) ++ more) → file ≡ front follows.mark ((follows.before ++ payload ∷ []) ++ more) ++ gate ∷ rest → has_base version more ≡ false
  none_more more gate rest fit split = ap (λ (v : Version). has_base v more) (sym follows.of_version) ∙ follows.last more gate rest fit split

  -- at the end of a file's frames, its content is the content with the payload, and more payloads
  pub ends_behind : (mark : ℕ) (all : List (List ℕ)) (gate : ℕ) (rest : List ℕ) → AllFit all → (gate ≢ 1) ⊎ IsShort rest → file ≡ front mark all ++ gate ∷ rest
      → (more : List (List ℕ)) × GoesOn (with_payload version content payload) (content_from (version_of mark) all) more
  ends_behind mark all gate rest fit stops split =
      let whole = begin_all file follows.mark mark (follows.before ++ payload ∷ []) all follows.gate gate follows.rest rest follows.fit fit stops follows.split split in
      let more = whole.1.0 in
      let there : file ≡ front follows.mark ((follows.before ++ payload ∷ []) ++ more) ++ gate ∷ rest = split ∙ (λ k. front (sym whole.0 k) (whole.1.1 k) ++ gate ∷ rest) in
      let none = none_more more gate rest (subst AllFit whole.1.1 fit) there in
      (more, (λ k. content_from (version_of (sym whole.0 k)) (whole.1.1 k)) ∙ ap (λ (v : Version). content_from v ((follows.before ++ payload ∷ []) ++ more)) follows.of_version ∙ upto_goes_on more none)

-- ---- lists that end with one more

pub last_apart : {A : Type 0} (xs ys : List A) (x y : A) → xs ++ (x ∷ []) ≡ ys ++ (y ∷ []) → (xs ≡ ys) × (x ≡ y)
last_apart [] [] x y is = (refl, cc is)
last_apart [] (b ∷ ys) x y is = absurd (omega (arith, ap length is, length-append ys (y ∷ [])))
last_apart (a ∷ xs) [] x y is = absurd (omega (arith, ap length is, length-append xs (x ∷ [])))
last_apart (a ∷ xs) (b ∷ ys) x y is =
    let rest : xs ++ (x ∷ []) ≡ ys ++ (y ∷ []) = cc is in
    let first : a ≡ b = cc is in
    let parts = last_apart xs ys x y rest in
    ((λ k. first k ∷ parts.0 k), parts.1)

-- a list is empty, or ends with one more
abbrev pub LastOf : List (List ℕ) → Type 0
LastOf xs = (xs ≡ []) ⊎ ((init : List (List ℕ)) × ((last : List ℕ) × (xs ≡ init ++ last ∷ [])))

pub last_of : (xs : List (List ℕ)) → LastOf xs
last_of [] = inl refl
last_of (x ∷ xs) = inr (⊎_elim
    (λ none. ([], (x, ap (λ (l : List (List ℕ)). x ∷ l) none)))
    (λ more. (x ∷ more.0, (more.1.0, ap (λ (l : List (List ℕ)). x ∷ l) more.1.1)))
    (last_of xs))

-- ---- two payloads that follow

-- they are the same, at the same place
abbrev pub SameThere : (file : List ℕ) (a b : Content) (w u : List ℕ) (p q : ℕ) → Type 0
SameThere file a b w u p q = (a ≡ b) × (w ≡ u) × (p ≡ q)

-- the second follows the first, so the content before it is the content with the first, and more payloads
abbrev pub Beyond : Version → Content → List ℕ → Content → Type 0
Beyond version a w b = (more : List (List ℕ)) × GoesOn (with_payload version a w) b more

-- the first of the two is among the payloads up to the second
later_of : (file : List ℕ) (va vb : Version) (a b : Content) (w u : List ℕ) (p q : ℕ) → (x : Follows file va a w p) → (y : Follows file vb b u q) → x.mark ≡ y.mark
    → (more : List (List ℕ)) → y.before ++ u ∷ [] ≡ (x.before ++ w ∷ []) ++ more → SameThere file a b w u p q ⊎ Beyond va a w b
later_of file va vb a b w u p q x y marks more is = ⊎_elim
    (λ none.
    let parts = last_apart y.before x.before u w (is ∙ ap (λ (l : List (List ℕ)). (x.before ++ w ∷ []) ++ l) none ∙ append-nil (x.before ++ w ∷ [])) in
    inl (
      x.counts ∙ (λ k. counted_before (versions k) (sym parts.0 k) (sym parts.1 k)) ∙ sym y.counts,
      sym parts.1,
      x.place ∙ (λ k. length (front (marks k) (sym parts.0 k))) ∙ sym y.place,
    ))
    (λ some.
    let parts = last_apart y.before ((x.before ++ w ∷ []) ++ some.0) u some.1.0
    (is ∙ ap (λ (l : List (List ℕ)). (x.before ++ w ∷ []) ++ l) some.1.1 ∙ sym (append_assoc (x.before ++ w ∷ []) some.0 (some.1.0 ∷ []))) in
    let none = none_more file va a w p x more y.gate y.rest (subst AllFit is y.fit) (y.split ∙ (λ k. front (sym marks k) (is k) ++ y.gate ∷ y.rest)) in
    let kinds = none_of_either va some.0 (some.1.0 ∷ []) (ap (has_base va) (sym some.1.1) ∙ none) in
    let plain : is_base vb u ≡ false = (λ k. is_base (sym versions k) (parts.1 k)) ∙ (head_and_rest va some.1.0 [] kinds.1).0 in
    let counts : b ≡ content_from va ((x.before ++ w ∷ []) ++ some.0) = y.counts ∙ cond-false _ nothing (content_from vb y.before) plain ∙ (λ k. content_from (sym versions k) (parts.0 k)) in
    inr (some.0, counts ∙ upto_goes_on file va a w p x some.0 kinds.0))
    (last_of more)
  where
    versions : va ≡ vb
    versions = sym x.of_version ∙ ap version_of marks ∙ y.of_version

pub follow_apart : (file : List ℕ) (va vb : Version) (a b : Content) (w u : List ℕ) (p q : ℕ) → Follows file va a w p → Follows file vb b u q
    → SameThere file a b w u p q ⊎ (Beyond va a w b ⊎ Beyond vb b u a)
follow_apart file va vb a b w u p q x y =
    let both = compared file x.mark y.mark (x.before ++ w ∷ []) (y.before ++ u ∷ []) x.gate y.gate x.rest y.rest x.fit y.fit x.split y.split in
    ⊎_elim
    (λ more. ⊎_elim inl (λ beyond. inr (inl beyond)) (later_of file va vb a b w u p q x y both.0 more.0 more.1))
    (λ more. ⊎_elim (λ same. inl (sym same.0, sym same.1, sym same.2)) (λ beyond. inr (inr beyond)) (later_of file vb va b a u w q p y x (sym both.0) more.0 more.1))
    both.1
