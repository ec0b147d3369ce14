-- A file has one content, and one content before its damage.
use Rattle.std.proofs.Common.{◌≡◌, ◌≢◌, ◌⊎◌, inl, inr, ⊎_elim, ℕ, ◌<◌, ◌≤◌, List, [], ◌∷◌, ◌++◌, length, take, drop, get_or, refl, sym, ◌∙◌, ap, subst, arith, append_assoc, length-append}
use Rattle.std.proofs.lemmas.List.{take_at, drop_at}
use Rattle.std.proofs.lemmas.Nat.{from_le_bytes-to_le_bytes_4}
use Rattle.std.specs.Int.{w32, to_le_bytes, from_le_bytes}
use Rattle.txn_journal.specs.Contents.{Content, content_from, nothing, version_of}
use Rattle.txn_journal.specs.Frames.{AllFit, Fits, Holds, StandsFor, IsDamaged, IsShort, body, frames, front, magic}
use Rattle.txn_journal.proofs.FrameLaws.{length-body}

-- the frames end here: the commit byte isn't 1, or too little follows it
abbrev pub Stops : ℕ → List ℕ → Type 0
Stops gate rest = (gate ≢ 1) ⊎ IsShort rest

-- a whole frame follows a commit byte of 1, so the frames don't end there
pub goes_on : (payload rest : List ℕ) → Fits payload → Stops 1 (body payload ++ rest) → 0 < length rest → ⊥
goes_on payload rest fits (inl shut) more = shut refl
goes_on payload rest fits (inr (inl few)) more = absurd (omega (arith, length-append (body payload) rest, length-body payload))
goes_on payload rest fits (inr (inr less)) more =
    let first : take 4 (body payload ++ rest) ≡ to_le_bytes w32 (length payload) =
    ap (take 4) (append_assoc (to_le_bytes w32 (length payload)) payload rest) ∙ take_at (to_le_bytes w32 (length payload)) (payload ++ rest) 4 refl in
    let count : from_le_bytes w32 (take 4 (body payload ++ rest)) ≡ length payload = ap (from_le_bytes w32) first ∙ from_le_bytes-to_le_bytes_4 (length payload) fits in
    absurd (omega (arith, less, count, length-append (body payload) rest, length-body payload))

-- two frames that begin alike hold the same payload
pub same_payload : (p q x y : List ℕ) → Fits p → Fits q → body p ++ x ≡ body q ++ y → (p ≡ q) × (x ≡ y)
same_payload p q x y fits_p fits_q is =
    let a : take 4 (body p ++ x) ≡ to_le_bytes w32 (length p) = ap (take 4) (append_assoc (to_le_bytes w32 (length p)) p x) ∙ take_at (to_le_bytes w32 (length p)) (p ++ x) 4 refl in
    let b : take 4 (body q ++ y) ≡ to_le_bytes w32 (length q) = ap (take 4) (append_assoc (to_le_bytes w32 (length q)) q y) ∙ take_at (to_le_bytes w32 (length q)) (q ++ y) 4 refl in
    let size : length p ≡ length q = sym (from_le_bytes-to_le_bytes_4 (length p) fits_p) ∙ ap (from_le_bytes w32) (sym a ∙ ap (take 4) is ∙ b) ∙ from_le_bytes-to_le_bytes_4 (length q) fits_q in
    let c : drop 4 (body p ++ x) ≡ p ++ x = ap (drop 4) (append_assoc (to_le_bytes w32 (length p)) p x) ∙ drop_at (to_le_bytes w32 (length p)) (p ++ x) 4 refl in
    let d : drop 4 (body q ++ y) ≡ q ++ y = ap (drop 4) (append_assoc (to_le_bytes w32 (length q)) q y) ∙ drop_at (to_le_bytes w32 (length q)) (q ++ y) 4 refl in
    let both : p ++ x ≡ q ++ y = sym c ∙ ap (drop 4) is ∙ d in (
      sym (take_at p x (length p) refl) ∙ ap (take (length p)) both ∙ take_at q y (length p) (sym size),
      sym (drop_at p x (length p) refl) ∙ ap (drop (length p)) both ∙ drop_at q y (length p) (sym size),
    )

-- two journals that are the same have the same byte of a version, and the same frames
same_front : (m n : ℕ) (a b : List (List ℕ)) (r s : List ℕ) → front m a ++ r ≡ front n b ++ s → (m ≡ n) × (frames a ++ r ≡ frames b ++ s)
same_front m n a b r s is = (ap (λ (l : List ℕ). get_or l 7 0) is, ap (drop 8) is)

frames_one : (a b : List (List ℕ)) (g h : ℕ) (r s : List ℕ) → AllFit a → AllFit b → Stops g r → Stops h s → frames a ++ g ∷ r ≡ frames b ++ h ∷ s → (a ≡ b) × (g ≡ h)
frames_one [] [] g h r s fit_a fit_b stop_g stop_h is = let same : g ≡ h = cc is in (refl, same)
frames_one [] (q ∷ b) g h r s fit_a fit_b stop_g stop_h is =
    let open_g : g ≡ 1 = cc is in
    let rest : r ≡ body q ++ frames b ++ h ∷ s = cc is in
    let rest_there : r ≡ body q ++ (frames b ++ h ∷ s) = rest ∙ append_assoc (body q) (frames b) (h ∷ s) in
    absurd (goes_on q (frames b ++ h ∷ s) fit_b.0 (subst (λ (l : List ℕ). Stops 1 l) rest_there (subst (λ (n : ℕ). Stops n r) open_g stop_g)) (omega (arith, length-append (frames b) (h ∷ s))))
frames_one (p ∷ a) [] g h r s fit_a fit_b stop_g stop_h is =
    let open_h : h ≡ 1 = cc is in
    let rest : s ≡ body p ++ frames a ++ g ∷ r = cc is in
    let rest_there : s ≡ body p ++ (frames a ++ g ∷ r) = rest ∙ append_assoc (body p) (frames a) (g ∷ r) in
    absurd (goes_on p (frames a ++ g ∷ r) fit_a.0 (subst (λ (l : List ℕ). Stops 1 l) rest_there (subst (λ (n : ℕ). Stops n s) open_h stop_h)) (omega (arith, length-append (frames a) (g ∷ r))))
frames_one (p ∷ a) (q ∷ b) g h r s fit_a fit_b stop_g stop_h is =
    let behind : body p ++ frames a ++ g ∷ r ≡ body q ++ frames b ++ h ∷ s = cc is in
    let parts = same_payload p q (frames a ++ g ∷ r) (frames b ++ h ∷ s) fit_a.0 fit_b.0 (sym (append_assoc (body p) (frames a) (g ∷ r)) ∙ behind ∙ append_assoc (body q) (frames b) (h ∷ s)) in
    let rest = frames_one a b g h r s fit_a.1 fit_b.1 stop_g stop_h parts.1 in
    ((λ k. parts.0 k ∷ rest.0 k), rest.1)

fronts_one : (file : List ℕ) (m n : ℕ) (a b : List (List ℕ)) (g h : ℕ) (r s : List ℕ) → AllFit a → AllFit b → Stops g r → Stops h s → file ≡ front m a ++ g ∷ r → file ≡ front n b ++ h ∷ s
    → (m ≡ n) × (a ≡ b) × (g ≡ h)
fronts_one file m n a b g h r s fit_a fit_b stop_g stop_h is_a is_b =
    let both = same_front m n a b (g ∷ r) (h ∷ s) (sym is_a ∙ is_b) in
    let rest = frames_one a b g h r s fit_a fit_b stop_g stop_h both.1 in
    (both.0, rest.0, rest.1)

-- ---- what precedes two commit bytes

-- the frames before one commit byte are the first of those before another, or the reverse
frames_compared : (a b : List (List ℕ)) (g h : ℕ) (r s : List ℕ) → AllFit a → AllFit b → frames a ++ g ∷ r ≡ frames b ++ h ∷ s
    → ((more : List (List ℕ)) × (b ≡ a ++ more)) ⊎ ((more : List (List ℕ)) × (a ≡ b ++ more))
frames_compared [] b g h r s fit_a fit_b is = inl (b, refl)
frames_compared (p ∷ a) [] g h r s fit_a fit_b is = inr (p ∷ a, refl)
frames_compared (p ∷ a) (q ∷ b) g h r s fit_a fit_b is =
    let behind : body p ++ frames a ++ g ∷ r ≡ body q ++ frames b ++ h ∷ s = cc is in
    let parts = same_payload p q (frames a ++ g ∷ r) (frames b ++ h ∷ s) fit_a.0 fit_b.0 (sym (append_assoc (body p) (frames a) (g ∷ r)) ∙ behind ∙ append_assoc (body q) (frames b) (h ∷ s)) in
    ⊎_elim
    (λ more. inl (more.0, λ k. sym parts.0 k ∷ more.1 k))
    (λ more. inr (more.0, λ k. parts.0 k ∷ more.1 k))
    (frames_compared a b g h r s fit_a.1 fit_b.1 parts.1)

-- if the frames end at the second commit byte, those before the first are the first of them
frames_begin : (a b : List (List ℕ)) (g h : ℕ) (r s : List ℕ) → AllFit a → AllFit b → Stops h s → frames a ++ g ∷ r ≡ frames b ++ h ∷ s → (more : List (List ℕ)) × (b ≡ a ++ more)
frames_begin [] b g h r s fit_a fit_b stop is = (b, refl)
frames_begin (p ∷ a) [] g h r s fit_a fit_b stop is =
    let open_h : h ≡ 1 = cc is in
    let rest : s ≡ body p ++ frames a ++ g ∷ r = cc is in
    let rest_there : s ≡ body p ++ (frames a ++ g ∷ r) = rest ∙ append_assoc (body p) (frames a) (g ∷ r) in
    absurd (goes_on p (frames a ++ g ∷ r) fit_a.0 (subst (λ (l : List ℕ). Stops 1 l) rest_there (subst (λ (n : ℕ). Stops n s) open_h stop)) (omega (arith, length-append (frames a) (g ∷ r))))
frames_begin (p ∷ a) (q ∷ b) g h r s fit_a fit_b stop is =
    let behind : body p ++ frames a ++ g ∷ r ≡ body q ++ frames b ++ h ∷ s = cc is in
    let parts = same_payload p q (frames a ++ g ∷ r) (frames b ++ h ∷ s) fit_a.0 fit_b.0 (sym (append_assoc (body p) (frames a) (g ∷ r)) ∙ behind ∙ append_assoc (body q) (frames b) (h ∷ s)) in
    let more = frames_begin a b g h r s fit_a.1 fit_b.1 stop parts.1 in
    (more.0, λ k. sym parts.0 k ∷ more.1 k)

pub compared : (file : List ℕ) (m n : ℕ) (a b : List (List ℕ)) (g h : ℕ) (r s : List ℕ) → AllFit a → AllFit b → file ≡ front m a ++ g ∷ r → file ≡ front n b ++ h ∷ s
    → (m ≡ n) × (((more : List (List ℕ)) × (b ≡ a ++ more)) ⊎ ((more : List (List ℕ)) × (a ≡ b ++ more)))
compared file m n a b g h r s fit_a fit_b is_a is_b =
    let both = same_front m n a b (g ∷ r) (h ∷ s) (sym is_a ∙ is_b) in
    (both.0, frames_compared a b g h r s fit_a fit_b both.1)

pub begin_all : (file : List ℕ) (m n : ℕ) (a b : List (List ℕ)) (g h : ℕ) (r s : List ℕ) → AllFit a → AllFit b → (h ≢ 1) ⊎ IsShort s → file ≡ front m a ++ g ∷ r → file ≡ front n b ++ h ∷ s
    → (m ≡ n) × ((more : List (List ℕ)) × (b ≡ a ++ more))
begin_all file m n a b g h r s fit_a fit_b stop is_a is_b =
    let both = same_front m n a b (g ∷ r) (h ∷ s) (sym is_a ∙ is_b) in
    (both.0, frames_begin a b g h r s fit_a fit_b stop both.1)

-- a file of at most nine bytes holds no payload
none_held : (file : List ℕ) (content : Content) → length file ≤ 9 → Holds file content → content ≡ nothing
none_held file content short holds = holds.counts ∙ ap (content_from (version_of holds.mark)) (none_of holds.all holds.split)
  where
    none_of : (all : List (List ℕ)) → file ≡ front holds.mark all ++ holds.gate ∷ holds.ignored → all ≡ []
    none_of [] split = refl
    none_of (p ∷ all) split =
        absurd (omega (arith, short, ap length split, length-append (frames (p ∷ all)) (holds.gate ∷ holds.ignored), length-append (body p) (frames all), length-body p))

-- the same payloads in the same version have the same content
same_counts : (m n : ℕ) (a b : List (List ℕ)) (c d : Content) → m ≡ n → a ≡ b → c ≡ content_from (version_of m) a → d ≡ content_from (version_of n) b → c ≡ d
same_counts m n a b c d marks all is_c is_d = is_c ∙ (λ k. content_from (version_of (marks k)) (all k)) ∙ sym is_d

pub stands_once : (file : List ℕ) (a b : Content) → StandsFor file a → StandsFor file b → a ≡ b
stands_once file a b (inl x) (inl y) = x.1 ∙ sym y.1
stands_once file a b (inl x) (inr y) = x.1 ∙ sym (none_held file b x.0 y)
stands_once file a b (inr x) (inl y) = none_held file a y.0 x ∙ sym y.1
stands_once file a b (inr x) (inr y) =
    let one = fronts_one file x.mark y.mark x.all y.all x.gate y.gate x.ignored y.ignored x.fit y.fit (inl x.closed) (inl y.closed) x.split y.split in
    same_counts x.mark y.mark x.all y.all a b one.0 one.1 x.counts y.counts

pub begins_magic : (file : List ℕ) (mark : ℕ) (payloads : List (List ℕ)) (rest : List ℕ) → file ≡ front mark payloads ++ rest → take 7 file ≡ magic
begins_magic file mark payloads rest is = ap (take 7) is

pub damaged_or_not : (file : List ℕ) (a b : Content) (at : ℕ) → StandsFor file a → IsDamaged file b at → ⊥
damaged_or_not file a b at (inl x) damage = absurd (omega (arith, x.0, damage.long))
damaged_or_not file a b at (inr x) damage = ⊎_elim
    (λ other. other.begins (begins_magic file x.mark x.all (x.gate ∷ x.ignored) x.split))
    (λ broken. x.closed (fronts_one file x.mark broken.mark x.all broken.all x.gate 1 x.ignored broken.rest x.fit broken.fit (inl x.closed) (inr broken.short) x.split broken.split).2)
    damage.broken

pub damaged_once : (file : List ℕ) (a b : Content) (p q : ℕ) → IsDamaged file a p → IsDamaged file b q → (a ≡ b) × (p ≡ q)
damaged_once file a b p q x y = ⊎_elim
    (λ one. ⊎_elim
    (λ other. (one.none ∙ sym other.none, one.place ∙ sym other.place))
    (λ other. absurd (one.begins (begins_magic file other.mark other.all (1 ∷ other.rest) other.split)))
    y.broken)
    (λ one. ⊎_elim
    (λ other. absurd (other.begins (begins_magic file one.mark one.all (1 ∷ one.rest) one.split)))
    (λ other.
    let same = fronts_one file one.mark other.mark one.all other.all 1 1 one.rest other.rest one.fit other.fit (inr one.short) (inr other.short) one.split other.split in
    (same_counts one.mark other.mark one.all other.all a b same.0 same.1 one.counts other.counts, one.place ∙ (λ k. length (front (same.0 k) (same.1 k))) ∙ sym other.place))
    y.broken)
    x.broken
