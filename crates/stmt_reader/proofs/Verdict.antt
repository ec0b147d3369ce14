-- The result of reading is what the grammar says, and a fault is the first error.
use Rattle.std.proofs.Common.{◌≡◌, ℕ, zero, suc, ◌+◌, ◌<◌, ◌≤◌, Bool, true, false, List, [], ◌∷◌, ◌++◌, length, Result, Ok, Err, refl, sym, ap, subst, ◌∙◌, append_assoc, arith, inl, inr}
use Rattle.std.specs.Prelude.{◌⊎◌}
use Rattle.std.proofs.lemmas.Bool.{both_ways}
use Rattle.std.proofs.lemmas.List.{append-nil}
use Rattle.stmt_tokens.specs.Tokens.{Token, Next, token, ended, nothing, next}
use Rattle.stmt_tokens.specs.Streams.{Placed, Stream, ends, stops, ◌then◌, onto, plain, size, place, scan, stream}
use Rattle.stmt_reader.specs.Reading as read
use Rattle.stmt_reader.specs.Reading.{gives, go_on, bind}
use Rattle.stmt_reader.specs.Grammar.{Rule, statement}
use Rattle.stmt_tokens.specs.Scan.{Seen}
use Rattle.stmt_reader.specs.Refusals.{is_fit, Begins, IsSaid, Refuses, First, Verdict, Comes, fault_place, IsSame, Judges, ReadsByTheGrammar}
use Rattle.stmt_reader.specs.Answers.{Answers}
use Rattle.std.specs.List.{AllByRecursion}
use Rattle.stmt_reader.specs.declared.reading.ReadStmt.{ReadStmt}
use Rattle.stmt_reader.specs.declared.reading.ReadStmt.TheVariants as reads
use Rattle.stmt_reader.specs.declared.faults.Fault.{Fault}
use Rattle.stmt_reader.specs.declared.faults.Fault.TheVariants.{NoToken, Syntax, BadNumber}
use Rattle.stmt_syntax.specs.declared.statements.Stmt.{Stmt}
use Rattle.stmt_tokens.proofs.Flow.{flow, scan_is_flow}
use Rattle.stmt_tokens.proofs.Lexemes.{NextFits, next_fits}
use Rattle.stmt_reader.proofs.Placed.{AllFit, no_misfit, misfit_is_bad_number, onto-append, plain-append, placed, plain-placed}
use Rattle.stmt_reader.proofs.Rules.{Found, Stuck, Agrees, Reads}
use Rattle.stmt_reader.proofs.FormRules.{whole, reads_whole}

-- ---- places rise

abbrev pub Rises : Stream → Type 0
Rises (ends p) = Unit {0}
Rises (stops p) = Unit {0}
Rises (t then s) = (t.at < place s) × Rises s

flow_place : (skip most : ℕ) (a : Next) (after : ℕ → Stream) → skip ≤ most → NextFits skip most a → skip + 1 ≤ place (flow skip a after)
flow_place skip most (token t begin end) after le f = omega arith
flow_place skip most ended after le f = omega arith
flow_place skip most (nothing begin) after le f = omega arith

scan_place : (n : ℕ) (text : List ℕ) (skip : ℕ) → skip ≤ length text → skip + 1 ≤ place (scan n text skip)
scan_place zero text skip le = omega arith
scan_place (suc n) text skip le = rw (scan_is_flow n text skip) (flow_place skip (length text) (next text skip) (scan n text) le (next_fits text skip le))

flow_rises : (skip most : ℕ) (a : Next) (after : ℕ → Stream) → NextFits skip most a → ((end : ℕ) → end ≤ most → (end + 1 ≤ place (after end)) × Rises (after end)) → Rises (flow skip a after)
flow_rises skip most (token t begin end) after f h = (omega (arith, (h end f.2).0), (h end f.2).1)
flow_rises skip most ended after f h = tt
flow_rises skip most (nothing begin) after f h = tt

scan_rises : (n : ℕ) (text : List ℕ) (skip : ℕ) → skip ≤ length text → Rises (scan n text skip)
scan_rises zero text skip le = tt
scan_rises (suc n) text skip le =
    rw (scan_is_flow n text skip) (flow_rises skip (length text) (next text skip) (scan n text) (next_fits text skip le) (λ end most. (scan_place n text end most, scan_rises n text end most)))

pub stream_rises : (text : List ℕ) (skip : ℕ) → skip ≤ length text → Rises (stream text skip)
unfolding stream
stream_rises text skip le = scan_rises (length text) text skip le

rises_onto : (ts : List Placed) (s : Stream) → Rises (onto ts s) → Rises s
rises_onto [] s r = r
rises_onto (t ∷ ts) s r = rises_onto ts s r.1

-- what comes later lies at a later place
later_place : (ts : List Placed) (s : Stream) → Rises (onto ts s) → (place (onto ts s) ≤ place s) × (place (onto ts s) ≡ place s → ts ≡ [])
later_place [] s r = (omega arith, λ _. refl)
later_place (t ∷ ts) s r =
    let k = later_place ts s r.1 in
    (omega (arith, k.0, r.0), λ e. absurd (omega (arith, k.0, r.0)))

-- ---- two ways to split a stream

-- the second part of one lies within that of the other
pub record Within (us : List Placed) (l : Stream) (ts : List Placed) (r : Stream) : Type 0 where
  pub between : List Placed
  pub front : ts ≡ us ++ between
  pub back : l ≡ onto between r

meet_more : (u t : Placed) (us ts : List Placed) (l r : Stream) → u ≡ t → Within us l ts r ⊎ Within ts r us l → Within (u ∷ us) l (t ∷ ts) r ⊎ Within (t ∷ ts) r (u ∷ us) l
meet_more u t us ts l r h (inl w) = inl (record { between = w.between; front = ap (λ x. t ∷ x) w.front ∙ ap (λ x. x ∷ (us ++ w.between)) (sym h); back = w.back })
meet_more u t us ts l r h (inr w) = inr (record { between = w.between; front = ap (λ x. u ∷ x) w.front ∙ ap (λ x. x ∷ (ts ++ w.between)) h; back = w.back })

pub meet : (us ts : List Placed) (l r : Stream) → onto us l ≡ onto ts r → Within us l ts r ⊎ Within ts r us l
meet [] ts l r e = inl (record { between = ts; front = refl; back = e })
meet (u ∷ us) [] l r e = inr (record { between = u ∷ us; front = refl; back = sym e })
meet (u ∷ us) (t ∷ ts) l r e =
    let h : u ≡ t = cc in
    let k : onto us l ≡ onto ts r = cc in
    meet_more u t us ts l r h (meet us ts l r k)

-- ---- a reading of a whole text by a rule

module _ {A : Type 0} (whole : read.Parser A) (L : Rule A) {on : Seen → Bool} (reads_whole : (n : ℕ) → Reads n whole L on) where
  -- ---- what was taken from the front of a stream is in order

  -- tokens that begin something of the rule, whose numbers are i64
  pub record Good (s : Stream) (taken : List Placed) (left : Stream) : Type 0 where
    pub split : s ≡ onto taken left
    pub begins : Begins L (plain taken)
    pub fit : AllFit taken

  -- a place that isn't before the end of what was taken
  pub record Behind (taken : List Placed) (left : Stream) (ts : List Placed) (r : Stream) : Type 0 where
    pub between : List Placed
    pub front : ts ≡ taken ++ between
    pub back : left ≡ onto between r

  fit_at : (ts xs : List Placed) (t : Placed) → AllFit (ts ++ t ∷ xs) → is_fit t.token ≡ true
  fit_at [] xs t f = f.0
  fit_at (y ∷ ts) xs t f = fit_at ts xs t f.1

  begins_front : (us vs : List Token) → Begins L (us ++ vs) → Begins L us
  begins_front us vs b = (vs ++ b.0, b.1, subst (λ x. L x b.1) (append_assoc us vs b.0) b.2)

  begins_before : (ts xs : List Placed) (t : Placed) → Begins L (plain (ts ++ t ∷ xs)) → Begins L (plain ts ++ t.token ∷ [])
  begins_before ts xs t b =
      begins_front (plain ts ++ t.token ∷ []) (plain xs) (subst (λ x. Begins L x) (plain-append ts (t ∷ xs) ∙ sym (append_assoc (plain ts) (t.token ∷ []) (plain xs))) b)

  behind_in : (taken ts : List Placed) (left r : Stream) (between : List Placed) → ((x : Placed) (xs : List Placed) → taken ≡ ts ++ x ∷ xs → r ≡ x then (onto xs left) → ⊥) → taken ≡ ts ++ between → r ≡ onto between left → Behind taken left ts r
  behind_in taken ts left r [] never front back = record { between = []; front = sym (append-nil ts) ∙ sym front ∙ sym (append-nil taken); back = sym back }
  behind_in taken ts left r (x ∷ xs) never front back = absurd (never x xs front back)

  behind_at : (taken ts : List Placed) (left r : Stream) → ((x : Placed) (xs : List Placed) → taken ≡ ts ++ x ∷ xs → r ≡ x then (onto xs left) → ⊥) → Within taken left ts r ⊎ Within ts r taken left → Behind taken left ts r
  behind_at taken ts left r never (inl w) = record { between = w.between; front = w.front; back = w.back }
  behind_at taken ts left r never (inr w) = behind_in taken ts left r w.between never w.front w.back

  -- a token that can't be among those taken is after them
  behind : (s : Stream) (taken ts : List Placed) (left r : Stream) → Good s taken left → s ≡ onto ts r → ((x : Placed) (xs : List Placed) → taken ≡ ts ++ x ∷ xs → r ≡ x then (onto xs left) → ⊥) → Behind taken left ts r
  behind s taken ts left r g e never = behind_at taken ts left r never (meet taken ts left r (sym g.split ∙ e))

  stops_behind : (s : Stream) (taken ts : List Placed) (left : Stream) (p : ℕ) → Good s taken left → s ≡ onto ts (stops p) → Behind taken left ts (stops p)
  stops_behind s taken ts left p g e = behind s taken ts left (stops p) g e (λ x xs front k. cc)

  ends_behind : (s : Stream) (taken ts : List Placed) (left : Stream) (p : ℕ) → Good s taken left → s ≡ onto ts (ends p) → Behind taken left ts (ends p)
  ends_behind s taken ts left p g e = behind s taken ts left (ends p) g e (λ x xs front k. cc)

  refused_token_behind : (s : Stream) (taken ts : List Placed) (left : Stream) (t : Placed) (l : Stream) → Good s taken left → s ≡ onto ts (t then l) → (Begins L (plain ts ++ t.token ∷ []) → ⊥) → Behind taken left ts (t then l)
  refused_token_behind s taken ts left t l g e never =
      behind s taken ts left (t then l) g e (λ x xs front k.
      let h : t ≡ x = cc in
      never (begins_before ts xs t (subst (λ y. Begins L (plain y)) (front ∙ ap (λ y. ts ++ y ∷ xs) (sym h)) g.begins)))

  misfit_behind : (s : Stream) (taken ts : List Placed) (left : Stream) (t : Placed) (l : Stream) → Good s taken left → s ≡ onto ts (t then l) → is_fit t.token ≡ false → Behind taken left ts (t then l)
  misfit_behind s taken ts left t l g e never =
      behind s taken ts left (t then l) g e (λ x xs front k.
      let h : t ≡ x = cc in
      both_ways (is_fit t.token) never (fit_at ts xs t (subst AllFit (front ∙ ap (λ y. ts ++ y ∷ xs) (sym h)) g.fit)))

  -- a refusal lies after what was taken
  pub record Later (left : Stream) (g : Fault) : Type 0 where
    pub between : List Placed
    pub at : Stream
    pub is : left ≡ onto between at
    pub place-is : place at ≡ fault_place g

  later : {taken ts : List Placed} {left r : Stream} (g : Fault) → Behind taken left ts r → place r ≡ fault_place g → Later left g
  later {r = r} g b e = record { between = b.between; at = r; is = b.back; place-is = e }

  refusal_later : (s : Stream) (taken : List Placed) (left : Stream) (g : Fault) → Good s taken left → Refuses L s g → Later left g
  refusal_later s taken left (NoToken p) good (ts, e) = later (NoToken p) (stops_behind s taken ts left p good e) refl
  refusal_later s taken left (Syntax p) good (inl (ts, t, l, e, p-is, never)) = later (Syntax p) (refused_token_behind s taken ts left t l good e never) p-is
  refusal_later s taken left (Syntax p) good (inr (ts, e, never)) = later (Syntax p) (ends_behind s taken ts left p good e) refl
  refusal_later s taken left (BadNumber p) good (ts, t, l, e, p-is, never) = later (BadNumber p) (misfit_behind s taken ts left t l good e never) p-is

  place_le : (s : Stream) (taken : List Placed) (left : Stream) (g : Fault) → Good s taken left → Rises s → Later left g → place left ≤ fault_place g
  place_le s taken left g good r k =
      let h = rises_onto taken left (subst Rises good.split r) in
      let m = later_place k.between k.at (subst Rises k.is h) in
      omega (arith, m.0, ap place k.is, k.place-is)

  -- a fault at what is left is the first
  first_at : (s : Stream) (taken : List Placed) (left : Stream) (f : Fault) → Good s taken left → Rises s → fault_place f ≡ place left → Refuses L s f → ((g : Fault) → Refuses L s g → Comes f g) → First L s f
  first_at s taken left f good r at refuses comes = (refuses, λ g h. (omega (arith, place_le s taken left g good r (refusal_later s taken left g good h), at), comes g h))

  -- ---- the whole reading

  good_found : (s : Stream) (a : A) (left : Stream) (f : Found whole L s a left) → Good s f.taken left
  good_found s a left f = record { split = f.split; begins = ([], a, subst (λ x. L x a) (sym (append-nil (plain f.taken))) f.said); fit = f.fit }

  -- the result of reading a stream of exactly these tokens
  pub whole_agrees : (ts : List Placed) (a : A) (p : ℕ) → L (plain ts) a → Agrees ts a (ends p) (whole (onto ts (ends p)))
  whole_agrees ts a p m = (reads_whole (length ts)).agrees ts a (ends p) (omega arith) m refl

  -- tokens, one more, and more
  longer : (taken : List Placed) (t : Placed) (more : List Token) → plain (taken ++ t ∷ placed more) ≡ (plain taken ++ t.token ∷ []) ++ more
  longer taken t more = plain-append taken (t ∷ placed more) ∙ ap (λ x. plain taken ++ t.token ∷ x) (plain-placed more) ∙ sym (append_assoc (plain taken) (t.token ∷ []) more)

  longer_agrees : (taken : List Placed) (t : Placed) (b : Begins L (plain taken ++ t.token ∷ [])) → Agrees (taken ++ t ∷ placed b.0) b.1 (ends 0) (whole (onto taken (t then (onto (placed b.0) (ends 0)))))
  longer_agrees taken t b =
      subst (λ x. Agrees (taken ++ t ∷ placed b.0) b.1 (ends 0) (whole x)) (onto-append taken (t ∷ placed b.0) (ends 0))
      (whole_agrees (taken ++ t ∷ placed b.0) b.1 0 (subst (λ x. L x b.1) (sym (longer taken t b.0)) b.2))

  abbrev read_ok : A × Stream → Result (A × Stream) Fault
  read_ok x = Ok x

  abbrev read_err : Fault → Result (A × Stream) Fault
  read_err f = Err f

  second_of : Stream → Result (A × Stream) Fault → Stream
  second_of d (Ok x) = x.1
  second_of d (Err f) = d

  second : (a : A) (l : Stream) (x : A × Stream) → read_ok x ≡ read_ok (a, l) → x.1 ≡ l
  unfolding second_of
  second a l x e = ap (second_of l) e

  end_empty : (p : ℕ) (r : Stream) (between : List Placed) → ends p ≡ onto between r → between ≡ []
  end_empty p r [] e = refl
  end_empty p r (x ∷ xs) e = absurd cc

  end_only_at : (p : ℕ) (r : Stream) (between : List Placed) → ends p ≡ onto between r → (ends p ≡ r → ⊥) → ⊥
  end_only_at p r [] e never = never e
  end_only_at p r (x ∷ xs) e never = absurd cc

  then_is_no_end : (t : Placed) (l : Stream) (p : ℕ) → t then l ≡ ends p → ⊥
  then_is_no_end t l p e = cc

  bad_is_no_syntax : (f : Fault) (p q : ℕ) → read_err f ≡ read_err (Syntax p) → f ≡ BadNumber q → ⊥
  bad_is_no_syntax f p q e k = cc

  same_token : (taken ts : List Placed) (t u : Placed) (l m : Stream) → ts ≡ taken → t then l ≡ u then m → Begins L (plain taken ++ t.token ∷ []) → (Begins L (plain ts ++ u.token ∷ []) → ⊥) → ⊥
  same_token taken ts t u l m ts-is e b never =
      let h : t ≡ u = cc in
      never (subst (λ x. Begins L (plain x ++ u.token ∷ [])) (sym ts-is) (subst (λ x. Begins L (plain taken ++ x.token ∷ [])) h b))

  -- only the end comes after the end
  end_only : (taken : List Placed) (p : ℕ) (ts : List Placed) (r : Stream) → Behind taken (ends p) ts r → (ends p ≡ r → ⊥) → ⊥
  end_only taken p ts r b never = end_only_at p r b.between b.back never

  end_same : (taken : List Placed) (p : ℕ) (ts : List Placed) (q : ℕ) → Behind taken (ends p) ts (ends q) → taken ≡ ts
  end_same taken p ts q b = sym (b.front ∙ ap (λ x. taken ++ x) (end_empty p (ends q) b.between b.back) ∙ append-nil taken)

  -- a statement can't end if a token was left
  not_ended : (ts : List Placed) (a b : A) (t : Placed) (l : Stream) (r : Result (A × Stream) Fault) → r ≡ Ok (a, t then l) → Agrees ts b (ends 0) r → ⊥
  not_ended ts a b t l (Ok x) e h = then_is_no_end t l 0 (sym (second a (t then l) x e) ∙ ap (λ y. y.1) h)
  not_ended ts a b t l (Err f) e h = absurd cc

  -- a token that no rest makes right isn't a bad number
  not_syntax : (ts : List Placed) (b : A) (p : ℕ) (r : Result (A × Stream) Fault) → r ≡ Err (Syntax p) → Agrees ts b (ends 0) r → ⊥
  not_syntax ts b p (Ok x) e h = absurd cc
  not_syntax ts b p (Err f) e h = let k = misfit_is_bad_number ts f h in bad_is_no_syntax f p k.0 e k.1

  none_found : (s : Stream) (a : A) (t : Placed) (l : Stream) (f : Found whole L s a (t then l)) → Begins L (plain f.taken ++ t.token ∷ []) → ⊥
  none_found s a t l f b = not_ended (f.taken ++ t ∷ placed b.0) a b.1 t (onto (placed b.0) (ends 0)) _ (f.firm (t then (onto (placed b.0) (ends 0))) refl) (longer_agrees f.taken t b)

  none_refused : (taken : List Placed) (t : Placed) (p : ℕ) → ((rest : Stream) → whole (onto taken (t then rest)) ≡ Err (Syntax p)) → Begins L (plain taken ++ t.token ∷ []) → ⊥
  none_refused taken t p stuck b = not_syntax (taken ++ t ∷ placed b.0) b.1 p _ (stuck (onto (placed b.0) (ends 0))) (longer_agrees taken t b)

  not_failed : (ts : List Placed) (a : A) (p : ℕ) (f : Fault) (r : Result (A × Stream) Fault) → AllFit ts → r ≡ Err f → Agrees ts a (ends p) r → ⊥
  not_failed ts a p f (Ok x) fit e h = absurd cc
  not_failed ts a p f (Err g) fit e h = no_misfit ts g fit h

  -- ---- the verdict

  -- after the end there is no fault
  nothing_wrong : (s : Stream) (a : A) (p : ℕ) (f : Found whole L s a (ends p)) (g : Fault) → Refuses L s g → ⊥
  nothing_wrong s a p f (NoToken q) (ts, e) = end_only f.taken p ts (stops q) (stops_behind s f.taken ts (ends p) q (good_found s a (ends p) f) e) (λ k. cc)
  nothing_wrong s a p f (Syntax q) (inl (ts, t, l, e, q-is, never)) = end_only f.taken p ts (t then l) (refused_token_behind s f.taken ts (ends p) t l (good_found s a (ends p) f) e never) (λ k. cc)
  nothing_wrong s a p f (Syntax q) (inr (ts, e, never)) = never a (subst (λ x. L (plain x) a) (end_same f.taken p ts q (ends_behind s f.taken ts (ends p) q (good_found s a (ends p) f) e)) f.said)
  nothing_wrong s a p f (BadNumber q) (ts, t, l, e, q-is, never) = end_only f.taken p ts (t then l) (misfit_behind s f.taken ts (ends p) t l (good_found s a (ends p) f) e never) (λ k. cc)

  verdict_ok : (s : Stream) (a : A) (left : Stream) → Rises s → Found whole L s a left → Verdict L s (bind read.end (λ _. gives a) left)
  unfolding bind read.end
  verdict_ok s a (ends p) r f = ((f.taken, p, f.split, f.said), nothing_wrong s a p f)
  verdict_ok s a (stops p) r f = first_at s f.taken (stops p) (NoToken p) (good_found s a (stops p) f) r refl (f.taken, f.split) (λ g _. tt)
  verdict_ok s a (t then l) r f = first_at s f.taken (t then l) (Syntax t.at) (good_found s a (t then l) f) r refl (inl (f.taken, t, l, f.split, refl, none_found s a t l f)) (λ g _. tt)

  -- a number that isn't an i64, where a number is allowed: no token there is refused
  number_stands : (s : Stream) (taken : List Placed) (t : Placed) (l : Stream) → Good s taken (t then l) → Rises s → Begins L (plain taken ++ t.token ∷ []) → (g : Fault) → Refuses L s g → Comes (BadNumber t.at) g
  number_stands s taken t l good r b (NoToken q) h = tt
  number_stands s taken t l good r b (BadNumber q) h = tt
  number_stands s taken t l good r b (Syntax q) (inl (ts, u, m, e, q-is, never)) = λ at.
      let k = refused_token_behind s taken ts (t then l) u m good e never in
      let h = rises_onto taken (t then l) (subst Rises good.split r) in
      let empty : k.between ≡ [] = (later_place k.between (u then m) (subst Rises k.back h)).1 (ap place (sym k.back) ∙ at ∙ sym q-is) in
      same_token taken ts t u l m (k.front ∙ ap (λ x. taken ++ x) empty ∙ append-nil taken) (k.back ∙ ap (λ x. onto x (u then m)) empty) b never
  number_stands s taken t l good r b (Syntax q) (inr (ts, e, never)) = λ at.
      let k = ends_behind s taken ts (t then l) q good e in
      let h = rises_onto taken (t then l) (subst Rises good.split r) in
      let empty : k.between ≡ [] = (later_place k.between (ends q) (subst Rises k.back h)).1 (ap place (sym k.back) ∙ at) in
      then_is_no_end t l q (k.back ∙ ap (λ x. onto x (ends q)) empty)

  verdict_err : (s : Stream) (taken : List Placed) (left : Stream) (f : Fault) → Rises s → Good s taken left → whole s ≡ Err f → Stuck whole L taken left f → First L s f
  verdict_err s taken (ends q) f r good e stuck =
      subst (λ x. First L s x) (sym stuck)
      (first_at s taken (ends q) (Syntax q) good r refl (inr (taken, good.split, λ a m. not_failed taken a q f (whole (onto taken (ends q))) good.fit (ap whole (sym good.split) ∙ e) (whole_agrees taken a q m))) (λ g _. tt))
  verdict_err s taken (stops q) f r good e stuck = subst (λ x. First L s x) (sym stuck) (first_at s taken (stops q) (NoToken q) good r refl (taken, good.split) (λ g _. tt))
  verdict_err s taken (t then l) f r good e (inl (f-is, stuck)) =
      subst (λ x. First L s x) (sym f-is)
      (first_at s taken (t then l) (Syntax t.at) good r refl (inl (taken, t, l, good.split, refl, none_refused taken t t.at (λ rest. stuck rest ∙ ap Err f-is))) (λ g _. tt))
  verdict_err s taken (t then l) f r good e (inr (f-is, unfit, b)) =
      subst (λ x. First L s x) (sym f-is)
      (first_at s taken (t then l) (BadNumber t.at) good r refl (taken, t, l, good.split, refl, unfit) (number_stands s taken t l good r b))

  -- a reading returns what the grammar says of its text
  pub verdict_at : (s : Stream) (r : Result (A × Stream) Fault) → Rises s → whole s ≡ r → Verdict L s (go_on r (λ a. bind read.end (λ _. gives a)))
  verdict_at s (Ok x) r e = verdict_ok s x.0 x.1 r ((reads_whole (size s)).finds s x.0 x.1 (omega arith) e)
  verdict_at s (Err f) r e =
      let g = (reads_whole (size s)).fails s f (omega arith) e in
      verdict_err s g.taken g.left f r (record { split = g.split; begins = g.begins; fit = g.fit }) e g.stuck

-- the semicolon and the end may be read in two steps
apart : (r : Result (Unit {0} × Stream) Fault) (a : Stmt) → go_on r (λ _. bind read.end (λ _. gives a)) ≡ go_on (go_on r (λ _. gives a)) (λ b. bind read.end (λ _. gives b))
apart (Ok x) a = refl
apart (Err f) a = refl

parts_apart : (r : Result (Stmt × Stream) Fault) → go_on r (λ a. bind read.semicolon (λ _. bind read.end (λ _. gives a))) ≡ go_on (go_on r (λ a. bind read.semicolon (λ _. gives a))) (λ a. bind read.end (λ _. gives a))
unfolding bind
parts_apart (Ok x) = apart (read.semicolon x.1) x.0
parts_apart (Err f) = refl

statement_is : (s : Stream) → read.statement s ≡ go_on (whole s) (λ a. bind read.end (λ _. gives a))
unfolding read.statement bind
statement_is s = parts_apart (read.form s)

pub verdict : (s : Stream) → Rises s → Verdict statement s (read.statement s)
verdict s r = subst (λ x. Verdict statement s x) (sym (statement_is s)) (verdict_at whole statement reads_whole s (whole s) r refl)

-- what the grammar says of an answer
pub judged : (s : Stream) (answer : ReadStmt) (r : Result (Stmt × Stream) Fault) → Answers answer r → Verdict statement s r → Judges s answer
judged s (reads.Stmt a) (Ok x) e v = (subst (λ y. IsSaid statement s y) e v.0, v.1)
judged s (reads.Stmt a) (Err f) e v = absurd e
judged s (reads.NoToken p) (Ok x) e v = absurd cc
judged s (reads.NoToken p) (Err f) e v = let h : f ≡ NoToken p = cc in subst (λ y. First statement s y) h v
judged s (reads.Syntax p) (Ok x) e v = absurd cc
judged s (reads.Syntax p) (Err f) e v = let h : f ≡ Syntax p = cc in subst (λ y. First statement s y) h v
judged s (reads.BadNumber p) (Ok x) e v = absurd cc
judged s (reads.BadNumber p) (Err f) e v = let h : f ≡ BadNumber p = cc in subst (λ y. First statement s y) h v
judged s reads.NoMemory r e v = tt

-- ---- one reading

agree_twice : (ts : List Placed) (a b : Stmt) (r : Result (Stmt × Stream) Fault) → AllFit ts → Agrees ts a (ends 0) r → Agrees ts b (ends 0) r → a ≡ b
agree_twice ts a b (Ok x) fit h k = ap (λ y. y.0) (sym h ∙ k)
agree_twice ts a b (Err f) fit h k = absurd (no_misfit ts f fit h)

fit_placed : (ts : List Token) → AllByRecursion (λ t. is_fit t ≡ true) ts → AllFit (placed ts)
fit_placed [] f = tt
fit_placed (t ∷ ts) f = (f.0, fit_placed ts f.1)

pub one_reading : (ts : List Token) (a b : Stmt) → AllByRecursion (λ t. is_fit t ≡ true) ts → statement ts a → statement ts b → a ≡ b
one_reading ts a b fit m n =
    agree_twice (placed ts) a b (whole (onto (placed ts) (ends 0))) (fit_placed ts fit)
    (whole_agrees whole statement reads_whole (placed ts) a 0 (subst (λ x. statement x a) (sym (plain-placed ts)) m))
    (whole_agrees whole statement reads_whole (placed ts) b 0 (subst (λ x. statement x b) (sym (plain-placed ts)) n))

-- ---- one verdict

-- a place at which no token begins is the last
stop_behind : (ts us : List Placed) (p : ℕ) (t : Placed) (l : Stream) → Rises (onto ts (stops p)) → onto ts (stops p) ≡ onto us (t then l) → t.at ≡ p → ⊥
stop_behind [] [] p t l r e at = cc
stop_behind [] (u ∷ us) p t l r e at = cc
stop_behind (x ∷ ts) [] p t l r e at =
    let h : x ≡ t = cc in
    let low = (later_place ts (stops p) r.1).0 in
    let above : x.at < place (onto ts (stops p)) = r.0 in
    omega (arith, ap (λ (y : Placed). y.at) h)
stop_behind (x ∷ ts) (u ∷ us) p t l r e at = let rest : onto ts (stops p) ≡ onto us (t then l) = cc in stop_behind ts us p t l r.1 rest at

no_two_ends : (ts us : List Placed) (p q : ℕ) → onto ts (stops p) ≡ onto us (ends q) → ⊥
no_two_ends [] [] p q e = cc
no_two_ends [] (u ∷ us) p q e = cc
no_two_ends (x ∷ ts) [] p q e = cc
no_two_ends (x ∷ ts) (u ∷ us) p q e = no_two_ends ts us p q cc

no_stop : {A : Type 0} (L : Rule A) (s : Stream) (p q : ℕ) → Rises s → p ≡ q → Refuses L s (NoToken p) → Refuses L s (Syntax q) → ⊥
no_stop L s p q r e (ts, i) (inl (us, t, l, k, at, never)) = stop_behind ts us p t l (subst Rises i r) (sym i ∙ k) (at ∙ sym e)
no_stop L s p q r e (ts, i) (inr (us, k, never)) = no_two_ends ts us p q (sym i ∙ k)

no_number : {A : Type 0} (L : Rule A) (s : Stream) (p q : ℕ) → Rises s → p ≡ q → Refuses L s (NoToken p) → Refuses L s (BadNumber q) → ⊥
no_number L s p q r e (ts, i) (us, t, l, k, at, never) = stop_behind ts us p t l (subst Rises i r) (sym i ∙ k) (at ∙ sym e)

-- only one error is the first
pub one_first : {A : Type 0} (L : Rule A) (s : Stream) (f g : Fault) → Rises s → First L s f → First L s g → f ≡ g
one_first L s (NoToken p) (NoToken q) r a b = ap NoToken (let x = (a.1 (NoToken q) b.0).0 in let y = (b.1 (NoToken p) a.0).0 in omega arith)
one_first L s (Syntax p) (Syntax q) r a b = ap Syntax (let x = (a.1 (Syntax q) b.0).0 in let y = (b.1 (Syntax p) a.0).0 in omega arith)
one_first L s (BadNumber p) (BadNumber q) r a b = ap BadNumber (let x = (a.1 (BadNumber q) b.0).0 in let y = (b.1 (BadNumber p) a.0).0 in omega arith)
one_first L s (NoToken p) (Syntax q) r a b = absurd (no_stop L s p q r (let x = (a.1 (Syntax q) b.0).0 in let y = (b.1 (NoToken p) a.0).0 in omega arith) a.0 b.0)
one_first L s (Syntax p) (NoToken q) r a b = absurd (no_stop L s q p r (let x = (a.1 (NoToken q) b.0).0 in let y = (b.1 (Syntax p) a.0).0 in omega arith) b.0 a.0)
one_first L s (NoToken p) (BadNumber q) r a b = absurd (no_number L s p q r (let x = (a.1 (BadNumber q) b.0).0 in let y = (b.1 (NoToken p) a.0).0 in omega arith) a.0 b.0)
one_first L s (BadNumber p) (NoToken q) r a b = absurd (no_number L s q p r (let x = (a.1 (NoToken q) b.0).0 in let y = (b.1 (BadNumber p) a.0).0 in omega arith) b.0 a.0)
one_first L s (BadNumber p) (Syntax q) r a b = absurd ((a.1 (Syntax q) b.0).1 (let x = (a.1 (Syntax q) b.0).0 in let y = (b.1 (BadNumber p) a.0).0 in omega arith))
one_first L s (Syntax p) (BadNumber q) r a b = absurd ((b.1 (Syntax p) a.0).1 (let x = (a.1 (BadNumber q) b.0).0 in let y = (b.1 (Syntax p) a.0).0 in omega arith))

-- without an error, each number is an i64
fit_unless_refused : {A : Type 0} (L : Rule A) (before ts : List Placed) (s l : Stream) → s ≡ onto (before ++ ts) l → ((g : Fault) → Refuses L s g → ⊥) → AllFit ts
fit_unless_refused L before [] s l e none = tt
fit_unless_refused L before (t ∷ ts) s l e none =
    let here : s ≡ onto before (t then (onto ts l)) = e ∙ onto-append before (t ∷ ts) l in
    let next : s ≡ onto ((before ++ t ∷ []) ++ ts) l = e ∙ ap (λ x. onto x l) (sym (append_assoc before (t ∷ []) ts)) in
    (fit_here (is_fit t.token) refl here, fit_unless_refused L (before ++ t ∷ []) ts s l next none)
  where
    fit_here : (b : Bool) → is_fit t.token ≡ b → s ≡ onto before (t then (onto ts l)) → is_fit t.token ≡ true
    fit_here true k here = k
    fit_here false k here = absurd (none (BadNumber t.at) (before, t, onto ts l, here, refl, k))

pub fit_statement : {A : Type 0} (L : Rule A) (s : Stream) (ts : List Placed) (p : ℕ) → s ≡ onto ts (ends p) → ((g : Fault) → Refuses L s g → ⊥) → AllFit ts
fit_statement L s ts p e none = fit_unless_refused L [] ts s (ends p) e none

same_end : (ts us : List Placed) (p q : ℕ) → onto ts (ends p) ≡ onto us (ends q) → ts ≡ us
same_end [] [] p q e = refl
same_end [] (u ∷ us) p q e = absurd cc
same_end (t ∷ ts) [] p q e = absurd cc
same_end (t ∷ ts) (u ∷ us) p q e =
    let h : t ≡ u = cc in
    let k : onto ts (ends p) ≡ onto us (ends q) = cc in
    ap (λ x. x ∷ ts) h ∙ ap (λ x. u ∷ x) (same_end ts us p q k)

all_fit_plain : (ts : List Placed) → AllFit ts → AllByRecursion (λ t. is_fit t ≡ true) (plain ts)
all_fit_plain [] f = tt
all_fit_plain (t ∷ ts) f = (f.0, all_fit_plain ts f.1)

-- one verdict
one_verdict : (s : Stream) (r q : Result (Stmt × Stream) Fault) → Rises s → Verdict statement s r → Verdict statement s q → IsSame r q
one_verdict s (Ok x) (Ok y) rise ((ts, p, e, l), none) ((us, q, k, m), _) =
    let same : us ≡ ts = same_end us ts q p (sym k ∙ e) in
    one_reading (plain ts) x.0 y.0 (all_fit_plain ts (fit_statement statement s ts p e none)) l (subst (λ z. statement (plain z) y.0) same m)
one_verdict s (Ok x) (Err g) rise a b = a.1 g b.0
one_verdict s (Err f) (Ok y) rise a b = b.1 f a.0
one_verdict s (Err f) (Err g) rise a b = one_first statement s f g rise a b

pub reads_by_the_grammar : ReadsByTheGrammar
reads_by_the_grammar = record {
  gives = λ text skip le. verdict (stream text skip) (stream_rises text skip le);
  only = λ text skip r le v.
      one_verdict (stream text skip) r (read.statement (stream text skip)) (stream_rises text skip le) v
      (verdict (stream text skip) (stream_rises text skip le));
}
