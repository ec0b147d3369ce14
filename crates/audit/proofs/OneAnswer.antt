-- One transcript has one answer.
use Rattle.std.proofs.Common.{◌≡◌, ◌≤◌, ◌<◌, ℕ, zero, suc, true, false, List, [], ◌∷◌, ◌++◌, take, Option, Some, None, inl, inr, refl, sym, ap, ◌∙◌, subst, arith}
use Rattle.std.specs.Prelude.{IsPermutation, IsTrue, nat_le, ◌⊎◌}
use Rattle.turn_lock.specs.Positions.{positions_between}
use Rattle.std.specs.List.{list_all}
use Rattle.std.proofs.lemmas.Bool.{and_parts, leb-false, leb-true}
use Rattle.std.proofs.lemmas.List.{take-take}
use Rattle.std.proofs.lemmas.Option.{none-some, same_Some}
use Rattle.ts_model.specs.Allowed.{all_allowed}
use Rattle.ts_model.specs.History.{History, base_position, position}
use Rattle.ts_sessions.specs.Places.{Places, no_places}
use Rattle.ts_sessions.specs.Made.{made_in}
use Rattle.ts_sessions.specs.Replies.{reply_to}
use Rattle.ts_sessions.proofs.GivesLaws.{gives_on}
use Rattle.transcript.specs.Laws.{ReadsAsOne}
use Rattle.transcript.specs.Reading.{IsReading}
use Rattle.transcript.specs.Shape.{is_sound, is_sound_talk}
use Rattle.transcript.specs.declared.transcripts.Exchange.{Exchange}
use Rattle.transcript.specs.declared.transcripts.SessionTranscript.{SessionTranscript}
use Rattle.transcript.specs.declared.transcripts.Transcript.{Transcript}
use Rattle.audit.specs.Answers.{Answers, FirstUnexplained, HasExplanation, HasLost, IsLost, Judges, ReadsAs, reply_count}
use Rattle.audit.specs.Explained.{AreExplained, Came, Explained, IsExplained, IsWithin, named_by, named_by_all}
use Rattle.audit.specs.Lines.{first_policy, line_of}
use Rattle.audit.specs.Laws.{ExplainedIsYes, TextsHaveOneAnswer}
use Rattle.audit.specs.declared.lines.Place.{Place}
use Rattle.audit.specs.declared.answers.Audit.{Audit}
use Rattle.audit.specs.declared.answers.Audit.TheVariants.{Yes, No, Lost, Policy, Early, BadText, NoMemory}
use Rattle.audit.proofs.LostLaws.{none_lost}
use Rattle.audit.proofs.NameLaws.{names_of_one_line}
use Rattle.audit.proofs.RetoldLaws.{TextsTellReplies, cons, uncons}
use Rattle.audit.proofs.TellerLaws.{Laws, texts_tell}

not_below : (m n : ℕ) → (m < n → ⊥) → n ≤ m
not_below m n h = elim (nat_le n m) as (λ t. nat_le n m ≡ t → n ≤ m) [ true ↦ λ e. leb-true n m e | false ↦ λ e. absurd (h (leb-false n m e)) ] refl

-- ---- the first replies of explained ones

first_explained : (all : History) (at : ℕ) (p : Places) (name : List ℕ) (es : List Exchange) (answers : List Came) (n : ℕ) → IsExplained all at p name es answers → IsExplained all at p name (take n es) (take n answers)
first_explained all at p name es answers zero x = record { answered = tt; replies = refl }
first_explained all at p name [] [] (suc n) x = x
first_explained all at p name [] (a ∷ answers) (suc n) x = absurd x.answered
first_explained all at p name (e ∷ es) [] (suc n) x = absurd x.answered
first_explained all at p name (e ∷ es) (a ∷ answers) (suc n) x =
    let u = uncons all at p name e es (a ∷ answers) x in
    let rest = first_explained all u.first.last u.first.end.places name es u.rest n u.explained in
    subst (λ cs. IsExplained all at p name (e ∷ take n es) (take (suc n) cs)) (sym u.is)
    (cons all at p name e (take n es) u.first (take n u.rest) u.gives u.text rest)

fewer : (all : History) (start : ℕ) (name : List ℕ) (es : List Exchange) (n : ℕ) → HasExplanation all start name es → HasExplanation all start name (take n es)
fewer all start name es n h = record { answers = take n h.answers; explained = first_explained all start no_places name es h.answers n h.explained }

fewer_of : (all : History) (start : ℕ) (name : List ℕ) (es : List Exchange) (m n : ℕ) → m ≤ n → HasExplanation all start name (take n es) → HasExplanation all start name (take m es)
fewer_of all start name es m n le h = subst (λ xs. HasExplanation all start name xs) (take-take m n es le) (fewer all start name (take n es) m h)

-- ---- the first reply that isn't explained

all_explained : (all : History) (start : ℕ) (talks : List SessionTranscript) (i j : ℕ) (answers : List (List Came)) → FirstUnexplained all start talks i j → AreExplained all start talks answers → ⊥
all_explained all start [] i j answers f x = f
all_explained all start (talk ∷ talks) i j [] f x = x
all_explained all start (talk ∷ talks) zero j (a ∷ answers) f x = f.1 (fewer all start talk.name talk.replies (suc j) (record { answers = a; explained = x.0 }))
all_explained all start (talk ∷ talks) (suc i) j (a ∷ answers) f x = all_explained all start talks i j answers f.1 x.1

same_stop : (all : History) (start : ℕ) (talk : SessionTranscript) (j k : ℕ) → HasExplanation all start talk.name (take j talk.replies) → (HasExplanation all start talk.name (take (suc k) talk.replies) → ⊥) → j ≤ k
same_stop all start talk j k before fails =
    not_below k j (λ less. fails (fewer_of all start talk.name talk.replies (suc k) j (omega arith) before))

first_once : (all : History) (start : ℕ) (talks : List SessionTranscript) (i j k l : ℕ) → FirstUnexplained all start talks i j → FirstUnexplained all start talks k l → (i ≡ k) × (j ≡ l)
first_once all start [] i j k l f g = absurd f
first_once all start (talk ∷ talks) zero j zero l f g =
    let le = same_stop all start talk j l f.0 g.1 in
    let ge = same_stop all start talk l j g.0 f.1 in
    (refl, omega (arith, le, ge))
first_once all start (talk ∷ talks) zero j (suc k) l f g = absurd (f.1 (fewer all start talk.name talk.replies (suc j) g.0))
first_once all start (talk ∷ talks) (suc i) j zero l f g = absurd (g.1 (fewer all start talk.name talk.replies (suc l) f.0))
first_once all start (talk ∷ talks) (suc i) j (suc k) l f g =
    let same = first_once all start talks i j k l f.1 g.1 in
    (ap suc same.0, same.1)

-- ---- the numbers that replies name

names_once : (all : History) (name : List ℕ) → TextsTellReplies all name → (at : ℕ) (p : Places) (es : List Exchange) (cs bs : List Came) → base_position all ≤ at → IsExplained all at p name es cs → IsExplained all at p name es bs → named_by cs ≡ named_by bs
names_once all name tells at p [] [] [] low x y = refl
names_once all name tells at p [] [] (b ∷ bs) low x y = absurd y.answered
names_once all name tells at p [] (a ∷ cs) bs low x y = absurd x.answered
names_once all name tells at p (e ∷ es) cs bs low x y =
    let u = uncons all at p name e es cs x in
    let v = uncons all at p name e es bs y in
    let same = tells at p (line_of e).text (line_of e).skip u.first.looks v.first.looks u.first.last v.first.last u.first.given v.first.given u.first.end v.first.end low u.gives v.gives (v.text ∙ sym u.text) in
    let on = gives_on all None at (reply_to p (line_of e).text (line_of e).skip) u.first.looks u.first.last u.first.given u.first.end u.gives in
    let later : IsExplained all u.first.last u.first.end.places name es v.rest =
    subst (λ q. IsExplained all u.first.last q name es v.rest) same.places
    (subst (λ l. IsExplained all l v.first.end.places name es v.rest) same.last_is v.explained) in
    let rest = names_once all name tells u.first.last u.first.end.places es u.rest v.rest (omega (arith, low, on)) u.explained later in
    ap named_by u.is
    ∙ (λ i. made_in ((sym same.said) i) ++ rest i)
    ∙ sym (ap named_by v.is)

all_names_once : (laws : Laws) (all : History) → all_allowed all ≡ true → (start : ℕ) → base_position all ≤ start → (talks : List SessionTranscript) (cs bs : List (List Came)) → IsTrue (list_all is_sound_talk talks) → AreExplained all start talks cs → AreExplained all start talks bs → named_by_all cs ≡ named_by_all bs
all_names_once laws all allowed start low [] [] [] sound x y = refl
all_names_once laws all allowed start low [] [] (b ∷ bs) sound x y = absurd y
all_names_once laws all allowed start low [] (a ∷ cs) bs sound x y = absurd x
all_names_once laws all allowed start low (talk ∷ talks) [] bs sound x y = absurd x
all_names_once laws all allowed start low (talk ∷ talks) (a ∷ cs) [] sound x y = absurd y
all_names_once laws all allowed start low (talk ∷ talks) (a ∷ cs) (b ∷ bs) sound x y =
    let parts = and_parts (is_sound_talk talk) (list_all is_sound_talk talks) sound in
    let tells = texts_tell laws all allowed talk.name (names_of_one_line talk parts.0) in
    let one = names_once all talk.name tells start no_places talk.replies a b low x.0 y.0 in
    let rest = all_names_once laws all allowed start low talks cs bs parts.1 x.1 y.1 in
    λ i. one i ++ rest i

-- ---- the lowest position that is lost

lost_once : (numbers : List ℕ) (start end p q : ℕ) → IsLost numbers start end p → IsLost numbers start end q → p ≡ q
lost_once numbers start end p q l k =
    let le : p ≤ q = not_below q p (λ less. k.lost (l.least q k.above less)) in
    let ge : q ≤ p = not_below p q (λ less. l.lost (k.least p l.above less)) in
    omega (arith, le, ge)

-- ---- one answer for a transcript

module _ (laws : Laws) (all : History) (allowed : all_allowed all ≡ true) (t : Transcript) (sound : is_sound t ≡ true) where
  numbers_once : (cs bs : List (List Came)) → IsWithin all t.start → AreExplained all t.start t.sessions cs → AreExplained all t.start t.sessions bs → named_by_all cs ≡ named_by_all bs
  numbers_once cs bs within x y = all_names_once laws all allowed t.start within.0 t.sessions cs bs (and_parts (list_all is_sound_talk t.sessions) _ sound).0 x y

  lost_or_explained : (p : ℕ) → HasLost all t p → Explained all t → ⊥
  lost_or_explained p l x =
      let same = numbers_once l.answers x.answers x.within l.explained x.explained in
      none_lost (named_by_all l.answers) t.start (position all) p x.within.1
      (subst (λ ns. IsPermutation ns (positions_between t.start (position all))) (sym same) x.numbers) l.lost

  lost_twice : (p q : ℕ) → IsWithin all t.start → HasLost all t p → HasLost all t q → p ≡ q
  lost_twice p q within l k =
      let same = numbers_once k.answers l.answers within k.explained l.explained in
      lost_once (named_by_all l.answers) t.start (position all) p q l.lost (subst (λ ns. IsLost ns t.start (position all) q) same k.lost)

  -- the answer if all is explained
  pub explained_yes : (audit : Audit) → first_policy t.sessions ≡ None → Explained all t → Judges all t audit → (audit ≡ Yes (reply_count t)) ⊎ (audit ≡ NoMemory)
  explained_yes BadText none x j = absurd j
  explained_yes (Early p) none x j = absurd (j.0 x.within)
  explained_yes (Policy i k) none x j = absurd (none-some _ (sym none ∙ j.1))
  explained_yes (No i k) none x j = absurd (all_explained all t.start t.sessions i k x.answers j.holds x.explained)
  explained_yes (Lost p) none x j = absurd (lost_or_explained p j.holds x)
  explained_yes (Yes n) none x j = inl (ap Yes j.holds.1)
  explained_yes NoMemory none x j = inr refl

  -- two answers for a transcript are equal, or one of them is NoMemory
  pub one_answer : (a b : Audit) → Judges all t a → Judges all t b → (a ≡ b) ⊎ (a ≡ NoMemory) ⊎ (b ≡ NoMemory)
  one_answer BadText b j k = absurd j
  one_answer NoMemory b j k = inr (inl refl)
  one_answer (Early p) BadText j k = absurd k
  one_answer (Early p) NoMemory j k = inr (inr refl)
  one_answer (Early p) (Early q) j k = inl (ap Early (j.1 ∙ sym k.1))
  one_answer (Early p) (Policy i n) j k = absurd (j.0 k.0)
  one_answer (Early p) (No i n) j k = absurd (j.0 k.within)
  one_answer (Early p) (Lost q) j k = absurd (j.0 k.within)
  one_answer (Early p) (Yes n) j k = absurd (j.0 k.within)
  one_answer (Policy i n) BadText j k = absurd k
  one_answer (Policy i n) NoMemory j k = inr (inr refl)
  one_answer (Policy i n) (Early q) j k = absurd (k.0 j.0)
  one_answer (Policy i n) (Policy u v) j k = inl (same_place i n u v (sym j.1 ∙ k.1))
    where
      same_place : (i n u v : ℕ) → ◌≡◌ {A = Option Place} (Some (record { session = i; reply = n })) (Some (record { session = u; reply = v })) → Policy i n ≡ Policy u v
      same_place i n u v e = ap (λ (p : Place). Policy p.session p.reply) (same_Some _ _ e)
  one_answer (Policy i n) (No u v) j k = absurd (none-some _ (sym k.no_policy ∙ j.1))
  one_answer (Policy i n) (Lost q) j k = absurd (none-some _ (sym k.no_policy ∙ j.1))
  one_answer (Policy i n) (Yes m) j k = absurd (none-some _ (sym k.no_policy ∙ j.1))
  one_answer (No i n) BadText j k = absurd k
  one_answer (No i n) NoMemory j k = inr (inr refl)
  one_answer (No i n) (Early q) j k = absurd (k.0 j.within)
  one_answer (No i n) (Policy u v) j k = absurd (none-some _ (sym j.no_policy ∙ k.1))
  one_answer (No i n) (No u v) j k =
      let same = first_once all t.start t.sessions i n u v j.holds k.holds in
      inl (λ x. No (same.0 x) (same.1 x))
  one_answer (No i n) (Lost q) j k = absurd (all_explained all t.start t.sessions i n k.holds.answers j.holds k.holds.explained)
  one_answer (No i n) (Yes m) j k = absurd (all_explained all t.start t.sessions i n k.holds.0.answers j.holds k.holds.0.explained)
  one_answer (Lost p) BadText j k = absurd k
  one_answer (Lost p) NoMemory j k = inr (inr refl)
  one_answer (Lost p) (Early q) j k = absurd (k.0 j.within)
  one_answer (Lost p) (Policy u v) j k = absurd (none-some _ (sym j.no_policy ∙ k.1))
  one_answer (Lost p) (No u v) j k = absurd (all_explained all t.start t.sessions u v j.holds.answers k.holds j.holds.explained)
  one_answer (Lost p) (Lost q) j k = inl (ap Lost (lost_twice p q j.within j.holds k.holds))
  one_answer (Lost p) (Yes m) j k = absurd (lost_or_explained p j.holds k.holds.0)
  one_answer (Yes n) BadText j k = absurd k
  one_answer (Yes n) NoMemory j k = inr (inr refl)
  one_answer (Yes n) (Early q) j k = absurd (k.0 j.within)
  one_answer (Yes n) (Policy u v) j k = absurd (none-some _ (sym j.no_policy ∙ k.1))
  one_answer (Yes n) (No u v) j k = absurd (all_explained all t.start t.sessions u v j.holds.0.answers k.holds j.holds.0.explained)
  one_answer (Yes n) (Lost q) j k = absurd (lost_or_explained q k.holds j.holds.0)
  one_answer (Yes n) (Yes m) j k = inl (ap Yes (j.holds.1 ∙ sym k.holds.1))

-- ---- one answer for a text

-- a text isn't a transcript, or memory ran out, or it is read as a transcript with this answer
answered_as : (all : History) (text : List ℕ) (a : Audit) → Answers all text a → ((a ≡ BadText) × ((t : Transcript) → IsReading text t → ⊥)) ⊎ (a ≡ NoMemory) ⊎ ReadsAs all text a
answered_as all text BadText x = inl (refl, x)
answered_as all text NoMemory x = inr (inl refl)
answered_as all text (Early p) x = inr (inr x)
answered_as all text (Policy i j) x = inr (inr x)
answered_as all text (No i j) x = inr (inr x)
answered_as all text (Lost p) x = inr (inr x)
answered_as all text (Yes n) x = inr (inr x)

pub texts_have_one_answer : Laws → ReadsAsOne → TextsHaveOneAnswer
texts_have_one_answer laws once all text a b allowed x y = by_both (answered_as all text a x) (answered_as all text b y)
  where
    by_both : ((a ≡ BadText) × ((t : Transcript) → IsReading text t → ⊥)) ⊎ (a ≡ NoMemory) ⊎ ReadsAs all text a → ((b ≡ BadText) × ((t : Transcript) → IsReading text t → ⊥)) ⊎ (b ≡ NoMemory) ⊎ ReadsAs all text b → (a ≡ b) ⊎ (a ≡ NoMemory) ⊎ (b ≡ NoMemory)
    by_both (inr (inl e)) other = inr (inl e)
    by_both other (inr (inl e)) = inr (inr e)
    by_both (inl p) (inl q) = inl (p.0 ∙ sym q.0)
    by_both (inl p) (inr (inr r)) = absurd (p.1 r.transcript r.reading)
    by_both (inr (inr r)) (inl q) = absurd (q.1 r.transcript r.reading)
    by_both (inr (inr r)) (inr (inr s)) =
        let same = once text r.transcript s.transcript r.reading s.reading in
        one_answer laws all allowed s.transcript s.reading.sound a b (subst (λ t. Judges all t a) same r.judges) s.judges

pub explained_is_yes : Laws → ReadsAsOne → ExplainedIsYes
explained_is_yes laws once all text t a allowed reading none x y = by_answer (answered_as all text a y)
  where
    by_answer : ((a ≡ BadText) × ((t : Transcript) → IsReading text t → ⊥)) ⊎ (a ≡ NoMemory) ⊎ ReadsAs all text a → (a ≡ Yes (reply_count t)) ⊎ (a ≡ NoMemory)
    by_answer (inl p) = absurd (p.1 t reading)
    by_answer (inr (inl e)) = inr e
    by_answer (inr (inr r)) =
        let same = once text r.transcript t r.reading reading in
        explained_yes laws all allowed t reading.sound a none x (subst (λ u. Judges all u a) same r.judges)
