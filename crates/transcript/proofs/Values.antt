-- A value is read as a transcript exactly if it is the transcript's data.
use Rattle.std.proofs.Common.{◌≡◌, ℕ, List, [], ◌∷◌, ◌++◌, Bool, true, false, cond, ◌&&◌, Option, Some, None, option_map, option_and_then, IsTrue, codes, bytes_eq, refl, sym, ap, ap₂, ◌∙◌, append_assoc}
use Rattle.std.proofs.lemmas.Slice.Eq.{bytes_eq-Decides}
use Rattle.serde_json.specs.Data.{Num, unsigned, negative, float, Data, null, boolean, number, string, array, object, Items, no_items, item, Members, no_members, member}
use Rattle.serde_json.specs.Find.{as_str, as_array, as_number, as_object, as_u64}
use Rattle.transcript.specs.Members.{two_of, two_members}
use Rattle.transcript.specs.Reading.{exchange_of, exchange_in, exchanges_in, talk_of, talk_in, talks_in, transcript_of, transcript_in, Answers, AnswersSound}
use Rattle.transcript.specs.Shape.{is_sound}
use Rattle.transcript.specs.Text.{exchange_data, exchanges_data, talk_data, talks_data, transcript_data}
use Rattle.transcript.specs.declared.reading.ReadTranscript.{ReadTranscript}
use Rattle.transcript.specs.declared.reading.ReadTranscript.TheVariants as out
use Rattle.transcript.specs.declared.transcripts.Exchange.{Exchange}
use Rattle.transcript.specs.declared.transcripts.SessionTranscript.{SessionTranscript}
use Rattle.transcript.specs.declared.transcripts.Transcript.{Transcript}

-- ---- the data of a transcript is read as that transcript

pub exchanges_in-exchanges_data : (es : List Exchange) → exchanges_in (exchanges_data es) ≡ Some es
exchanges_in-exchanges_data [] = refl
exchanges_in-exchanges_data (e ∷ es) = ap (option_map (λ more. e ∷ more)) (exchanges_in-exchanges_data es)

talk_in-talk_data : (t : SessionTranscript) → talk_in (talk_data t) ≡ Some t
talk_in-talk_data t = ap (option_map (λ replies. record { name = t.name; replies = replies })) (exchanges_in-exchanges_data t.replies)

pub talks_in-talks_data : (ts : List SessionTranscript) → talks_in (talks_data ts) ≡ Some ts
talks_in-talks_data [] = refl
talks_in-talks_data (t ∷ ts) =
    ap (option_and_then (λ u. option_map (λ more. u ∷ more) (talks_in (talks_data ts)))) (talk_in-talk_data t)
    ∙ ap (option_map (λ more. t ∷ more)) (talks_in-talks_data ts)

pub transcript_in-transcript_data : (t : Transcript) → transcript_in (transcript_data t) ≡ Some t
transcript_in-transcript_data t = ap (option_map (λ sessions. record { start = t.start; sessions = sessions })) (talks_in-talks_data t.sessions)

-- ---- a list that grows at its end

-- these items, and then those that are read
abbrev pub before : {A : Type 0} → List A → Option (List A) → Option (List A)
before done rest = option_map (λ more. done ++ more) rest

none_before : {A : Type 0} → (rest : Option (List A)) → rest ≡ before [] rest
none_before None = refl
none_before (Some more) = refl

one_before : {A : Type 0} → (done : List A) (x : A) (rest : Option (List A)) → before done (option_map (λ more. x ∷ more) rest) ≡ before (done ++ x ∷ []) rest
one_before done x None = refl
one_before done x (Some more) = ap Some (sym (append_assoc done (x ∷ []) more))

pub exchange_before : (done : List Exchange) (d : Data) (ds : Items) (e : Exchange) → exchange_in d ≡ Some e → before done (exchanges_in (item d ds)) ≡ before (done ++ e ∷ []) (exchanges_in ds)
exchange_before done d ds e is = rw is (one_before done e (exchanges_in ds))

pub talk_before : (done : List SessionTranscript) (d : Data) (ds : Items) (t : SessionTranscript) → talk_in d ≡ Some t → before done (talks_in (item d ds)) ≡ before (done ++ t ∷ []) (talks_in ds)
talk_before done d ds t is = rw is (one_before done t (talks_in ds))

pub no_exchange : (done : List Exchange) (d : Data) (ds : Items) → exchange_in d ≡ None → before done (exchanges_in (item d ds)) ≡ None
no_exchange done d ds is = rw is refl

pub no_talk : (done : List SessionTranscript) (d : Data) (ds : Items) → talk_in d ≡ None → before done (talks_in (item d ds)) ≡ None
no_talk done d ds is = rw is refl

pub first_exchange : (ds : Items) → exchanges_in ds ≡ before [] (exchanges_in ds)
first_exchange ds = none_before (exchanges_in ds)

pub first_talk : (ds : Items) → talks_in ds ≡ before [] (talks_in ds)
first_talk ds = none_before (talks_in ds)

-- ---- a value that is read as a transcript is its data

and_then_is : {A B : Type 0} → (f : A → Option B) (o : Option A) (b : B) → option_and_then f o ≡ Some b → (a : A) × (o ≡ Some a) × (f a ≡ Some b)
and_then_is f None b h = absurd cc
and_then_is f (Some a) b h = (a, refl, h)

map_is : {A B : Type 0} → (f : A → B) (o : Option A) (b : B) → option_map f o ≡ Some b → (a : A) × (o ≡ Some a) × (f a ≡ b)
map_is f None b h = absurd cc
map_is f (Some a) b h = (a, refl, cc)

as_str_is : (d : Data) (s : List ℕ) → as_str d ≡ Some s → d ≡ string s
as_str_is null s h = absurd cc
as_str_is (boolean b) s h = absurd cc
as_str_is (number n) s h = absurd cc
as_str_is (string t) s h = let same : t ≡ s = cc in ap string same
as_str_is (array ds) s h = absurd cc
as_str_is (object ms) s h = absurd cc

as_array_is : (d : Data) (ds : Items) → as_array d ≡ Some ds → d ≡ array ds
as_array_is null ds h = absurd cc
as_array_is (boolean b) ds h = absurd cc
as_array_is (number n) ds h = absurd cc
as_array_is (string t) ds h = absurd cc
as_array_is (array es) ds h = let same : es ≡ ds = cc in ap array same
as_array_is (object ms) ds h = absurd cc

as_number_is : (d : Data) (n : Num) → as_number d ≡ Some n → d ≡ number n
as_number_is null n h = absurd cc
as_number_is (boolean b) n h = absurd cc
as_number_is (number m) n h = let same : m ≡ n = cc in ap number same
as_number_is (string t) n h = absurd cc
as_number_is (array es) n h = absurd cc
as_number_is (object ms) n h = absurd cc

as_u64_is : (m : Num) (n : ℕ) → as_u64 m ≡ Some n → m ≡ unsigned n
as_u64_is (unsigned m) n h = let same : m ≡ n = cc in ap unsigned same
as_u64_is (negative z) n h = absurd cc
as_u64_is (float x) n h = absurd cc

as_object_is : (d : Data) (ms : Members) → as_object d ≡ Some ms → d ≡ object ms
as_object_is null ms h = absurd cc
as_object_is (boolean b) ms h = absurd cc
as_object_is (number n) ms h = absurd cc
as_object_is (string t) ms h = absurd cc
as_object_is (array es) ms h = absurd cc
as_object_is (object ls) ms h = let same : ls ≡ ms = cc in ap object same

same_name : (k l : List ℕ) → bytes_eq k l ≡ true → k ≡ l
same_name k l h = (bytes_eq-Decides k l).0 h

named_is : (a b : Bool) (p q : Data × Data) → cond (a && b) (Some p) None ≡ Some q → (a ≡ true) × (b ≡ true) × (p ≡ q)
named_is true true p q h = (refl, refl, cc)
named_is true false p q h = absurd cc
named_is false b p q h = absurd cc

two_of_is : (first second : List ℕ) (ms : Members) (p : Data × Data) → two_of first second ms ≡ Some p → ms ≡ member first p.0 (member second p.1 no_members)
two_of_is first second no_members p h = absurd cc
two_of_is first second (member k d no_members) p h = absurd cc
two_of_is first second (member k d (member l e no_members)) p h =
    let named = named_is (bytes_eq k first) (bytes_eq l second) (d, e) p h in
    rw (same_name k first named.0, same_name l second named.1) (ap (λ (q : Data × Data). member first q.0 (member second q.1 no_members)) named.2)
two_of_is first second (member k d (member l e (member m f more))) p h = absurd cc

two_members_is : (first second : List ℕ) (d : Data) (p : Data × Data) → two_members first second d ≡ Some p → d ≡ object (member first p.0 (member second p.1 no_members))
two_members_is first second d p h =
    let found = and_then_is (two_of first second) (as_object d) p h in
    as_object_is d found.0 found.1 ∙ ap object (two_of_is first second found.0 p found.2)

exchange_is : (d : Data) (e : Exchange) → exchange_in d ≡ Some e → d ≡ exchange_data e
exchange_is d e h =
    let found = and_then_is exchange_of (two_members (codes "line") (codes "reply") d) e h in
    let line = and_then_is _ (as_str found.0.0) e found.2 in
    let reply = map_is _ (as_str found.0.1) e line.2 in
    two_members_is (codes "line") (codes "reply") d found.0 found.1
    ∙ ap₂ (λ a b. object (member (codes "line") a (member (codes "reply") b no_members))) (as_str_is found.0.0 line.0 line.1) (as_str_is found.0.1 reply.0 reply.1)
    ∙ ap exchange_data reply.2

exchanges_is : (ds : Items) (es : List Exchange) → exchanges_in ds ≡ Some es → ds ≡ exchanges_data es
exchanges_is no_items es h = let same : [] ≡ es = cc in ap exchanges_data same
exchanges_is (item d ds) es h =
    let first = and_then_is _ (exchange_in d) es h in
    let more = map_is _ (exchanges_in ds) es first.2 in
    ap₂ item (exchange_is d first.0 first.1) (exchanges_is ds more.0 more.1) ∙ ap exchanges_data more.2

talk_is : (d : Data) (t : SessionTranscript) → talk_in d ≡ Some t → d ≡ talk_data t
talk_is d t h =
    let found = and_then_is talk_of (two_members (codes "name") (codes "replies") d) t h in
    let name = and_then_is _ (as_str found.0.0) t found.2 in
    let replies = map_is _ (option_and_then exchanges_in (as_array found.0.1)) t name.2 in
    let list = and_then_is exchanges_in (as_array found.0.1) replies.0 replies.1 in
    two_members_is (codes "name") (codes "replies") d found.0 found.1
    ∙ ap₂ (λ a b. object (member (codes "name") a (member (codes "replies") b no_members))) (as_str_is found.0.0 name.0 name.1) (as_array_is found.0.1 list.0 list.1 ∙ ap array (exchanges_is list.0 replies.0 list.2))
    ∙ ap talk_data replies.2

talks_is : (ds : Items) (ts : List SessionTranscript) → talks_in ds ≡ Some ts → ds ≡ talks_data ts
talks_is no_items ts h = let same : [] ≡ ts = cc in ap talks_data same
talks_is (item d ds) ts h =
    let first = and_then_is _ (talk_in d) ts h in
    let more = map_is _ (talks_in ds) ts first.2 in
    ap₂ item (talk_is d first.0 first.1) (talks_is ds more.0 more.1) ∙ ap talks_data more.2

pub transcript_is : (d : Data) (t : Transcript) → transcript_in d ≡ Some t → d ≡ transcript_data t
transcript_is d t h =
    let found = and_then_is transcript_of (two_members (codes "sessions") (codes "start") d) t h in
    let start = and_then_is _ (option_and_then as_u64 (as_number found.0.1)) t found.2 in
    let num = and_then_is as_u64 (as_number found.0.1) start.0 start.1 in
    let sessions = map_is _ (option_and_then talks_in (as_array found.0.0)) t start.2 in
    let list = and_then_is talks_in (as_array found.0.0) sessions.0 sessions.1 in
    two_members_is (codes "sessions") (codes "start") d found.0 found.1
    ∙ ap₂ (λ a b. object (member (codes "sessions") a (member (codes "start") b no_members)))
    (as_array_is found.0.0 list.0 list.1 ∙ ap array (talks_is list.0 sessions.0 list.2))
    (as_number_is found.0.1 num.0 num.1 ∙ ap number (as_u64_is num.0 start.0 num.2))
    ∙ ap transcript_data sessions.2

-- ---- the result of reading

data_of_one : (d : Data) (t u : Transcript) → transcript_in d ≡ Some t → d ≡ transcript_data u → t ≡ u
data_of_one d t u read is =
    let same : Some t ≡ Some u = sym read ∙ ap transcript_in is ∙ transcript_in-transcript_data u in
    cc

pub answers_some : (d : Data) (t : Transcript) (r : ReadTranscript) → transcript_in d ≡ Some t → AnswersSound t r → Answers d r
answers_some d t (out.Transcript u) read h = (transcript_is d t read ∙ ap transcript_data h.0, h.1)
answers_some d t out.BadText read h = λ u is sound. refused u (data_of_one d t u read is) sound where
  refused : (u : Transcript) → t ≡ u → IsTrue (is_sound u) → ⊥
  refused u same sound = let untrue : is_sound u ≡ false = ap is_sound (sym same) ∙ h in let wrong : false ≡ true = sym untrue ∙ sound in absurd cc
answers_some d t out.NoMemory read h = tt

pub answers_none : (d : Data) → transcript_in d ≡ None → Answers d out.BadText
answers_none d read u is sound =
    let same : None ≡ Some u = sym read ∙ ap transcript_in is ∙ transcript_in-transcript_data u in
    absurd cc
