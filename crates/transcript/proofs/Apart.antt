-- Names that were seen, and whether one comes twice.
use Rattle.std.proofs.Common.{◌≡◌, ℕ, List, [], ◌∷◌, ◌++◌, Bool, true, false, not, ◌&&◌, ◌||◌, Ordering, Less, Equal, Greater, Bor, bytes_eq, is_eq, nat_cmp, map, refl, sym, ap, ◌∙◌, append_assoc, append-nil}
use Rattle.std.proofs.lemmas.Map.Text.{is_eq-slice_cmp}
use Rattle.std.proofs.lemmas.Slice.Eq.{bytes_eq-Decides}
use Rattle.std.specs.BTreeSet.{insert_key}
use Rattle.std.specs.Cmp.Lexicographic.{slice_cmp}
use Rattle.std.specs.List.{list_any}
use Rattle.std.specs.Ordering.{match_ordering}
use Rattle.transcript.specs.Shape.{is_among, are_apart}
use Rattle.transcript.specs.declared.transcripts.SessionTranscript.{SessionTranscript}

abbrev Key : Type 0
Key = Bor (List ℕ)

abbrev order : Key → Key → Ordering
order x y = slice_cmp nat_cmp x.now y.now

-- whether the key is this name
abbrev is_name : List ℕ → Key → Bool
is_name q k = is_eq (slice_cmp nat_cmp q k.now)

-- whether the name is a key
abbrev pub is_kept : List ℕ → List Key → Bool
is_kept q ks = list_any (is_name q) ks

again : (a b : Bool) → (a || (a || b)) ≡ (a || b)
again true b = refl
again false b = refl

swapped : (a b c : Bool) → (a || (b || c)) ≡ (b || (a || c))
swapped true true c = refl
swapped true false c = refl
swapped false true c = refl
swapped false false c = refl

same_now : (k x : Key) → order k x ≡ Equal → k.now ≡ x.now
same_now k x e = (bytes_eq-Decides k.now x.now).0 (sym (is_eq-slice_cmp k.now x.now) ∙ ap is_eq e)

placed : (o : Ordering) (q : List ℕ) (k x : Key) (xs : List Key) → order k x ≡ o → is_kept q (insert_key order xs k) ≡ (is_name q k || is_kept q xs)
    → is_kept q (match_ordering o (k ∷ x ∷ xs) (x ∷ xs) (x ∷ insert_key order xs k)) ≡ (is_name q k || is_kept q (x ∷ xs))
placed Less q k x xs is later = refl
placed Equal q k x xs is later = sym (ap (λ n. is_eq (slice_cmp nat_cmp q n) || is_kept q (x ∷ xs)) (same_now k x is) ∙ again (is_name q x) (is_kept q xs))
placed Greater q k x xs is later = ap (λ b. is_name q x || b) later ∙ swapped (is_name q x) (is_name q k) (is_kept q xs)

is_kept-insert_key : (q : List ℕ) (ks : List Key) (k : Key) → is_kept q (insert_key order ks k) ≡ (is_name q k || is_kept q ks)
is_kept-insert_key q [] k = refl
is_kept-insert_key q (x ∷ xs) k = placed (order k x) q k x xs refl (is_kept-insert_key q xs k)

abbrev names_of : List SessionTranscript → List (List ℕ)
names_of talks = map (λ s. s.name) talks

-- the session transcripts are those left and then those done. No name comes twice among those done, and their names are
-- the keys
pub record Seen (talks left done : List SessionTranscript) (ks : List Key) : Type 0 where
  pub split : talks ≡ left ++ done
  pub apart : are_apart (names_of done) ≡ true
  pub kept : (q : List ℕ) → is_kept q ks ≡ is_among q (names_of done)

pub none_seen : (talks : List SessionTranscript) (ks : List Key) → ks ≡ [] → Seen talks talks [] ks
none_seen talks ks e = record { split = sym (append-nil talks); apart = refl; kept = λ q. rw e refl }

key_among : (talk : SessionTranscript) (key : Key) (talks left done : List SessionTranscript) (ks : List Key) → Seen talks left done ks → key.now ≡ talk.name → is_kept key.now ks ≡ is_among talk.name (names_of done)
key_among talk key talks left done ks h e = h.kept key.now ∙ ap (λ n. is_among n (names_of done)) e

pub one_seen : (talks left rest done : List SessionTranscript) (talk : SessionTranscript) (key : Key) (ks new : List Key) → Seen talks left done ks → left ≡ rest ++ talk ∷ [] → key.now ≡ talk.name
    → true ≡ not (is_kept key.now ks) → new ≡ insert_key order ks key → Seen talks rest (talk ∷ done) new
one_seen talks left rest done talk key ks new h last e fresh is = record {
  split = h.split ∙ ap (λ l. l ++ done) last ∙ append_assoc rest (talk ∷ []) done;
  apart = ap (λ b. b && are_apart (names_of done)) (ap not (sym (key_among talk key talks left done ks h e)) ∙ sym fresh) ∙ h.apart;
  kept = λ q. ap (is_kept q) is ∙ is_kept-insert_key q ks key ∙ ap (λ b. b || is_kept q ks) (is_eq-slice_cmp q key.now ∙ ap (bytes_eq q) e) ∙ ap (λ b. bytes_eq q talk.name || b) (h.kept q);
}

and_false : (b : Bool) → (b && false) ≡ false
and_false true = refl
and_false false = refl

not_apart : (before : List SessionTranscript) (name : List ℕ) (done : List SessionTranscript) → is_among name (names_of done) ≡ true → are_apart (names_of before ++ name ∷ names_of done) ≡ false
not_apart [] name done h = ap (λ b. not b && are_apart (names_of done)) h
not_apart (t ∷ before) name done h = ap (λ b. not (is_among t.name (names_of before ++ name ∷ names_of done)) && b) (not_apart before name done h) ∙ and_false _

names-append : (before : List SessionTranscript) (talk : SessionTranscript) (done : List SessionTranscript) → names_of (before ++ talk ∷ done) ≡ names_of before ++ talk.name ∷ names_of done
names-append [] talk done = refl
names-append (t ∷ before) talk done = ap (λ l. t.name ∷ l) (names-append before talk done)

not_false : (b : Bool) → false ≡ not b → b ≡ true
not_false true h = refl
not_false false h = absurd cc

pub seen_twice : (talks left rest done : List SessionTranscript) (talk : SessionTranscript) (key : Key) (ks : List Key) → Seen talks left done ks → left ≡ rest ++ talk ∷ [] → key.now ≡ talk.name
    → false ≡ not (is_kept key.now ks) → false ≡ are_apart (names_of talks)
seen_twice talks left rest done talk key ks h last e known =
    let among = sym (key_among talk key talks left done ks h e) ∙ not_false (is_kept key.now ks) known in
    let whole : talks ≡ rest ++ talk ∷ done = h.split ∙ ap (λ l. l ++ done) last ∙ append_assoc rest (talk ∷ []) done in
    sym (ap (λ l. are_apart (names_of l)) whole ∙ ap are_apart (names-append rest talk done) ∙ not_apart rest talk.name done among)

pub all_seen : (talks left done : List SessionTranscript) (ks : List Key) → Seen talks left done ks → left ≡ [] → true ≡ are_apart (names_of talks)
all_seen talks left done ks h none = sym (ap (λ l. are_apart (names_of l)) (h.split ∙ ap (λ l. l ++ done) none) ∙ h.apart)
