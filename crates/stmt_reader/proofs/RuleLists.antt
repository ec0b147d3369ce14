-- Readings of lists.
use Rattle.std.proofs.Common.{◌≡◌, ℕ, zero, suc, Bool, true, false, List, [], ◌∷◌, ◌++◌, None, refl, sym, ap, subst, ◌∙◌, append_assoc, arith, inl, inr}
use Rattle.std.specs.Prelude.{◌⊎◌}
use Rattle.std.proofs.lemmas.Bool.{cases_Bool, or_parts}
use Rattle.std.proofs.lemmas.List.{append-nil}
use Rattle.stmt_tokens.specs.Tokens.{Token, word}
use Rattle.stmt_tokens.specs.Scan as scan
use Rattle.stmt_tokens.specs.Scan.{Seen, seen_token}
use Rattle.stmt_tokens.specs.Streams.{Placed, Stream, ends, stops, ◌then◌, onto, plain, size, heads}
use Rattle.stmt_reader.specs.Reading.{Parser, gives, bind, takes, more, list_parser, parts, items_from}
use Rattle.stmt_tokens.specs.Words.{is_item}
use Rattle.stmt_reader.specs.Grammar as rule
use Rattle.stmt_reader.specs.Grammar.{Rule, means, sequence, either, many}
use Rattle.stmt_reader.specs.Refusals.{Begins}
use Rattle.stmt_reader.specs.Forward.{Forward}
use Rattle.stmt_reader.specs.declared.phrases.Separator.{Separator}
use Rattle.stmt_tokens.specs.declared.tokens.Mark.TheVariants as marks
use Rattle.stmt_reader.proofs.Loops.{more_ends, more_goes}
use Rattle.stmt_reader.proofs.Placed.{size-onto, nothing_placed}
use Rattle.stmt_reader.proofs.Rules.{Reads, none, any, heads-any, Avoids, Alike, reads_alike, reads_gives, reads_bind, reads_then}
use Rattle.stmt_reader.proofs.RuleTokens.{Inner, behind, reads_takes, reads_mark, reads_wanted, same_text, avoids_means}

-- a reading that reads a rule never goes back
pub forward_of_reads : {A : Type 0} {p : Parser A} {L : Rule A} {c : Seen → Bool} → ((m : ℕ) → Reads m p L c) → Forward p
forward_of_reads r = record {
  goes = λ s a left e.
      let f = (r (size s)).finds s a left (omega arith) e in
      omega (arith, ap size f.split, size-onto f.taken left);
}

-- these items, and then more of the rule
abbrev pub After : {A : Type 0} → List A → Rule (List A) → Rule (List A)
After {A} front R ts items = (new : List A) × (items ≡ front ++ new) × R ts new

-- ---- more items

more_step : {A : Type 0} (test : Seen → Bool) (p : Parser A) (front : List A) (s : Stream) → Forward p → (heads test s ≡ true) ⊎ (heads test s ≡ false) → more test p front s ≡ takes test (bind p (λ a. more test p (front ++ a ∷ []))) (gives front) s
unfolding takes bind
more_step test p front s f (inl e) = more_goes test p front s f e ∙ rw e refl
more_step test p front s f (inr e) = more_ends test p front s e ∙ rw e refl

first_at : (c : Seen → Bool) (ts : List Placed) (t : Token) (rest : List Token) (left : Stream) → plain ts ≡ t ∷ rest → c (seen_token t) ≡ false → heads c (onto ts left) ≡ false
first_at c [] t rest left e k = absurd cc
first_at c (x ∷ xs) t rest left e k = let h : x.token ≡ t = cc in ap (λ y. c (seen_token y)) h ∙ k

weaker : (test c : Seen → Bool) (s : Stream) → heads (any test c) s ≡ false → heads (any test (any (any test c) none)) s ≡ false
weaker test c (ends q) e = refl
weaker test c (stops q) e = refl
weaker test c (t then s) e =
    let k = or_parts (test (seen_token t.token)) (c (seen_token t.token)) e in
    rw (k.0, k.1) refl

-- one more item, or none
abbrev one_more : {A : Type 0} → (Seen → Bool) → Rule A → List A → Rule (List A)
one_more test L front = either (behind test (sequence L (λ a. After (front ++ a ∷ []) (many (behind test L))))) (means front)

after_to : {A : Type 0} (test : Seen → Bool) (L : Rule A) (front : List A) (ts : List Token) (items : List A) → one_more test L front ts items → After front (many (behind test L)) ts items
unfolding either sequence means many
after_to test L front ts items (inl (us, vs, u, e, w, (us2, vs2, a, e2, l, (new, k, m)))) =
    (a ∷ new, k ∙ append_assoc front (a ∷ []) new, (us ++ us2, vs2, e ∙ ap (λ x. us ++ x) e2 ∙ sym (append_assoc us us2 vs2), (us, us2, u, refl, w, l), m))
after_to test L front ts items (inr (e, k)) = ([], sym k ∙ sym (append-nil front), e)

after_back : {A : Type 0} (test : Seen → Bool) (L : Rule A) (front : List A) (ts : List Token) (items new : List A) → items ≡ front ++ new → many (behind test L) ts new → one_more test L front ts items
unfolding either sequence means many
after_back test L front ts items [] k e = inr (e, sym (k ∙ append-nil front))
after_back test L front ts items (a ∷ new) k (xs, vs2, e, (us, us2, u, e2, w, l), m) =
    inl (us, us2 ++ vs2, u, e ∙ ap (λ x. x ++ vs2) e2 ∙ append_assoc us us2 vs2, w, (us2, vs2, a, refl, l, (new, k ∙ sym (append_assoc front (a ∷ []) new), m)))

after_alike : {A : Type 0} (test : Seen → Bool) (L : Rule A) (front : List A) → Alike (one_more test L front) (After front (many (behind test L)))
after_alike test L front = record { to = after_to test L front; back = λ ts items (new, k, m). after_back test L front ts items new k m }

-- what may follow an item: its separator, or what may follow the list
leads_many : {A : Type 0} (test c : Seen → Bool) (L : Rule A) (ts : List Placed) (new : List A) (left : Stream) → ((t : Seen) → test t ≡ true → c t ≡ false) → many (behind test L) (plain ts) new → heads (any test c) left ≡ false → heads c (onto ts left) ≡ false
unfolding many sequence rule.token_rule
leads_many test c L ts [] left apart e free = subst (λ us. heads c (onto us left) ≡ false) (sym (nothing_placed ts e)) (heads-any test c left free).1
leads_many test c L ts (a ∷ new) left apart (xs, vs2, e, (us, us2, u, e2, (t, e3, k), l), m) free =
    first_at c ts t (us2 ++ vs2) left (e ∙ ap (λ x. x ++ vs2) (e2 ∙ ap (λ x. x ++ us2) e3)) (apart (seen_token t) k)

avoids_after : {A : Type 0} (test c : Seen → Bool) (L : Rule A) (front : List A) → ((t : Seen) → test t ≡ true → c t ≡ false) → Avoids c (After front (many (behind test L))) (any test c)
avoids_after test c L front apart ts items left (new, k, m) free = leads_many test c L ts new left apart m free

begins_after : {A : Type 0} (test : Seen → Bool) (L : Rule A) (front : List A) → Begins (After front (many (behind test L))) []
unfolding many
begins_after test L front = ([], front ++ [], ([], refl, refl))

begins_item : {A : Type 0} (test : Seen → Bool) (L : Rule A) (front : List A) → Begins L [] → Begins (sequence L (λ a. After (front ++ a ∷ []) (many (behind test L)))) []
unfolding sequence many
begins_item test L front b = (b.0, (front ++ b.1 ∷ []) ++ [], (b.0, [], b.1, sym (append-nil b.0), b.2, ([], refl, refl)))

-- one item and then more of them
abbrev item_then : {A : Type 0} → (Seen → Bool) → Parser A → List A → Parser (List A)
item_then test p front = bind p (λ a. more test p (front ++ a ∷ []))

abbrev item_and : {A : Type 0} → (Seen → Bool) → Rule A → List A → Rule (List A)
item_and test L front = sequence L (λ a. After (front ++ a ∷ []) (many (behind test L)))

reads_more_at : (n : ℕ) {A : Type 0} (test : Seen → Bool) (t : Token) (p : Parser A) (L : Rule A) (c : Seen → Bool) (front : List A) → test (scan.number None) ≡ false → test (seen_token t) ≡ true → ((m : ℕ) → Reads m p L c)
    → Inner n (item_then test p front) (item_and test L front) (any test c) → Reads n (more test p front) (After front (many (behind test L))) (any test c)
reads_more_at n test t p L c front rejects e r inner =
    reads_alike n (takes test (item_then test p front) (gives front)) (more test p front) (one_more test L front) (After front (many (behind test L))) (any test (any (any test c) none)) (any test c)
    (λ s. more_step test p front s (forward_of_reads r) (cases_Bool (heads test s))) (after_alike test L front) (weaker test c)
    (reads_takes n test t (item_then test p front) (item_and test L front) (any test c) rejects e inner (begins_item test L front (r 0).starts) (reads_gives n front) (avoids_means test front (any (any test c) none)))

pub reads_more : (n : ℕ) {A : Type 0} (test : Seen → Bool) (t : Token) (p : Parser A) (L : Rule A) (c : Seen → Bool) (front : List A) → test (scan.number None) ≡ false → test (seen_token t) ≡ true → ((m : ℕ) → Reads m p L c) → ((x : Seen) → test x ≡ true → c x ≡ false)
    → Reads n (more test p front) (After front (many (behind test L))) (any test c)
reads_more zero test t p L c front rejects e r apart = reads_more_at zero test t p L c front rejects e r tt
reads_more (suc m) test t p L c front rejects e r apart =
    reads_more_at (suc m) test t p L c front rejects e r
    (reads_bind m (r m) (λ a. reads_more m test t p L c (front ++ a ∷ []) rejects e r apart) (λ a. avoids_after test c L (front ++ a ∷ []) apart))

-- ---- one item or more

pub alike-trans : {A : Type 0} (L M N : Rule A) → Alike L M → Alike M N → Alike L N
alike-trans L M N f g = record { to = λ ts a l. g.to ts a (f.to ts a l); back = λ ts a n. f.back ts a (g.back ts a n) }

pub alike-sequence : {A B : Type 0} (L : Rule A) (M N : A → Rule B) → ((a : A) → Alike (M a) (N a)) → Alike (sequence L M) (sequence L N)
unfolding sequence
alike-sequence L M N same = record {
  to = λ ts b (us, vs, a, e, l, m). (us, vs, a, e, l, (same a).to vs b m);
  back = λ ts b (us, vs, a, e, l, m). (us, vs, a, e, l, (same a).back vs b m);
}

others_to : {A : Type 0} (test : Seen → Bool) (L : Rule A) (a : A) (ts : List Token) (items : List A) → After (a ∷ []) (many (behind test L)) ts items → sequence (many (behind test L)) (λ others. means (a ∷ others)) ts items
unfolding sequence means
others_to test L a ts items (new, k, m) = (ts, [], new, sym (append-nil ts), m, (refl, sym k))

others_back : {A : Type 0} (test : Seen → Bool) (L : Rule A) (a : A) (ts : List Token) (items : List A) → sequence (many (behind test L)) (λ others. means (a ∷ others)) ts items → After (a ∷ []) (many (behind test L)) ts items
unfolding sequence means
others_back test L a ts items (us, vs, others, e, m, (v, k)) =
    let h : us ≡ ts = sym (e ∙ ap (λ x. us ++ x) v ∙ append-nil us) in
    (others, sym k, subst (λ x. many (behind test L) x others) h m)

others_alike : {A : Type 0} (test : Seen → Bool) (L : Rule A) (a : A) → Alike (After (a ∷ []) (many (behind test L))) (sequence (many (behind test L)) (λ others. means (a ∷ others)))
others_alike test L a = record { to = others_to test L a; back = others_back test L a }

-- the rule of a list whose separators pass a test
abbrev pub list_of : {A : Type 0} → (Seen → Bool) → Rule A → Rule (List A)
list_of test L = sequence L (λ a. sequence (many (behind test L)) (λ others. means (a ∷ others)))

pub reads_rest : (n : ℕ) {A : Type 0} (test : Seen → Bool) (t : Token) (p : Parser A) (L : Rule A) (c : Seen → Bool) (a : A) → test (scan.number None) ≡ false → test (seen_token t) ≡ true → ((m : ℕ) → Reads m p L c) → ((x : Seen) → test x ≡ true → c x ≡ false)
    → Reads n (more test p (a ∷ [])) (sequence (many (behind test L)) (λ others. means (a ∷ others))) (any test c)
reads_rest n test t p L c a rejects e r apart =
    reads_alike n (more test p (a ∷ [])) (more test p (a ∷ [])) (After (a ∷ []) (many (behind test L))) (sequence (many (behind test L)) (λ others. means (a ∷ others))) (any test c) (any test c)
    (λ s. refl) (others_alike test L a) (λ s h. h) (reads_more n test t p L c (a ∷ []) rejects e r apart)

pub avoids_rest : {A : Type 0} (test c : Seen → Bool) (L : Rule A) (a : A) → ((x : Seen) → test x ≡ true → c x ≡ false) → Avoids c (sequence (many (behind test L)) (λ others. means (a ∷ others))) (any test c)
avoids_rest test c L a apart ts items left m free = avoids_after test c L (a ∷ []) apart ts items left (others_back test L a (plain ts) items m) free

pub reads_listed : (n : ℕ) {A : Type 0} (separator : Separator) (t : Token) {p : Parser A} {L : Rule A} {c : Seen → Bool} → parts separator (scan.number None) ≡ false → parts separator (seen_token t) ≡ true → ((m : ℕ) → Reads m p L c) → ((x : Seen) → parts separator x ≡ true → c x ≡ false)
    → Reads n (list_parser separator p) (list_of (parts separator) L) (any (parts separator) c)
unfolding list_parser
reads_listed n separator t {p = p} {L = L} {c = c} rejects e r apart =
    reads_bind n (r n) (λ a. reads_rest n (parts separator) t p L c a rejects e r apart) (λ a. avoids_rest (parts separator) c L a apart)

-- ---- one item for each name

pub reads_items_from : (n : ℕ) (i : ℕ) (names : List (List ℕ)) → Reads n (items_from i names) (rule.items_from i names) none
reads_items_from n i [] = reads_gives n tt
reads_items_from n i (x ∷ names) =
    reads_then n (reads_mark n marks.Comma) (λ _. reads_then n (reads_wanted n (is_item i x) (word x) refl (same_text x)) (λ _. reads_items_from n (suc i) names))
