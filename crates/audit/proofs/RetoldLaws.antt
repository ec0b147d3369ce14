-- Replies that are explained in order.
use Rattle.std.proofs.Common.{◌≡◌, ◌≤◌, ◌<◌, ℕ, suc, ◌+◌, List, [], ◌∷◌, ◌++◌, get_or, length, map, take, None, refl, sym, ap, ◌∙◌, subst, append_assoc, arith}
use Rattle.std.proofs.lemmas.List.{append-nil, take_more}
use Rattle.std.specs.Prelude.{Option}
use Rattle.ts_model.specs.declared.events.Event.{Event}
use Rattle.ts_model.specs.History.{History, base_position}
use Rattle.ts_sessions.specs.Gives.{Gives}
use Rattle.ts_sessions.specs.Made.{made_in}
use Rattle.ts_sessions.specs.Places.{Places, Turn, no_places}
use Rattle.ts_sessions.specs.Replies.{reply_to}
use Rattle.ts_sessions.specs.Script.{text_of}
use Rattle.transcript.specs.declared.transcripts.Exchange.{Exchange}
use Rattle.audit.specs.Answers.{HasExplanation}
use Rattle.audit.specs.Explained.{Came, IsExplained, named_by, texts_of}
use Rattle.audit.specs.Lines.{line_of}
use Rattle.audit.specs.ReplayedReplies.{Leads, Names, StopsAt}

-- ---- the first reply, and those after it

-- the outcome of a line
abbrev pub GivesHere : History → ℕ → Places → Exchange → Came → Type 0
GivesHere all at p e a = Gives all None at [] (reply_to p (line_of e).text (line_of e).skip) a.looks a.last a.given a.end

-- the result of the first line, and those of the later lines
pub record Uncons (all : History) (at : ℕ) (p : Places) (name : List ℕ) (e : Exchange) (es : List Exchange)
    (answers : List Came) : Type 0 where
  pub first : Came
  pub rest : List Came
  pub is : answers ≡ first ∷ rest
  pub gives : GivesHere all at p e first
  pub text : text_of name first.end.said ≡ e.reply
  pub explained : IsExplained all first.last first.end.places name es rest

pub uncons : (all : History) (at : ℕ) (p : Places) (name : List ℕ) (e : Exchange) (es : List Exchange) (answers : List Came) → IsExplained all at p name (e ∷ es) answers → Uncons all at p name e es answers
uncons all at p name e es [] x = absurd x.answered
uncons all at p name e es (a ∷ answers) x =
    let same : text_of name a.end.said ∷ texts_of name answers ≡ e.reply ∷ map (λ f. f.reply) es = x.replies in
    let head : text_of name a.end.said ≡ e.reply = cc in
    let tail : texts_of name answers ≡ map (λ f. f.reply) es = cc in
    record {
      first = a;
      rest = answers;
      is = refl;
      gives = x.answered.0;
      text = head;
      explained = record { answered = x.answered.1; replies = tail };
    }

pub cons : (all : History) (at : ℕ) (p : Places) (name : List ℕ) (e : Exchange) (es : List Exchange) (a : Came) (answers : List Came) → GivesHere all at p e a → text_of name a.end.said ≡ e.reply → IsExplained all a.last a.end.places name es answers → IsExplained all at p name (e ∷ es) (a ∷ answers)
cons all at p name e es a answers gives text x = record {
  answered = (gives, x.answered);
  replies = λ i. text i ∷ x.replies i;
}

-- ---- further replies

pub leads_none : (all : History) (name : List ℕ) (at : ℕ) (p : Places) → Leads all name at p [] at p []
leads_none all name at p = record {
  there = λ more others n. n;
  back = λ more found n. record { others = found; is = refl; names = n };
}

pub leads_more : (all : History) (name : List ℕ) (at : ℕ) (p : Places) (es : List Exchange) (mid : ℕ) (r : Places) (ns : List ℕ) (fs : List Exchange) (last : ℕ) (q : Places) (ms : List ℕ) → Leads all name at p es mid r ns → Leads all name mid r fs last q ms → Leads all name at p (es ++ fs) last q (ns ++ ms)
leads_more all name at p es mid r ns fs last q ms l k = record {
  there = λ more others n.
      let whole = l.there (fs ++ more) (ms ++ others) (k.there more others n) in
      subst (λ ks. Names all at p name ((es ++ fs) ++ more) ks) (sym (append_assoc ns ms others))
      (subst (λ xs. Names all at p name xs (ns ++ (ms ++ others))) (sym (append_assoc es fs more)) whole);
  back = λ more found n.
      let one = l.back (fs ++ more) found (subst (λ xs. Names all at p name xs found) (append_assoc es fs more) n) in
      let two = k.back more one.others one.names in
      record {
        others = two.others;
        is = one.is ∙ ap (λ ks. ns ++ ks) two.is ∙ sym (append_assoc ns ms two.others);
        names = two.names;
      };
}

-- ---- one reply

-- two readings of a reply agree
pub record SameReply (last last_too : ℕ) (y z : Turn Places) : Type 0 where
  pub last_is : last_too ≡ last
  pub said : z.said ≡ y.said
  pub places : z.places ≡ y.places

-- the text of a reply determines the outcome of its line
abbrev pub TextsTellReplies : History → List ℕ → Type 0
TextsTellReplies all name =
    (at : ℕ) (p : Places) (text : List ℕ) (skip : ℕ) (looks looks_too : List (Option ℕ)) (last last_too : ℕ)
    (given given_too : List (ℕ × Event)) (y z : Turn Places)
    → base_position all ≤ at → Gives all None at [] (reply_to p text skip) looks last given y
    → Gives all None at [] (reply_to p text skip) looks_too last_too given_too z → text_of name z.said ≡ text_of name y.said
    → SameReply last last_too y z

pub leads_one : (all : History) (name : List ℕ) (at : ℕ) (p : Places) (e : Exchange) (a : Came) → TextsTellReplies all name → base_position all ≤ at → GivesHere all at p e a → text_of name a.end.said ≡ e.reply → Leads all name at p (e ∷ []) a.last a.end.places (made_in a.end.said)
leads_one all name at p e a tells low gives text = record {
  there = λ more others n. record {
    answers = a ∷ n.answers;
    explained = cons all at p name e more a n.answers gives text n.explained;
    named = ap (λ ns. made_in a.end.said ++ ns) n.named;
  };
  back = λ more found n.
      let u = uncons all at p name e more n.answers n.explained in
      let same = tells at p (line_of e).text (line_of e).skip a.looks u.first.looks a.last u.first.last a.given u.first.given a.end u.first.end low gives u.gives (u.text ∙ sym text) in
      record {
        others = named_by u.rest;
        is = sym n.named ∙ ap named_by u.is ∙ ap (λ s. made_in s ++ named_by u.rest) same.said;
        names = record {
          answers = u.rest;
          explained =
              subst (λ q. IsExplained all a.last q name more u.rest) same.places
              (subst (λ l. IsExplained all l u.first.end.places name more u.rest) same.last_is u.explained);
          named = refl;
        };
      };
}

-- ---- whole sessions

-- the replies that lead a session to a position are explained
pub names_led : (all : History) (name : List ℕ) (at : ℕ) (p : Places) (es : List Exchange) (last : ℕ) (q : Places) (ns : List ℕ) → Leads all name at p es last q ns → Names all at p name es ns
names_led all name at p es last q ns l =
    subst (λ ks. Names all at p name es ks) (append-nil ns)
    (subst (λ xs. Names all at p name xs (ns ++ [])) (append-nil es)
    (l.there [] [] (record { answers = []; explained = record { answered = tt; replies = refl }; named = refl })))

pub has_explanation : (all : History) (start : ℕ) (name : List ℕ) (es : List Exchange) (ns : List ℕ) → Names all start no_places name es ns → HasExplanation all start name es
has_explanation all start name es ns n = record { answers = n.answers; explained = n.explained }

-- if the next reply isn't explained there, the replies up to and including it aren't
pub not_explained : (all : History) (name : List ℕ) (start : ℕ) (es : List Exchange) (e : Exchange) (last : ℕ) (q : Places) (ns : List ℕ) → Leads all name start no_places es last q ns → ((found : List ℕ) → Names all last q name (e ∷ []) found → ⊥) → HasExplanation all start name (es ++ e ∷ []) → ⊥
not_explained all name start es e last q ns l fails h =
    let left = l.back (e ∷ []) (named_by h.answers) (record { answers = h.answers; explained = h.explained; named = refl }) in
    fails left.others left.names

-- so a session stops there
pub stops_here : (all : History) (name : List ℕ) (start : ℕ) (exchanges : List Exchange) (i : ℕ) (e : Exchange) (last : ℕ) (q : Places) (ns : List ℕ) → Leads all name start no_places (take i exchanges) last q ns → i < length exchanges → e ≡ get_or exchanges i e → ((found : List ℕ) → Names all last q name (e ∷ []) found → ⊥) → StopsAt all start (record { name = name; replies = exchanges }) i
stops_here all name start exchanges i e last q ns l within at fails =
    let one : suc i ≡ i + 1 = omega arith in
    let more : take (suc i) exchanges ≡ take i exchanges ++ e ∷ [] = ap (λ n. take n exchanges) one ∙ take_more exchanges i e within ∙ ap (λ x. take i exchanges ++ x ∷ []) (sym at) in
    record {
      before = has_explanation all start name (take i exchanges) ns (names_led all name start no_places (take i exchanges) last q ns l);
      fails = λ h. not_explained all name start (take i exchanges) e last q ns l fails (subst (HasExplanation all start name) more h);
    }
