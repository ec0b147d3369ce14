-- A text sent in parts through a page.
use Rattle.std.proofs.Common.{◌≡◌, ℕ, Bool, List, [], ◌++◌, Option, Result, Ok, Err, refl, sym, ap, ◌∙◌, subst, append_assoc, append-nil}
use Rattle.std.specs.Prelude.{OnErr, OnOk}
use Rattle.std.specs.Io.KnownBytes.{Appends}
use Rattle.std.proofs.KnownBytes.{Appends-nil, Appends-trans}
use Rattle.ts_io.specs.Faults.{Counted}
use Rattle.ts_io.specs.Whole.{AppendsPart}
use Rattle.ts_io.specs.declared.whole.WriteFault.{WriteFault}
use Rattle.ts_io.proofs.Writing.{AppendsPart-longer, AppendsPart-after}
use Rattle.transcript.specs.Sending.{Gathers, Sends}

-- ---- pages

-- a piece that fits stays in the page
pub waits_whole : (old : Option (List ℕ)) (before after piece : List ℕ) → after ≡ before ++ piece → Gathers old old before after piece
waits_whole old before after piece is = record { front = []; grew = Appends-nil old; waits = sym is }

-- the bytes of the page were written
pub emptied : (old new : Option (List ℕ)) (before after : List ℕ) → after ≡ [] → Appends old new before → Gathers old new before after []
emptied old new before after none all = record { front = before; grew = all; waits = ap (λ l. before ++ l) (sym none) }

-- a piece was written directly, with an empty page, or a part of it
pub written_at_once : (old new : Option (List ℕ)) (before after piece : List ℕ) (r : Result (Unit {0}) WriteFault) → before ≡ [] → after ≡ [] → OnOk r (Appends old new piece) → OnErr r (AppendsPart old new piece)
    → Sends r old new before after piece
written_at_once old new before after piece (Ok done) none empty all part = record { front = piece; grew = all; waits = ap (λ l. l ++ piece) none ∙ sym (append-nil piece) ∙ ap (λ l. piece ++ l) (sym empty) }
written_at_once old new before after piece (Err fault) none empty all part = subst (λ l. AppendsPart old new (l ++ piece)) (sym none) part

-- ---- two parts

module _ (old mid new : Option (List ℕ)) (before page after first second : List ℕ) where
  joined : (front : List ℕ) → before ++ first ≡ front ++ page → before ++ (first ++ second) ≡ front ++ (page ++ second)
  joined front is = sym (append_assoc before first second) ∙ ap (λ l. l ++ second) is ∙ append_assoc front page second

  pub gathers_both : Gathers old mid before page first → Gathers mid new page after second → Gathers old new before after (first ++ second)
  gathers_both g h = record {
    front = g.front ++ h.front;
    grew = Appends-trans old mid new g.front h.front g.grew h.grew;
    waits = joined g.front g.waits ∙ ap (λ l. g.front ++ l) h.waits ∙ sym (append_assoc g.front h.front after);
  }

  -- the first part was sent, and then a part of the page and of the second was written
  pub part_of_both : Gathers old mid before page first → AppendsPart mid new (page ++ second) → AppendsPart old new (before ++ (first ++ second))
  part_of_both g part = subst (AppendsPart old new) (sym (joined g.front g.waits)) (AppendsPart-after old mid new g.front (page ++ second) g.grew part)

  -- the first part was sent, and then the second
  pub then_sent : (r : Result (Unit {0}) WriteFault) → Gathers old mid before page first → Sends r mid new page after second → Sends r old new before after (first ++ second)
  then_sent (Ok done) g sent = gathers_both g sent
  then_sent (Err fault) g sent = part_of_both g sent

-- a part of the page and of the first part is a part of the whole
pub first_failed : (old new : Option (List ℕ)) (before first second : List ℕ) → AppendsPart old new (before ++ first) → AppendsPart old new (before ++ (first ++ second))
first_failed old new before first second part = subst (AppendsPart old new) (append_assoc before first second) (AppendsPart-longer old new (before ++ first) second part)

-- ---- the whole

-- a text was sent through a page that was empty at first, and then the page was written, or a part of it
pub wrote_all : (old mid new : Option (List ℕ)) (before page text : List ℕ) → before ≡ [] → Gathers old mid before page text → Appends mid new page → Appends old new text
wrote_all old mid new before page text none g all =
    subst (Appends old new) (sym g.waits ∙ ap (λ l. l ++ text) none) (Appends-trans old mid new g.front page g.grew all)

pub wrote_part : (old mid new : Option (List ℕ)) (before page text : List ℕ) → before ≡ [] → Gathers old mid before page text → AppendsPart mid new page → AppendsPart old new text
wrote_part old mid new before page text none g part =
    subst (AppendsPart old new) (sym g.waits ∙ ap (λ l. l ++ text) none) (AppendsPart-after old mid new g.front page g.grew part)

pub wrote_front : (old new : Option (List ℕ)) (before text : List ℕ) → before ≡ [] → AppendsPart old new (before ++ text) → AppendsPart old new text
wrote_front old new before text none part = subst (λ l. AppendsPart old new (l ++ text)) none part

pub wrote : (old mid new : Option (List ℕ)) (before page text : List ℕ) (r : Result (Unit {0}) WriteFault) → before ≡ [] → Gathers old mid before page text → OnOk r (Appends mid new page) → OnOk r (Appends old new text)
wrote old mid new before page text (Ok done) none g all = wrote_all old mid new before page text none g all
wrote old mid new before page text (Err fault) none g all = tt

pub wrote_some : (old mid new : Option (List ℕ)) (before page text : List ℕ) (r : Result (Unit {0}) WriteFault) → before ≡ [] → Gathers old mid before page text → OnErr r (AppendsPart mid new page) → OnErr r (AppendsPart old new text)
wrote_some old mid new before page text (Ok done) none g part = tt
wrote_some old mid new before page text (Err fault) none g part = wrote_part old mid new before page text none g part

-- the count rises from one that stayed the same
pub then_counted : (a b c : ℕ) (fault : Bool) → b ≡ a → Counted b c fault → Counted a c fault
then_counted a b c fault same h = subst (λ n. Counted n c fault) same h

-- ---- lists

-- the text of a list's first items was sent, and that of the others is left
pub record SentSome (old now : Option (List ℕ)) (before page text rest : List ℕ) : Type 0 where
  pub done : List ℕ
  pub split : text ≡ done ++ rest
  pub sent : Gathers old now before page done

pub none_sent : (old : Option (List ℕ)) (page text : List ℕ) → SentSome old old page page text text
none_sent old page text = record { done = []; split = refl; sent = waits_whole old page page [] (sym (append-nil page)) }

module _ (old mid new : Option (List ℕ)) (before page after text : List ℕ) where
  pub some_sent : (item rest : List ℕ) → SentSome old mid before page text (item ++ rest) → Gathers mid new page after item → SentSome old new before after text rest
  some_sent item rest h more = record {
    done = h.done ++ item;
    split = h.split ∙ sym (append_assoc h.done item rest);
    sent = gathers_both old mid new before page after h.done item h.sent more;
  }

  pub some_failed : (item rest : List ℕ) → SentSome old mid before page text (item ++ rest) → AppendsPart mid new (page ++ item) → AppendsPart old new (before ++ text)
  some_failed item rest h part =
      let whole : text ≡ (h.done ++ item) ++ rest = h.split ∙ sym (append_assoc h.done item rest) in
      subst (λ t. AppendsPart old new (before ++ t)) (sym whole)
      (first_failed old new before (h.done ++ item) rest (part_of_both old mid new before page after h.done item h.sent part))

  pub rest_sent : (rest : List ℕ) (r : Result (Unit {0}) WriteFault) → SentSome old mid before page text rest → Sends r mid new page after rest → Sends r old new before after text
  rest_sent rest r h sent = subst (Sends r old new before after) (sym h.split) (then_sent old mid new before page after h.done rest r h.sent sent)
