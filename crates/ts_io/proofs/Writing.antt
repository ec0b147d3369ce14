-- Texts written in pieces.
use Rattle.std.proofs.Common.{◌≡◌, ℕ, ◌-◌, List, [], length, ◌++◌, take, drop, refl, sym, ap, ◌∙◌, append_assoc, take-append-drop}
use Rattle.std.proofs.lemmas.List.{take_rest}
use Rattle.std.specs.Prelude.{Option}
use Rattle.std.specs.Io.KnownBytes.{Appends}
use Rattle.std.proofs.KnownBytes.{Appends-nil, Appends-trans}
use Rattle.ts_io.specs.Whole.{AppendsPart}

-- all of the text except the rest was written
pub record AppendsSome (old new : Option (List ℕ)) (text rest : List ℕ) : Type 0 where
  pub done : List ℕ
  pub split : text ≡ done ++ rest
  pub grew : Appends old new done

-- the first n bytes of the rest follow; what is left is written as the code cuts it
pub AppendsSome-more : (old mid new : Option (List ℕ)) (text rest : List ℕ) (n : ℕ) → AppendsSome old mid text rest → Appends mid new (take n rest)
    → AppendsSome old new text (take (length rest - n) (drop n rest))
AppendsSome-more old mid new text rest n so_far more = record {
  done = so_far.done ++ take n rest;
  split = so_far.split ∙ ap (λ l. so_far.done ++ l) (sym (take-append-drop n rest)) ∙ sym (append_assoc so_far.done (take n rest) (drop n rest))
      ∙ ap (λ l. (so_far.done ++ take n rest) ++ l) (sym (take_rest rest n));
  grew = Appends-trans old mid new so_far.done (take n rest) so_far.grew more;
}

-- nothing was written
pub AppendsPart-none : (old : Option (List ℕ)) (text : List ℕ) → AppendsPart old old text
AppendsPart-none old text = record { done = []; todo = text; split = refl; grew = Appends-nil old }

-- a part of a text is a part of every longer one
pub AppendsPart-longer : (old new : Option (List ℕ)) (text more : List ℕ) → AppendsPart old new text → AppendsPart old new (text ++ more)
AppendsPart-longer old new text more part = record {
  done = part.done;
  todo = part.todo ++ more;
  split = ap (λ l. l ++ more) part.split ∙ append_assoc part.done part.todo more;
  grew = part.grew;
}

-- a text that was written whole, and a part of one that follows
pub AppendsPart-after : (old mid new : Option (List ℕ)) (first second : List ℕ) → Appends old mid first → AppendsPart mid new second → AppendsPart old new (first ++ second)
AppendsPart-after old mid new first second whole part = record {
  done = first ++ part.done;
  todo = part.todo;
  split = ap (λ l. first ++ l) part.split ∙ sym (append_assoc first part.done part.todo);
  grew = Appends-trans old mid new first part.done whole part.grew;
}

-- a text that was written whole is a part of every text that begins with it
pub AppendsPart-whole : (old new : Option (List ℕ)) (text more : List ℕ) → Appends old new text → AppendsPart old new (text ++ more)
AppendsPart-whole old new text more whole = record { done = text; todo = more; split = refl; grew = whole }
