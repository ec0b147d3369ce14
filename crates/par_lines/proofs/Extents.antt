-- Sizes of lines in an input.
use Rattle.std.proofs.Common.{◌≡◌, ℕ, ◌+◌, ◌<◌, ◌≤◌, List, [], ◌∷◌, ◌++◌, length, get_or, set, Option, Some, None, sym, ap, ◌∙◌, subst, arith}
use Rattle.std.specs.List.{All, sum_by}
use Rattle.std.specs.Option.{IfSome, option_to_list}
use Rattle.std.proofs.lemmas.List.Elements.{All-get_or, All-push, All-set, All-weaker}
use Rattle.std.proofs.lemmas.List.Sums.{sum_by_push}
use Rattle.par_lines.specs.declared.sessions.LinePlace.{LinePlace}
use Rattle.par_lines.specs.declared.sessions.SessionLines.{SessionLines}
use Rattle.par_lines.specs.Places.{IsLineWithin, IsWithin}

abbrev place_len : LinePlace → ℕ
place_len place = place.len

-- a line within some bytes is within more bytes
line_wider : (m n : ℕ) → m ≤ n → (place : LinePlace) → IsLineWithin m place → IsLineWithin n place
line_wider m n more place h = record { inside = omega (arith, h.inside); statement = h.statement; short = h.short }

wider : (m n : ℕ) → m ≤ n → (session : SessionLines) → IsWithin m session → IsWithin n session
wider m n more session h = record {
  each = All-weaker (IsLineWithin m) (IsLineWithin n) (line_wider m n more) session.lines.items h.each;
  together = omega (arith, h.together);
}

pub all_wider : (m n : ℕ) → m ≤ n → (sessions : List SessionLines) → All (IsWithin m) sessions → All (IsWithin n) sessions
all_wider m n more sessions all = All-weaker (IsWithin m) (IsWithin n) (wider m n more) sessions all

-- a session has one more line, which begins after all earlier ones
longer : (n : ℕ) (place : LinePlace) (session new : SessionLines) → IsLineWithin n place → IsWithin place.from session → new.lines.items ≡ session.lines.items ++ place ∷ [] → IsWithin n new
longer n place session new h old pushed =
    let more : place.from ≤ n = omega (arith, h.inside) in
    let lines = session.lines.items in
    record {
      each = subst (λ l. All (IsLineWithin n) l) (sym pushed) (All-push (IsLineWithin n) lines place (All-weaker (IsLineWithin place.from) (IsLineWithin n) (line_wider place.from n more) lines old.each) h);
      together =
          let sum : sum_by place_len new.lines.items ≡ sum_by place_len lines + place.len = ap (sum_by place_len) pushed ∙ sum_by_push place_len lines place in
          omega (arith, sum, old.together, h.inside);
    }

pub within_set : (n : ℕ) (place : LinePlace) (sessions : List SessionLines) (i : ℕ) (session new : SessionLines) → IsLineWithin n place → All (IsWithin place.from) sessions
    → i < length sessions → session ≡ get_or sessions i session → new.lines.items ≡ session.lines.items ++ place ∷ [] → All (IsWithin n) (set sessions i new)
within_set n place sessions i session new h all l at pushed =
    let old : IsWithin place.from session = subst (IsWithin place.from) (sym at) (All-get_or (IsWithin place.from) sessions i session l all) in
    All-set (IsWithin n) sessions i new (longer n place session new h old pushed) (all_wider place.from n (omega (arith, h.inside)) sessions all)

-- the element of a list of at most one
pub all_of_one : {X : Type 0} (P : X → Type 0) (o : Option X) → All P (option_to_list o) → IfSome o P
all_of_one P None all = tt
all_of_one P (Some x) all = all 0 x (omega arith)
