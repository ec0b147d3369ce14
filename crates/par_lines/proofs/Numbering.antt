-- Sessions stay numbered when one of them gets one more line.
use Rattle.std.proofs.Common.{◌≡◌, ℕ, ◌+◌, ◌<◌, List, [], ◌∷◌, ◌++◌, length, get_or, set, map, sym, ap, subst, ◌∙◌, arith}
use Rattle.std.specs.List.{All, range_with_len}
use Rattle.std.proofs.lemmas.List.{get_or-map, length-map, length-set, length_push, map-id, map_push}
use Rattle.std.proofs.lemmas.List.FromFn.{get_or-range_with_len, map-range_with_len_more}
use Rattle.std.proofs.Math.Seq.{map-set_same}
use Rattle.par_lines.specs.declared.sessions.SessionLines.{SessionLines}
use Rattle.par_lines.specs.Places.{script_of, scripts_of, AreNumbered}
use Rattle.par_lines.specs.Sorted.{HasNumber}

abbrev number : SessionLines → ℕ
number session = session.number

range_more : (n : ℕ) → range_with_len 0 (n + 1) ≡ range_with_len 0 n ++ n ∷ []
range_more n =
    sym (map-id (range_with_len 0 (n + 1)))
    ∙ map-range_with_len_more (λ (x : ℕ). x) 0 n n (omega arith)
    ∙ ap (λ ns. ns ++ n ∷ []) (map-id (range_with_len 0 n))

-- a new session has the next number
pub numbered_push : (sessions after : List SessionLines) (new : SessionLines) → after ≡ sessions ++ new ∷ [] → new.number ≡ length sessions → AreNumbered sessions → AreNumbered after
numbered_push sessions after new pushed next are =
    ap (map number) pushed
    ∙ map_push number sessions new
    ∙ ap (λ ns. ns ++ new.number ∷ []) are
    ∙ ap (λ k. range_with_len 0 (length sessions) ++ k ∷ []) next
    ∙ sym (range_more (length sessions))
    ∙ ap (range_with_len 0) (sym (length_push sessions new) ∙ ap length (sym pushed))

-- a session that has appeared keeps its number
pub numbered_set : (sessions : List SessionLines) (i : ℕ) (session new : SessionLines) → session ≡ get_or sessions i session → new.number ≡ session.number → AreNumbered sessions → AreNumbered (set sessions i new)
numbered_set sessions i session new at same are =
    map-set_same number sessions i new session (same ∙ ap number at)
    ∙ are
    ∙ ap (range_with_len 0) (sym (length-set sessions i new))

-- so each session has its own number
pub has_number : (input : List ℕ) (sessions : List SessionLines) → AreNumbered sessions → All (λ session. HasNumber (scripts_of input sessions) (script_of input session) session.number) sessions
has_number input sessions are k d l =
    let session = get_or sessions k d in
    let same = get_or-map number sessions k d 0 l in
    let counted = ap (λ ns. get_or ns k 0) are ∙ get_or-range_with_len 0 (length sessions) k 0 l in
    let at : session.number ≡ k = omega (arith, same, counted) in
    subst (λ n. HasNumber (scripts_of input sessions) (script_of input session) n) (sym at)
    (record { there = omega (arith, l, length-map sessions (script_of input)); is = get_or-map (script_of input) sessions k d (script_of input session) l })
