-- The indexes of the lines in the script.
use Rattle.std.proofs.Common.{◌≡◌, ◌∙◌, refl, sym, ap, inl, inr, ℕ, zero, suc, ◌+◌, ◌-◌, ◌*◌, ◌/◌, ◌%◌, ◌<◌, ◌≤◌, List, [], ◌∷◌, ◌++◌, length, take, None, Some, arith}
use Rattle.std.specs.Prelude.{◌⊎◌, ◌↔◌, slice_get}
use Rattle.std.proofs.lemmas.Option.{slice_get_cases}
use Rattle.std.proofs.lemmas.List.{append_assoc, append-nil, take_all}
use Rattle.std.specs.List.{flat_map, range_with_len}
use Rattle.demo_script.specs.Demo.{answer_line, demo_lines, demo_text, late_line, line_at, round_lines, with_end}
use Rattle.demo_script.specs.Lines.{line_with_end}

-- ---- rounds from round a on, and the lines after them

-- the lines of the first of them
at_first : (demo a place i : ℕ) → i / 7 ≡ 0 → i % 7 ≡ place → slice_get (round_lines demo a) place ≡ slice_get (round_lines demo (a + i / 7)) (i % 7)
at_first demo a place i first is =
    let e : a ≡ a + i / 7 = omega arith in
    ap (λ r. slice_get (round_lines demo r) place) e ∙ ap (λ p. slice_get (round_lines demo (a + i / 7)) p) (sym is)

in_round : (demo a m i : ℕ) (behind : List (List ℕ)) → i < 7 * m
    → slice_get (flat_map (round_lines demo) (range_with_len a m) ++ behind) i ≡ slice_get (round_lines demo (a + i / 7)) (i % 7)
in_round demo a zero i behind within = absurd (omega arith)
in_round demo a (suc m) zero behind within = at_first demo a 0 0 refl refl
in_round demo a (suc m) (suc zero) behind within = at_first demo a 1 1 refl refl
in_round demo a (suc m) (suc (suc zero)) behind within = at_first demo a 2 2 refl refl
in_round demo a (suc m) (suc (suc (suc zero))) behind within = at_first demo a 3 3 refl refl
in_round demo a (suc m) (suc (suc (suc (suc zero)))) behind within = at_first demo a 4 4 refl refl
in_round demo a (suc m) (suc (suc (suc (suc (suc zero))))) behind within = at_first demo a 5 5 refl refl
in_round demo a (suc m) (suc (suc (suc (suc (suc (suc zero)))))) behind within = at_first demo a 6 6 refl refl
in_round demo a (suc m) (suc (suc (suc (suc (suc (suc (suc i))))))) behind within =
    let j : ℕ = suc (suc (suc (suc (suc (suc (suc i)))))) in
    let less : i < 7 * m = omega arith in
    let round : a + 1 + i / 7 ≡ a + j / 7 = omega arith in
    let place : i % 7 ≡ j % 7 = omega arith in
    in_round demo (a + 1) m i behind less
    ∙ ap (λ r. slice_get (round_lines demo r) (i % 7)) round
    ∙ ap (λ p. slice_get (round_lines demo (a + j / 7)) p) place

-- ---- the whole script

-- the lines of its 40 rounds
pub middle : (demo number : ℕ) → 4 ≤ number → number ≤ 283 → line_at (demo_lines demo) number ≡ slice_get (round_lines demo ((number - 4) / 7)) ((number - 4) % 7)
unfolding demo_lines
middle demo number low high =
    let k : ℕ = number - 4 in
    let e : number ≡ suc (suc (suc (suc k))) = omega arith in
    let within : k < 7 * 40 = omega arith in
    let f : 0 + k / 7 ≡ k / 7 = omega arith in
    ap (λ i. line_at (demo_lines demo) i) e
    ∙ in_round demo 0 40 k (late_line demo ∷ answer_line ∷ []) within
    ∙ ap (λ r. slice_get (round_lines demo r) (k % 7)) f

pub count : (demo : ℕ) → length (demo_lines demo) ≡ 285
unfolding demo_lines
count demo = refl

-- there is no line 0, and none after the last
pub outside : (demo number : ℕ) → (1 ≤ number → number ≤ 285 → ⊥) → line_at (demo_lines demo) number ≡ None
outside demo zero none = refl
outside demo (suc before) none = elim (slice_get_cases (demo_lines demo) before).1 [
  | inl there ↦ absurd (none (omega arith) (omega (arith, count demo, there.1)))
  | inr past ↦ past.1
]

some_is_some : (line : List ℕ) → Some line ≡ None → ⊥
some_is_some line e = cc e

inside : (demo number : ℕ) → line_at (demo_lines demo) number ≡ None → (number ≡ 0) ⊎ (285 < number)
inside demo zero none = inl refl
inside demo (suc before) none = elim (slice_get_cases (demo_lines demo) before).1 [
  | inl there ↦ absurd (some_is_some there.0 (sym there.2 ∙ none))
  | inr past ↦ inr (omega (arith, count demo, past.0))
]

nothing_there : (number : ℕ) → (number ≡ 0) ⊎ (285 < number) → 1 ≤ number → number ≤ 285 → ⊥
nothing_there number (inl zeroth) low high = omega arith
nothing_there number (inr past) low high = omega arith

pub none_outside : (demo number : ℕ) → (line_at (demo_lines demo) number ≡ None) ↔ ((number ≡ 0) ⊎ (285 < number))
none_outside demo number = (inside demo number, λ there. outside demo number (nothing_there number there))

-- ---- its text

-- one more line
line_more : (lines : List (List ℕ)) (i : ℕ) → flat_map with_end (take i lines) ++ line_with_end (slice_get lines i) ≡ flat_map with_end (take (suc i) lines)
line_more [] zero = refl
line_more [] (suc i) = refl
line_more (line ∷ lines) zero = sym (append-nil (with_end line))
line_more (line ∷ lines) (suc i) = append_assoc (with_end line) (flat_map with_end (take i lines)) (line_with_end (slice_get lines i)) ∙ ap (λ t. with_end line ++ t) (line_more lines i)

pub text_more : (demo before : ℕ) → flat_map with_end (take before (demo_lines demo)) ++ line_with_end (line_at (demo_lines demo) (before + 1)) ≡ flat_map with_end (take (before + 1) (demo_lines demo))
text_more demo before =
    let e : before + 1 ≡ suc before = omega arith in
    ap (λ k. flat_map with_end (take before (demo_lines demo)) ++ line_with_end (line_at (demo_lines demo) k)) e
    ∙ line_more (demo_lines demo) before
    ∙ ap (λ k. flat_map with_end (take k (demo_lines demo))) (sym e)

pub text_whole : (demo : ℕ) → flat_map with_end (take 285 (demo_lines demo)) ≡ demo_text demo
unfolding demo_text
text_whole demo = ap (λ lines. flat_map with_end lines) (take_all 285 (demo_lines demo) (omega (arith, count demo)))
