-- A write of a file, and the zeros after it.
use Rattle.std.proofs.Common.{◌≡◌, ◌⊎◌, inl, inr, ℕ, ◌+◌, ◌-◌, ◌<◌, ◌≤◌, List, ◌++◌, length, drop, replicate, Option, None, Some, Result, Ok, Err, IfSome, OnErr, refl, sym, ◌∙◌, ap, subst, arith, append_assoc, length-append}
use Rattle.std.proofs.lemmas.Bool.{cases_lt}
use Rattle.std.proofs.lemmas.List.{get_or_append_left, length-replicate, replicate-append-replicate, take_all, drop_all, append-nil}
use Rattle.ts_schema.specs.Counts.{one_more}
use Rattle.ts_disk.specs.CrashImage.{file_after_write}
use Rattle.ts_disk.specs.FileCalls.{FileState, SparesRest, Spares, AddsZeros, IsLengthOf, after_failure, after_write, after_zeros}
use Rattle.ts_disk.specs.ImageLaws.{length-written, length-written-le}
use Rattle.ts_disk.specs.PickedImages.{file_with}
use Rattle.ts_disk.proofs.PickLaws.{get_or-patched}
use Rattle.ts_disk.proofs.Told.{some_also, some_is}

-- ---- lists

length-zeros : (file : List ℕ) (n : ℕ) → length (file ++ replicate n 0) ≡ length file + n
length-zeros file n = length-append file (replicate n 0) ∙ ap (λ (m : ℕ). length file + m) (length-replicate n 0)

reaches : (file : List ℕ) (at : ℕ) (piece : List ℕ) → at + length piece ≤ length (file_with file at piece)
reaches file at piece =
    omega (arith, length-zeros file (at - length file), length-written (file ++ replicate (at - length file) 0) at piece)

grows : (file : List ℕ) (at : ℕ) (piece : List ℕ) → length file ≤ length (file_with file at piece)
grows file at piece =
    omega (arith, length-zeros file (at - length file), length-written-le (file ++ replicate (at - length file) 0) at piece)

no_gap : (file : List ℕ) (at : ℕ) → length file ≡ at → file ++ replicate (at - length file) 0 ≡ file
no_gap file at here =
    let none : at - length file ≡ 0 = omega arith in
    ap (λ (m : ℕ). file ++ replicate m 0) none ∙ append-nil file

-- a write at the end appends
at_the_end : (file piece : List ℕ) (at : ℕ) → length file ≡ at → file_with file at piece ≡ file ++ piece
at_the_end file piece at here =
    ap (λ (f : List ℕ). file_after_write f at piece) (no_gap file at here)
    ∙ ap (λ (f : List ℕ). f ++ piece ++ drop (at + length piece) file) (take_all at file (omega arith))
    ∙ ap (λ (f : List ℕ). file ++ piece ++ f) (drop_all (at + length piece) file (omega arith))
    ∙ append-nil (file ++ piece)

more_zeros : (file piece : List ℕ) (end at n : ℕ) → length file ≡ end → end ≤ at → piece ≡ replicate n 0
    → file_with (file ++ replicate (at - end) 0) at piece ≡ file ++ replicate (at + n - end) 0
more_zeros file piece end at n here le zeros =
    let size : length (file ++ replicate (at - end) 0) ≡ at = omega (arith, length-zeros file (at - end)) in
    let count : at - end + n ≡ at + n - end = omega arith in
    at_the_end (file ++ replicate (at - end) 0) piece at size
    ∙ ap (λ (p : List ℕ). file ++ replicate (at - end) 0 ++ p) zeros
    ∙ append_assoc file (replicate (at - end) 0) (replicate n 0)
    ∙ ap (λ (z : List ℕ). file ++ z) (replicate-append-replicate (at - end) n 0)
    ∙ ap (λ (m : ℕ). file ++ replicate m 0) count

-- ---- zeros at the end

same_state : (s : FileState) → s ≡ record s { bytes = s.bytes ++ replicate (length s.bytes - length s.bytes) 0 }
same_state s =
    let none : length s.bytes - length s.bytes ≡ 0 = omega arith in
    sym (ap (λ (b : List ℕ). record s { bytes = b }) (ap (λ (m : ℕ). s.bytes ++ replicate m 0) none ∙ append-nil s.bytes))

pub adds_none : (known new : Option FileState) → new ≡ known → AddsZeros known new
adds_none None new is = is
adds_none (Some s) new is = subst (AddsZeros (Some s)) (sym is) (same_state s)

count_zeros : (s : FileState) (n : ℕ) → record s { bytes = s.bytes ++ replicate n 0 } ≡ record s { bytes = s.bytes ++ replicate (length (s.bytes ++ replicate n 0) - length s.bytes) 0 }
count_zeros s n =
    let count : n ≡ length (s.bytes ++ replicate n 0) - length s.bytes = omega (arith, length-zeros s.bytes n) in
    ap (λ (m : ℕ). record s { bytes = s.bytes ++ replicate m 0 }) count

pub adds_zeros : (known new : Option FileState) (n : ℕ) → new ≡ after_zeros known n → AddsZeros known new
adds_zeros None new n is = is
adds_zeros (Some s) new n is = subst (AddsZeros (Some s)) (sym is) (count_zeros s n)

-- after a write that reached the end, the length that is reported is the end
pub end_told : (told written now : Option FileState) (at len : ℕ) (piece : List ℕ) → written ≡ after_write told at piece → now ≡ written
    → IsLengthOf written len → len ≤ at + length piece → IfSome now (λ s. length s.bytes ≡ at + length piece)
end_told None written now at len piece is same measured le =
    subst (λ (o : Option FileState). IfSome o (λ s. length s.bytes ≡ at + length piece)) (sym (same ∙ is)) tt
end_told (Some s) written now at len piece is same measured le =
    let told_length : len ≡ length (file_with s.bytes at piece) = subst (λ (o : Option FileState). IsLengthOf o len) is measured in
    let here : length (file_with s.bytes at piece) ≡ at + length piece = omega (arith, reaches s.bytes at piece) in
    subst (λ (o : Option FileState). IfSome o (λ t. length t.bytes ≡ at + length piece)) (sym (same ∙ is)) here

-- ---- writes of zeros

pub no_zeros : (told : Option FileState) (end : ℕ) → told ≡ after_zeros told (end - end)
no_zeros None end = refl
no_zeros (Some s) end =
    let none : end - end ≡ 0 = omega arith in
    sym (ap (λ (b : List ℕ). Some (record s { bytes = b })) (ap (λ (m : ℕ). s.bytes ++ replicate m 0) none ∙ append-nil s.bytes))

pub zeros_step : (told now new : Option FileState) (end at n : ℕ) (piece : List ℕ) → IfSome told (λ s. length s.bytes ≡ end) → end ≤ at
    → piece ≡ replicate n 0 → now ≡ after_zeros told (at - end) → new ≡ after_write now at piece → new ≡ after_zeros told (at + n - end)
zeros_step None now new end at n piece here le zeros is wrote = wrote ∙ ap (λ (o : Option FileState). after_write o at piece) is
zeros_step (Some s) now new end at n piece here le zeros is wrote =
    wrote
    ∙ ap (λ (o : Option FileState). after_write o at piece) is
    ∙ ap (λ (b : List ℕ). Some (record s { bytes = b })) (more_zeros s.bytes piece end at n here le zeros)

-- ---- what is left

either_side : (i end : ℕ) → (i < end) ⊎ (end + 0 ≤ i)
either_side i end = elim (cases_lt i end) [
  | inl low ↦ inl low
  | inr high ↦ inr (omega arith)
]

-- a write doesn't change the rest
written_rest : (s : FileState) (at : ℕ) (piece : List ℕ) → SparesRest at (length piece) s (record s { bytes = file_with s.bytes at piece })
written_rest s at piece = record {
  outside = λ i le apart. get_or-patched s.bytes at piece i le apart;
  no_shorter = grows s.bytes at piece;
  syncs = refl;
}

still_rest : (at n end : ℕ) (s t u : FileState) → SparesRest at n s t → SparesRest end 0 t u → SparesRest at n s u
still_rest at n end s t u first next = record {
  outside = λ i le apart. next.outside i (omega (arith, first.no_shorter)) (either_side i end) ∙ first.outside i le apart;
  no_shorter = omega (arith, first.no_shorter, next.no_shorter);
  syncs = next.syncs ∙ first.syncs;
}

-- a write, and then a call that failed
pub spares_failed : (told written new : Option FileState) (at : ℕ) (piece : List ℕ) → written ≡ after_write told at piece
    → new ≡ after_failure written → Spares told at (length piece) new
spares_failed None written new at piece is failed = failed ∙ ap after_failure is
spares_failed (Some s) written new at piece is failed =
    let rest = written_rest s at piece in
    some_is new (record { bytes = file_with s.bytes at piece; syncs = s.syncs; failed = one_more s.failed }) (SparesRest at (length piece) s) (failed ∙ ap after_failure is) (record { outside = rest.outside; no_shorter = rest.no_shorter; syncs = refl })

-- a write, and then zeros at the end some of which failed
pub spares_grown : (told written now new : Option FileState) (at end : ℕ) (piece : List ℕ) → written ≡ after_write told at piece
    → now ≡ written → Spares now end 0 new → Spares told at (length piece) new
spares_grown None written now new at end piece is same spares = subst (λ (o : Option FileState). Spares o end 0 new) (same ∙ is) spares
spares_grown (Some s) written now new at end piece is same spares =
    let t : FileState = record s { bytes = file_with s.bytes at piece } in
    some_also new (SparesRest end 0 t) (SparesRest at (length piece) s) (λ u next. still_rest at (length piece) end s t u (written_rest s at piece) next) (subst (λ (o : Option FileState). Spares o end 0 new) (same ∙ is) spares)

-- zeros that failed don't change what was before the first of them
pub zeros_spare : (told now new : Option FileState) (end at n : ℕ) → IfSome told (λ s. length s.bytes ≡ end) → end ≤ at
    → now ≡ after_zeros told (at - end) → Spares now at n new → Spares told end 0 new
zeros_spare None now new end at n here le is spares = subst (λ (o : Option FileState). Spares o at n new) is spares
zeros_spare (Some s) now new end at n here le is spares =
    let t : FileState = record s { bytes = s.bytes ++ replicate (at - end) 0 } in
    let size : length t.bytes ≡ length s.bytes + (at - end) = length-zeros s.bytes (at - end) in
    some_also new (SparesRest at n t) (SparesRest end 0 s) (λ u rest. record {
      outside = λ i low apart. rest.outside i (omega (arith, size)) (inl (omega arith)) ∙ get_or_append_left s.bytes (replicate (at - end) 0) 0 i low;
      no_shorter = omega (arith, size, rest.no_shorter);
      syncs = rest.syncs;
    }) (subst (λ (o : Option FileState). Spares o at n new) is spares)

pub on_err : {T E : Type 0} (result : Result T E) (P : Type 0) → P → OnErr result P
on_err (Ok v) P held = tt
on_err (Err e) P held = held
