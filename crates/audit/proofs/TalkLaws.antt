-- Sessions that are judged in order.
use Rattle.std.proofs.Common.{◌≡◌, ℕ, suc, ◌+◌, List, [], ◌∷◌, ◌++◌, refl, sym, subst, append_assoc, arith}
use Rattle.std.proofs.lemmas.List.{append-nil}
use Rattle.ts_model.specs.History.{History}
use Rattle.ts_sessions.specs.Places.{no_places}
use Rattle.transcript.specs.declared.transcripts.SessionTranscript.{SessionTranscript}
use Rattle.audit.specs.Answers.{FirstUnexplained}
use Rattle.audit.specs.ReplayedReplies.{Names, NamesAll, Passes, StopsAt}
use Rattle.audit.proofs.RetoldLaws.{has_explanation}

pub passes_none : (all : History) (start : ℕ) (talks : List SessionTranscript) → Passes all start talks 0 talks []
passes_none all start talks = record {
  stops = λ i j f. let same : i ≡ 0 + i = omega arith in subst (λ n. FirstUnexplained all start talks n j) same f;
  names = λ others n. n;
}

-- one more session is explained
pub passes_more : (all : History) (start : ℕ) (talks : List SessionTranscript) (i : ℕ) (talk : SessionTranscript) (left : List SessionTranscript) (ns ms : List ℕ) → Passes all start talks i (talk ∷ left) ns → Names all start no_places talk.name talk.replies ms → Passes all start talks (i + 1) left (ns ++ ms)
passes_more all start talks i talk left ns ms p one = record {
  stops = λ k j f.
      let same : i + suc k ≡ i + 1 + k = omega arith in
      subst (λ n. FirstUnexplained all start talks n j) same (p.stops (suc k) j (has_explanation all start talk.name talk.replies ms one, f));
  names = λ others n.
      subst (λ ks. NamesAll all start talks ks) (sym (append_assoc ns ms others))
      (p.names (ms ++ others) (record {
        answers = one.answers ∷ n.answers;
        explained = (one.explained, n.explained);
        named = λ j. one.named j ++ n.named j;
      }));
}

-- the next session isn't explained
pub stopped_here : (all : History) (start : ℕ) (talks : List SessionTranscript) (i : ℕ) (talk : SessionTranscript) (left : List SessionTranscript) (ns : List ℕ) (j : ℕ) → Passes all start talks i (talk ∷ left) ns → StopsAt all start talk j → FirstUnexplained all start talks i j
stopped_here all start talks i talk left ns j p s =
    let same : i + 0 ≡ i = omega arith in
    subst (λ n. FirstUnexplained all start talks n j) same (p.stops 0 j (s.before, s.fails))

-- all sessions are explained
pub all_named : (all : History) (start : ℕ) (talks : List SessionTranscript) (i : ℕ) (ns : List ℕ) → Passes all start talks i [] ns → NamesAll all start talks ns
all_named all start talks i ns p =
    subst (λ ks. NamesAll all start talks ks) (append-nil ns)
    (p.names [] (record { answers = []; explained = tt; named = refl }))
