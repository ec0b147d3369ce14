-- The replies to lines without a statement on policies are those of a session without policies.
use Rattle.std.proofs.Common.{◌≡◌, ℕ, ◌≤◌, false, cond, List, [], ◌∷◌, ◌++◌, map, None, refl, sym, ap, ◌∙◌, subst}
use Rattle.std.specs.List.{AllByRecursion}
use Rattle.ts_model.specs.History.{History, position}
use Rattle.stmt_tokens.specs.Lines.{line_kind}
use Rattle.stmt_tokens.specs.Streams.{stream}
use Rattle.policy_jobs.specs.Reading.{statement as policy_statement}
use Rattle.policy_jobs.specs.Turns.{PolicyPlaces, beside, policy_does, reads_as}
use Rattle.ts_sessions.specs.Gives.{Gives}
use Rattle.ts_sessions.specs.LineLaws.{BegunBy}
use Rattle.ts_sessions.specs.Made.{made_in}
use Rattle.ts_sessions.specs.Places.{Places, Turn}
use Rattle.ts_sessions.specs.Procedures.{Procedure, ending_as}
use Rattle.ts_sessions.specs.Replies.{reply_to}
use Rattle.ts_sessions.specs.Script.{SessionLine, text_of}
use Rattle.ts_sessions.specs.Steady.{Steady}
use Rattle.ts_sessions.proofs.SteadyLaws.{replies_are_steady}
use Rattle.ts_sessions.proofs.BegunLaws.{given_blocks_begin}
use Rattle.ts_sessions.proofs.GivenEnds.{GivenAs, gives_as}
use Rattle.par_laws.specs.Answered.{LineAnswer, Answered, ends_of, numbers_of}
use Rattle.par_laws.specs.Named.{NamesEvents}
use Rattle.par_laws.specs.Parallel.{exchanges_of, places_after}
use Rattle.audit.specs.Explained.{Came, named_by, texts_of}
use Rattle.audit.specs.Lines.{asks_policies, line_as, lines_of}
use Rattle.par_run.proofs.ScriptLaws.{IsOwn}
use Rattle.audit_laws.proofs.ShiftLaws.{GivenBefore, given_before}

-- what the replies to the lines of a session with policies say
abbrev pub policy_replies : PolicyPlaces Places → List ℕ → ℕ → Procedure (Turn (PolicyPlaces Places))
policy_replies = policy_does reply_to (λ p. p.block)

-- the result of a line of a session with policies
abbrev pub Heard : Type 0
Heard = LineAnswer (Turn (PolicyPlaces Places))

-- the same lines are in the replies
abbrev pub SaidAlike : List Heard → List Came → Type 0
SaidAlike [] [] = Unit {0}
SaidAlike [] (a ∷ answers) = ⊥
SaidAlike (x ∷ xs) [] = ⊥
SaidAlike (x ∷ xs) (a ∷ answers) = (x.end.said ≡ a.end.said) × SaidAlike xs answers

-- a line isn't a statement on policies
abbrev pub IsPlain : SessionLine → Type 0
IsPlain line = asks_policies line ≡ false

-- lines are answered without policies from a position on, with the same replies
pub record Plainly (all : History) (from : ℕ) (p : Places) (lines : List SessionLine) (xs : List Heard) : Type 0 where
  pub answers : List Came
  pub answered : Answered reply_to places_after all None from p lines answers
  pub alike : SaidAlike xs answers

module _ (all : History) where
  pub plainly : (lines : List SessionLine) (xs : List Heard) (p : PolicyPlaces Places) (at from : ℕ) → from ≤ at → BegunBy p.inner.block all → AllByRecursion IsPlain lines → Answered policy_replies places_after all None at p lines xs
      → Plainly all from p.inner lines xs
  plainly [] [] p at from earlier within plain a = record { answers = []; answered = tt; alike = tt }
  plainly [] (x ∷ xs) p at from earlier within plain a = absurd a
  plainly (line ∷ lines) [] p at from earlier within plain a = absurd a
  plainly (line ∷ lines) (x ∷ xs) p at from earlier within plain a =
      let own : Procedure (Turn Places) = reply_to p.inner line.text line.skip in
      let policy = reads_as reply_to p p.inner.block (policy_statement (stream line.text line.skip)) in
      let said : Gives all None at [] (ending_as (beside p.policies) own) x.looks x.last x.given x.end =
      subst (λ b. Gives all None at [] (cond b policy (ending_as (beside p.policies) own)) x.looks x.last x.given x.end) plain.0 a.0 in
      let g : GivenAs (beside p.policies) all at [] own x.looks x.last x.given x.end = gives_as (beside p.policies) all at [] own x.looks x.last x.given x.end said in
      let steady : Steady false all own = replies_are_steady p.inner line.text line.skip all within in
      let b : GivenBefore all from [] own x.looks x.last x.given g.end = given_before all at from earlier [] own x.looks x.last x.given g.end steady g.gives in
      let begun : BegunBy g.end.places.block all = given_blocks_begin all None at p.inner line.text line.skip x.looks x.last x.given g.end within g.gives in
      let next : PolicyPlaces Places = record { inner = g.end.places; policies = p.policies } in
      let more : Answered policy_replies places_after all None x.last next lines xs = subst (λ y. Answered policy_replies places_after all None x.last (places_after y) lines xs) g.is a.1 in
      let rest = plainly lines xs next x.last b.end b.before begun plain.1 more in
      let first : Came = record { looks = x.looks; last = b.end; given = x.given; end = g.end } in
      record { answers = first ∷ rest.answers; answered = (b.gives, rest.answered); alike = (ap (λ y. y.said) g.is, rest.alike) }

-- ---- equal replies

-- the numbers in the replies
pub named_alike : (xs : List Heard) (answers : List Came) → SaidAlike xs answers → AllByRecursion NamesEvents xs → named_by answers ≡ numbers_of xs
named_alike [] [] s n = refl
named_alike [] (a ∷ answers) s n = absurd s
named_alike (x ∷ xs) [] s n = absurd s
named_alike (x ∷ xs) (a ∷ answers) s n = λ i. (ap made_in (sym s.0) ∙ sym n.0) i ++ named_alike xs answers s.1 n.1 i

-- the texts of the replies
pub texts_alike : (name : List ℕ) (lines : List SessionLine) (xs : List Heard) (answers : List Came) (all : History) (at : ℕ) (p : PolicyPlaces Places) → Answered policy_replies places_after all None at p lines xs → SaidAlike xs answers
    → texts_of name answers ≡ map (λ e. e.reply) (exchanges_of name lines (ends_of xs))
texts_alike name [] [] [] all at p h s = refl
texts_alike name [] [] (a ∷ answers) all at p h s = absurd s
texts_alike name [] (x ∷ xs) answers all at p h s = absurd h
texts_alike name (line ∷ lines) [] answers all at p h s = absurd h
texts_alike name (line ∷ lines) (x ∷ xs) [] all at p h s = absurd s
texts_alike name (line ∷ lines) (x ∷ xs) (a ∷ answers) all at p h s = λ i. text_of name (sym s.0 i) ∷ texts_alike name lines xs answers all x.last (places_after x.end) h.1 s.1 i

-- the lines of the transcript are those that were executed
line_same : (name : List ℕ) (line : SessionLine) → (own : IsOwn name line) → line_as line.text (line_kind line.text) ≡ line
line_same name line own = ap (line_as line.text) own.kind ∙ (λ i. record { text = own.whole i; skip = line.skip })

pub lines_same : (name : List ℕ) (lines : List SessionLine) (xs : List Heard) (all : History) (at : ℕ) (p : PolicyPlaces Places) → Answered policy_replies places_after all None at p lines xs → AllByRecursion (IsOwn name) lines
    → lines_of (exchanges_of name lines (ends_of xs)) ≡ lines
lines_same name [] [] all at p h own = refl
lines_same name [] (x ∷ xs) all at p h own = absurd h
lines_same name (line ∷ lines) [] all at p h own = absurd h
lines_same name (line ∷ lines) (x ∷ xs) all at p h own = λ i. line_same name line own.0 i ∷ lines_same name lines xs all x.last (places_after x.end) h.1 own.1 i
