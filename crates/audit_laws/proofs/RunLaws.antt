-- A parallel run is explained by the history that it left.
use Rattle.std.proofs.Common.{◌≡◌, ℕ, ◌≤◌, Bool, true, false, cond, ◌||◌, List, [], ◌∷◌, ◌++◌, map, Option, Some, None, refl, sym, ap, ◌∙◌, subst, arith}
use Rattle.std.specs.Prelude.{IsPermutation}
use Rattle.std.specs.List.{AllByRecursion, list_any}
use Rattle.std.proofs.lemmas.List.{append_assoc, map-append}
use Rattle.std.proofs.lemmas.List.Sorted.{IsPermutation-append}
use Rattle.ts_model.specs.History.{History, base_position, position}
use Rattle.ts_model.specs.States.{stop_of}
use Rattle.ts_model.proofs.HistoryLaws.{base_begins, base_below, position_begins}
use Rattle.turn_lock.specs.Positions.{positions_between}
use Rattle.turn_lock.proofs.Numbers.{positions_meet}
use Rattle.ts_sessions.specs.Places.{Places, no_places}
use Rattle.ts_sessions.specs.Replies.{reply_to}
use Rattle.ts_sessions.specs.Script.{SessionScript}
use Rattle.policy_jobs.specs.Turns.{PolicyPlaces}
use Rattle.policy_jobs.specs.declared.policies.Policy.{Policy}
use Rattle.par_laws.specs.Answered.{Answered, ends_of, numbers_of}
use Rattle.par_laws.specs.Named.{NamesEvents, RepliesNameEvents}
use Rattle.par_laws.specs.Parallel.{AreReplies, SessionReplies, SessionsRan, exchanges_of, lines_in, places_after}
use Rattle.par_laws.specs.Phases.{AllExplained, Explained as IsPhaseExplained, all_numbers}
use Rattle.par_lines.specs.Sorted.{at_once, final, only, setup, sorted_lines}
use Rattle.par_lines.proofs.Passing.{position_none}
use Rattle.transcript.specs.declared.transcripts.Exchange.{Exchange}
use Rattle.transcript.specs.declared.transcripts.SessionTranscript.{SessionTranscript}
use Rattle.transcript.specs.Laws.{AsciiReadsBack}
use Rattle.transcript.specs.Text.{transcript_text}
use Rattle.par_run.specs.Outputs.{talk_of, transcript_in}
use Rattle.par_run.proofs.AsciiLaws.{runs_ascii}
use Rattle.par_run.proofs.ScriptLaws.{IsSoundScript, sound_filter, sound_input}
use Rattle.par_run.proofs.SoundLaws.{runs_sound}
use Rattle.audit.specs.Laws.{ExplainedIsYes}
use Rattle.audit.specs.Explained.{AreExplained, Came, IsExplained, named_by, named_by_all, texts_of}
use Rattle.audit.specs.declared.lines.Place.{Place}
use Rattle.audit.specs.Lines.{asks_policies, first_policy, found_first, line_of, lines_of, policy_among}
use Rattle.audit_laws.specs.Laws.{AuditsSayYes, RunsAreExplained}
use Rattle.audit_laws.proofs.PlainLaws.{Heard, IsPlain, Plainly, lines_same, named_alike, plainly, policy_replies, texts_alike}

-- ---- no line is a statement on policies

none_found : (place : Option ℕ) (later : Option Place) → found_first place later ≡ None → (place ≡ None) × (later ≡ None)
none_found (Some n) later e = absurd cc
none_found None (Some p) e = absurd cc
none_found None None e = (refl, refl)

none_passes : {X : Type 0} (test : X → Bool) (xs : List X) → list_any test xs ≡ false → AllByRecursion (λ x. test x ≡ false) xs
none_passes test [] e = tt
none_passes test (x ∷ xs) e = by (test x) refl e (none_passes test xs)
  where
    by : (b : Bool) → test x ≡ b → (b || list_any test xs) ≡ false → (list_any test xs ≡ false → AllByRecursion (λ y. test y ≡ false) xs) → AllByRecursion (λ y. test y ≡ false) (x ∷ xs)
    by true t f rest = absurd cc
    by false t f rest = (t, rest f)

plain_exchanges : (exchanges : List Exchange) → policy_among exchanges ≡ None → AllByRecursion IsPlain (lines_of exchanges)
plain_exchanges exchanges e = all_mapped exchanges (none_passes (λ x. asks_policies (line_of x)) exchanges (position_none (λ x. asks_policies (line_of x)) exchanges e))
  where
    all_mapped : (es : List Exchange) → AllByRecursion (λ x. asks_policies (line_of x) ≡ false) es → AllByRecursion IsPlain (lines_of es)
    all_mapped [] a = tt
    all_mapped (x ∷ es) a = (a.0, all_mapped es a.1)

-- the lines of sessions without a statement on policies
abbrev ArePlain : List SessionTranscript → Type 0
ArePlain talks = AllByRecursion (λ t. AllByRecursion IsPlain (lines_of t.replies)) talks

plain_talks : (talks : List SessionTranscript) → first_policy talks ≡ None → ArePlain talks
plain_talks [] e = tt
plain_talks (t ∷ talks) e =
    let parts = none_found (policy_among t.replies) (first_policy talks) e in
    (plain_exchanges t.replies parts.0, plain_talks talks parts.1)

all_first : {X : Type 0} (P : X → Type 0) (xs ys : List X) → AllByRecursion P (xs ++ ys) → AllByRecursion P xs
all_first P [] ys a = tt
all_first P (x ∷ xs) ys a = (a.0, all_first P xs ys a.1)

all_second : {X : Type 0} (P : X → Type 0) (xs ys : List X) → AllByRecursion P (xs ++ ys) → AllByRecursion P ys
all_second P [] ys a = a
all_second P (x ∷ xs) ys a = all_second P xs ys a.1

-- ---- one session

-- the state of a session with these policies at its first line
abbrev places_with : List Policy → PolicyPlaces Places
places_with policies = record { inner = no_places; policies = policies }

-- a session is explained from a position on, and the numbers that its replies name are those of its events
record TalkExplained (all : History) (start : ℕ) (talk : SessionTranscript) (numbers : List ℕ) : Type 0 where
  answers : List Came
  explained : IsExplained all start no_places talk.name talk.replies answers
  named : named_by answers ≡ numbers

module _ (policies : List Policy) (all : History) (start from to : ℕ) (earlier : start ≤ from) where
  abbrev OneExplained : SessionScript → SessionReplies → List Heard → Type 0
  OneExplained s r xs = IsPhaseExplained lines_in AreReplies policy_replies places_after all None from to (places_with policies) s r xs

  talk_explained : (s : SessionScript) (r : SessionReplies) (xs : List Heard) → IsSoundScript s → AllByRecursion IsPlain (lines_of (talk_of r).replies) → AllByRecursion NamesEvents xs → OneExplained s r xs → TalkExplained all start (talk_of r) (numbers_of xs)
  talk_explained s r xs sound plain named e =
      let exchanges : r.exchanges ≡ exchanges_of s.name s.lines (ends_of xs) = e.replied.exchanges in
      let lines : lines_of r.exchanges ≡ s.lines = ap lines_of exchanges ∙ lines_same s.name s.lines xs all from (places_with policies) e.answered sound.lines in
      let p : Plainly all start no_places s.lines xs = plainly all s.lines xs (places_with policies) from start earlier tt (subst (λ ls. AllByRecursion IsPlain ls) lines plain) e.answered in
      let texts : texts_of r.name p.answers ≡ map (λ x. x.reply) r.exchanges =
      ap (λ n. texts_of n p.answers) e.replied.name ∙ texts_alike s.name s.lines xs p.answers all from (places_with policies) e.answered p.alike ∙ sym (ap (map (λ (x : Exchange). x.reply)) exchanges) in
      record {
        answers = p.answers;
        explained = record { answered = subst (λ ls. Answered reply_to places_after all None start no_places ls p.answers) (sym lines) p.answered; replies = texts };
        named = named_alike xs p.answers p.alike named;
      }

  -- ---- the sessions of a phase

  record TalksExplained (talks : List SessionTranscript) (numbers : List ℕ) : Type 0 where
    all_answers : List (List Came)
    explained : AreExplained all start talks all_answers
    named : named_by_all all_answers ≡ numbers

  talks_explained : (ss : List SessionScript) (rs : List SessionReplies) (xss : List (List Heard)) → AllByRecursion IsSoundScript ss → ArePlain (map talk_of rs) → RepliesNameEvents xss
      → AllExplained lines_in AreReplies policy_replies places_after all None from to (places_with policies) ss rs xss → TalksExplained (map talk_of rs) (all_numbers xss)
  talks_explained [] [] [] sound plain named e = record { all_answers = []; explained = tt; named = refl }
  talks_explained [] [] (xs ∷ xss) sound plain named e = absurd e
  talks_explained [] (r ∷ rs) xss sound plain named e = absurd e
  talks_explained (s ∷ ss) [] xss sound plain named e = absurd e
  talks_explained (s ∷ ss) (r ∷ rs) [] sound plain named e = absurd e
  talks_explained (s ∷ ss) (r ∷ rs) (xs ∷ xss) sound plain named e =
      let one = talk_explained s r xs sound.0 plain.0 named.0 e.0 in
      let rest = talks_explained ss rs xss sound.1 plain.1 named.1 e.1 in
      record {
        all_answers = one.answers ∷ rest.all_answers;
        explained = (one.explained, rest.explained);
        named = λ i. one.named i ++ rest.named i;
      }

-- ---- phases in order

explained_both : (all : History) (start : ℕ) (ts us : List SessionTranscript) (cs bs : List (List Came)) → AreExplained all start ts cs → AreExplained all start us bs → AreExplained all start (ts ++ us) (cs ++ bs)
explained_both all start [] us [] bs a b = b
explained_both all start [] us (x ∷ cs) bs a b = absurd a
explained_both all start (t ∷ ts) us [] bs a b = absurd a
explained_both all start (t ∷ ts) us (x ∷ cs) bs a b = (a.0, explained_both all start ts us cs bs a.1 b)

named_both : (cs bs : List (List Came)) → named_by_all (cs ++ bs) ≡ named_by_all cs ++ named_by_all bs
named_both [] bs = refl
named_both (x ∷ cs) bs = ap (λ l. named_by x ++ l) (named_both cs bs) ∙ sym (append_assoc (named_by x) (named_by_all cs) (named_by_all bs))

-- a phase with the lines and replies of its sessions
phase_explained : (policies : List Policy) (all : History) (stop : Option ℕ) (start from to : ℕ) → stop ≡ None → (earlier : start ≤ from) → (ss : List SessionScript) (rs : List SessionReplies) → AllByRecursion IsSoundScript ss → ArePlain (map talk_of rs)
    → (r : SessionsRan policy_replies (places_with policies) all stop from to ss rs) → TalksExplained policies all start from to earlier (map talk_of rs) (all_numbers r.phase.answers)
phase_explained policies all stop start from to none_stopped earlier ss rs sound plain r =
    talks_explained policies all start from to earlier ss rs r.phase.answers sound plain r.named
    (subst (λ o. AllExplained lines_in AreReplies policy_replies places_after all o from to (places_with policies) ss rs r.phase.answers) none_stopped r.phase.explained)

pub runs_explained : RunsAreExplained
runs_explained opening input policies new out reads ran still plain =
    let all = new.history in
    let start = position opening in
    let scripts = (sorted_lines input).sessions in
    let sound = sound_input input in
    let r = ran.ran in
    let stopped : stop_of new ≡ None = ap (λ b. cond b (Some (position all)) None) still in
    let said = ran.before ++ ran.between ++ ran.after in
    let sessions : out.sessions ≡ map talk_of said = ran.says.sessions in
    let apart : map talk_of said ≡ (map talk_of ran.before ++ map talk_of ran.between) ++ map talk_of ran.after =
    map-append talk_of (ran.before ++ ran.between) ran.after ∙ ap (λ l. l ++ map talk_of ran.after) (map-append talk_of ran.before ran.between) in
    let lines : ArePlain ((map talk_of ran.before ++ map talk_of ran.between) ++ map talk_of ran.after) = plain_talks _ (ap first_policy (sym (sessions ∙ apart)) ∙ plain) in
    let P : SessionTranscript → Type 0 = λ t. AllByRecursion IsPlain (lines_of t.replies) in
    let first_two = all_first P (map talk_of ran.before ++ map talk_of ran.between) (map talk_of ran.after) lines in
    let f = r.setup_ran.phase in
    let o = r.others_ran.phase in
    let l = r.final_ran.phase in
    let one = phase_explained policies all (stop_of new) start start r.first stopped (omega arith) (only setup scripts) ran.before (sound_filter _ scripts sound) (all_first P (map talk_of ran.before) (map talk_of ran.between) first_two) r.setup_ran in
    let two = phase_explained policies all (stop_of new) start r.first r.second stopped f.order (at_once scripts) ran.between (sound_filter _ scripts sound) (all_second P (map talk_of ran.before) (map talk_of ran.between) first_two) r.others_ran in
    let three =
    phase_explained policies all (stop_of new) start r.second (position all) stopped (omega (arith, f.order, o.order)) (only final scripts) ran.after (sound_filter _ scripts sound)
    (all_second P (map talk_of ran.before ++ map talk_of ran.between) (map talk_of ran.after) lines) r.final_ran in
    let answers = (one.all_answers ++ two.all_answers) ++ three.all_answers in
    let named : named_by_all answers ≡ (all_numbers f.answers ++ all_numbers o.answers) ++ all_numbers l.answers =
    named_both (one.all_answers ++ two.all_answers) three.all_answers ∙ (λ i. (named_both one.all_answers two.all_answers ∙ (λ j. one.named j ++ two.named j)) i ++ three.named i) in
    let positions : positions_between start (position all) ≡ (positions_between start r.first ++ positions_between r.first r.second) ++ positions_between r.second (position all) =
    positions_meet start r.second (position all) (omega (arith, f.order, o.order)) l.order ∙ ap (λ ps. ps ++ positions_between r.second (position all)) (positions_meet start r.first r.second f.order o.order) in
    let numbers = IsPermutation-append _ _ _ _ (IsPermutation-append _ _ _ _ f.numbers o.numbers) l.numbers in
    let base : base_position all ≡ base_position opening = base_begins r.begins in
    record {
      within = (omega (arith, base, base_below opening), position_begins r.begins);
      answers = answers;
      explained = subst (λ ts. AreExplained all start ts answers) (sym (sessions ∙ apart)) (explained_both all start (map talk_of ran.before ++ map talk_of ran.between) (map talk_of ran.after) (one.all_answers ++ two.all_answers) three.all_answers
          (explained_both all start (map talk_of ran.before) (map talk_of ran.between) one.all_answers two.all_answers one.explained two.explained) three.explained);
      numbers = subst (λ ps. IsPermutation (named_by_all answers) ps) (sym positions) (subst (λ ns. IsPermutation ns ((positions_between start r.first ++ positions_between r.first r.second) ++ positions_between r.second (position all))) (sym named) numbers);
    }

-- its text is read back as the transcript, so an audit answers YES
pub audits_yes : AsciiReadsBack → ExplainedIsYes → AuditsSayYes
audits_yes back says opening input policies new out reads audit ran still allowed small plain answers =
    let t = transcript_in (position opening) out in
    let ascii = runs_ascii policy_replies (places_with policies) opening input new out reads (position opening) ran in
    let sound = runs_sound policy_replies (places_with policies) opening input new out reads (position opening) ran in
    says new.history (transcript_text t) t audit allowed (back t small ascii sound) plain (runs_explained opening input policies new out reads ran still plain) answers
