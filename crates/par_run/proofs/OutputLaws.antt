-- The replies of workers in order.
use Rattle.std.proofs.Common.{◌≡◌, ℕ, ◌+◌, ◌<◌, ◌≤◌, Bool, true, false, List, [], ◌∷◌, ◌++◌, append_assoc, append-nil, flat_map, get_or, length, map, take, nat_lt, sum_by, ap, refl, sym, ◌∙◌, subst, arith}
use Rattle.std.specs.Prelude.{◌||◌}
use Rattle.std.specs.List.{list_any}
use Rattle.std.proofs.lemmas.List.{flat_map_more, map-append, map_more, take_all, take_more}
use Rattle.std.proofs.lemmas.List.Folds.{list_any-append}
use Rattle.std.proofs.lemmas.List.Sums.{sum_by-append, sum_by-cons, sum_by_push}
use Rattle.ts_schema.specs.Counts.{raised_by}
use Rattle.par_workers.specs.Slots.{Slot, workers_of}
use Rattle.transcript.specs.declared.transcripts.Exchange.{Exchange}
use Rattle.transcript.specs.declared.transcripts.SessionTranscript.{SessionTranscript}
use Rattle.par_laws.specs.Parallel.{SessionReplies}
use Rattle.par_run.specs.declared.workers.SessionWorker.{SessionWorker}
use Rattle.par_run.specs.declared.outputs.Output.{Output as OutputMade}
use Rattle.par_run.specs.Outputs.{Output, Says, output_in, refusals_only, replies_text, talk_of, with_session, with_sessions}
use Rattle.par_run.specs.Workers.{ran_out, replies_of}

-- ---- the replies of one session in order

abbrev reply : Exchange → List ℕ
reply exchange = exchange.reply

-- the texts of the replies before an index, and of the one there
pub texts_more : (exchanges : List Exchange) (i : ℕ) (one : Exchange) (old now next : List ℕ) → i < length exchanges → one ≡ get_or exchanges i one
    → now ≡ old ++ flat_map reply (take i exchanges) → next ≡ now ++ one.reply → next ≡ old ++ flat_map reply (take (i + 1) exchanges)
texts_more exchanges i one old now next lt same so_far more =
    let longer : take i exchanges ++ one ∷ [] ≡ take (i + 1) exchanges = ap (λ e. take i exchanges ++ e ∷ []) same ∙ sym (take_more exchanges i one lt) in
    more ∙ ap (λ t. t ++ one.reply) so_far ∙ flat_map_more reply old (take i exchanges) one ∙ ap (λ es. old ++ flat_map reply es) longer

pub texts_all : (exchanges : List Exchange) (i : ℕ) (old now : List ℕ) → length exchanges ≤ i → now ≡ old ++ flat_map reply (take i exchanges) → now ≡ old ++ flat_map reply exchanges
texts_all exchanges i old now le so_far = so_far ∙ ap (λ es. old ++ flat_map reply es) (take_all i exchanges le)

-- ---- one session

-- the lines and replies of a session were appended
pub appended : (replies : SessionReplies) (old new : OutputMade) → new.text.items ≡ old.text.items ++ replies_text (talk_of replies) → new.fault ≡ (old.fault || replies.fault)
    → new.sessions.items ≡ old.sessions.items ++ talk_of replies ∷ [] → output_in new ≡ with_session replies (output_in old)
appended replies old new text fault sessions = λ i. record { text = text i; fault = fault i; sessions = sessions i }

-- ---- the output of several sessions

-- the output with one more session
pub with_more : (sessions : List SessionReplies) (one : SessionReplies) (out : Output) → with_sessions (sessions ++ one ∷ []) out ≡ with_session one (with_sessions sessions out)
with_more [] one out = refl
with_more (s ∷ sessions) one out = with_more sessions one (with_session s out)

-- the output with several more sessions
with_both : (sessions others : List SessionReplies) (out : Output) → with_sessions (sessions ++ others) out ≡ with_sessions others (with_sessions sessions out)
with_both [] others out = refl
with_both (s ∷ sessions) others out = with_both sessions others (with_session s out)

-- an output before some sessions, and what they add
record Adds (refusals : List ℕ) (replied : List SessionReplies) (old new : Output) : Type 0 where
  text : new.text ≡ refusals ++ flat_map replies_text new.sessions
  fault : new.fault ≡ (old.fault || list_any (λ replies. replies.fault) replied)
  sessions : new.sessions ≡ old.sessions ++ map talk_of replied

or_none : (b : Bool) → b ≡ (b || false)
or_none true = refl
or_none false = refl

or_both : (a b c : Bool) → ((a || b) || c) ≡ (a || (b || c))
or_both true b c = refl
or_both false b c = refl

adds : (refusals : List ℕ) (replied : List SessionReplies) (old : Output) → old.text ≡ refusals ++ flat_map replies_text old.sessions → Adds refusals replied old (with_sessions replied old)
adds refusals [] old so_far = record { text = so_far; fault = or_none old.fault; sessions = sym (append-nil old.sessions) }
adds refusals (s ∷ replied) old so_far =
    let rest = adds refusals replied (with_session s old) (ap (λ t. t ++ replies_text (talk_of s)) so_far ∙ flat_map_more replies_text refusals old.sessions (talk_of s)) in
    record {
      text = rest.text;
      fault = rest.fault ∙ or_both old.fault s.fault (list_any (λ replies. replies.fault) replied);
      sessions = rest.sessions ∙ append_assoc old.sessions (talk_of s ∷ []) (map talk_of replied);
    }

-- the replies of three crews, in order, are the output of all
pub says : (refusals : List ℕ) (before between after : List SessionReplies) (out : Output) (reads : ℕ)
    → out ≡ with_sessions after (with_sessions between (with_sessions before (refusals_only refusals))) → reads ≡ raised_by (sum_by (λ replies. replies.reads) (before ++ between ++ after)) 0 → Says refusals (before ++ between ++ after) out reads
says refusals before between after out reads is counted =
    let all = before ++ between ++ after in
    let first = refusals_only refusals in
    let whole : with_sessions all first ≡ out =
    with_both (before ++ between) after first ∙ ap (with_sessions after) (with_both before between first) ∙ sym is in
    let a = subst (λ o. Adds refusals all first o) whole (adds refusals all first (sym (append-nil refusals))) in
    record { text = a.text; fault = a.fault; sessions = a.sessions; reads = counted }

-- the names of sessions in a transcript
pub talk_names : (replied : List SessionReplies) → map (λ (talk : SessionTranscript). talk.name) (map talk_of replied) ≡ map (λ replies. replies.name) replied
talk_names [] = refl
talk_names (r ∷ replied) = ap (λ l. r.name ∷ l) (talk_names replied)

-- ---- rows read

-- a sum that saturates, and one more number
raised_sum : (m n a b : ℕ) → a ≡ raised_by m 0 → b ≡ raised_by n a → b ≡ raised_by (m + n) 0
raised_sum m n a b e f = omega arith

-- two such sums
raised_join : (x y one two both : ℕ) → one ≡ raised_by x 0 → two ≡ raised_by y 0 → both ≡ raised_by two one → both ≡ raised_by (x + y) 0
raised_join x y one two both e f join = omega arith

-- ---- the workers of a crew

-- how many rows a worker has read
abbrev pub reads_by : {A G : Type 0} → SessionWorker A G → ℕ
reads_by w = w.executor.steps

module _ {A G B : Type 0} where
  -- a worker after others
  workers_push : (crew : List (Slot (SessionWorker A G) B)) (slot : Slot (SessionWorker A G) B) → workers_of (crew ++ slot ∷ []) ≡ workers_of crew ++ slot.0 ∷ []
  workers_push crew slot = map-append (λ s. s.0) crew (slot ∷ [])

  -- one more worker didn't run out of memory
  pub enough_more : (crew : List (Slot (SessionWorker A G) B)) (slot : Slot (SessionWorker A G) B) → list_any ran_out (workers_of crew) ≡ false → ran_out slot.0 ≡ false → list_any ran_out (workers_of (crew ++ slot ∷ [])) ≡ false
  enough_more crew slot so_far one =
      ap (list_any ran_out) (workers_push crew slot) ∙ list_any-append ran_out (workers_of crew) (slot.0 ∷ [])
      ∙ ap (λ b. b || (ran_out slot.0 || false)) so_far ∙ ap (λ b. b || false) one

  -- its output comes last
  pub output_more : (named : A → List ℕ) (crew : List (Slot (SessionWorker A G) B)) (slot : Slot (SessionWorker A G) B) (old now next : Output) → now ≡ with_sessions (map (replies_of named) (workers_of crew)) old → next ≡ with_session (replies_of named slot.0) now
      → next ≡ with_sessions (map (replies_of named) (workers_of (crew ++ slot ∷ []))) old
  output_more named crew slot old now next so_far more =
      more ∙ ap (with_session (replies_of named slot.0)) so_far ∙ sym (with_more (map (replies_of named) (workers_of crew)) (replies_of named slot.0) old)
      ∙ ap (λ rs. with_sessions rs old) (sym (ap (map (replies_of named)) (workers_push crew slot) ∙ map-append (replies_of named) (workers_of crew) (slot.0 ∷ [])))

  -- a test of workers in their slots
  pub any_worker : (crew : List (Slot (SessionWorker A G) B)) → list_any (λ slot. slot.0.out_of_memory) crew ≡ list_any ran_out (workers_of crew)
  any_worker [] = refl
  any_worker (slot ∷ crew) = ap (λ b. ran_out slot.0 || b) (any_worker crew)

  -- ---- rows that workers read

  -- the rows of the workers before an index, and of the one there
  pub reads_more : (crew : List (Slot (SessionWorker A G) B)) (i : ℕ) (slot : Slot (SessionWorker A G) B) (before after : ℕ) → i < length crew → slot ≡ get_or crew i slot
      → before ≡ raised_by (sum_by reads_by (workers_of (take i crew))) 0 → after ≡ raised_by (reads_by slot.0) before → after ≡ raised_by (sum_by reads_by (workers_of (take (i + 1) crew))) 0
  reads_more crew i slot before after lt same so_far more =
      raised_sum (sum_by reads_by (workers_of (take i crew))) (reads_by slot.0) before after so_far more
      ∙ ap (λ n. raised_by n 0) (sym (ap (sum_by reads_by) (map_more (λ s. s.0) crew i slot lt ∙ ap (λ s. workers_of (take i crew) ++ s.0 ∷ []) (sym same)) ∙ sum_by_push reads_by (workers_of (take i crew)) slot.0))

  pub reads_all : (crew : List (Slot (SessionWorker A G) B)) (i reads : ℕ) → length crew ≤ i → reads ≡ raised_by (sum_by reads_by (workers_of (take i crew))) 0 → reads ≡ raised_by (sum_by reads_by (workers_of crew)) 0
  reads_all crew i reads le so_far = so_far ∙ ap (λ c. raised_by (sum_by reads_by (workers_of c)) 0) (take_all i crew le)

-- the rows of three crews
pub reads_three : {A G : Type 0} (a b d : List (SessionWorker A G)) (one two three both all : ℕ) → one ≡ raised_by (sum_by reads_by a) 0 → two ≡ raised_by (sum_by reads_by b) 0 → three ≡ raised_by (sum_by reads_by d) 0
    → both ≡ raised_by two one → all ≡ raised_by three both → all ≡ raised_by (sum_by reads_by (a ++ b ++ d)) 0
reads_three a b d one two three both all e f h join last =
    let whole : sum_by reads_by (a ++ b ++ d) ≡ (sum_by reads_by a + sum_by reads_by b) + sum_by reads_by d = sum_by-append reads_by (a ++ b) d ∙ ap (λ n. n + sum_by reads_by d) (sum_by-append reads_by a b) in
    let first = raised_join (sum_by reads_by a) (sum_by reads_by b) one two both e f join in
    raised_join (sum_by reads_by a + sum_by reads_by b) (sum_by reads_by d) both three all first h last ∙ ap (λ n. raised_by n 0) (sym whole)

-- a sum over workers is the sum over their replies
pub reads_mapped : {A G : Type 0} (named : A → List ℕ) (workers : List (SessionWorker A G)) → sum_by reads_by workers ≡ sum_by (λ replies. replies.reads) (map (replies_of named) workers)
reads_mapped named [] = refl
reads_mapped named (w ∷ workers) = sum_by-cons reads_by w workers ∙ ap (λ n. reads_by w + n) (reads_mapped named workers) ∙ sym (sum_by-cons (λ replies. replies.reads) (replies_of named w) (map (replies_of named) workers))

pub reads_replied : {A G : Type 0} (named : A → List ℕ) (a b d : List (SessionWorker A G)) (reads : ℕ) → reads ≡ raised_by (sum_by reads_by (a ++ b ++ d)) 0 → reads ≡ raised_by (sum_by (λ replies. replies.reads) (map (replies_of named) a ++ map (replies_of named) b ++ map (replies_of named) d)) 0
reads_replied named a b d reads counted =
    let joined : map (replies_of named) (a ++ b ++ d) ≡ map (replies_of named) a ++ map (replies_of named) b ++ map (replies_of named) d = map-append (replies_of named) (a ++ b) d ∙ ap (λ l. l ++ map (replies_of named) d) (map-append (replies_of named) a b) in
    counted ∙ ap (λ n. raised_by n 0) (reads_mapped named (a ++ b ++ d) ∙ ap (sum_by (λ replies. replies.reads)) joined)
