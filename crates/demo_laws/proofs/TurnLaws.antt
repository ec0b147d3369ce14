-- The effect of the lines that create tables and aggregates, insert or query.
use Rattle.std.proofs.Common.{◌≡◌, ℕ, suc, ◌<◌, [], ◌∷◌, ◌≤ℤ◌, ◌<ℤ◌, sym, refl, subst, arith}
use Rattle.std.proofs.lemmas.Int.{ints}
use Rattle.ts_model.specs.declared.events.Event.TheVariants.{Commit}
use Rattle.ts_model.specs.declared.events.Op.{Op}
use Rattle.ts_model.specs.declared.outcomes.Committed.{Committed}
use Rattle.ts_model.specs.Calls.{Act, commit_result, act_of_commit}
use Rattle.ts_model.specs.History.{History, ◌▸◌, position}
use Rattle.ts_model.specs.Limits.{last_position}
use Rattle.ts_model.specs.Reads.{reads_of_view}
use Rattle.ts_model.specs.Roster.{roster, view_of}
use Rattle.stmt_check.specs.Queries.{starts_of}
use Rattle.stmt_check.specs.declared.actions.Action.TheVariants as actions
use Rattle.ts_sessions.specs.Places.{Block}
use Rattle.ts_sessions.specs.Procedures.{ending_as, tries_at}
use Rattle.ts_sessions.specs.Step.{changes, turn_of_commit as said_committed, shown_in}
use Rattle.demo_laws.specs.Acts.{answer_act}
use Rattle.demo_laws.specs.Histories.{demo_history, history_after_rounds}
use Rattle.demo_laws.specs.ReadLaws.{DefinitionsReadNothing, InsertsReadNothing, QueriesReadARound}
use Rattle.demo_laws.specs.Turns.{PerformsAction, Passes}
use Rattle.demo_laws.proofs.ChunkLaws.{start_of}
use Rattle.demo_laws.proofs.HistoryLaws.{made_below_end}
use Rattle.demo_laws.proofs.LiveCounts.{last_query_reads, round_query_reads}

pub definitions_read_nothing : DefinitionsReadNothing
definitions_read_nothing = record {
  table = λ p bytes outside. record { after = refl; reads = refl; fault = refl; outside = outside };
  hypertable = λ p bytes outside. record { after = refl; reads = refl; fault = refl; outside = outside };
  view = λ p bytes outside. record { after = refl; reads = refl; fault = refl; outside = outside };
}

-- an operation outside a block is a separate commit
changes_commit : (op : Op) (h : History) → position h < last_position → PerformsAction h (actions.Change op) (h ▸ Commit (op ∷ [])) 0
changes_commit op h below p bytes outside =
    let Ends : Act Committed → Type 0 = λ act. Passes (ending_as (said_committed p p) (tries_at h act)) h (h ▸ Commit (op ∷ [])) 0 in
    let ends : Ends (act_of_commit (op ∷ []) h) = subst Ends (sym (made_below_end h (Commit (op ∷ [])) (commit_result (op ∷ []) h) below)) (record { after = refl; reads = refl; fault = refl; outside = outside }) in
    let Goal : Block → Type 0 = λ block. Passes (changes p bytes h op block) h (h ▸ Commit (op ∷ [])) 0 in
    subst Goal (sym outside) (record { after = ends.after; reads = ends.reads; fault = ends.fault; outside = ends.outside })

pub inserts_read_nothing : InsertsReadNothing
inserts_read_nothing = record {
  parts = λ demo round part h. changes_commit _ h;
  late = λ demo h. changes_commit _ h;
}

-- a query of the aggregate changes nothing
asks : (h : History) (read : ℕ) → reads_of_view 0 h (starts_of []) (view_of (roster h) 0) ≡ read → PerformsAction h answer_act h read
asks h read e p bytes outside =
    let Reads : Block → Type 0 = λ block. reads_of_view 0 (shown_in block h) (starts_of []) (view_of (roster (shown_in block h)) 0) ≡ read in
    record { after = refl; reads = subst Reads (sym outside) e; fault = refl; outside = outside }

-- the query asks for the start of a round
asked_from : (round : ℕ) → (starts_of []).lo ≤ℤ start_of round
asked_from round = omega (arith, ints)

asked_to : (round : ℕ) → round < 40 → start_of round <ℤ (starts_of []).hi
asked_to round l = omega (arith, ints)

pub queries_read_a_round : QueriesReadARound
queries_read_a_round = record {
  rounds = λ demo round l. asks (history_after_rounds demo (suc round)) 490 (round_query_reads demo round (starts_of []) (asked_from round) (asked_to round l));
  last = λ demo. asks (demo_history demo) 490 (last_query_reads demo (starts_of []) (asked_from 39) (asked_to 39 (omega arith)));
}
