use Rattle.std.proofs.Common.{ap, sym, subst}
use Rattle.std.specs.Prelude.{IsSome}
use Rattle.ts_model.specs.Roster.{hyper_of}
use Rattle.engine_state.specs.Shown.{IsTableOf}
use Rattle.engine_state.specs.Stands.{StateValue}
use Rattle.engine_state.proofs.AnswerFacts.{table_tells, table_there}
use Rattle.engine_state.proofs.parts.StateParts.table_seen.Goals as goal

pub table-requires : goal.table-requires
table-requires c =
    let s = c.args.self.now in
    let st = c.requires.stands.stands in
    record { there = table_there c.requires.stands.history c.args.number s st (subst (λ r. IsSome (hyper_of r c.args.number)) st.roster c.requires.there) }

pub returns : goal.returns
returns c = record {
  table = λ h st.
      let s = c.args.self.now in
      subst (λ p. IsTableOf h c.args.number p c.table.result.now) (sym (ap (λ (s : StateValue). s.position) c.self.view_is))
      (table_tells h c.args.number s c.table.result.now st c.table.ensures.table);
  at = c.table.ensures.table;
}
