use Rattle.std.proofs.Common.{◌≡◌, sym, ◌∙◌, ap, subst}
use Rattle.txn_journal.specs.Calls.{Logged, IsAtRest, IsTold}
use Rattle.txn_journal.specs.Reading.{Progress}
use Rattle.txn_journal.proofs.readers.Reader.finish.Goals as goal

pub returns-clause-tells : goal.returns-clause-tells
returns-clause-tells g c = λ file content has.
    let made : c.new.result ≡ record { disk = c.args.self.disk; version = c.args.self.version; end = c.args.self.at; standing = c.args.self.standing } =
    c.new.ensures.made ∙ ap (λ (r : Progress g.row.D.Denot). record { disk = r.disk; version = r.version; end = r.at; standing = r.standing }) c.self.view_is in
    subst (λ (j : Logged g.row.D.Denot). IsTold g.D.Disk.bytes j content) (sym made)
    (record { file = file; told = has.told; lies = has.done c.requires.done })

pub returns-clause-at_rest : goal.returns-clause-at_rest
returns-clause-at_rest g c = λ file content has only.
    let made : c.new.result ≡ record { disk = c.args.self.disk; version = c.args.self.version; end = c.args.self.at; standing = c.args.self.standing } =
    c.new.ensures.made ∙ ap (λ (r : Progress g.row.D.Denot). record { disk = r.disk; version = r.version; end = r.at; standing = r.standing }) c.self.view_is in
    subst (λ (j : Logged g.row.D.Denot). IsAtRest g.D.Disk.bytes g.D.Disk.may_leave j content) (sym made)
    (record { tells = record { file = file; told = has.told; lies = has.done c.requires.done }; durable = only })
