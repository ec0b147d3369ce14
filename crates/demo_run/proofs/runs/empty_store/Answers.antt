-- An empty disk represents the empty history, and isn't damaged.
use Rattle.std.proofs.Common.{◌≡◌, ◌∙◌, ap, [], Some}
use Rattle.std.proofs.lemmas.Result.{IfOk-weaker}
use Rattle.ts_disk.specs.MemDisk.{known_bytes}
use Rattle.ts_model.specs.History.{start}
use Rattle.ts_store.specs.Stores.{history_seen}
use Rattle.ts_store.proofs.StandsLaws.{journals_stand_once, journals_stand_or_are_damaged}
use Rattle.demo_run.proofs.RunLaws.{empty_stands}
use Rattle.demo_run.proofs.runs.empty_store.Goals as goal

pub returns-in-Ready-clause-empty : goal.returns-in-Ready-clause-empty
returns-in-Ready-clause-empty g c =
    let bytes : known_bytes c.new-2.result ≡ Some [] = ap known_bytes c.new-2.ensures.made ∙ ap Some c.new.ensures.items in
    let empty : history_seen c.in-Ready.store ≡ start = journals_stand_once [] (history_seen c.in-Ready.store) start (c.in-Ready.ensures.starts [] bytes) empty_stands in
    IfOk-weaker c.with_header.result _ _ (λ armed same. same ∙ empty) c.with_header.ensures.same

pub unreachable-requires : goal.unreachable-requires
unreachable-requires g c =
    let bytes : known_bytes c.new-2.result ≡ Some [] = ap known_bytes c.new-2.ensures.made ∙ ap Some c.new.ensures.items in
    journals_stand_or_are_damaged [] start c.in-Damaged.at empty_stands (c.in-Damaged.ensures.starts [] bytes)
