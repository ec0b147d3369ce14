use Rattle.ts_store.proofs.StandsLaws.{journals_stand_once, journals_stand_or_are_damaged, journals_are_damaged_once}
use Rattle.ts_store.proofs.JudgedLaws.{each_is_judged}
use Rattle.ts_store.proofs.laws.journals_stand_for_one_history.Goals as goal

pub returns : goal.returns
returns c = record { one = journals_stand_once; apart = journals_stand_or_are_damaged; one_damage = journals_are_damaged_once; judged = each_is_judged }
