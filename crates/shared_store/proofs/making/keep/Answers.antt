use Rattle.shared_store.proofs.StoreLaws.{kept_new}
use Rattle.shared_store.proofs.making.keep.Goals as goal

pub invariant_of-result : goal.invariant_of-result
invariant_of-result g c = kept_new _ c.of-opened.ensures c.requires.alone c.requires.going
