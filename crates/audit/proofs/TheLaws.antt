-- The laws that an audit rests on.
use Rattle.audit_looks.proofs.LookLaws.{replies_tell}
use Rattle.audit_looks.proofs.ReplayLaws.{told_is_given, told_once}
use Rattle.audit_looks.proofs.TextLaws.{texts_tell as texts_tell_looks}
use Rattle.audit.proofs.TellerLaws.{Laws}

pub the_laws : Laws
the_laws = record { given = told_is_given; once = told_once; tell = replies_tell; texts = texts_tell_looks }
