use Rattle.std.proofs.Common.{◌∙◌}
use Rattle.audit.proofs.HearingLaws.{none_heard}
use Rattle.audit.proofs.NameLaws.{talk_is_short}
use Rattle.audit.proofs.session_replay.SessionReplay.new.Goals as goal

pub returns-clause-heard : goal.returns-clause-heard
returns-clause-heard g c = λ all within. record {
  short = talk_is_short c.args.talk.now c.requires.sound;
  heard = none_heard g.T.Shown all c.args.start c.args.talk.now c.new.result (c.new.ensures.name ∙ c.in_ok-name_of.ensures.name) (c.new.ensures.holds all) c.new.ensures.places c.new.ensures.at c.new.ensures.none within;
}
