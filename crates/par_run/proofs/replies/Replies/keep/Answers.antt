use Rattle.std.proofs.Common.{◌∙◌, sym}
use Rattle.par_run.proofs.ReplyLaws.{kept_end}
use Rattle.par_run.proofs.replies.Replies.keep.Goals as goal

pub returns-in-Some : goal.returns-in-Some
returns-in-Some c = kept_end c.args.line.now c.args.end c.in-Some.reply c.append.result c.args.self.now c.append.new.self (sym c.in-Some.is ∙ c.reply_of.ensures) c.append.ensures
