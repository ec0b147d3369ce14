use Rattle.std.proofs.Common.{◌≡◌, length, take, ◌∙◌, ap, arith}
use Rattle.txn_journal.proofs.HeadLaws.{short_start, starts_from, told_length, told_range}
use Rattle.txn_journal.proofs.heads.read_start.Goals as goal

pub returns-then-size-clause-starts : goal.returns-then-size-clause-starts
returns-then-size-clause-starts g c = λ file told. short_start file c.args.size (told_length (g.D.Disk.bytes c.args.disk.now) file c.args.size told c.requires.size) c.if-size.true

pub returns-clause-starts : goal.returns-clause-starts
returns-clause-starts g c = λ file told.
    let size : length c.read_at.new.into ≡ 9 = omega arith in
    starts_from c.judge_start.result c.read_at.new.into file c.args.size
    (told_length (g.D.Disk.bytes c.args.disk.now) file c.args.size told c.requires.size)
    c.if-size.false
    (told_range (g.D.Disk.bytes c.args.disk.now) file 0 c.read_at.new.into told c.in_ok-read_at.ensures.bytes ∙ ap (λ n. take n file) size)
    c.judge_start.ensures
