use Rattle.std.proofs.Common.{◌≡◌, ◌<◌, ◌-◌, min, ℕ, length, ap, arith, length-take}
use Rattle.txn_journal.proofs.HeadLaws.{head_from, told_length, told_range}
use Rattle.txn_journal.proofs.heads.read_head.Goals as goal

pub returns-clause-head : goal.returns-clause-head
returns-clause-head g c = λ file told.
    let is : c.args.size ≡ length file = told_length (g.D.Disk.bytes c.args.disk.now) file c.args.size told c.requires.size in
    let within : c.args.at < length file = omega (arith, c.requires.within) in
    let got : length c.read_at.new.into ≡ min (c.args.size - c.args.at) 6 = omega (arith, length-take {A = ℕ}) in
    head_from c.judge_head.result c.read_at.new.into _ file c.args.at (c.args.size - c.args.at) within (ap (λ (n : ℕ). n - c.args.at) is) got
    (told_range (g.D.Disk.bytes c.args.disk.now) file c.args.at c.read_at.new.into told c.in_ok-read_at.ensures.bytes)
    c.judge_head.ensures
