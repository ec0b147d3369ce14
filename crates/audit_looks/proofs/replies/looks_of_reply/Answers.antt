use Rattle.std.proofs.Common.{◌≡◌, ◌+◌, ◌<◌, true, false, ◌++◌, length, drop, sym, ap, ◌∙◌, subst, arith}
use Rattle.std.specs.List.{slice_split}
use Rattle.std.proofs.lemmas.Bool.Decides.{nat_tests}
use Rattle.audit_looks.specs.Lines.{ahead, behind, head_of, told_in}
use Rattle.audit_looks.specs.Replies.{is_last, is_line_end, looks_in, looks_in_lines}
use Rattle.audit_looks.proofs.ByteLaws.{behind_shorter}
use Rattle.audit_looks.proofs.TextLaws.{ends_there, goes_on}
use Rattle.audit_looks.proofs.replies.looks_of_reply.Goals as goal

pub returns-then-is_last : goal.returns-then-is_last
returns-then-is_last c =
    let skip = length c.args.name.now + 2 in
    let left = c.loop-left.left.now in
    let said = c.behind_name-said.result.now in
    let before = c.loop-left.looks.items in
    let head_is : c.head_of-head.result ≡ head_of said = c.head_of-head.ensures in
    let said_is : said ≡ drop skip (ahead 10 left) = c.behind_name-said.ensures ∙ ap (drop skip) c.ahead.ensures in
    let last : is_last (head_of said) ≡ true = ap is_last (sym head_is) ∙ sym c.is_last.ensures ∙ c.if-is_last.true in
    let told : c.put_looks.new.looks.items ≡ before ++ told_in (head_of said) said = c.in_ok-put_looks.ensures ∙ ap (λ h. before ++ told_in h said) head_is in
    told ∙ ends_there skip left before (looks_in c.args.name.now c.args.reply.now) said said_is c.loop-left.invariant last

pub loop-left-smaller : goal.loop-left-smaller
loop-left-smaller c =
    let left = c.loop-left.left.now in
    let some : 0 < length left = grind (arith, nat_tests, c.is_empty.ensures, c.loop-left-test.true) in
    subst (λ t. length t < length left) (sym c.behind-left.ensures) (behind_shorter 10 left some)

pub loop-left-preserved : goal.loop-left-preserved
loop-left-preserved c =
    let skip = length c.args.name.now + 2 in
    let left = c.loop-left.left.now in
    let said = c.behind_name-said.result.now in
    let before = c.loop-left.looks.items in
    let head_is : c.head_of-head.result ≡ head_of said = c.head_of-head.ensures in
    let said_is : said ≡ drop skip (ahead 10 left) = c.behind_name-said.ensures ∙ ap (drop skip) c.ahead.ensures in
    let more : is_last (head_of said) ≡ false = ap is_last (sym head_is) ∙ sym c.is_last.ensures ∙ c.if-is_last.false in
    let told : c.put_looks.new.looks.items ≡ before ++ told_in (head_of said) said = c.in_ok-put_looks.ensures ∙ ap (λ h. before ++ told_in h said) head_is in
    ap (λ t. c.put_looks.new.looks.items ++ looks_in_lines skip (slice_split is_line_end t)) c.behind-left.ensures
    ∙ ap (λ items. items ++ looks_in_lines skip (slice_split is_line_end (behind 10 left))) told
    ∙ goes_on skip left before (looks_in c.args.name.now c.args.reply.now) said said_is c.loop-left.invariant more
