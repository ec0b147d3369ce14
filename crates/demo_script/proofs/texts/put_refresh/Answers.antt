-- The range is written after the call.
use Rattle.std.proofs.Common.{◌∙◌, ap, subst, ◌*◌, ◌++◌, ◌≡◌, codes, FitsSigned, rules}
use Rattle.std.specs.Prelude.{OnOk}
use Rattle.std.specs.Int.{w64, cast_signed, cast_unsigned}
use Rattle.std.specs.String.{string_bytes}
use Rattle.std.proofs.lemmas.Int.{to_z-of_z}
use Rattle.std.proofs.lemmas.List.{append_assoc}
use Rattle.demo_script.specs.Demo.{range_text, refresh_line}
use Rattle.demo_script.proofs.texts.put_refresh.Goals as goal

pub returns : goal.returns
unfolding refresh_line
returns c =
    let before = string_bytes c.args.out.now in
    let end = 5000 * c.args.round in
    let call = codes "d: CALL refresh_continuous_aggregate('m100', " in
    let start = c.start_of_round_before.result in
    let fits : FitsSigned w64 start = search rules in
    let passed = cast_signed w64 (cast_unsigned w64 start) in
    subst (λ t. OnOk c.put_range.result (string_bytes c.put_range.new.out ≡ t))
    (ap (λ t. t ++ range_text passed end) c.in_ok-push_str.ensures.bytes
    ∙ append_assoc before call (range_text passed end)
    ∙ ap (λ first. before ++ (call ++ range_text first end)) (to_z-of_z w64 start fits ∙ c.start_of_round_before.ensures))
    c.put_range.ensures
