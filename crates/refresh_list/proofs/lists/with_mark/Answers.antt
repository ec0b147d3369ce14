use Rattle.std.proofs.Common.{◌≡◌, ◌+◌, [], ◌∷◌, ◌++◌, map, take, drop, ap, ◌∙◌, append_assoc}
use Rattle.std.specs.Prelude.{Ok, Err, IfOk}
use Rattle.refresh_list.specs.Refreshes.{finished_at}
use Rattle.refresh_list.proofs.PlaceLaws.{finished_there}
use Rattle.refresh_list.proofs.lists.with_mark.Goals as goal

pub returns : goal.returns
returns c =
    let items = c.args.list.now.items in
    let p = c.args.place in
    let r = c.get.result.now in
    let there = finished_there c.args.cut c.args.by p 0 r items c.requires.rise c.requires.stands.within c.get.ensures.item (ap (λ x. x.cut) c.get.ensures.item ∙ c.requires.stands.named r) in
    record {
      marked = elim c.replace.result as (λ o. IfOk o (λ list. list.items ≡ (take p items ++ (c.finish_at-marked.result ∷ [])) ++ drop (p + 1) items) → IfOk o (λ new. new.items ≡ map (finished_at c.args.cut c.args.by) items)) [
        | Ok new ↦ λ e. e ∙ append_assoc (take p items) (c.finish_at-marked.result ∷ []) (drop (p + 1) items) ∙ ap (λ x. take p items ++ ((x ∷ []) ++ drop (p + 1) items)) c.finish_at-marked.ensures ∙ there
        | Err e ↦ λ t. t
      ] c.replace.ensures.items;
    }
