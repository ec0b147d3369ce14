-- The new part is after all others.
use Rattle.std.proofs.Common.{◌≡◌, ◌+◌, ◌∙◌, [], ◌∷◌, ◌++◌, length, ap, sym, subst, arith}
use Rattle.std.specs.Arc.{arc_value}
use Rattle.std.proofs.lemmas.List.{length-append}
use Rattle.block_list.specs.Blocks.{AreParts, items_of}
use Rattle.block_list.proofs.PartLaws.{parts_last, items_last}
use Rattle.block_list.proofs.parts.Parts.push.Given as given
use Rattle.block_list.proofs.parts.Parts.push.Goals as goal

-- the parts with the new one
parts_is : (g : given.Over) (c : goal.After-self-1 g) → c.push.new.self.items ≡ c.self.inside.parts.items ++ record { start = c.self.inside.len; items = g.S.Items.items (arc_value c.args.items) } ∷ []
parts_is g c = c.in_ok-push.ensures.items ∙ ap (λ p. c.self.inside.parts.items ++ p ∷ []) c.of.ensures

-- the items with those of the new part
items_is : (g : given.Over) (c : goal.After-self-1 g) → items_of c.push.new.self.items ≡ items_of c.self.inside.parts.items ++ g.S.Items.items (arc_value c.args.items)
items_is g c = ap items_of (parts_is g c) ∙ items_last c.self.inside.parts.items c.self.inside.len (g.S.Items.items (arc_value c.args.items))

pub invariant_of-self-2 : goal.invariant_of-self-2
invariant_of-self-2 g c =
    let old = c.self.invariant in
    let more = g.S.Items.items (arc_value c.args.items) in
    let len : c.len-len.result ≡ length more = c.len-len.ensures.len ∙ ap (λ s. length (g.S.Items.items s)) c.deref.ensures in
    let sum : length (items_of c.push.new.self.items) ≡ length (items_of c.self.inside.parts.items) + length more = ap length (items_is g c) ∙ length-append (items_of c.self.inside.parts.items) more in
    let known : c.self.inside.len ≡ length (items_of c.self.inside.parts.items) = old.1 in (
      subst (AreParts 0) (sym (parts_is g c)) (parts_last 0 c.self.inside.parts.items (record { start = c.self.inside.len; items = more }) old.0 (omega arith)),
      omega arith,
      omega arith,
    )

pub returns : goal.returns
returns g c = items_is g c ∙ ap (λ xs. xs ++ g.S.Items.items (arc_value c.args.items)) c.self.view_is
