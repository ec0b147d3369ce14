-- Laws of the rows of an answer: the cells of a group's result row, and chosen cells.
use Rattle.std.proofs.Common.{◌≡◌, ℕ, zero, suc, ◌-◌, ◌<◌, ◌≤◌, ◌==◌, true, false, List, [], ◌∷◌, ◌++◌, map, length, get_or, ℤ, Option, None, Some, refl, sym, ap, ◌∙◌, arith}
use Rattle.std.proofs.lemmas.Bool.{eqb-true}
use Rattle.std.specs.Option.{is_some}
use Rattle.ts_num.specs.Aggregates.{shown_or_null}
use Rattle.ts_num.specs.declared.values.Datum.{Datum}
use Rattle.ts_num.specs.declared.values.Datum.TheVariants.{Null}
use Rattle.partial_agg.specs.declared.groups.Group.{Group}
use Rattle.partial_agg.specs.Summaries.{Summary, datum_of, value_of}
use Rattle.ts_model.specs.declared.views.Agg.{Agg}
use Rattle.ts_model.specs.Chosen.{cell_or_null, chosen_cells, group_shown}
use Rattle.ts_model.specs.Groups.{shown_each}
use Rattle.ts_model.specs.Results.{cell_at}

-- ---- keys

among_keys : (keys : List (Option ℤ)) (others : List Datum) (p : ℕ) (key : Option ℤ) → p < length keys → cell_at (map shown_or_null keys ++ others) p ≡ value_of (shown_or_null (get_or keys p key))
among_keys [] others p key l = absurd (omega arith)
among_keys (k ∷ keys) others zero key l = refl
among_keys (k ∷ keys) others (suc p) key l = among_keys keys others p key (omega arith)

behind_keys : (keys : List (Option ℤ)) (others : List Datum) (p : ℕ) → length keys ≤ p → cell_at (map shown_or_null keys ++ others) p ≡ cell_at others (p - length keys)
behind_keys [] others p l = ap (cell_at others) (let e : p ≡ p - 0 = omega arith in e)
behind_keys (k ∷ keys) others zero l = absurd (omega arith)
behind_keys (k ∷ keys) others (suc p) l = behind_keys keys others p (omega arith) ∙ ap (cell_at others) (let e : p - length keys ≡ suc p - suc (length keys) = omega arith in e)

-- after the first cell come the keys
pub value_of_key : (first : Datum) (keys : List (Option ℤ)) (others : List Datum) (place : ℕ) (key : Option ℤ) → 0 < place → place ≤ length keys → cell_at (first ∷ (map shown_or_null keys ++ others)) place ≡ value_of (shown_or_null (get_or keys (place - 1) key))
value_of_key first keys others zero key some le = absurd (omega arith)
value_of_key first keys others (suc p) key some le =
    among_keys keys others p key (omega arith)
    ∙ ap (λ n. value_of (shown_or_null (get_or keys n key))) (let e : p ≡ suc p - 1 = omega arith in e)

-- and after them the other cells
pub value_behind : (first : Datum) (keys : List (Option ℤ)) (others : List Datum) (place : ℕ) → length keys < place → cell_at (first ∷ (map shown_or_null keys ++ others)) place ≡ cell_at others (place - 1 - length keys)
value_behind first keys others zero more = absurd (omega arith)
value_behind first keys others (suc p) more =
    behind_keys keys others p (omega arith)
    ∙ ap (λ n. cell_at others (n - length keys)) (let e : p ≡ suc p - 1 = omega arith in e)

-- ---- aggregates

pub value_of_part : (aggs : List Agg) (parts : List Summary) (at : ℕ) (agg : Agg) (part : Summary) → at < length aggs → at < length parts → cell_at (shown_each aggs parts) at ≡ value_of (datum_of (get_or aggs at agg).fun (get_or parts at part))
value_of_part [] parts at agg part l m = absurd (omega arith)
value_of_part (a ∷ aggs) [] at agg part l m = absurd (omega arith)
value_of_part (a ∷ aggs) (p ∷ parts) zero agg part l m = refl
value_of_part (a ∷ aggs) (p ∷ parts) (suc at) agg part l m = value_of_part aggs parts at agg part (omega arith) (omega arith)

pub no_agg : (aggs : List Agg) (parts : List Summary) (at : ℕ) → length aggs ≤ at → cell_at (shown_each aggs parts) at ≡ None
no_agg [] parts at l = refl
no_agg (a ∷ aggs) [] at l = refl
no_agg (a ∷ aggs) (p ∷ parts) zero l = absurd (omega arith)
no_agg (a ∷ aggs) (p ∷ parts) (suc at) l = no_agg aggs parts at (omega arith)

pub no_part : (aggs : List Agg) (parts : List Summary) (at : ℕ) → length parts ≤ at → cell_at (shown_each aggs parts) at ≡ None
no_part [] parts at l = refl
no_part (a ∷ aggs) [] at l = refl
no_part (a ∷ aggs) (p ∷ parts) zero l = absurd (omega arith)
no_part (a ∷ aggs) (p ∷ parts) (suc at) l = no_part aggs parts at (omega arith)

-- ---- cells

cell_among_keys : (keys : List (Option ℤ)) (others : List Datum) (p : ℕ) (key : Option ℤ) → p < length keys → cell_or_null (map shown_or_null keys ++ others) p ≡ shown_or_null (get_or keys p key)
cell_among_keys [] others p key l = absurd (omega arith)
cell_among_keys (k ∷ keys) others zero key l = refl
cell_among_keys (k ∷ keys) others (suc p) key l = cell_among_keys keys others p key (omega arith)

cell_behind_keys : (keys : List (Option ℤ)) (others : List Datum) (p : ℕ) → length keys ≤ p → cell_or_null (map shown_or_null keys ++ others) p ≡ cell_or_null others (p - length keys)
cell_behind_keys [] others p l = ap (cell_or_null others) (let e : p ≡ p - 0 = omega arith in e)
cell_behind_keys (k ∷ keys) others zero l = absurd (omega arith)
cell_behind_keys (k ∷ keys) others (suc p) l = cell_behind_keys keys others p (omega arith) ∙ ap (cell_or_null others) (let e : p - length keys ≡ suc p - suc (length keys) = omega arith in e)

-- after the first cell come the keys
pub cell_of_key : (first : Datum) (keys : List (Option ℤ)) (others : List Datum) (place : ℕ) (key : Option ℤ) → 0 < place → place ≤ length keys → cell_or_null (first ∷ (map shown_or_null keys ++ others)) place ≡ shown_or_null (get_or keys (place - 1) key)
cell_of_key first keys others zero key some le = absurd (omega arith)
cell_of_key first keys others (suc p) key some le =
    cell_among_keys keys others p key (omega arith)
    ∙ ap (λ n. shown_or_null (get_or keys n key)) (let e : p ≡ suc p - 1 = omega arith in e)

-- and after them the other cells
pub cell_behind : (first : Datum) (keys : List (Option ℤ)) (others : List Datum) (place : ℕ) → length keys < place → cell_or_null (first ∷ (map shown_or_null keys ++ others)) place ≡ cell_or_null others (place - 1 - length keys)
cell_behind first keys others zero more = absurd (omega arith)
cell_behind first keys others (suc p) more =
    cell_behind_keys keys others p (omega arith)
    ∙ ap (λ n. cell_or_null others (n - length keys)) (let e : p ≡ suc p - 1 = omega arith in e)

pub cell_of_part : (aggs : List Agg) (parts : List Summary) (at : ℕ) (agg : Agg) (part : Summary) → at < length aggs → at < length parts → cell_or_null (shown_each aggs parts) at ≡ datum_of (get_or aggs at agg).fun (get_or parts at part)
cell_of_part [] parts at agg part l m = absurd (omega arith)
cell_of_part (a ∷ aggs) [] at agg part l m = absurd (omega arith)
cell_of_part (a ∷ aggs) (p ∷ parts) zero agg part l m = refl
cell_of_part (a ∷ aggs) (p ∷ parts) (suc at) agg part l m = cell_of_part aggs parts at agg part (omega arith) (omega arith)

pub no_agg_cell : (aggs : List Agg) (parts : List Summary) (at : ℕ) → length aggs ≤ at → cell_or_null (shown_each aggs parts) at ≡ Null
no_agg_cell [] parts at l = refl
no_agg_cell (a ∷ aggs) [] at l = refl
no_agg_cell (a ∷ aggs) (p ∷ parts) zero l = absurd (omega arith)
no_agg_cell (a ∷ aggs) (p ∷ parts) (suc at) l = no_agg_cell aggs parts at (omega arith)

pub no_part_cell : (aggs : List Agg) (parts : List Summary) (at : ℕ) → length parts ≤ at → cell_or_null (shown_each aggs parts) at ≡ Null
no_part_cell [] parts at l = refl
no_part_cell (a ∷ aggs) [] at l = refl
no_part_cell (a ∷ aggs) (p ∷ parts) zero l = absurd (omega arith)
no_part_cell (a ∷ aggs) (p ∷ parts) (suc at) l = no_part_cell aggs parts at (omega arith)

-- ---- chosen cells

-- no value is read if there is no cell
pub value_of_cell : (cells : List Datum) (p : ℕ) → value_of (cell_or_null cells p) ≡ cell_at cells p
value_of_cell [] p = refl
value_of_cell (c ∷ cells) zero = refl
value_of_cell (c ∷ cells) (suc p) = value_of_cell cells p

pub value_chosen : (cells : List Datum) (places : List ℕ) (at place : ℕ) → at < length places → cell_at (chosen_cells places cells) at ≡ cell_at cells (get_or places at place)
value_chosen cells [] at place l = absurd (omega arith)
value_chosen cells (p ∷ places) zero place l = value_of_cell cells p
value_chosen cells (p ∷ places) (suc at) place l = value_chosen cells places at place (omega arith)

pub none_chosen : (cells : List Datum) (places : List ℕ) (at : ℕ) → length places ≤ at → cell_at (chosen_cells places cells) at ≡ None
none_chosen cells [] at l = refl
none_chosen cells (p ∷ places) zero l = absurd (omega arith)
none_chosen cells (p ∷ places) (suc at) l = none_chosen cells places at (omega arith)

-- if all cells of groups are shown, choosing cells shows the chosen ones
groups_choose : (places : List ℕ) (aggs : List Agg) (groups : List Group) → map (group_shown (Some places) aggs) groups ≡ map (chosen_cells places) (map (group_shown None aggs) groups)
groups_choose places aggs [] = refl
groups_choose places aggs (g ∷ groups) = ap (λ rows. group_shown (Some places) aggs g ∷ rows) (groups_choose places aggs groups)

pub rows_choose : (places : List ℕ) (made : List (List Datum)) (before : Option (List ℕ)) (aggs : List Agg) (groups : List Group) → true ≡ (length made == 0) → false ≡ is_some before → made ++ map (group_shown (Some places) aggs) groups ≡ map (chosen_cells places) (made ++ map (group_shown before aggs) groups)
rows_choose places [] None aggs groups none all = groups_choose places aggs groups
rows_choose places [] (Some ps) aggs groups none all = absurd (cc all)
rows_choose places (cells ∷ made) before aggs groups none all = absurd (let same = eqb-true (suc (length made)) 0 (sym none) in omega (arith, same))
