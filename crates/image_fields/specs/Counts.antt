-- The number of rows of the saved groups of an image.
use Rattle.std.specs.Prelude.{◌^◌, Bool, nat_lt}
use Rattle.std.specs.List.{list_all}
use Rattle.ts_model.specs.declared.images.Image.{Image}
use Rattle.ts_model.specs.declared.images.SavedGroup.{SavedGroup}
use Rattle.ts_model.specs.declared.images.SavedView.{SavedView}
use Rattle.ts_model.specs.declared.images.Sums.{Sums}

-- fewer than 2 ^ 62
abbrev pub few_rows : Sums → Bool
few_rows s = nat_lt s.count (2 ^ 62)

abbrev pub few_in_group : SavedGroup → Bool
few_in_group g = list_all few_rows g.parts

abbrev pub few_in_view : SavedView → Bool
few_in_view v = list_all few_in_group v.groups

-- each saved group has fewer than 2 ^ 62 rows
abbrev pub few_in_image : Image → Bool
few_in_image i = list_all few_in_view i.views
