mod Places
mod EdgeLaws
mod ChangeLaws
mod FloorLaws
mod PieceLaws
mod CombineLaws
mod SearchLaws
mod PatchLaws
