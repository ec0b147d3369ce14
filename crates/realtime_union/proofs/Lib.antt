pub mod LiveLaws
pub mod OrderedRows
pub mod UnionLaws
pub mod NearLaws
pub mod PassingLaws
