pub mod EventLaws
