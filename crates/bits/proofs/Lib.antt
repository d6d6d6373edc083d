pub mod FieldLaws
pub mod WordLaws
