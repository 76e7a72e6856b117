pub mod HoldsIn
pub mod Forms
pub mod Carried
pub mod ProfileRows
pub mod FormSchema
pub mod InForm
pub mod Carrying
