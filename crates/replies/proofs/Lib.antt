-- What is shown of the definitions in specs/. Assumes nothing.
pub mod Laws
