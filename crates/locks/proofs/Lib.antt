pub mod Members
pub mod Words
pub mod Laws
pub mod NoTwoOutcomes
pub mod Examples
