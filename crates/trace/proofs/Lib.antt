pub mod Examples
pub mod Groups
pub mod Gathering
pub mod Naming
pub mod Laws
pub mod FromBytes
pub mod OneForm
pub mod NoTwoOutcomes
