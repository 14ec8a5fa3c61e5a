pub mod Examples
pub mod Codes
pub mod Groups
pub mod Lists
pub mod RoundTrip
pub mod InTurn
pub mod NoTwoOutcomes
