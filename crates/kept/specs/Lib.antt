pub mod Lists
pub mod Rules
pub mod Theorem
pub mod Pieces
pub mod Lent
pub mod Access
pub mod Holds
pub mod Parts
