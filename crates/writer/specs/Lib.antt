pub mod Form
pub mod Lists
pub mod Contract
pub mod Parts
