pub mod Numbers
pub mod Kinds
pub mod Events
