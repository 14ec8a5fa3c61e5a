pub mod SameContract
pub mod AcceptedAgain
pub mod Examples
