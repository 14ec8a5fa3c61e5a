pub mod AcceptedAgain
