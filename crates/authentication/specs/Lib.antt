pub mod Authentication
