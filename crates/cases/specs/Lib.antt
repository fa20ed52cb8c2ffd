-- What an example says, and the bytes that examples of both kinds share.
pub mod Cases
pub mod Bytes
