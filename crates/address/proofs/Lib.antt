pub mod Zeros
pub mod Addresses
pub mod RoundTrip
pub mod Lines
pub mod Results
