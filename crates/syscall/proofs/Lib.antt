pub mod Bytes
pub mod Parsing
pub mod Encoding
pub mod RoundTrip
pub mod Lines
pub mod Results
