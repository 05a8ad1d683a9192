pub mod Parts
pub mod Results
