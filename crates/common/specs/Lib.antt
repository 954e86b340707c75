pub mod Results
pub mod Words
pub mod Keys
