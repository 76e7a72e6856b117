pub mod LastNames
