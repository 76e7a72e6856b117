pub mod Changes
pub mod News
pub mod Numbers
pub mod Rising
pub mod Searching
pub mod Tests
