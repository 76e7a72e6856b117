pub mod Fault
pub mod Offset
pub mod Class
pub mod Token
pub mod First
pub mod Next
