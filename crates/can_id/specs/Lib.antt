pub mod Form
pub mod Ident
pub mod IdFault
pub mod J1939
