mod Insides
mod Exponents
mod Ends
mod Reading
mod KindTables
