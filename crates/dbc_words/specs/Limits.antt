-- The limits of this project's dialect of DBC files.
use Rattle.std.specs.Prelude.{ℕ}
pub use Rattle.bitlayout.specs.Limits.{size_limit, start_limit}

-- the greatest number of messages of a sheet
abbrev pub message_limit : ℕ
message_limit = 16384

-- the greatest number of things in one list of things with names
abbrev pub roster_limit : ℕ
roster_limit = 4096

-- the greatest number of nodes of a sheet
abbrev pub node_limit : ℕ
node_limit = roster_limit

-- the greatest number of value tables of a sheet
abbrev pub table_limit : ℕ
table_limit = roster_limit

-- the greatest number of signals of a message
abbrev pub signal_limit : ℕ
signal_limit = roster_limit

-- the greatest number of texts in one list of them
abbrev pub value_text_limit : ℕ
value_text_limit = 65536

-- the greatest length of a name, in bytes
abbrev pub name_limit : ℕ
name_limit = 128

-- the greatest length of a message, in bytes: what the transport protocol of SAE J1939-21 carries
abbrev pub length_limit : ℕ
length_limit = 1785

-- the greatest suspect parameter number, which has 19 bits (SAE J1939)
abbrev pub spn_limit : ℕ
spn_limit = 524287
