-- Keys of requests: 1 to 64 bytes of 33 to 126, and not `-` alone.
use Rattle.std.specs.Prelude.{ℕ, ◌==◌, nat_le, Bool, not, ◌&&◌, List, length, codes, IsTrue}
use Rattle.std.specs.List.{list_all}
use Rattle.std.specs.Str.{bytes_eq}

abbrev pub is_key_byte : ℕ → Bool
is_key_byte b = nat_le 33 b && nat_le b 126

abbrev pub is_key : List ℕ → Bool
is_key bytes = not (length bytes == 0) && nat_le (length bytes) 64 && list_all is_key_byte bytes
    && not (bytes_eq bytes (codes "-"))

abbrev pub IsKey : List ℕ → Type 0
IsKey bytes = IsTrue (is_key bytes)
