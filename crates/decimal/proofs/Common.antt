-- What several proofs use of other crates, passed on from one place.
pub use Rattle.std.proofs.Common.{◌≡◌, ◌≢◌, ◌↔◌, ℕ, zero, suc, ◌+◌, ◌-◌, ◌*◌, ◌/◌, ◌%◌, ◌^◌, Bool, true, false, not}
pub use Rattle.std.proofs.Common.{eqb, ◌&&◌, List, length, refl, sym, ap, subst, ◌∙◌, arith, ℤ, pos, negsuc, int_le}
pub use Rattle.std.proofs.Common.{Result, Err, zero-mul, ◌≤ℤ◌, ◌<◌, ◌≤◌, min, [], ◌∷◌, take, drop, get_or, add-one}
pub use Rattle.std.proofs.Common.{pow-suc, inl, inr, unsigned_abs, Ok, ◌++◌, mul-one, neg_ℤ, mul-le-mul_right, ◌⊎◌}
pub use Rattle.std.proofs.Common.{◌+ℤ◌, ◌-ℤ◌, ◌*ℤ◌, replicate, ◌<ℤ◌, to_z, of_z}
pub use Rattle.std.proofs.lemmas.Bool.{and_parts, and_from, both_ways, eqb-true, leb-true, cases_lt, ne_eqb}
pub use Rattle.std.proofs.lemmas.Bool.Decides.{nat_tests}
pub use Rattle.std.proofs.lemmas.Int.{ints}
pub use Rattle.std.proofs.lemmas.Int.Digits.{digits_value_more}
pub use Rattle.std.proofs.lemmas.List.{get_or-drop, length-drop, append-nil, length-take-le, take-append-drop}
pub use Rattle.std.proofs.lemmas.List.Sums.{prefix_len-le-length}
pub use Rattle.std.specs.Char.{is_ascii_digit, digit_value}
pub use Rattle.std.specs.Fmt.{decimal, signed_decimal}
pub use Rattle.std.specs.Int.{w128, w16}
pub use Rattle.std.specs.List.{suffix_len, prefix_len}
pub use Rattle.std.specs.Str.Parse.{digits_value, digits_value_after}
