-- What `{:03X}` and its kin write.
use Rattle.std.proofs.Common.{◌≡◌, ◌-◌, ◌++◌, ◌^◌, ◌∙◌, ℕ, List, [], length, replicate, false, ap, append-nil, arith}
use Rattle.std.specs.Fmt.{char_count, format_spec, padded_integral}
use Rattle.columns.specs.Padding.{filled}

pub zeros_before : (width : ℕ) (text : List ℕ)
    → padded_integral (format_spec 32 0 4 width (2 ^ 64 - 1)) false [] text ≡ filled 48 width text
unfolding padded_integral char_count
zeros_before width text =
    let same : width - length text - 0 - 0 ≡ width - length text = omega arith in
    ap (λ n. replicate n 48 ++ (text ++ [])) same
    ∙ ap (λ v. replicate (width - length text) 48 ++ v) (append-nil text)
