-- What the bytes are received as, by the parser's answer.
use Rattle.std.proofs.Common.{◌≡◌, ◌∙◌, ℕ, ◌≤◌, List, length, map, take, drop, inl, inr, ap, arith}
use Rattle.std.proofs.lemmas.List.{length-map, length-take}
use Rattle.httparse.specs.Grammar.{ResponseHead}
use Rattle.httparse.specs.Spans.{IsResponseAt, IsResponseOf, header_bytes, name_and_value}
use Rattle.httparse.specs.declared.spans.HeaderSpan.{HeaderSpan}
use Rattle.httparse.specs.declared.spans.ResponseSpans.{ResponseSpans}
use Rattle.desk_head.specs.Limits.{header_limit}
use Rattle.desk_client.specs.Limits.{response_limit}
use Rattle.desk_client.specs.Received.{Reception, IsReceived, body_length, received_by, received_of}

-- what is computed of the spans, as what is received
abbrev pub received_at : List ℕ → List HeaderSpan → ResponseSpans → Reception
received_at bytes headers spans =
    received_by (body_length (map (header_bytes bytes) (take spans.headers headers))) spans.code (drop spans.len bytes)

-- it is what the head gives that the spans are of
at_head : (bytes : List ℕ) (headers : List HeaderSpan) (spans : ResponseSpans) (h : ResponseHead)
    → IsResponseAt bytes headers spans h → received_at bytes headers spans ≡ received_of h (drop spans.len bytes)
at_head bytes headers spans h at =
    ap (λ l. received_by (body_length l) spans.code (drop spans.len bytes)) at.fields
    ∙ ap (λ n. received_by (body_length (map name_and_value h.fields)) n (drop spans.len bytes)) at.code

few_fields : (bytes : List ℕ) (headers : List HeaderSpan) (spans : ResponseSpans) (h : ResponseHead)
    → IsResponseAt bytes headers spans h → length headers ≡ header_limit → length h.fields ≤ header_limit
few_fields bytes headers spans h at room =
    omega (
      arith,
      ap length at.fields,
      length-map (take spans.headers headers) (header_bytes bytes),
      length-map h.fields name_and_value,
      length-take spans.headers headers,
    )

-- a whole head
pub receives_head : (bytes : List ℕ) (headers : List HeaderSpan) (spans : ResponseSpans) (r : Reception)
    → IsResponseOf bytes headers spans → length headers ≡ header_limit → length bytes ≤ response_limit
    → r ≡ received_at bytes headers spans → IsReceived bytes r
receives_head bytes headers spans r of room fits is =
    let h = of.0 in
    let at = of.1 in
    inr (
      fits,
      inl (
        h,
        drop spans.len bytes,
        (at.reads, few_fields bytes headers spans h at room),
        is ∙ at_head bytes headers spans h at,
      ),
    )
