-- The call of bytes is one.
use Rattle.desk_call.proofs.Common.{◌≡◌, ℕ, List, inl, inr, refl, sym, ◌∙◌, RequestHead, HasHead}
use Rattle.httparse.proofs.GrammarLemmas.{request_unique}
use Rattle.desk_call.specs.Call.{call_of}
use Rattle.desk_call.specs.Read.{BytesRequestOneThing}

call_is_one : (bytes : List ℕ) (h g : RequestHead) (r s : List ℕ) → HasHead bytes h r → HasHead bytes g s
    → call_of h r ≡ call_of g s
call_is_one bytes h g r s p q =
    let same = request_unique bytes h g r s p.0 q.0 in
    rw (same.0, same.1) refl

pub bytes_request_one_thing : BytesRequestOneThing
bytes_request_one_thing bytes a b (inl p) (inl q) = p.1 ∙ sym q.1
bytes_request_one_thing bytes a b (inl p) (inr q) = absurd (p.0 q.0 q.1 q.2)
bytes_request_one_thing bytes a b (inr p) (inl q) = absurd (q.0 p.0 p.1 p.2)
bytes_request_one_thing bytes a b (inr p) (inr q) = p.3 ∙ call_is_one bytes p.0 q.0 p.1 q.1 p.2 q.2 ∙ sym q.3
