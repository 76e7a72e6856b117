-- Worked examples, computed from the definitions.
use Rattle.desk_send.proofs.Common.{◌≡◌, true, false, [], ◌∷◌, Ok, Err, codes, map, refl, Reply, KeyReused}
use Rattle.std.specs.Fmt.{digits}
use Rattle.serde_json.proofs.OnLiterals.{serde_json_on_literals}
use Rattle.desk_client.specs.Received.{cut, not_http, too_long, whole}
use Rattle.desk_client.specs.declared.fault.AskFault.TheVariants.{Connect, Connection}
use Rattle.desk_client.specs.declared.received.DeskStatus.TheVariants.{NotFound, Other, Success}
use Rattle.desk_types.specs.declared.fault.DeskFault.TheVariants.{Memory, Read, Write}
use Rattle.office_types.specs.declared.refusal.Refusal.TheVariants as no
use Rattle.office_types.specs.declared.reply.Reply.TheVariants as reply
use Rattle.desk_send.specs.Desks.{no_desk, turn, unknown_desks}
use Rattle.desk_send.specs.Replies.{Comes, IsReply, is_again}
use Rattle.desk_send.specs.declared.sending.SendFault.TheVariants.{NoReply}

sent_again : map is_again (Err Connect ∷ Err (Connection Write) ∷ Err (Connection Read) ∷ Ok cut
    ∷ Ok (whole (Other 503) []) ∷ []) ≡ true ∷ true ∷ true ∷ true ∷ true ∷ []
sent_again = refl

sent_once : map is_again (Ok not_http ∷ Ok too_long ∷ Err (Connection Memory) ∷ Ok (whole Success [])
    ∷ Ok (whole NotFound []) ∷ Ok (whole (Other 400) []) ∷ Ok (whole (Other 409) []) ∷ [])
    ≡ false ∷ false ∷ false ∷ false ∷ false ∷ false ∷ false ∷ []
sent_once = refl

a_number : IsReply (Ok (whole Success (codes "{\"number\":256}"))) (Reply (reply.Number 256))
unfolding serde_json_on_literals digits
a_number = record { status = refl; body = refl }

no_network : IsReply (Ok (whole NotFound (codes "{\"name\":\"NoNet\",\"refused\":40}")))
    (Reply (reply.Refused no.NoNet))
unfolding serde_json_on_literals digits
no_network = record { status = refl; body = refl }

a_used_key : IsReply (Ok (whole (Other 409) (codes "{\"name\":\"KeyReused\",\"refused\":70}"))) KeyReused
unfolding serde_json_on_literals digits
a_used_key = record { status = refl; body = refl }

-- a desk that isn't there at first: its three turns are the record, each of the same bytes
comes_in_the_end : Comes unknown_desks 8086 (codes "POST") 3
    (turn 8086 (codes "POST") (Err Connect) ∷ turn 8086 (codes "POST") (Err Connect)
    ∷ turn 8086 (codes "POST") (Ok (whole Success (codes "{\"done\":true}"))) ∷ [])
    (Ok (Reply reply.Done))
unfolding serde_json_on_literals digits
comes_in_the_end =
    let done = Ok (whole Success (codes "{\"done\":true}")) in
    let last = turn 8086 (codes "POST") done ∷ [] in
    let one = turn 8086 (codes "POST") (Err Connect) ∷ last in (
      Err Connect,
      one,
      refl,
      tt,
      (
        Err Connect,
        last,
        refl,
        tt,
        (done, [], refl, tt, (refl, record { status = refl; body = refl })),
      ),
    )

never_comes : Comes no_desk 8086 [] 2 (turn 8086 [] (Err Connect) ∷ turn 8086 [] (Err Connect) ∷ []) (Err NoReply)
never_comes =
    let one = turn 8086 [] (Err Connect) ∷ [] in
    (Err Connect, one, refl, refl, (Err Connect, [], refl, refl, (refl, refl)))
