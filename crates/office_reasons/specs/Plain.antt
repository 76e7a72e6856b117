-- What a refusal means, whatever the state.
use Rattle.std.specs.Prelude.{ℕ, List, codes}
use Rattle.office_types.specs.declared.refusal.Refusal.{Refusal}
use Rattle.office_types.specs.declared.refusal.Refusal.TheVariants as no

abbrev pub plain_meaning : Refusal → List ℕ
plain_meaning no.OutsidePayload = codes "a bit of the signal is outside the payload"
plain_meaning no.Clash = codes "the signal shares a bit with another one"
plain_meaning no.NoMultiplexor = codes "a signal is multiplexed, and the message has no multiplexor"
plain_meaning no.TwoMultiplexors = codes "the message has a multiplexor already"
plain_meaning no.TooMany = codes "there would be more than may be"
plain_meaning no.NoNet = codes "there is no network of that name"
plain_meaning no.NetThere = codes "there is a network of that name"
plain_meaning no.NotOffice = codes "only the team office may do this"
plain_meaning no.NoNode = codes "the network has no node of that name"
plain_meaning no.NoMessage = codes "no live message has the name"
plain_meaning no.NoSignal = codes "the message has no signal of that name"
plain_meaning no.BlockTaken = codes "a number of the block is granted already"
plain_meaning no.NoBlock = codes "the team has no block of that form"
plain_meaning no.BlockFull = codes "no number of the team's blocks is free"
plain_meaning no.OutsideBlock = codes "the number is in none of the team's blocks"
plain_meaning no.NameTaken = codes "the name is taken already"
plain_meaning no.IdentTaken = codes "a live message has the identifier"
plain_meaning no.Held = codes "the identifier is held, since a release has it"
plain_meaning no.NotOwner = codes "the message is another team's"
plain_meaning no.InReview = codes "the network is in review"
plain_meaning no.NotInReview = codes "the network is in draft"
plain_meaning no.OwnReview = codes "the team requested the review itself"
plain_meaning no.NeedsMore = codes "more teams have to approve first"
plain_meaning (no.FileFault f) = codes "the file is no sheet, or its signals clash"
plain_meaning no.NoSpn = codes "the suspect parameter number was never given out"
plain_meaning no.NoRoom = codes "no start leaves the signals clear"
plain_meaning no.NotJ1939 = codes "the network's kind is can"
plain_meaning (no.BundleRefused f) = codes "a command of the bundle is refused"
