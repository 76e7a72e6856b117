-- What a listener has had of connections that were served.
use Rattle.std.specs.Prelude.{◌≡◌, List, All, Bool}
use Rattle.desk.specs.Serving.{AreAccepted, AreClosed, FailsOnce, HasCause, IsDeclined, NoneWaits, Visit}
use Rattle.desk.specs.declared.listener.Listener.{Ghosts}

-- These connections came and were closed, in order. Each ended for a cause. Once the office has failed, it has for all
-- that come later, and these are declined.
pub record HasVisits {L Q A : Type 0} (listener : Ghosts L Q A) (old new : L) (failed_old failed_new : Bool)
    (visits : List Visit) : Type 0 where
  pub accepted : AreAccepted (listener.coming old) (listener.coming new) visits
  pub closed : AreClosed (listener.ended old) (listener.ended new) visits
  pub caused : All HasCause visits
  pub fails_once : FailsOnce failed_old visits failed_new
  pub declined : All IsDeclined visits

-- no connection could be accepted, since none came, if the listener shows what comes
pub record HasNoVisit {L Q A : Type 0} (listener : Ghosts L Q A) (old new : L) : Type 0 where
  pub coming : listener.coming new ≡ listener.coming old
  pub ended : listener.ended new ≡ listener.ended old
  pub none : NoneWaits (listener.coming old)
