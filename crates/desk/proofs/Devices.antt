-- What one connection does with its devices, and what it does where its request isn't read.
use Rattle.desk.proofs.Common.{◌≡◌, ◌⊎◌, ℕ, List, Option, Result, Err, IsErrOf, inl, inr, refl, sym, subst, State}
use Rattle.desk.proofs.Common.{Answered, Holding, Keeps, Leaves, DeskFault, StopsShort}
use Rattle.desk_types.specs.Codes.{desk_fault_of}
use Rattle.desk_types.specs.Reading.{ReadsAtMost}
use Rattle.desk_types.specs.declared.device.Sink as sink
use Rattle.desk_types.specs.declared.device.Source as source
use Rattle.desk_types.specs.declared.fault.DeskFault.TheVariants as desk
use Rattle.desk_types.specs.declared.fault.ReadFault.{ReadFault}
use Rattle.desk_types.specs.declared.fault.ReadFault.TheVariants.{Read, Memory}
use Rattle.desk_head.specs.Limits.{request_limit}
use Rattle.desk.specs.Devices.{UsesDevices}
use Rattle.desk.specs.Responding.{Refuses, Serves}

-- what is so where nothing was written needn't be shown where the response was, or a beginning of it
pub not_unwritten : {T P : Type 0} (r : Result T DeskFault) → (r ≡ Err desk.Read → ⊥) → (r ≡ Err desk.Memory → ⊥)
    → IsErrOf r desk.Read ⊎ IsErrOf r desk.Memory → P
not_unwritten r not_read not_memory (inl is) = absurd (not_read is)
not_unwritten r not_read not_memory (inr is) = absurd (not_memory is)

-- its devices, by the fault of reading
devices_by : {R W : Type 0} (T U : Type 0) (from : source.Ghosts R) (to : sink.Ghosts W) (fault : ReadFault)
    (old new : R) (now : W) → ReadsAtMost {T = T} from old new request_limit (Err fault)
    → (fault ≡ Read → StopsShort (from.left old) (from.left new))
    → UsesDevices {T = U} from to (Err (desk_fault_of fault)) old new now now
devices_by T U from to Read old new now reads short = record {
  most = reads.most;
  count = (reads.count, refl);
  short = λ is. short refl;
  unwritten = λ is. refl;
}
devices_by T U from to Memory old new now reads short = record {
  most = reads.most;
  count = (reads.count, refl);
  short = λ is. cc;
  unwritten = λ is. refl;
}

pub devices_unread : {R W : Type 0} (T U : Type 0) (from : source.Ghosts R) (to : sink.Ghosts W) (fault : ReadFault)
    (ends : DeskFault) (old new : R) (now : W) → ends ≡ desk_fault_of fault
    → ReadsAtMost {T = T} from old new request_limit (Err fault)
    → (fault ≡ Read → StopsShort (from.left old) (from.left new))
    → UsesDevices {T = U} from to (Err ends) old new now now
devices_unread T U from to fault ends old new now is reads short =
    subst (λ (e : DeskFault). UsesDevices {T = U} from to (Err e) old new now now) (sym is)
    (devices_by T U from to fault old new now reads short)

-- the history, which is as it was
serves_by : (T : Type 0) (h : List Answered) (fault : ReadFault) (left old new : Option (List ℕ)) (s : State)
    → Holding h s → Leaves (Keeps h) s → Serves {T = T} h (Err (desk_fault_of fault)) left old new s
serves_by T h Read left old new s holding stays = (holding, stays)
serves_by T h Memory left old new s holding stays = inl (holding, stays)

pub serves_unread : (T : Type 0) (h : List Answered) (fault : ReadFault) (ends : DeskFault)
    (left old new : Option (List ℕ)) (s : State) → ends ≡ desk_fault_of fault → Holding h s → Leaves (Keeps h) s
    → Serves {T = T} h (Err ends) left old new s
serves_unread T h fault ends left old new s is holding stays =
    subst (λ (e : DeskFault). Serves {T = T} h (Err e) left old new s) (sym is)
    (serves_by T h fault left old new s holding stays)

-- an office that has failed, where nothing is written
refuses_by : (T : Type 0) (fault : ReadFault) (left now : Option (List ℕ))
    → Refuses {T = T} (Err (desk_fault_of fault)) left now now
refuses_by T Read left now = refl
refuses_by T Memory left now = refl

pub refuses_unread : (T : Type 0) (fault : ReadFault) (ends : DeskFault) (left now : Option (List ℕ))
    → ends ≡ desk_fault_of fault → Refuses {T = T} (Err ends) left now now
refuses_unread T fault ends left now is =
    subst (λ (e : DeskFault). Refuses {T = T} (Err e) left now now) (sym is) (refuses_by T fault left now)
