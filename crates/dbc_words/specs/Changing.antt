-- Closures that change a value in place.
use Rattle.std.specs.Prelude.{◌≡◌, ℕ, List}
use Rattle.std.specs.Fn.{FnOnceReturnsAtMut, Once}
use denote.Ref.{MutBor}

-- what is seen of a closure that is called once at a `&mut`
abbrev pub Changer : Type 0 → Type 0 → Type 1
Changer C T = Once C (MutBor T × Unit {0}) (Unit {0} × (MutBor T × Unit {0}))

-- whatever the value, the closure leaves what the function makes of it
abbrev pub ChangesAs : {C T : Type 0} → Changer C T → C → (T → T) → Type 0
ChangesAs {C} {T} g change after = (x y : T) → FnOnceReturnsAtMut g change x tt y → y ≡ after x

-- and its name
abbrev pub KeepsName : {C T : Type 0} → Changer C T → C → (T → List ℕ) → Type 0
KeepsName {C} {T} g change name = (x y : T) → FnOnceReturnsAtMut g change x tt y → name y ≡ name x
