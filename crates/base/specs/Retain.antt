-- Closures that test an item.
use Rattle.std.specs.Prelude.{◌≡◌, Bool}
use Rattle.std.specs.Fn.{CalledAt, Mut}
use denote.Ref.{Bor}

-- whatever the item, the closure answers whether it passes, and answers so again
abbrev pub AnswersAs : {F T : Type 0} → Mut F (Bor T × Unit {0}) Bool → F → (T → Bool) → Type 0
AnswersAs {F} {T} g test passes = (x : T) (answer : Bool) (later : F) → CalledAt g test x answer later
    → (answer ≡ passes x) × (later ≡ test)
