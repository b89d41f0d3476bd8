-- What a function answers beside its definition: the definition's value, or its fault, or want of memory.
-- Of each error of the function it is told which fault of the definition it is; of want of memory, none.
use Rattle.std.specs.Prelude.{◌≡◌, Option, Result, Ok, Err, IfSome}

-- the next step, where this one answered a value; else the fault of this one
infixl 10 ◌>>=◌
abbrev pub ◌>>=◌ : {A B E : Type 0} → Result A E → (A → Result B E) → Result B E
(Ok x) >>= f = f x
(Err e) >>= f = Err e

-- the error is the fault that is due, unless memory ran out
abbrev pub Fails : {A D E : Type 0} → (E → Option D) → E → Result A D → Type 0
Fails fault_of error due = IfSome (fault_of error) (λ fault. due ≡ Err fault)

-- the answer, as it is seen, is the value or the fault that is due, unless memory ran out
abbrev pub Gives : {A B D E : Type 0} → (E → Option D) → (A → B) → Result A E → Result B D → Type 0
Gives fault_of seen (Ok x) due = due ≡ Ok (seen x)
Gives fault_of seen (Err error) due = Fails fault_of error due
