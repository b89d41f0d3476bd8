-- Lemmas on what holds of an Ok.
use Rattle.std.proofs.Common.{Result, Ok, Err}
use Rattle.std.specs.Prelude.{OnOk, IfOk}

-- what follows from it
pub on_ok : {A E P Q : Type 0} (result : Result A E) → (P → Q) → OnOk result P → OnOk result Q
on_ok (Ok value) step p = step p
on_ok (Err error) step p = tt

-- what holds anyway
pub any_ok : {A E P : Type 0} (result : Result A E) → P → OnOk result P
any_ok (Ok value) p = p
any_ok (Err error) p = tt

-- what follows of the value
pub if_ok : {A E Q : Type 0} (result : Result A E) (P R : A → Type 0) → IfOk result P → OnOk result Q → ((value : A) → P value → Q → R value) → IfOk result R
if_ok (Ok value) P R p q step = step value p q
if_ok (Err error) P R p q step = tt
