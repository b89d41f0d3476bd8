-- Facts of a result.
use Rattle.std.proofs.Common.{Result, Ok, Err, OnOk, IfOk, IfErr}

pub on_ok_two : {A B : Type 0} {T E : Type 0} (r : Result T E) (C : Type 0) → OnOk r A → OnOk r B → (A → B → C) → OnOk r C
on_ok_two (Ok x) C a b f = f a b
on_ok_two (Err e) C a b f = tt

pub if_ok_map : {T E : Type 0} (r : Result T E) (P Q : T → Type 0) → ((x : T) → P x → Q x) → IfOk r P → IfOk r Q
if_ok_map (Ok x) P Q f p = f x p
if_ok_map (Err e) P Q f p = tt

pub on_ok_map : {A B : Type 0} {T E : Type 0} (r : Result T E) → (A → B) → OnOk r A → OnOk r B
on_ok_map (Ok x) f a = f a
on_ok_map (Err e) f a = tt

pub if_err_map : {T E : Type 0} (r : Result T E) (P Q : E → Type 0) → ((e : E) → P e → Q e) → IfErr r P → IfErr r Q
if_err_map (Ok x) P Q f p = tt
if_err_map (Err e) P Q f p = f e p
