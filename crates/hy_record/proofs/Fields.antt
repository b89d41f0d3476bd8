-- A field that is read is the field that was written, and what was written is read again.
use Rattle.std.proofs.Common.{◌≡◌, ℕ, ◌^◌, ◌<◌, ◌≤◌, Bool, true, false, cond, ltb, List, ◌++◌, length, take, drop, Ok, Err, refl, sym, ap, subst, ◌∙◌, append_assoc, arith}
use Rattle.std.proofs.lemmas.Bool.{ltb-false, le-ltb}
use Rattle.std.proofs.lemmas.List.{drop_at, take-append-drop, length-append}
use Rattle.byteorder.specs.Endian.{big_bytes, big_number}
use Rattle.byteorder.specs.Numbers.{big_from-lt, big_number-reads_back, length-bytes_high_first}
use Rattle.hy_record.specs.declared.record.fault.RecordFault.{RecordFault}
use Rattle.hy_record.specs.declared.record.fault.RecordFault.TheVariants as faults
use Rattle.hy_record.specs.Reading.{number_at, field_at}
use Rattle.hy_base.proofs.Results.{bind_ok}
use Rattle.hy_record.proofs.Numbers.{IsBytes, IsBytes-drop, bytes_high_first-big_from}

-- a test that did not fail
pub guard_false : {A : Type 0} (b : Bool) (d : RecordFault) (x y : A) → cond b (Err d) (Ok x) ≡ Ok y → (b ≡ false) × (x ≡ y)
guard_false true d x y e = absurd cc
guard_false false d x y e = (refl, cc)

pub guard_true : {A : Type 0} (b : Bool) (d : RecordFault) (x y : A) → cond b (Ok x) (Err d) ≡ Ok y → (b ≡ true) × (x ≡ y)
guard_true true d x y e = (refl, cc)
guard_true false d x y e = absurd cc

-- what a reader took from the front
pub record Takes (bytes text rest : List ℕ) : Type 0 where
  pub parts : bytes ≡ text ++ rest
  pub rest_fits : IsBytes rest

pub Takes-then : (a x b y c : List ℕ) → Takes a x b → Takes b y c → Takes a (x ++ y) c
Takes-then a x b y c p q = record { parts = p.parts ∙ ap (λ (t : List ℕ). x ++ t) q.parts ∙ sym (append_assoc x y c); rest_fits = q.rest_fits }

pub number_takes : (w whole : ℕ) (bytes : List ℕ) (n : ℕ) (rest : List ℕ) → IsBytes bytes → number_at w whole bytes ≡ Ok (n, rest) → Takes bytes (big_bytes w n) rest × (n < 256 ^ w)
number_takes w whole bytes n rest fits e =
    let g = guard_false (ltb (length bytes) w) (faults.Short whole) (big_number w bytes, drop w bytes) (n, rest) e in
    let room : w ≤ length bytes = ltb-false (length bytes) w g.0 in
    let back : big_bytes w (big_number w bytes) ≡ take w bytes = bytes_high_first-big_from w 0 bytes fits (omega arith) in
    let parts : bytes ≡ big_bytes w (big_number w bytes) ++ drop w bytes = rw back (sym (take-append-drop w bytes)) in
    subst (λ (x : ℕ × List ℕ). Takes bytes (big_bytes w x.0) x.1 × (x.0 < 256 ^ w)) g.1 (record { parts = parts; rest_fits = IsBytes-drop w bytes fits }, big_from-lt 0 w bytes fits)

pub number_again : (w whole n : ℕ) (rest : List ℕ) → n < 256 ^ w → number_at w whole (big_bytes w n ++ rest) ≡ Ok (n, rest)
number_again w whole n rest fits =
    let len : length (big_bytes w n) ≡ w = length-bytes_high_first w n in
    let room : w ≤ length (big_bytes w n ++ rest) = simp length-append (omega (arith, len)) in
    let whole_enough : ltb (length (big_bytes w n ++ rest)) w ≡ false = le-ltb (length (big_bytes w n ++ rest)) w room in
    rw (whole_enough, big_number-reads_back w n rest fits, drop_at (big_bytes w n) rest w len) refl

pub field_takes : (w place : ℕ) (rule : ℕ → Bool) (whole : ℕ) (bytes : List ℕ) (n : ℕ) (rest : List ℕ) → IsBytes bytes → field_at w place rule whole bytes ≡ Ok (n, rest) → Takes bytes (big_bytes w n) rest × (n < 256 ^ w) × (rule n ≡ true)
field_takes w place rule whole bytes n rest fits e =
    let b = bind_ok (number_at w whole bytes) (λ x. cond (rule x.0) (Ok x) (Err (faults.BadShape place))) (n, rest) e in
    let g = guard_true (rule b.0.0) (faults.BadShape place) b.0 (n, rest) b.2 in
    let t = number_takes w whole bytes b.0.0 b.0.1 fits b.1 in
    subst (λ (x : ℕ × List ℕ). Takes bytes (big_bytes w x.0) x.1 × (x.0 < 256 ^ w) × (rule x.0 ≡ true)) g.1 (t.0, t.1, g.0)

pub field_again : (w place : ℕ) (rule : ℕ → Bool) (whole n : ℕ) (rest : List ℕ) → n < 256 ^ w → rule n ≡ true → field_at w place rule whole (big_bytes w n ++ rest) ≡ Ok (n, rest)
field_again w place rule whole n rest fits ruled = rw (number_again w whole n rest fits, ruled) refl
