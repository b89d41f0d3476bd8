-- How a key lies in its array: its bytes in front, and zeros after them.
use Rattle.std.specs.Prelude.{◌≡◌, ℕ, ◌-◌, ◌≤◌, List, ◌++◌, length, take, drop, IsTrue, replicate}
use Rattle.std.proofs.Common.{arith, ap}
use Rattle.std.proofs.lemmas.List.{length-take-le, take-append-drop}
use Rattle.hy_base.specs.declared.limits.TheConstants.{MAX_KEY}
use Rattle.hy_record.specs.Key.{is_key}
use Rattle.hy_record.specs.declared.key.Key.TheInside.{Inside}

-- the bytes that spell the key
abbrev pub bytes_of : Inside → List ℕ
bytes_of key = take key.len key.held

-- the array that holds these bytes
abbrev pub held_of : List ℕ → Inside
held_of bytes = record { held = bytes ++ replicate (MAX_KEY - length bytes) 0; len = length bytes }

-- the array holds a key, and nothing else
pub record IsHeld (key : Inside) : Type 0 where
  pub spelled : IsTrue (is_key (take key.len key.held))
  pub short : key.len ≤ MAX_KEY
  pub size : length key.held ≡ MAX_KEY
  pub padded : drop key.len key.held ≡ replicate (MAX_KEY - key.len) 0

-- the bytes of a key give its array back
pub held_of-bytes_of : (key : Inside) → IsHeld key → held_of (bytes_of key) ≡ key
held_of-bytes_of key held =
    let size : length (take key.len key.held) ≡ key.len = length-take-le key.len key.held (omega (arith, held.short, held.size)) in
    let whole : take key.len key.held ++ replicate (MAX_KEY - length (take key.len key.held)) 0 ≡ key.held =
    rw (size, ← held.padded) (take-append-drop key.len key.held) in
    let both : (take key.len key.held ++ replicate (MAX_KEY - length (take key.len key.held)) 0, length (take key.len key.held)) ≡ (key.held, key.len) = cc in
    let made : List ℕ × ℕ → Inside = λ p. record { held = p.0; len = p.1 } in
    ap made both
