-- The bytes of the number that stands in some bytes are those bytes.
use Rattle.std.proofs.Common.{◌≡◌, ℕ, zero, suc, ◌+◌, ◌*◌, ◌/◌, ◌%◌, ◌^◌, ◌<◌, ◌≤◌, List, length, get_or, take, drop, refl, sym, ap, ◌∙◌, arith}
use Rattle.std.proofs.Math.Nat.{div-one, mul_assoc, mul_comm, mul-add-div_right, mul-add-mod_self_right, mod-eq_of_lt, one-le-pow, pow-suc}
use Rattle.std.proofs.Math.Seq.{drop-cons}
use Rattle.std.proofs.lemmas.List.{get_or-drop}
use Rattle.std.proofs.lemmas.Nat.{div-mul-add}
use Rattle.std.specs.Int.{byte_at, bytes_high_first}
use Rattle.byteorder.specs.Endian.{big_from}
use Rattle.byteorder.specs.Numbers.{big_from-lt}

-- each number of the list is a byte
abbrev pub IsBytes : List ℕ → Type 0
IsBytes bytes = (i : ℕ) → get_or bytes i 0 < 256

byte_at-pow : (k x : ℕ) → byte_at k x ≡ x / 256 ^ k % 256
byte_at-pow zero x = ap (λ (y : ℕ). y % 256) (sym (div-one x))
byte_at-pow (suc k) x = refl

pow_pos256 : (n : ℕ) → 0 < 256 ^ n
pow_pos256 n = let h = one-le-pow n 256 (omega arith) in omega arith

-- what stands above the lowest k bytes does not show in them
bytes_high_first-above : (k c r : ℕ) → bytes_high_first k (c * 256 ^ k + r) ≡ bytes_high_first k r
bytes_high_first-above zero c r = refl
bytes_high_first-above (suc k) c r =
    let same : c * 256 ^ suc k + r ≡ (c * 256) * 256 ^ k + r =
    ap (λ (x : ℕ). x + r) (ap (λ (x : ℕ). c * x) (pow-suc 256 k ∙ mul_comm (256 ^ k) 256) ∙ sym (mul_assoc c 256 (256 ^ k))) in
    let byte : byte_at k ((c * 256) * 256 ^ k + r) ≡ byte_at k r =
    byte_at-pow k ((c * 256) * 256 ^ k + r) ∙ ap (λ (x : ℕ). x % 256) (mul-add-div_right (pow_pos256 k) (c * 256) r) ∙ mul-add-mod_self_right c 256 (r / 256 ^ k) ∙ sym (byte_at-pow k r) in
    let rest = bytes_high_first-above k (c * 256) r in
    rw (same, byte, rest) refl

pub bytes_high_first-big_from : (n i : ℕ) (xs : List ℕ) → IsBytes xs → i + n ≤ length xs → bytes_high_first n (big_from i n xs) ≡ take n (drop i xs)
bytes_high_first-big_from zero i xs fits room = refl
bytes_high_first-big_from (suc n) i xs fits room =
    let first = get_or xs i 0 in
    let low = big_from (suc i) n xs in
    let below : low < 256 ^ n = big_from-lt (suc i) n xs fits in
    let byte : byte_at n (first * 256 ^ n + low) ≡ first = byte_at-pow n (first * 256 ^ n + low) ∙ ap (λ (x : ℕ). x % 256) (div-mul-add first (256 ^ n) low below) ∙ mod-eq_of_lt (fits i) in
    let rest : bytes_high_first n (first * 256 ^ n + low) ≡ take n (drop (suc i) xs) = bytes_high_first-above n first low ∙ bytes_high_first-big_from n (suc i) xs fits (omega arith) in
    let inside : i < length xs = omega arith in
    rw (byte, rest, drop-cons xs i 0) refl

pub IsBytes-drop : (n : ℕ) (bytes : List ℕ) → IsBytes bytes → IsBytes (drop n bytes)
IsBytes-drop n bytes fits i = rw get_or-drop (fits (n + i))
