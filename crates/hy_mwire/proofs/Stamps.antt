-- Reading timestamps one after another, as a loop does.
use Rattle.std.proofs.Common.{◌≡◌, ℕ, suc, ◌-◌, ◌+◌, ◌≤◌, ◌<◌, List, [], ◌∷◌, ◌++◌, Option, Some, None, refl, sym, ap, ◌∙◌, append_assoc, arith}
use Rattle.std.proofs.lemmas.List.{append-nil}
use Rattle.hy_record.specs.Stamp.{Timestamp}
use Rattle.hy_mwire.specs.declared.body.BodyFault.{BodyFault}
use Rattle.hy_mwire.specs.declared.body.BodyFault.TheVariants as faults
use Rattle.hy_mwire.specs.Reading.{◌>>=◌, Fails, bytes_at, stamp_in, stamps_at}
use Rattle.hy_mwire.specs.declared.body.TheConstants.{STAMP_SIZE}

-- what was read before, and what is still read
abbrev pub with_front : List Timestamp → Option (List Timestamp × List ℕ) → Option (List Timestamp × List ℕ)
with_front front read = read >>= λ x. Some (front ++ x.0, x.1)

regroup : (front : List Timestamp) (stamp : Timestamp) (read : Option (List Timestamp × List ℕ)) → with_front front (read >>= λ x. Some (stamp ∷ x.0, x.1)) ≡ with_front (front ++ stamp ∷ []) read
regroup front stamp (Some x) = ap (λ (stamps : List Timestamp). Some (stamps, x.1)) (simp append_assoc)
regroup front stamp None = refl

pub goes_on : (front : List Timestamp) (count i : ℕ) (bytes : List ℕ) (text after : List ℕ) (stamp : Timestamp) (total : Option (List Timestamp × List ℕ)) → i < count → bytes_at STAMP_SIZE bytes ≡ Some (text, after) → stamp_in text ≡ Some stamp
    → with_front front (stamps_at (count - i) bytes) ≡ total → with_front (front ++ stamp ∷ []) (stamps_at (count - (i + 1)) after) ≡ total
unfolding stamps_at
goes_on front count i bytes text after stamp total lt cut one so_far =
    let k : count - i ≡ suc (count - (i + 1)) = omega arith in
    let step : with_front front (stamps_at (count - i) bytes) ≡ with_front (front ++ stamp ∷ []) (stamps_at (count - (i + 1)) after) = rw (k, cut, one) (regroup front stamp (stamps_at (count - (i + 1)) after)) in
    sym step ∙ so_far

unread : (front : List Timestamp) (count i : ℕ) (bytes text after : List ℕ) (total : Option (List Timestamp × List ℕ)) → i < count → bytes_at STAMP_SIZE bytes ≡ Some (text, after) → stamp_in text ≡ None
    → with_front front (stamps_at (count - i) bytes) ≡ total → total ≡ None
unfolding stamps_at
unread front count i bytes text after total lt cut one so_far =
    let k : count - i ≡ suc (count - (i + 1)) = omega arith in
    let step : with_front front (stamps_at (count - i) bytes) ≡ None = rw (k, cut, one) refl in
    sym so_far ∙ step

short : (front : List Timestamp) (count i : ℕ) (bytes : List ℕ) (total : Option (List Timestamp × List ℕ)) → i < count → bytes_at STAMP_SIZE bytes ≡ None → with_front front (stamps_at (count - i) bytes) ≡ total → total ≡ None
unfolding stamps_at
short front count i bytes total lt cut so_far =
    let k : count - i ≡ suc (count - (i + 1)) = omega arith in
    let step : with_front front (stamps_at (count - i) bytes) ≡ None = rw (k, cut) refl in
    sym so_far ∙ step

-- no timestamp was read from the next bytes
pub ends : (e : BodyFault) (front : List Timestamp) (count i : ℕ) (bytes text after : List ℕ) (total : Option (List Timestamp × List ℕ)) → i < count → bytes_at STAMP_SIZE bytes ≡ Some (text, after) → Fails e (stamp_in text)
    → with_front front (stamps_at (count - i) bytes) ≡ total → Fails e total
ends faults.NoMemory front count i bytes text after total lt cut one so_far = tt
ends faults.Bad front count i bytes text after total lt cut one so_far = unread front count i bytes text after total lt cut one so_far

-- there are too few bytes for the next timestamp
pub ends_early : (e : BodyFault) (front : List Timestamp) (count i : ℕ) (bytes : List ℕ) (total : Option (List Timestamp × List ℕ)) → i < count → Fails e (bytes_at STAMP_SIZE bytes) → with_front front (stamps_at (count - i) bytes) ≡ total → Fails e total
ends_early faults.NoMemory front count i bytes total lt cut so_far = tt
ends_early faults.Bad front count i bytes total lt cut so_far = short front count i bytes total lt cut so_far

pub is_done : (front : List Timestamp) (count i : ℕ) (bytes : List ℕ) (total : Option (List Timestamp × List ℕ)) → count ≤ i → with_front front (stamps_at (count - i) bytes) ≡ total → total ≡ Some (front, bytes)
unfolding stamps_at
is_done front count i bytes total le so_far =
    let k : count - i ≡ 0 = omega arith in
    let one : with_front front (stamps_at (count - i) bytes) ≡ Some (front, bytes) = rw k (ap (λ (stamps : List Timestamp). Some (stamps, bytes)) (append-nil front)) in
    sym so_far ∙ one
