-- How many bytes the spelling of a record has.
use Rattle.std.proofs.Common.{◌≡◌, ℕ, ◌+◌, ◌*◌, ◌≤◌, List, [], ◌∷◌, ◌++◌, length, All, true, ap, arith}
use Rattle.std.specs.List.{concat}
use Rattle.std.proofs.lemmas.Bool.Decides.{nat_tests}
use Rattle.std.proofs.lemmas.List.{length-append}
use Rattle.std.proofs.lemmas.List.Elements.{All-head, All-tail}
use Rattle.byteorder.specs.Endian.{big_bytes}
use Rattle.byteorder.specs.Numbers.{length-bytes_high_first}
use Rattle.hy_base.specs.declared.limits.TheConstants.{MAX_K, MAX_RECORD}
use Rattle.hy_record.specs.declared.kind.Kind.{Kind}
use Rattle.hy_record.specs.declared.kind.Kind.TheVariants.{Tomb, Whole, Coded}
use Rattle.hy_record.specs.Stamp.{Timestamp}
use Rattle.hy_record.specs.Hash.{HASH_SIZE, IsHash}
use Rattle.hy_record.specs.Record.{RecordValue, IsRecord, most_faults, is_part_count, hash_count}
use Rattle.hy_record.specs.Spelling.{stamp_bytes, layout_bytes, layout_size, value_bytes, record_bytes, spelling_size}

length-hashes : (hashes : List (List ℕ)) → All IsHash hashes → length (concat hashes) ≡ HASH_SIZE * length hashes
length-hashes [] sized = omega arith
length-hashes (hash ∷ hashes) sized =
    let first = All-head IsHash hash hashes sized in
    omega (arith, length-append hash (concat hashes), first.size, length-hashes hashes (All-tail IsHash hash hashes sized))

length-stamp_bytes : (stamp : Timestamp) → length (stamp_bytes stamp) ≡ 8
length-stamp_bytes stamp =
    omega (arith, length-append (big_bytes 4 stamp.sn) (big_bytes 4 stamp.cid), length-bytes_high_first 4 stamp.sn, length-bytes_high_first 4 stamp.cid)

length-layout_bytes : (size f k clouds : ℕ) → length (layout_bytes size f k clouds) ≡ 8
length-layout_bytes size f k clouds =
    omega (
      arith,
      length-append (big_bytes 4 size ++ big_bytes 1 f ++ big_bytes 1 k) (big_bytes 2 clouds),
      length-append (big_bytes 4 size ++ big_bytes 1 f) (big_bytes 1 k),
      length-append (big_bytes 4 size) (big_bytes 1 f),
      length-bytes_high_first 4 size,
      length-bytes_high_first 1 f,
      length-bytes_high_first 1 k,
      length-bytes_high_first 2 clouds,
    )

length-value : (r : RecordValue) (count : ℕ) → length r.hashes ≡ count → All IsHash r.hashes → length (layout_bytes r.size r.f r.k r.clouds ++ concat r.hashes) ≡ 8 + HASH_SIZE * count
length-value r count is sized =
    omega (
      arith,
      length-append (layout_bytes r.size r.f r.k r.clouds) (concat r.hashes),
      length-layout_bytes r.size r.f r.k r.clouds,
      length-hashes r.hashes sized,
      ap (λ (n : ℕ). HASH_SIZE * n) is,
    )

length-value_bytes : (kind : Kind) (r : RecordValue) → length r.hashes ≡ hash_count kind r.f r.k → All IsHash r.hashes → length (value_bytes kind r) ≡ layout_size kind + HASH_SIZE * hash_count kind r.f r.k
length-value_bytes Tomb r is sized = omega arith
length-value_bytes Whole r is sized = length-value r 1 is sized
length-value_bytes Coded r is sized = length-value r (hash_count Coded r.f r.k) is sized

pub length-record_bytes : (r : RecordValue) → IsRecord r → length (record_bytes r) ≡ spelling_size r.kind r.f r.k
length-record_bytes r ruled =
    let value : length (value_bytes r.kind r) ≡ layout_size r.kind + HASH_SIZE * hash_count r.kind r.f r.k = length-value_bytes r.kind r ruled.hashes ruled.sizes in
    let rest : length (stamp_bytes r.stamp ++ value_bytes r.kind r) ≡ 8 + length (value_bytes r.kind r) =
    omega (arith, length-append (stamp_bytes r.stamp) (value_bytes r.kind r), length-stamp_bytes r.stamp) in
    omega (arith, value, rest)

few_coded : (k : ℕ) → is_part_count Coded k ≡ true → k ≤ MAX_K
few_coded k parts = grind (arith, nat_tests)

spelling_size-short : (kind : Kind) (f k : ℕ) → f ≤ most_faults kind → is_part_count kind k ≡ true → spelling_size kind f k ≤ MAX_RECORD
spelling_size-short Tomb f k few parts = omega arith
spelling_size-short Whole f k few parts = omega arith
spelling_size-short Coded f k few parts = omega (arith, few_coded k parts)

pub record_bytes-short : (r : RecordValue) → IsRecord r → length (record_bytes r) ≤ MAX_RECORD
record_bytes-short r ruled =
    omega (arith, length-record_bytes r ruled, spelling_size-short r.kind r.f r.k ruled.faults ruled.parts)
