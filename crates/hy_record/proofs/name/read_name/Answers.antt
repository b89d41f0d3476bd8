-- A name is read as the key and the timestamp that it was made of.
use Rattle.std.proofs.Common.{◌≡◌, ℕ, Ok, Some, List, sym, ap, ◌∙◌, arith}
use Rattle.std.proofs.lemmas.Bool.{false≢true}
use Rattle.hy_record.specs.Stamp.{Timestamp, stamp_of}
use Rattle.hy_record.specs.Key.{key_of}
use Rattle.hy_record.specs.Name.{hex_number}
use Rattle.hy_record.proofs.Names.{name_parts, length-hex_number, key_of-is_key, not_refused, ok_value, none_some, some_is, stamp_of-range}
use Rattle.hy_record.proofs.name.read_name.Goals as goal

pub returns-in_err-key-clause-only : goal.returns-in_err-key-clause-only
returns-in_err-key-clause-only c = λ key stamp spelled ranged named.
    absurd (false≢true (c.in_err-key.ensures.only key (hex_number stamp.sn) (hex_number stamp.cid) (length-hex_number stamp.sn) (length-hex_number stamp.cid) named))

pub returns-in_err-key-2-clause-only : goal.returns-in_err-key-2-clause-only
returns-in_err-key-2-clause-only c = λ key stamp spelled ranged named.
    let p = name_parts key (hex_number stamp.sn) (hex_number stamp.cid) c.in_ok-key.key.now c.in_ok-key.sn.now c.in_ok-key.cid.now (length-hex_number stamp.sn ∙ sym c.in_ok-key.ensures.sizes.0) (length-hex_number stamp.cid ∙ sym c.in_ok-key.ensures.sizes.1) (sym named ∙ c.in_ok-key.ensures.found) in
    let read : c.read.result ≡ Ok key = c.read.ensures ∙ ap key_of (sym p.0) ∙ key_of-is_key key spelled in
    absurd (not_refused c.read.result key read c.in_err-key-2.ensures.value)

pub returns-in_err-sn-clause-only : goal.returns-in_err-sn-clause-only
returns-in_err-sn-clause-only c = λ key stamp spelled ranged named.
    let p = name_parts key (hex_number stamp.sn) (hex_number stamp.cid) c.in_ok-key.key.now c.in_ok-key.sn.now c.in_ok-key.cid.now (length-hex_number stamp.sn ∙ sym c.in_ok-key.ensures.sizes.0) (length-hex_number stamp.cid ∙ sym c.in_ok-key.ensures.sizes.1) (sym named ∙ c.in_ok-key.ensures.found) in
    absurd (none_some stamp.sn (c.in_err-sn.ensures.only stamp.sn (omega (arith, ranged.number)) (sym p.1)))

pub returns-in_err-cid-clause-only : goal.returns-in_err-cid-clause-only
returns-in_err-cid-clause-only c = λ key stamp spelled ranged named.
    let p = name_parts key (hex_number stamp.sn) (hex_number stamp.cid) c.in_ok-key.key.now c.in_ok-key.sn.now c.in_ok-key.cid.now (length-hex_number stamp.sn ∙ sym c.in_ok-key.ensures.sizes.0) (length-hex_number stamp.cid ∙ sym c.in_ok-key.ensures.sizes.1) (sym named ∙ c.in_ok-key.ensures.found) in
    absurd (none_some stamp.cid (c.in_err-cid.ensures.only stamp.cid ranged.client (sym p.2)))

pub returns-in_err-stamp-clause-only : goal.returns-in_err-stamp-clause-only
returns-in_err-stamp-clause-only c = λ key stamp spelled ranged named.
    let p = name_parts key (hex_number stamp.sn) (hex_number stamp.cid) c.in_ok-key.key.now c.in_ok-key.sn.now c.in_ok-key.cid.now (length-hex_number stamp.sn ∙ sym c.in_ok-key.ensures.sizes.0) (length-hex_number stamp.cid ∙ sym c.in_ok-key.ensures.sizes.1) (sym named ∙ c.in_ok-key.ensures.found) in
    let number = some_is c.in_ok-sn.sn stamp.sn (c.in_ok-sn.ensures.only stamp.sn (omega (arith, ranged.number)) (sym p.1)) in
    let client = some_is c.in_ok-cid.cid stamp.cid (c.in_ok-cid.ensures.only stamp.cid ranged.client (sym p.2)) in
    let made : stamp_of c.in_ok-sn.sn c.in_ok-cid.cid ≡ Some stamp = ap (λ (n : ℕ). stamp_of n c.in_ok-cid.cid) number ∙ ap (λ (n : ℕ). stamp_of stamp.sn n) client ∙ stamp_of-range stamp ranged in
    absurd (none_some stamp (c.in_err-stamp.ensures ∙ made))

pub returns-clause-only : goal.returns-clause-only
returns-clause-only c = λ key stamp spelled ranged named.
    let p = name_parts key (hex_number stamp.sn) (hex_number stamp.cid) c.in_ok-key.key.now c.in_ok-key.sn.now c.in_ok-key.cid.now (length-hex_number stamp.sn ∙ sym c.in_ok-key.ensures.sizes.0) (length-hex_number stamp.cid ∙ sym c.in_ok-key.ensures.sizes.1) (sym named ∙ c.in_ok-key.ensures.found) in
    let read : c.read.result ≡ Ok key = c.read.ensures ∙ ap key_of (sym p.0) ∙ key_of-is_key key spelled in
    let number = some_is c.in_ok-sn.sn stamp.sn (c.in_ok-sn.ensures.only stamp.sn (omega (arith, ranged.number)) (sym p.1)) in
    let client = some_is c.in_ok-cid.cid stamp.cid (c.in_ok-cid.ensures.only stamp.cid ranged.client (sym p.2)) in
    let made : stamp_of c.in_ok-sn.sn c.in_ok-cid.cid ≡ Some stamp = ap (λ (n : ℕ). stamp_of n c.in_ok-cid.cid) number ∙ ap (λ (n : ℕ). stamp_of stamp.sn n) client ∙ stamp_of-range stamp ranged in
    let held = ok_value c.read.result key c.in_ok-key-2.key read c.in_ok-key-2.ensures.value in
    let stamped = some_is c.in_ok-stamp.stamp stamp (c.in_ok-stamp.ensures ∙ made) in
    let both : (c.in_ok-key-2.key, c.in_ok-stamp.stamp) ≡ (key, stamp) = cc in
    ap (λ (x : List ℕ × Timestamp). Some x) both
