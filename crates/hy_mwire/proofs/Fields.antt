-- A field that is read is the field that was written, and what was written is read again.
use Rattle.std.proofs.Common.{◌≡◌, ℕ, ◌^◌, ◌<◌, ◌≤◌, Bool, true, false, not, cond, ltb, List, [], ◌∷◌, ◌++◌, length, take, drop, Option, Some, None, Result, Ok, Err, refl, sym, ap, subst, ◌∙◌, arith, inl, inr, lit<}
use Rattle.std.specs.Prelude.{IsTrue, ◌==◌, nat_lt}
use Rattle.hy_base.specs.declared.limits.TheConstants.{MAX_KEY, SN_END}
use Rattle.std.specs.Result.{result_ok}
use Rattle.std.specs.List.{list_all, prefix_len, position_or_len}
use Rattle.std.proofs.Math.Nat.{mod-eq_of_lt}
use Rattle.std.proofs.lemmas.Bool.{ltb-false, le-ltb, cases_lt}
use Rattle.std.proofs.lemmas.Bool.Decides.{nat_tests}
use Rattle.std.proofs.lemmas.List.{take_at, drop_at, append-nil, take-append-drop, length-append, length-take, get_or-take, get_or_past}
use Rattle.byteorder.specs.Endian.{big_bytes, big_number}
use Rattle.byteorder.specs.Numbers.{big_from-lt, big_number-reads_back, length-bytes_high_first}
use Rattle.hy_record.specs.declared.key.KeyFault.{KeyFault}
use Rattle.hy_record.specs.Key.{is_key, is_key_byte, first_bad_byte, with_bytes, key_of}
use Rattle.hy_record.specs.Stamp.{Timestamp, IsStamp, stamp_of}
use Rattle.hy_record.specs.Spelling.{stamp_bytes}
use Rattle.hy_record.proofs.Numbers.{IsBytes, IsBytes-drop, bytes_high_first-big_from}
use Rattle.hy_record.proofs.Fields.{Takes, Takes-then}
use Rattle.hy_record.proofs.Names.{key_of-is_key, stamp_of-range}
use Rattle.hy_mwire.specs.Reading.{◌>>=◌, bytes_at, number_at, ended, key_at, stamp_in}

-- the value of a step that did not fail
pub bind_some : {A B : Type 0} (o : Option A) (f : A → Option B) (y : B) → (o >>= f) ≡ Some y → (x : A) × (o ≡ Some x) × (f x ≡ Some y)
bind_some (Some x) f y e = (x, refl, e)
bind_some None f y e = absurd cc

-- a test that did not fail
pub guard_none : {A : Type 0} (b : Bool) (o : Option A) (y : A) → cond b None o ≡ Some y → (b ≡ false) × (o ≡ Some y)
guard_none true o y e = absurd cc
guard_none false o y e = (refl, e)

pub guard_some : {A : Type 0} (b : Bool) (o : Option A) (y : A) → cond b o None ≡ Some y → (b ≡ true) × (o ≡ Some y)
guard_some true o y e = (refl, e)
guard_some false o y e = absurd cc

pub some_is : {A : Type 0} (x y : A) → Some x ≡ Some y → x ≡ y
some_is x y e = cc

-- nothing stands behind the value
pub ended_is : {A : Type 0} (x y : A) (bytes : List ℕ) → ended x bytes ≡ Some y → (x ≡ y) × (bytes ≡ [])
ended_is x y [] e = (some_is x y e, refl)
ended_is x y (byte ∷ bytes) e = absurd cc

-- ---- bytes and numbers

pub IsBytes-take : (n : ℕ) (bytes : List ℕ) → IsBytes bytes → IsBytes (take n bytes)
IsBytes-take n bytes fits i =
    elim (cases_lt i n) [
      | inl inside ↦ rw (get_or-take n bytes i 0 inside) (fits i)
      | inr past ↦ let short : length (take n bytes) ≤ i = simp length-take (omega arith) in rw (get_or_past (take n bytes) i 0 short) (lit< tt)
    ]

pub number_takes : (w : ℕ) (bytes : List ℕ) (x : ℕ × List ℕ) → IsBytes bytes → number_at w bytes ≡ Some x → Takes bytes (big_bytes w x.0) x.1 × (x.0 < 256 ^ w)
number_takes w bytes x fits e =
    let g = guard_none (ltb (length bytes) w) (Some (big_number w bytes, drop w bytes)) x e in
    let room : w ≤ length bytes = ltb-false (length bytes) w g.0 in
    let back : big_bytes w (big_number w bytes) ≡ take w bytes = bytes_high_first-big_from w 0 bytes fits (omega arith) in
    let parts : bytes ≡ big_bytes w (big_number w bytes) ++ drop w bytes = rw back (sym (take-append-drop w bytes)) in
    subst (λ (y : ℕ × List ℕ). Takes bytes (big_bytes w y.0) y.1 × (y.0 < 256 ^ w)) (some_is (big_number w bytes, drop w bytes) x g.1) (record { parts = parts; rest_fits = IsBytes-drop w bytes fits }, big_from-lt 0 w bytes fits)

pub number_again : (w n : ℕ) (rest : List ℕ) → n < 256 ^ w → number_at w (big_bytes w n ++ rest) ≡ Some (n, rest)
number_again w n rest fits =
    let len : length (big_bytes w n) ≡ w = length-bytes_high_first w n in
    let room : w ≤ length (big_bytes w n ++ rest) = simp length-append (omega (arith, len)) in
    let whole_enough : ltb (length (big_bytes w n ++ rest)) w ≡ false = le-ltb (length (big_bytes w n ++ rest)) w room in
    rw (whole_enough, big_number-reads_back w n rest fits, drop_at (big_bytes w n) rest w len) refl

pub bytes_take : (count : ℕ) (bytes : List ℕ) (x : List ℕ × List ℕ) → IsBytes bytes → bytes_at count bytes ≡ Some x → Takes bytes x.0 x.1 × (length x.0 ≡ count) × IsBytes x.0
bytes_take count bytes x fits e =
    let g = guard_none (ltb (length bytes) count) (Some (take count bytes, drop count bytes)) x e in
    let room : count ≤ length bytes = ltb-false (length bytes) count g.0 in
    let size : length (take count bytes) ≡ count = simp length-take (omega arith) in
    subst (λ (y : List ℕ × List ℕ). Takes bytes y.0 y.1 × (length y.0 ≡ count) × IsBytes y.0) (some_is (take count bytes, drop count bytes) x g.1)
    (record { parts = sym (take-append-drop count bytes); rest_fits = IsBytes-drop count bytes fits }, size, IsBytes-take count bytes fits)

pub bytes_again : (count : ℕ) (front rest : List ℕ) → length front ≡ count → bytes_at count (front ++ rest) ≡ Some (front, rest)
bytes_again count front rest size =
    let room : count ≤ length (front ++ rest) = simp length-append (omega (arith, size)) in
    let enough : ltb (length (front ++ rest)) count ≡ false = le-ltb (length (front ++ rest)) count room in
    rw (enough, take_at front rest count size, drop_at front rest count size) refl

-- the one byte of a number below 256
pub big_bytes-one : (n : ℕ) → n < 256 → big_bytes 1 n ≡ n ∷ []
big_bytes-one n fits = ap (λ (b : ℕ). b ∷ []) (mod-eq_of_lt fits)

-- ---- keys

none_bad : (text : List ℕ) → length text ≤ prefix_len (λ b. not (not (is_key_byte b))) text → list_all is_key_byte text ≡ true
none_bad [] whole = refl
none_bad (b ∷ text) whole = grind (arith, none_bad text)

no_place : (text : List ℕ) → first_bad_byte text ≡ None → length text ≤ position_or_len (λ b. not (is_key_byte b)) text
no_place text none = grind (arith, nat_tests)

with_bytes-none : (text key : List ℕ) (bad : Option ℕ) → with_bytes text bad ≡ Ok key → (bad ≡ None) × (key ≡ text)
with_bytes-none text key None e = (refl, cc)
with_bytes-none text key (Some place) e = absurd cc

not_refused : {A : Type 0} (b : Bool) (d : KeyFault) (r : Result A KeyFault) (y : A) → cond b (Err d) r ≡ Ok y → (b ≡ false) × (r ≡ Ok y)
not_refused true d r y e = absurd cc
not_refused false d r y e = (refl, e)

-- a result that is read as a value
pub result_ok-some : {A E : Type 0} (r : Result A E) (x : A) → result_ok r ≡ Some x → r ≡ Ok x
result_ok-some (Ok y) x e = cc
result_ok-some (Err d) x e = absurd cc

-- what is read as a key is the text, which spells it
pub key_of-takes : (text key : List ℕ) → key_of text ≡ Ok key → (key ≡ text) × IsTrue (is_key text)
key_of-takes text key e =
    let a = not_refused (length text == 0) _ _ key e in
    let b = not_refused (nat_lt MAX_KEY (length text)) _ _ key a.1 in
    let c = with_bytes-none text key (first_bad_byte text) b.1 in
    let all : list_all is_key_byte text ≡ true = none_bad text (no_place text c.0) in
    let some = a.0 in
    let short = b.0 in
    (c.1, grind (arith, nat_tests))

pub key_takes : (bytes : List ℕ) (x : List ℕ × List ℕ) → IsBytes bytes → key_at bytes ≡ Some x → Takes bytes (length x.0 ∷ x.0) x.1 × IsTrue (is_key x.0)
unfolding key_at
key_takes bytes x fits e =
    let a = bind_some (number_at 1 bytes) (λ size. bytes_at size.0 size.1 >>= λ front. result_ok (key_of front.0) >>= λ key. Some (key, front.1)) x e in
    let b = bind_some (bytes_at a.0.0 a.0.1) (λ front. result_ok (key_of front.0) >>= λ key. Some (key, front.1)) x a.2 in
    let c = bind_some (result_ok (key_of b.0.0)) (λ key. Some (key, b.0.1)) x b.2 in
    let size = number_takes 1 bytes a.0 fits a.1 in
    let text = bytes_take a.0.0 a.0.1 b.0 size.0.rest_fits b.1 in
    let key = key_of-takes b.0.0 c.0 (result_ok-some (key_of b.0.0) c.0 c.1) in
    let both : Takes bytes (big_bytes 1 a.0.0 ++ b.0.0) b.0.1 = Takes-then bytes (big_bytes 1 a.0.0) a.0.1 b.0.0 b.0.1 size.0 text.0 in
    let spelled : big_bytes 1 a.0.0 ++ b.0.0 ≡ length b.0.0 ∷ b.0.0 = ap (λ (t : List ℕ). t ++ b.0.0) (big_bytes-one a.0.0 (omega (arith, size.1))) ∙ ap (λ (n : ℕ). n ∷ b.0.0) (sym text.1) in
    let made : Takes bytes (length b.0.0 ∷ b.0.0) b.0.1 × IsTrue (is_key b.0.0) = (subst (λ (t : List ℕ). Takes bytes t b.0.1) spelled both, key.1) in
    let same : (b.0.0, b.0.1) ≡ x = ap (λ (k : List ℕ). (k, b.0.1)) (sym key.0) ∙ some_is (c.0, b.0.1) x c.2 in
    subst (λ (y : List ℕ × List ℕ). Takes bytes (length y.0 ∷ y.0) y.1 × IsTrue (is_key y.0)) same made

key_sizes : (key : List ℕ) → IsTrue (is_key key) → length key ≤ 64
key_sizes key spelled = grind (arith, nat_tests)

pub key_again : (key rest : List ℕ) → IsTrue (is_key key) → key_at ((length key ∷ key) ++ rest) ≡ Some (key, rest)
unfolding key_at
key_again key rest spelled =
    let short : length key < 256 = omega (arith, key_sizes key spelled) in
    let size : number_at 1 (length key ∷ (key ++ rest)) ≡ Some (length key, key ++ rest) = ap (λ (t : List ℕ). number_at 1 (t ++ (key ++ rest))) (sym (big_bytes-one (length key) short)) ∙ number_again 1 (length key) (key ++ rest) short in
    rw (size, bytes_again (length key) key rest refl, key_of-is_key key spelled) refl

-- ---- timestamps

stamp_of-takes : (sn cid : ℕ) (stamp : Timestamp) → stamp_of sn cid ≡ Some stamp → (stamp ≡ record { sn = sn; cid = cid }) × (sn < SN_END)
stamp_of-takes sn cid stamp e =
    let g = guard_some (nat_lt sn SN_END) (Some (record { sn = sn; cid = cid })) stamp e in
    let below = g.0 in
    (sym (some_is (record { sn = sn; cid = cid }) stamp g.1), grind (arith, nat_tests))

pub stamp_takes : (bytes : List ℕ) (stamp : Timestamp) → IsBytes bytes → stamp_in bytes ≡ Some stamp → (bytes ≡ stamp_bytes stamp) × IsStamp stamp
unfolding stamp_in
stamp_takes bytes stamp fits e =
    let a = bind_some (number_at 4 bytes) (λ sn. number_at 4 sn.1 >>= λ cid. stamp_of sn.0 cid.0 >>= λ stamp. ended stamp cid.1) stamp e in
    let b = bind_some (number_at 4 a.0.1) (λ cid. stamp_of a.0.0 cid.0 >>= λ stamp. ended stamp cid.1) stamp a.2 in
    let c = bind_some (stamp_of a.0.0 b.0.0) (λ stamp. ended stamp b.0.1) stamp b.2 in
    let sn = number_takes 4 bytes a.0 fits a.1 in
    let cid = number_takes 4 a.0.1 b.0 sn.0.rest_fits b.1 in
    let made = stamp_of-takes a.0.0 b.0.0 c.0 c.1 in
    let last = ended_is c.0 stamp b.0.1 c.2 in
    let whole : bytes ≡ (big_bytes 4 a.0.0 ++ big_bytes 4 b.0.0) ++ [] = (Takes-then bytes (big_bytes 4 a.0.0) a.0.1 (big_bytes 4 b.0.0) b.0.1 sn.0 cid.0).parts ∙ ap (λ (t : List ℕ). (big_bytes 4 a.0.0 ++ big_bytes 4 b.0.0) ++ t) last.1 in
    let is : record { sn = a.0.0; cid = b.0.0 } ≡ stamp = sym made.0 ∙ last.0 in
    subst (λ (s : Timestamp). (bytes ≡ stamp_bytes s) × IsStamp s) {x = record { sn = a.0.0; cid = b.0.0 }} is
    (whole ∙ append-nil (big_bytes 4 a.0.0 ++ big_bytes 4 b.0.0), record { number = made.1; client = omega (arith, cid.1) })

-- a timestamp by its two numbers
stamp_in-numbers : (bytes rest : List ℕ) (stamp : Timestamp) → number_at 4 bytes ≡ Some (stamp.sn, rest) → number_at 4 rest ≡ Some (stamp.cid, []) → stamp_of stamp.sn stamp.cid ≡ Some stamp → stamp_in bytes ≡ Some stamp
unfolding stamp_in
stamp_in-numbers bytes rest stamp sn cid made = rw (sn, cid, made) refl

pub stamp_again : (stamp : Timestamp) → IsStamp stamp → stamp_in (stamp_bytes stamp) ≡ Some stamp
stamp_again stamp ranged =
    let number : stamp.sn < 256 ^ 4 = omega (arith, ranged.number) in
    let client : stamp.cid < 256 ^ 4 = omega (arith, ranged.client) in
    stamp_in-numbers (stamp_bytes stamp) (big_bytes 4 stamp.cid) stamp (number_again 4 stamp.sn (big_bytes 4 stamp.cid) number)
    (ap (number_at 4) (sym (append-nil (big_bytes 4 stamp.cid))) ∙ number_again 4 stamp.cid [] client) (stamp_of-range stamp ranged)
