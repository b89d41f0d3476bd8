-- The parts of a name, and the numbers in it.
use Rattle.std.proofs.Common.{◌≡◌, ℕ, zero, suc, ◌+◌, ◌^◌, ◌<◌, ◌≤◌, Bool, true, false, not, List, [], ◌∷◌, ◌++◌, length, take, drop, Some, None, Result, Ok, Err, refl, sym, ap, ◌∙◌, append_assoc, arith}
use Rattle.std.specs.Prelude.{nat_lt, ◌==◌}
use Rattle.std.specs.Result.{MatchResult, result_ok}
use Rattle.std.specs.List.{list_all, prefix_len, position}
use Rattle.std.specs.Int.{byte_at, bytes_high_first}
use Rattle.std.proofs.lemmas.List.{append-nil, length-append, take_at, drop_at}
use Rattle.std.proofs.lemmas.Bool.Decides.{nat_tests}
use Rattle.hex.specs.declared.error.FromHexError.{FromHexError}
use Rattle.hex.specs.Hex.{decode_sized}
use Rattle.hex.proofs.HexLemmas.{decode_sized-encode_lower, length-encode_with}
use Rattle.byteorder.specs.Endian.{big_bytes, big_number}
use Rattle.byteorder.specs.Numbers.{big_number-reads_back}
use Rattle.hy_base.specs.declared.limits.TheConstants.{MAX_KEY, SN_END}
use Rattle.hy_record.specs.declared.key.KeyFault.{KeyFault}
use Rattle.hy_record.specs.Stamp.{Timestamp, IsStamp, stamp_of}
use Rattle.hy_record.specs.Key.{is_key, is_key_byte, first_bad_byte, key_of}
use Rattle.hy_record.specs.Name.{hex_number, name_text}
use Rattle.hy_record.proofs.Numbers.{IsBytes}

-- ---- numbers

byte_at-below : (k x : ℕ) → byte_at k x < 256
byte_at-below zero x = omega arith
byte_at-below (suc k) x = omega arith

IsBytes-bytes_high_first : (n x : ℕ) → IsBytes (bytes_high_first n x)
IsBytes-bytes_high_first zero x i = omega arith
IsBytes-bytes_high_first (suc n) x zero = byte_at-below n x
IsBytes-bytes_high_first (suc n) x (suc i) = IsBytes-bytes_high_first n x i

-- the digits of a number are decoded as its bytes
pub hex_number_decodes : (digits : List ℕ) (n : ℕ) (r : Result Unit FromHexError) (out : List ℕ) → digits ≡ hex_number n
    → MatchResult (decode_sized digits 4) (λ bytes. (r ≡ Ok tt) × (out ≡ bytes)) (λ e. r ≡ Err e) → (r ≡ Ok tt) × (out ≡ big_bytes 4 n)
unfolding hex_number
hex_number_decodes digits n r out spelled decoded =
    let read : decode_sized digits 4 ≡ Ok (big_bytes 4 n) = ap (λ (t : List ℕ). decode_sized t 4) spelled ∙ decode_sized-encode_lower (big_bytes 4 n) 4 refl (IsBytes-bytes_high_first 4 n) in
    rw read at decoded

-- the number in the bytes of a number is that number
pub big_number_same : (n : ℕ) (out : List ℕ) → n < 2 ^ 32 → out ≡ big_bytes 4 n → big_number 4 out ≡ n
big_number_same n out fits is =
    ap (big_number 4) (is ∙ sym (append-nil (big_bytes 4 n))) ∙ big_number-reads_back 4 n [] (omega arith)

pub length-hex_number : (n : ℕ) → length (hex_number n) ≡ 8
unfolding hex_number
length-hex_number n = length-encode_with _ (big_bytes 4 n)

-- ---- parts

pub split_end : (a b c d : List ℕ) → a ++ b ≡ c ++ d → length b ≡ length d → (a ≡ c) × (b ≡ d)
split_end a b c d same ends =
    let all : length a + length b ≡ length c + length d = sym (length-append a b) ∙ ap (length {A = ℕ}) same ∙ length-append c d in
    let size : length a ≡ length c = omega arith in (
      sym (take_at a b (length a) refl) ∙ ap (take (length a)) same ∙ take_at c d (length a) (sym size),
      sym (drop_at a b (length a) refl) ∙ ap (drop (length a)) same ∙ drop_at c d (length a) (sym size),
    )

pub tail_size : (whole front last : List ℕ) (size : ℕ) → whole ≡ front ++ last → length front + size ≡ length whole → length last ≡ size
tail_size whole front last size parts sum = omega (arith, ap (length {A = ℕ}) parts, length-append front last)

-- what stands behind the first three bytes
behind : (a b : List ℕ) → 47 ∷ 111 ∷ 47 ∷ a ≡ 47 ∷ 111 ∷ 47 ∷ b → a ≡ b
behind a b same = cc

-- the parts of a name are determined by it
pub name_parts : (key sn cid k s c : List ℕ) → length sn ≡ length s → length cid ≡ length c → name_text key sn cid ≡ name_text k s c → (key ≡ k) × (sn ≡ s) × (cid ≡ c)
name_parts key sn cid k s c size last same =
    let tails : key ++ 47 ∷ (sn ++ cid) ≡ k ++ 47 ∷ (s ++ c) = behind _ _ same in
    let sizes : length (47 ∷ (sn ++ cid)) ≡ length (47 ∷ (s ++ c)) = simp length-append (omega arith) in
    let first = split_end key (47 ∷ (sn ++ cid)) k (47 ∷ (s ++ c)) tails sizes in
    let numbers : sn ++ cid ≡ s ++ c = let both = first.1 in cc in
    let others = split_end sn cid s c numbers last in
    (first.0, others.0, others.1)

-- what stands before the slash, by the parts that follow it
pub before_slash : (text rest front last front2 number key sn cid : List ℕ) → text ≡ 47 ∷ 111 ∷ 47 ∷ rest → rest ≡ front ++ last → front ≡ front2 ++ number
    → length last ≡ length cid → length number ≡ length sn → text ≡ name_text key sn cid → front2 ≡ key ++ 47 ∷ []
before_slash text rest front last front2 number key sn cid begins whole part ends middle named =
    let tail : rest ≡ key ++ 47 ∷ (sn ++ cid) = behind _ _ (sym begins ∙ named) in
    let regrouped : key ++ 47 ∷ (sn ++ cid) ≡ (key ++ 47 ∷ sn) ++ cid = sym (append_assoc key (47 ∷ sn) cid) in
    let first = split_end front last (key ++ 47 ∷ sn) cid (sym whole ∙ tail ∙ regrouped) ends in
    let again : key ++ 47 ∷ sn ≡ (key ++ 47 ∷ []) ++ sn = sym (append_assoc key (47 ∷ []) sn) in
    let second = split_end front2 number (key ++ 47 ∷ []) sn (sym part ∙ first.0 ∙ again) middle in
    second.0

-- the parts put together
pub joined : (text rest front last front2 number key : List ℕ) → text ≡ 47 ∷ 111 ∷ 47 ∷ rest → rest ≡ front ++ last → front ≡ front2 ++ number → front2 ≡ key ++ 47 ∷ [] → text ≡ name_text key number last
joined text rest front last front2 number key begins whole part slash =
    begins ∙ ap (λ (t : List ℕ). 47 ∷ 111 ∷ 47 ∷ t) (whole ∙ ap (λ (t : List ℕ). t ++ last) (part ∙ ap (λ (t : List ℕ). t ++ number) slash ∙ append_assoc key (47 ∷ []) number) ∙ append_assoc key (47 ∷ number) last)

-- ---- keys

prefix_all : {X : Type 0} (p : X → Bool) (xs : List X) → list_all p xs ≡ true → length xs ≤ prefix_len (λ x. not (not (p x))) xs
prefix_all p [] all = omega arith
prefix_all p (x ∷ xs) all = grind (arith, prefix_all p xs)

all_pass : {X : Type 0} (p : X → Bool) (xs : List X) → list_all p xs ≡ true → position (λ x. not (p x)) xs ≡ None
all_pass p xs all = let long : length xs ≤ prefix_len (λ x. not (not (p x))) xs = prefix_all p xs all in grind (arith, nat_tests)

-- what spells a key is read as it
pub key_of-is_key : (key : List ℕ) → is_key key ≡ true → key_of key ≡ Ok key
key_of-is_key key spelled =
    let all : list_all is_key_byte key ≡ true = grind (arith, nat_tests) in
    let none : first_bad_byte key ≡ None = all_pass is_key_byte key all in
    let some : (length key == 0) ≡ false = grind (arith, nat_tests) in
    let short : nat_lt MAX_KEY (length key) ≡ false = grind (arith, nat_tests) in
    rw (none, some, short) refl

-- ---- options

pub not_failed : (r : Result Unit FromHexError) → r ≡ Ok tt → None ≡ result_ok r → ⊥
not_failed r ok none = let some : None ≡ Some tt = none ∙ ap result_ok ok in absurd cc

pub not_refused : (r : Result (List ℕ) KeyFault) (key : List ℕ) → r ≡ Ok key → None ≡ result_ok r → ⊥
not_refused r key ok none = let some : None ≡ Some key = none ∙ ap result_ok ok in absurd cc

pub ok_value : (r : Result (List ℕ) KeyFault) (key other : List ℕ) → r ≡ Ok key → Some other ≡ result_ok r → other ≡ key
ok_value r key other ok some = let same : Some other ≡ Some key = some ∙ ap result_ok ok in cc

pub none_some : {A : Type 0} (x : A) → None ≡ Some x → ⊥
none_some x e = absurd cc

pub some_is : {A : Type 0} (x y : A) → Some x ≡ Some y → x ≡ y
some_is x y e = cc

pub stamp_of-range : (stamp : Timestamp) → IsStamp stamp → stamp_of stamp.sn stamp.cid ≡ Some stamp
stamp_of-range stamp ranged = let below : nat_lt stamp.sn SN_END ≡ true = let h = ranged.number in grind (arith, nat_tests) in rw below refl
