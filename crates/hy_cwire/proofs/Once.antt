-- What bytes come to is one thing: a block has one head, a head one meaning, and a message stands at one stage.
use Rattle.std.proofs.Common.{◌≡◌, ℕ, zero, suc, ◌^◌, ◌<◌, List, [], ◌++◌, length, get_or, take, drop, Option, Some, None, Result, Ok, Err, refl, sym, ap, subst, ◌∙◌, arith, inl, inr}
use Rattle.byteorder.specs.Endian.{big_bytes, big_number}
use Rattle.byteorder.specs.Numbers.{big_number-reads_back}
use Rattle.hex.proofs.HexLemmas.{decode_sized-encode_lower}
use Rattle.hex.specs.Hex.{decode_sized}
use Rattle.hex.specs.declared.error.FromHexError.{FromHexError}
use Rattle.httparse.specs.Grammar.{RequestHead, ResponseHead}
use Rattle.httparse.proofs.GrammarLemmas.{request_unique, response_unique}
use Rattle.hy_record.specs.Name.{hex_number}
use Rattle.hy_record.specs.Stamp.{Timestamp}
use Rattle.hy_record.proofs.Names.{name_parts, length-hex_number}
use Rattle.hy_cwire.specs.declared.ask_head.AskHead.{AskHead}
use Rattle.hy_cwire.specs.declared.say_head.SayHead.{SayHead}
use Rattle.hy_cwire.specs.declared.fault.HttpFault.{HttpFault}
use Rattle.hy_cwire.specs.declared.kind.WishKind.{WishKind}
use Rattle.hy_cwire.specs.declared.progress.Progress.{Progress}
use Rattle.hy_cwire.specs.declared.progress.Progress.TheVariants.{Head, Body, Given, Broken}
use Rattle.hy_cwire.specs.Asks.{kind_named, IsName, NameIs, ask_of, JudgesKind, JudgesAsk, AskComesTo}
use Rattle.hy_cwire.specs.Says.{JudgesSay, SayComesTo}
use Rattle.hy_cwire.specs.Stages.{IsBroken, too_long, bad_head, no_head, no_body, IsAt, IsOpen}
use Rattle.hy_cwire.proofs.Blocks.{block-one, block-none}

-- ---- names

pub four_bytes : (x i : ℕ) → get_or (big_bytes 4 x) i 0 < 256
four_bytes x zero = omega arith
four_bytes x (suc zero) = omega arith
four_bytes x (suc (suc zero)) = omega arith
four_bytes x (suc (suc (suc zero))) = omega arith
four_bytes x (suc (suc (suc (suc i)))) = omega arith

ok_is : (x y : List ℕ) → ◌≡◌ {A = Result (List ℕ) FromHexError} (Ok x) (Ok y) → x ≡ y
ok_is x y e = cc

hex-one : (n m : ℕ) → n < 2 ^ 32 → m < 2 ^ 32 → hex_number n ≡ hex_number m → n ≡ m
unfolding hex_number
hex-one n m small few same =
    let one : decode_sized (hex_number n) 4 ≡ Ok (big_bytes 4 n) = decode_sized-encode_lower (big_bytes 4 n) 4 refl (four_bytes n) in
    let other : decode_sized (hex_number m) 4 ≡ Ok (big_bytes 4 m) = decode_sized-encode_lower (big_bytes 4 m) 4 refl (four_bytes m) in
    let bytes : big_bytes 4 n ≡ big_bytes 4 m = ok_is (big_bytes 4 n) (big_bytes 4 m) (sym one ∙ ap (λ (t : List ℕ). decode_sized t 4) same ∙ other) in
    let back : big_number 4 (big_bytes 4 n ++ []) ≡ big_number 4 (big_bytes 4 m ++ []) = ap (λ (t : List ℕ). big_number 4 (t ++ [])) bytes in
    sym (big_number-reads_back 4 n [] (omega (arith, small))) ∙ back ∙ big_number-reads_back 4 m [] (omega (arith, few))

abbrev Name : Type 0
Name = List ℕ × Timestamp

name-one : (target : List ℕ) (a b : Name) → IsName target a.0 a.1 → IsName target b.0 b.1 → a ≡ b
name-one target a b one other =
    let same = sym one.named ∙ other.named in
    let parts = name_parts a.0 (hex_number a.1.sn) (hex_number a.1.cid) b.0 (hex_number b.1.sn) (hex_number b.1.cid) (length-hex_number a.1.sn ∙ sym (length-hex_number b.1.sn)) (length-hex_number a.1.cid ∙ sym (length-hex_number b.1.cid)) same in
    let sn = hex-one a.1.sn b.1.sn (omega (arith, one.ranged.number)) (omega (arith, other.ranged.number)) parts.1 in
    let cid = hex-one a.1.cid b.1.cid one.ranged.client other.ranged.client parts.2 in
    let all : (a.0, (a.1.sn, a.1.cid)) ≡ (b.0, (b.1.sn, b.1.cid)) = cc in
    ap made all
  where
    made : List ℕ × (ℕ × ℕ) → Name
    made p = (p.0, record { sn = p.1.0; cid = p.1.1 })

names-one : (target : List ℕ) (a b : Option Name) → NameIs target a → NameIs target b → a ≡ b
names-one target (Some a) (Some b) one other = ap Some (name-one target a b one other)
names-one target (Some a) None one other = absurd (other a.0 a.1 one)
names-one target None (Some b) one other = absurd (one b.0 b.1 other)
names-one target None None one other = refl

-- ---- heads

judges-one : (kind : Option WishKind) (h : RequestHead) (a b : Result AskHead HttpFault) → JudgesKind kind h a → JudgesKind kind h b → a ≡ b
judges-one None h a b one other = one ∙ sym other
judges-one (Some kind) h a b one other = one.2 ∙ ap (λ (name : Option Name). ask_of kind name h) (names-one h.target one.0 other.0 one.1 other.1) ∙ sym other.2

pub ask-one : (block : List ℕ) (a b : Result AskHead HttpFault) → AskComesTo block a → AskComesTo block b → a ≡ b
ask-one block a b (inl (h, reads, judges)) (inl (k, also, same)) =
    let one : h ≡ k = (request_unique block h k [] [] reads also).0 in
    judges-one (kind_named k.method) k a b (subst (λ (x : RequestHead). JudgesAsk x a) one judges) same
ask-one block a b (inl (h, reads, judges)) (inr (none, is)) = absurd (none h reads)
ask-one block a b (inr (none, is)) (inl (k, also, same)) = absurd (none k also)
ask-one block a b (inr (none, is)) (inr (never, same)) = is ∙ sym same

say-judged : (h : ResponseHead) (a b : Result SayHead HttpFault) → JudgesSay h a → JudgesSay h b → a ≡ b
say-judged h (Ok x) (Ok y) one other =
    let size : x.size ≡ y.size = let e = sym one.1 ∙ other.1 in cc in
    let status : x.status ≡ y.status = one.0 ∙ sym other.0 in
    let both : (x.status, x.size) ≡ (y.status, y.size) = cc in
    let made : ℕ × ℕ → Result SayHead HttpFault = λ p. Ok (record { status = p.0; size = p.1 }) in
    ap made both
say-judged h (Ok x) (Err f) one other = absurd (let e = sym one.1 ∙ other in cc)
say-judged h (Err f) (Ok y) one other = absurd (let e = sym one ∙ other.1 in cc)
say-judged h (Err f) (Err g) one other = let same : f ≡ g = let e = sym one ∙ other in cc in ap (λ (x : HttpFault). Err x) same

pub say-one : (block : List ℕ) (a b : Result SayHead HttpFault) → SayComesTo block a → SayComesTo block b → a ≡ b
say-one block a b (inl (h, reads, judges)) (inl (k, also, same)) =
    let one : h ≡ k = (response_unique block h k [] [] reads also).0 in
    say-judged k a b (subst (λ (x : ResponseHead). JudgesSay x a) one judges) same
say-one block a b (inl (h, reads, judges)) (inr (none, is)) = absurd (none h reads)
say-one block a b (inr (none, is)) (inl (k, also, same)) = absurd (none k also)
say-one block a b (inr (none, is)) (inr (never, same)) = is ∙ sym same

-- ---- stages

broken-one : {H : Type 0} (comes_to : List ℕ → Result H HttpFault → Type 0) (size : H → ℕ) (bytes : List ℕ) (a b : HttpFault) → ((block : List ℕ) (x y : Result H HttpFault) → comes_to block x → comes_to block y → x ≡ y)
    → IsOpen {H = H} (Broken a) → IsOpen {H = H} (Broken b) → IsBroken comes_to size bytes a → IsBroken comes_to size bytes b → a ≡ b
broken-one comes_to size bytes a b once one other (too_long is none long) (too_long same also far) = is ∙ sym same
broken-one comes_to size bytes a b once one other (too_long is none long) (bad_head n block judged) = absurd (block-none bytes n block none)
broken-one comes_to size bytes a b once one other (bad_head n block judged) (too_long same also far) = absurd (block-none bytes n block also)
broken-one comes_to size bytes a b once one other (bad_head n block judged) (bad_head m mine same) =
    let at : n ≡ m = block-one bytes n m block mine in
    let both = once (take m bytes) (Err a) (Err b) (subst (λ (k : ℕ). comes_to (take k bytes) (Err a)) at judged) same in
    cc
broken-one comes_to size bytes a b once one other (no_head is none few) late = absurd (one (length bytes) 0 is)
broken-one comes_to size bytes a b once one other (no_body n head is block judged few) late = absurd (one (length (drop n bytes)) (size head) is)
broken-one comes_to size bytes a b once one other late (no_head is none few) = absurd (other (length bytes) 0 is)
broken-one comes_to size bytes a b once one other late (no_body n head is block judged few) = absurd (other (length (drop n bytes)) (size head) is)

pub stage-one : {H : Type 0} (comes_to : List ℕ → Result H HttpFault → Type 0) (size : H → ℕ) (bytes : List ℕ) (a b : Progress H) → ((block : List ℕ) (x y : Result H HttpFault) → comes_to block x → comes_to block y → x ≡ y)
    → IsOpen a → IsOpen b → IsAt comes_to size bytes a → IsAt comes_to size bytes b → a ≡ b
stage-one comes_to size bytes (Head x) (Head y) once one other at also = ap (λ (t : List ℕ). Head t) (at.0 ∙ sym also.0)
stage-one comes_to size bytes (Head x) (Body head body) once one other at also = absurd (block-none bytes also.0 also.1 at.1)
stage-one comes_to size bytes (Head x) (Broken b) once one other at (too_long is none long) = absurd (omega (arith, at.2, long))
stage-one comes_to size bytes (Head x) (Broken b) once one other at (bad_head n block judged) = absurd (block-none bytes n block at.1)
stage-one comes_to size bytes (Head x) (Broken b) once one other at (no_head is none few) = absurd (other (length bytes) 0 is)
stage-one comes_to size bytes (Head x) (Broken b) once one other at (no_body n head is block judged few) = absurd (other (length (drop n bytes)) (size head) is)
stage-one comes_to size bytes (Body head body) (Head y) once one other at also = absurd (block-none bytes at.0 at.1 also.1)
stage-one {H = H} comes_to size bytes (Body head body) (Body other_head other_body) once one other at also =
    let same : at.0 ≡ also.0 = block-one bytes at.0 also.0 at.1 also.1 in
    let both = once (take also.0 bytes) (Ok head) (Ok other_head) (subst (λ (k : ℕ). comes_to (take k bytes) (Ok head)) same at.2) also.2 in
    let heads : head ≡ other_head = cc in
    let bodies : body ≡ other_body = at.3 ∙ ap (λ (k : ℕ). take (size head) (drop k bytes)) same ∙ ap (λ (x : H). take (size x) (drop also.0 bytes)) heads ∙ sym also.3 in
    ap (λ (x : H). Body x body) heads ∙ ap (λ (t : List ℕ). Body other_head t) bodies
stage-one comes_to size bytes (Body head body) (Broken b) once one other at (too_long is none long) = absurd (block-none bytes at.0 at.1 none)
stage-one comes_to size bytes (Body head body) (Broken b) once one other at (bad_head n block judged) =
    let same : at.0 ≡ n = block-one bytes at.0 n at.1 block in
    let both = once (take n bytes) (Ok head) (Err b) (subst (λ (k : ℕ). comes_to (take k bytes) (Ok head)) same at.2) judged in
    absurd cc
stage-one comes_to size bytes (Body head body) (Broken b) once one other at (no_head is none few) = absurd (other (length bytes) 0 is)
stage-one comes_to size bytes (Body head body) (Broken b) once one other at (no_body n h is block judged few) = absurd (other (length (drop n bytes)) (size h) is)
stage-one comes_to size bytes (Broken a) (Head y) once one other (too_long is none long) also = absurd (omega (arith, also.2, long))
stage-one comes_to size bytes (Broken a) (Head y) once one other (bad_head n block judged) also = absurd (block-none bytes n block also.1)
stage-one comes_to size bytes (Broken a) (Head y) once one other (no_head is none few) also = absurd (one (length bytes) 0 is)
stage-one comes_to size bytes (Broken a) (Head y) once one other (no_body n head is block judged few) also = absurd (one (length (drop n bytes)) (size head) is)
stage-one comes_to size bytes (Broken a) (Body head body) once one other (too_long is none long) also = absurd (block-none bytes also.0 also.1 none)
stage-one comes_to size bytes (Broken a) (Body head body) once one other (bad_head n block judged) also =
    let same : also.0 ≡ n = block-one bytes also.0 n also.1 block in
    let both = once (take n bytes) (Ok head) (Err a) (subst (λ (k : ℕ). comes_to (take k bytes) (Ok head)) same also.2) judged in
    absurd cc
stage-one comes_to size bytes (Broken a) (Body head body) once one other (no_head is none few) also = absurd (one (length bytes) 0 is)
stage-one comes_to size bytes (Broken a) (Body head body) once one other (no_body n h is block judged few) also = absurd (one (length (drop n bytes)) (size h) is)
stage-one {H = H} comes_to size bytes (Broken a) (Broken b) once one other at also =
    let made : HttpFault → Progress H = λ f. Broken f in
    ap made (broken-one comes_to size bytes a b once one other at also)
stage-one comes_to size bytes Given b once one other at also = absurd one
stage-one comes_to size bytes a Given once one other at also = absurd other
