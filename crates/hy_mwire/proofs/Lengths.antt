-- How many bytes a message has.
use Rattle.std.proofs.Common.{◌≡◌, ℕ, ◌+◌, ◌-◌, ◌*◌, ◌≤◌, List, [], ◌∷◌, ◌++◌, length, drop, All, Option, Some, None, refl, ap, ◌∙◌, arith}
use Rattle.std.specs.Prelude.{IsTrue}
use Rattle.std.specs.List.{concat, flat_map}
use Rattle.std.proofs.lemmas.Bool.Decides.{nat_tests}
use Rattle.std.proofs.lemmas.List.{length-append, drop_at}
use Rattle.std.proofs.lemmas.List.Elements.{All-head, All-tail}
use Rattle.byteorder.specs.Endian.{big_bytes}
use Rattle.byteorder.specs.Numbers.{length-bytes_high_first}
use Rattle.hy_base.specs.declared.limits.TheConstants.{MAX_K}
use Rattle.hy_record.specs.declared.kind.Kind.{Kind}
use Rattle.hy_record.specs.declared.kind.Kind.TheVariants.{Tomb, Whole, Coded}
use Rattle.hy_record.specs.declared.message.MetaAsk.{MetaAsk}
use Rattle.hy_record.specs.declared.message.MetaAsk.TheVariants as asks
use Rattle.hy_record.specs.declared.message.MetaSay.{MetaSay}
use Rattle.hy_record.specs.declared.message.MetaSay.TheVariants as says
use Rattle.hy_record.specs.Key.{is_key}
use Rattle.hy_record.specs.Stamp.{Timestamp}
use Rattle.hy_record.specs.Hash.{HASH_SIZE, IsHash}
use Rattle.hy_record.specs.Record.{RecordValue, IsRecord, most_faults, is_part_count, hash_count}
use Rattle.hy_record.specs.Spelling.{stamp_bytes, layout_bytes, value_bytes, record_bytes}
use Rattle.hy_mwire.specs.declared.front.TheConstants.{MAX_FRAME}
use Rattle.hy_mwire.specs.declared.message.Message.{Message}
use Rattle.hy_mwire.specs.declared.message.Message.TheVariants.{Join, Joined, Full, Ask, Say}
use Rattle.hy_mwire.specs.Message.{IsOperation, AreStamps, IsRecordIfAny, IsAsk, IsSay, IsMessage}
use Rattle.hy_mwire.specs.Frames.{operation_bytes, stamps_bytes, found_bytes, ask_fields, say_fields, message_fields, body_of}

size4 : (n : ℕ) → length (big_bytes 4 n) ≡ 4
size4 n = length-bytes_high_first 4 n

pub key_size : (key : List ℕ) → IsTrue (is_key key) → length key ≤ 64
key_size key spelled = grind (arith, nat_tests)

operation_size : (client op : ℕ) (key : List ℕ) → IsOperation client op key → length (operation_bytes client op key) ≤ 73
operation_size client op key is = simp length-append (omega (arith, size4 client, size4 op, key_size key is.spelled))

pub stamp_size : (stamp : Timestamp) → length (stamp_bytes stamp) ≡ 8
stamp_size stamp = simp length-append (omega (arith, size4 stamp.sn, size4 stamp.cid))

pub stamps_size : (stamps : List Timestamp) → length (flat_map stamp_bytes stamps) ≡ 8 * length stamps
stamps_size [] = refl
stamps_size (stamp ∷ stamps) = length-append (stamp_bytes stamp) (flat_map stamp_bytes stamps) ∙ omega (arith, stamp_size stamp, stamps_size stamps)

list_size : (stamps : List Timestamp) → AreStamps stamps → length (stamps_bytes stamps) ≤ 2050
list_size stamps are =
    let whole = length-append (big_bytes 2 (length stamps)) (flat_map stamp_bytes stamps) in
    omega (arith, whole, length-bytes_high_first 2 (length stamps), stamps_size stamps, are.listed.few)

-- ---- records

hashes_size : (hashes : List (List ℕ)) → All IsHash hashes → length (concat hashes) ≡ HASH_SIZE * length hashes
hashes_size [] sized = refl
hashes_size (hash ∷ hashes) sized =
    let first : IsHash hash = All-head IsHash hash hashes sized in
    let others = hashes_size hashes (All-tail IsHash hash hashes sized) in
    length-append hash (concat hashes) ∙ omega (arith, first.size, others)

layout_size : (size f k clouds : ℕ) → length (layout_bytes size f k clouds) ≡ 8
layout_size size f k clouds = simp length-append (omega (arith, size4 size, length-bytes_high_first 1 f, length-bytes_high_first 1 k, length-bytes_high_first 2 clouds))

coded_parts : (k : ℕ) → IsTrue (is_part_count Coded k) → k ≤ MAX_K
coded_parts k parts = grind (arith, nat_tests)

few_hashes : (kind : Kind) (f k : ℕ) → f ≤ most_faults kind → IsTrue (is_part_count kind k) → hash_count kind f k ≤ 10
few_hashes Tomb f k faults parts = omega arith
few_hashes Whole f k faults parts = omega arith
few_hashes Coded f k faults parts = let most = coded_parts k parts in omega arith

value_size : (kind : Kind) (r : RecordValue) → length (concat r.hashes) ≤ 320 → length (value_bytes kind r) ≤ 328
value_size Tomb r few = omega arith
value_size Whole r few = let whole = length-append (layout_bytes r.size r.f r.k r.clouds) (concat r.hashes) in omega (arith, whole, layout_size r.size r.f r.k r.clouds)
value_size Coded r few = let whole = length-append (layout_bytes r.size r.f r.k r.clouds) (concat r.hashes) in omega (arith, whole, layout_size r.size r.f r.k r.clouds)

pub record_size : (r : RecordValue) → IsRecord r → length (record_bytes r) ≤ 338
record_size r ruled =
    let hashes : length (concat r.hashes) ≤ 320 = let few = few_hashes r.kind r.f r.k ruled.faults ruled.parts in omega (arith, hashes_size r.hashes ruled.sizes, ruled.hashes) in
    let whole = length-append (stamp_bytes r.stamp) (value_bytes r.kind r) in
    omega (arith, whole, stamp_size r.stamp, value_size r.kind r hashes)

found_size : (rec : Option RecordValue) → IsRecordIfAny rec → length (found_bytes rec) ≤ 339
found_size None is = omega arith
found_size (Some rec) is = omega (arith, record_size rec is)

-- ---- messages

joined_size : (front rest : List ℕ) (a b : ℕ) → length front ≤ a → length rest ≤ b → length (front ++ rest) ≤ a + b
joined_size front rest a b short brief = omega (arith, length-append front rest)

ask_size : (ask : MetaAsk) → IsAsk ask → length (ask_fields ask) ≤ 2123
ask_size (asks.Read client op key) is = omega (arith, operation_size client op key is)
ask_size (asks.Update client op key rec) is = omega (arith, joined_size (operation_bytes client op key) (record_bytes rec) 73 338 (operation_size client op key is.0) (record_size rec is.1))
ask_size (asks.Watch client op key stamp) is = omega (arith, joined_size (operation_bytes client op key) (stamp_bytes stamp) 73 8 (operation_size client op key is.0) (omega (arith, stamp_size stamp)))
ask_size (asks.Olds client op key) is = omega (arith, operation_size client op key is)
ask_size (asks.Forget client op key stamps) is = omega (arith, joined_size (operation_bytes client op key) (stamps_bytes stamps) 73 2050 (operation_size client op key is.0) (list_size stamps is.1))
ask_size (asks.Swap client op key expected rec) is = absurd is

say_size : (say : MetaSay) → IsSay say → length (say_fields say) ≤ 2123
say_size (says.Has client op key rec) is = omega (arith, joined_size (operation_bytes client op key) (found_bytes rec) 73 339 (operation_size client op key is.0) (found_size rec is.1))
say_size (says.Applied client op key stamp) is = omega (arith, joined_size (operation_bytes client op key) (stamp_bytes stamp) 73 8 (operation_size client op key is.0) (omega (arith, stamp_size stamp)))
say_size (says.Kept client op key stamp) is = omega (arith, joined_size (operation_bytes client op key) (stamp_bytes stamp) 73 8 (operation_size client op key is.0) (omega (arith, stamp_size stamp)))
say_size (says.Fired client op key stamp) is = omega (arith, joined_size (operation_bytes client op key) (stamp_bytes stamp) 73 8 (operation_size client op key is.0) (omega (arith, stamp_size stamp)))
say_size (says.OldList client op key stamps) is = omega (arith, joined_size (operation_bytes client op key) (stamps_bytes stamps) 73 2050 (operation_size client op key is.0) (list_size stamps is.1))
say_size (says.Forgot client op key) is = omega (arith, operation_size client op key is)
say_size (says.Swapped client op key stamp) is = absurd is
say_size (says.Changed client op key stamp) is = absurd is

fields_size : (said : Message) → IsMessage said → length (message_fields said) ≤ 2123
fields_size Join is = omega arith
fields_size (Joined client) is = omega (arith, size4 client)
fields_size Full is = omega arith
fields_size (Ask ask) is = ask_size ask is
fields_size (Say say) is = say_size say is

-- the body of a message fits a frame
pub body_size : (said : Message) → IsMessage said → length (body_of said) ≤ MAX_FRAME
body_size said is = omega (arith, fields_size said is)

-- a body behind four bytes that were left for its length
pub room_length : (left out body : List ℕ) → length left ≡ 4 → out ≡ left ++ body → length out ≡ length body + 4
room_length left out body four parts = ap (length {A = ℕ}) parts ∙ length-append left body ∙ omega (arith, four)

-- the frame, once the length is written over them
pub lengthened : (left out body : List ℕ) → length left ≡ 4 → out ≡ left ++ body
    → big_bytes 4 (length out - 4) ++ drop 4 out ≡ big_bytes 4 (length body) ++ body
lengthened left out body four parts =
    let number : length out - 4 ≡ length body = omega (arith, room_length left out body four parts) in
    let behind : drop 4 out ≡ body = ap (drop 4) parts ∙ drop_at left body 4 four in
    ap (λ (n : ℕ). big_bytes 4 n ++ drop 4 out) number ∙ ap (λ (t : List ℕ). big_bytes 4 (length body) ++ t) behind
