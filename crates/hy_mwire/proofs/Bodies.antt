-- What is read from a body is the message with this body, and each message is read from its body.
use Rattle.std.proofs.Common.{◌≡◌, ℕ, zero, suc, ◌^◌, ◌<◌, ◌≤◌, true, false, cond, List, [], ◌∷◌, ◌++◌, length, All, Option, Some, None, refl, sym, ap, subst, ◌∙◌, append_assoc, arith}
use Rattle.std.specs.Prelude.{◌==◌, nat_lt}
use Rattle.std.specs.Result.{result_ok}
use Rattle.std.specs.List.{flat_map}
use Rattle.std.proofs.lemmas.Bool.Decides.{nat_tests}
use Rattle.std.proofs.lemmas.List.{append-nil}
use Rattle.std.proofs.lemmas.List.Elements.{All-nil, All-cons, All-head, All-tail}
use Rattle.byteorder.specs.Endian.{big_bytes}
use Rattle.hy_record.specs.declared.stamps.TheConstants.{MAX_STAMPS}
use Rattle.hy_record.specs.declared.message.MetaAsk.{MetaAsk}
use Rattle.hy_record.specs.declared.message.MetaAsk.TheVariants as asks
use Rattle.hy_record.specs.declared.message.MetaSay.{MetaSay}
use Rattle.hy_record.specs.declared.message.MetaSay.TheVariants as says
use Rattle.hy_record.specs.Stamp.{Timestamp, IsStamp}
use Rattle.hy_record.specs.Stamps.{is_rising}
use Rattle.hy_record.specs.Record.{RecordValue, IsRecord}
use Rattle.hy_record.specs.Spelling.{stamp_bytes, record_bytes}
use Rattle.hy_record.specs.Reading.{record_of}
use Rattle.hy_record.proofs.Numbers.{IsBytes}
use Rattle.hy_record.proofs.Fields.{Takes, Takes-then}
use Rattle.hy_record.proofs.Records.{record_of_takes, record_of_again}
use Rattle.hy_mwire.specs.declared.body.Operation.{Operation}
use Rattle.hy_mwire.specs.declared.body.TheConstants.{STAMP_SIZE}
use Rattle.hy_mwire.specs.declared.message.Message.{Message}
use Rattle.hy_mwire.specs.declared.message.Message.TheVariants.{Join, Joined, Full, Ask, Say}
use Rattle.hy_mwire.specs.declared.kind.MessageKind.{MessageKind}
use Rattle.hy_mwire.specs.declared.kind.MessageKind.TheVariants as kinds
use Rattle.hy_mwire.specs.declared.kind.AskKind.{AskKind}
use Rattle.hy_mwire.specs.declared.kind.AskKind.TheVariants as ask_kinds
use Rattle.hy_mwire.specs.declared.kind.SayKind.{SayKind}
use Rattle.hy_mwire.specs.declared.kind.SayKind.TheVariants as say_kinds
use Rattle.hy_mwire.specs.Message.{IsOperation, AreStamps, IsRecordIfAny, IsAsk, IsSay, IsMessage}
use Rattle.hy_mwire.specs.Frames.{operation_bytes, stamps_bytes, found_bytes, ask_fields, ask_kind, say_fields, say_kind, message_fields, message_kind}
use Rattle.hy_mwire.specs.Reading.{◌>>=◌, bytes_at, number_at, ended, key_at, operation_at, stamp_in, stamps_at, stamps_in, record_in, found_in, joined_in, ask_in, say_in, message_in}
use Rattle.hy_mwire.proofs.Fields.{bind_some, guard_none, guard_some, some_is, ended_is, number_takes, number_again, bytes_take, bytes_again, key_takes, key_again, stamp_takes, stamp_again, result_ok-some}
use Rattle.hy_mwire.proofs.Lengths.{stamp_size}

-- ---- operations

operation_takes : (bytes : List ℕ) (x : Operation × List ℕ) → IsBytes bytes → operation_at bytes ≡ Some x → Takes bytes (operation_bytes x.0.client x.0.op x.0.key) x.1 × IsOperation x.0.client x.0.op x.0.key
unfolding operation_at
operation_takes bytes x fits e =
    let a = bind_some (number_at 4 bytes) (λ client. number_at 4 client.1 >>= λ op. key_at op.1 >>= λ key. Some (record { client = client.0; op = op.0; key = key.0 }, key.1)) x e in
    let b = bind_some (number_at 4 a.0.1) (λ op. key_at op.1 >>= λ key. Some (record { client = a.0.0; op = op.0; key = key.0 }, key.1)) x a.2 in
    let c = bind_some (key_at b.0.1) (λ key. Some (record { client = a.0.0; op = b.0.0; key = key.0 }, key.1)) x b.2 in
    let client = number_takes 4 bytes a.0 fits a.1 in
    let op = number_takes 4 a.0.1 b.0 client.0.rest_fits b.1 in
    let key = key_takes b.0.1 c.0 op.0.rest_fits c.1 in
    let tail = Takes-then a.0.1 (big_bytes 4 b.0.0) b.0.1 (length c.0.0 ∷ c.0.0) c.0.1 op.0 key.0 in
    let all = Takes-then bytes (big_bytes 4 a.0.0) a.0.1 (big_bytes 4 b.0.0 ++ (length c.0.0 ∷ c.0.0)) c.0.1 client.0 tail in
    let made : Operation × List ℕ = (record { client = a.0.0; op = b.0.0; key = c.0.0 }, c.0.1) in
    subst (λ (y : Operation × List ℕ). Takes bytes (operation_bytes y.0.client y.0.op y.0.key) y.1 × IsOperation y.0.client y.0.op y.0.key) {x = made} (some_is made x c.2)
    (all, record { client_fits = omega (arith, client.1); number_fits = omega (arith, op.1); spelled = key.1 })

operation_parts : (bytes b c : List ℕ) (client op : ℕ) (key rest : List ℕ) → number_at 4 bytes ≡ Some (client, b) → number_at 4 b ≡ Some (op, c) → key_at c ≡ Some (key, rest)
    → operation_at bytes ≡ Some (record { client = client; op = op; key = key }, rest)
unfolding operation_at
operation_parts bytes b c client op key rest first second third = rw (first, second, third) refl

operation_again : (client op : ℕ) (key rest : List ℕ) → IsOperation client op key → operation_at (operation_bytes client op key ++ rest) ≡ Some (record { client = client; op = op; key = key }, rest)
operation_again client op key rest is =
    let tail : List ℕ = (length key ∷ key) ++ rest in
    let regrouped : operation_bytes client op key ++ rest ≡ big_bytes 4 client ++ (big_bytes 4 op ++ tail) =
    append_assoc (big_bytes 4 client) (big_bytes 4 op ++ (length key ∷ key)) rest ∙ ap (λ (t : List ℕ). big_bytes 4 client ++ t) (append_assoc (big_bytes 4 op) (length key ∷ key) rest) in
    ap operation_at regrouped
    ∙ operation_parts (big_bytes 4 client ++ (big_bytes 4 op ++ tail)) (big_bytes 4 op ++ tail) tail client op key rest
    (number_again 4 client (big_bytes 4 op ++ tail) (omega (arith, is.client_fits))) (number_again 4 op tail (omega (arith, is.number_fits))) (key_again key rest is.spelled)

-- ---- timestamps

abbrev Listed : Type 0
Listed = List Timestamp × List ℕ

stamps_take : (count : ℕ) (bytes : List ℕ) (x : Listed) → IsBytes bytes → stamps_at count bytes ≡ Some x → Takes bytes (flat_map stamp_bytes x.0) x.1 × (length x.0 ≡ count) × All IsStamp x.0
unfolding stamps_at
stamps_take zero bytes x fits e =
    subst (λ (y : Listed). Takes bytes (flat_map stamp_bytes y.0) y.1 × (length y.0 ≡ 0) × All IsStamp y.0) (some_is ([], bytes) x e) (record { parts = refl; rest_fits = fits }, refl, All-nil IsStamp)
stamps_take (suc count) bytes x fits e =
    let a = bind_some (bytes_at STAMP_SIZE bytes) (λ front. stamp_in front.0 >>= λ first. stamps_at count front.1 >>= λ others. Some (first ∷ others.0, others.1)) x e in
    let b = bind_some (stamp_in a.0.0) (λ first. stamps_at count a.0.1 >>= λ others. Some (first ∷ others.0, others.1)) x a.2 in
    let c = bind_some (stamps_at count a.0.1) (λ others. Some (b.0 ∷ others.0, others.1)) x b.2 in
    let front = bytes_take STAMP_SIZE bytes a.0 fits a.1 in
    let first = stamp_takes a.0.0 b.0 front.2 b.1 in
    let others = stamps_take count a.0.1 c.0 front.0.rest_fits c.1 in
    let head : Takes bytes (stamp_bytes b.0) a.0.1 = subst (λ (t : List ℕ). Takes bytes t a.0.1) first.0 front.0 in
    let both = Takes-then bytes (stamp_bytes b.0) a.0.1 (flat_map stamp_bytes c.0.0) c.0.1 head others.0 in
    let made : Listed = (b.0 ∷ c.0.0, c.0.1) in
    subst (λ (y : Listed). Takes bytes (flat_map stamp_bytes y.0) y.1 × (length y.0 ≡ suc count) × All IsStamp y.0) {x = made} (some_is made x c.2) (both, ap suc others.1, All-cons IsStamp b.0 c.0.0 first.1 others.2)

one_more : (count : ℕ) (bytes text tail rest : List ℕ) (stamp : Timestamp) (stamps : List Timestamp) → bytes_at STAMP_SIZE bytes ≡ Some (text, tail) → stamp_in text ≡ Some stamp → stamps_at count tail ≡ Some (stamps, rest)
    → stamps_at (suc count) bytes ≡ Some (stamp ∷ stamps, rest)
unfolding stamps_at
one_more count bytes text tail rest stamp stamps cut one others = rw (cut, one, others) refl

stamps_again : (stamps : List Timestamp) (rest : List ℕ) → All IsStamp stamps → stamps_at (length stamps) (flat_map stamp_bytes stamps ++ rest) ≡ Some (stamps, rest)
unfolding stamps_at
stamps_again [] rest each = refl
stamps_again (stamp ∷ stamps) rest each =
    let tail : List ℕ = flat_map stamp_bytes stamps ++ rest in
    let regrouped : flat_map stamp_bytes (stamp ∷ stamps) ++ rest ≡ stamp_bytes stamp ++ tail = append_assoc (stamp_bytes stamp) (flat_map stamp_bytes stamps) rest in
    ap (stamps_at (suc (length stamps))) regrouped
    ∙ one_more (length stamps) (stamp_bytes stamp ++ tail) (stamp_bytes stamp) tail rest stamp stamps (bytes_again STAMP_SIZE (stamp_bytes stamp) tail (stamp_size stamp)) (stamp_again stamp (All-head IsStamp stamp stamps each))
    (stamps_again stamps rest (All-tail IsStamp stamp stamps each))

list_takes : (bytes : List ℕ) (stamps : List Timestamp) → IsBytes bytes → stamps_in bytes ≡ Some stamps → (bytes ≡ stamps_bytes stamps) × AreStamps stamps
unfolding stamps_in
list_takes bytes stamps fits e =
    let a = bind_some (number_at 2 bytes) (λ count. cond (nat_lt MAX_STAMPS count.0) None (stamps_at count.0 count.1) >>= λ listed. cond (is_rising listed.0) (ended listed.0 listed.1) None) stamps e in
    let b = bind_some (cond (nat_lt MAX_STAMPS a.0.0) None (stamps_at a.0.0 a.0.1)) (λ listed. cond (is_rising listed.0) (ended listed.0 listed.1) None) stamps a.2 in
    let few = guard_none (nat_lt MAX_STAMPS a.0.0) (stamps_at a.0.0 a.0.1) b.0 b.1 in
    let rising = guard_some (is_rising b.0.0) (ended b.0.0 b.0.1) stamps b.2 in
    let last = ended_is b.0.0 stamps b.0.1 rising.1 in
    let count = number_takes 2 bytes a.0 fits a.1 in
    let listed = stamps_take a.0.0 a.0.1 b.0 count.0.rest_fits few.1 in
    let all = Takes-then bytes (big_bytes 2 a.0.0) a.0.1 (flat_map stamp_bytes b.0.0) b.0.1 count.0 listed.0 in
    let whole : bytes ≡ big_bytes 2 a.0.0 ++ flat_map stamp_bytes b.0.0 = all.parts ∙ ap (λ (t : List ℕ). (big_bytes 2 a.0.0 ++ flat_map stamp_bytes b.0.0) ++ t) last.1 ∙ append-nil (big_bytes 2 a.0.0 ++ flat_map stamp_bytes b.0.0) in
    let spelled : bytes ≡ stamps_bytes b.0.0 = whole ∙ ap (λ (n : ℕ). big_bytes 2 n ++ flat_map stamp_bytes b.0.0) (sym listed.1) in
    let at_most : length b.0.0 ≤ MAX_STAMPS = let test = few.0 in let size = listed.1 in grind (arith, nat_tests) in
    subst (λ (s : List Timestamp). (bytes ≡ stamps_bytes s) × AreStamps s) last.0 (spelled, record { listed = record { few = at_most; rising = rising.0 }; each = listed.2 })

list_parts : (bytes tail : List ℕ) (stamps : List Timestamp) → number_at 2 bytes ≡ Some (length stamps, tail) → nat_lt MAX_STAMPS (length stamps) ≡ false → stamps_at (length stamps) tail ≡ Some (stamps, []) → is_rising stamps ≡ true → stamps_in bytes ≡ Some stamps
unfolding stamps_in
list_parts bytes tail stamps count few listed rising = rw (count, few, listed, rising) refl

list_again : (stamps : List Timestamp) → AreStamps stamps → stamps_in (stamps_bytes stamps) ≡ Some stamps
list_again stamps are =
    let most = are.listed.few in
    let few : nat_lt MAX_STAMPS (length stamps) ≡ false = grind (arith, nat_tests) in
    let tail : List ℕ = flat_map stamp_bytes stamps in
    list_parts (stamps_bytes stamps) tail stamps (number_again 2 (length stamps) tail (omega (arith, most))) few
    (ap (stamps_at (length stamps)) (sym (append-nil tail)) ∙ stamps_again stamps [] are.each) are.listed.rising

-- ---- records

rec_takes : (bytes : List ℕ) (r : RecordValue) → IsBytes bytes → record_in bytes ≡ Some r → (bytes ≡ record_bytes r) × IsRecord r
unfolding record_in
rec_takes bytes r fits e = let t = record_of_takes bytes r fits (result_ok-some (record_of bytes) r e) in (t.1, t.0)

rec_again : (r : RecordValue) → IsRecord r → record_in (record_bytes r) ≡ Some r
unfolding record_in
rec_again r ruled = ap result_ok (record_of_again r ruled)

found_takes : (bytes : List ℕ) (rec : Option RecordValue) → IsBytes bytes → found_in bytes ≡ Some rec → (bytes ≡ found_bytes rec) × IsRecordIfAny rec
unfolding found_in
found_takes [] rec fits e = absurd cc
found_takes (zero ∷ bytes) rec fits e =
    let last = ended_is None rec bytes e in
    subst (λ (r : Option RecordValue). (0 ∷ bytes ≡ found_bytes r) × IsRecordIfAny r) last.0 (ap (λ (t : List ℕ). 0 ∷ t) last.1, tt)
found_takes (suc zero ∷ bytes) rec fits e =
    let a = bind_some (record_in bytes) (λ r. Some (Some r)) rec e in
    let one = rec_takes bytes a.0 (λ i. fits (suc i)) a.1 in
    subst (λ (r : Option RecordValue). (1 ∷ bytes ≡ found_bytes r) × IsRecordIfAny r) (some_is (Some a.0) rec a.2) (ap (λ (t : List ℕ). 1 ∷ t) one.0, one.1)
found_takes (suc (suc n) ∷ bytes) rec fits e = absurd cc

found_again : (rec : Option RecordValue) → IsRecordIfAny rec → found_in (found_bytes rec) ≡ Some rec
unfolding found_in
found_again None is = refl
found_again (Some rec) is = ap (λ o. o >>= λ r. Some (Some r)) (rec_again rec is)

-- ---- messages

-- the message of this kind was read from all of the bytes
record Reads (kind : MessageKind) (bytes : List ℕ) (said : Message) : Type 0 where
  kind_is : message_kind said ≡ kind
  fields : bytes ≡ message_fields said
  is : IsMessage said

joined_takes : (bytes : List ℕ) (said : Message) → IsBytes bytes → joined_in bytes ≡ Some said → Reads kinds.Joined bytes said
unfolding joined_in
joined_takes bytes said fits e =
    let a = bind_some (number_at 4 bytes) (λ client. cond (client.0 == 0) None (ended (Joined client.0) client.1)) said e in
    let some = guard_none (a.0.0 == 0) (ended (Joined a.0.0) a.0.1) said a.2 in
    let last = ended_is (Joined a.0.0) said a.0.1 some.1 in
    let client = number_takes 4 bytes a.0 fits a.1 in
    let least : 0 < a.0.0 = let test = some.0 in grind (arith, nat_tests) in
    let whole : bytes ≡ big_bytes 4 a.0.0 = client.0.parts ∙ ap (λ (t : List ℕ). big_bytes 4 a.0.0 ++ t) last.1 ∙ append-nil (big_bytes 4 a.0.0) in
    subst (λ (m : Message). Reads kinds.Joined bytes m) last.0 (record { kind_is = refl; fields = whole; is = (least, omega (arith, client.1)) })

joined_parts : (bytes : List ℕ) (client : ℕ) → number_at 4 bytes ≡ Some (client, []) → (client == 0) ≡ false → joined_in bytes ≡ Some (Joined client)
unfolding joined_in
joined_parts bytes client one some = rw (one, some) refl

joined_again : (client : ℕ) → 0 < client → client < 2 ^ 32 → joined_in (big_bytes 4 client) ≡ Some (Joined client)
joined_again client some fits =
    joined_parts (big_bytes 4 client) client (ap (number_at 4) (sym (append-nil (big_bytes 4 client))) ∙ number_again 4 client [] (omega (arith, fits))) (grind (arith, nat_tests))

whole_takes : (kind : MessageKind) (said other : Message) (bytes : List ℕ) → message_kind said ≡ kind → message_fields said ≡ [] → IsMessage said → ended said bytes ≡ Some other → Reads kind bytes other
whole_takes kind said other bytes kind_is none is e =
    let last = ended_is said other bytes e in
    subst (λ (m : Message). Reads kind bytes m) last.0 (record { kind_is = kind_is; fields = last.1 ∙ sym none; is = is })

-- a message that has one part behind its operation
part_takes : {A : Type 0} (kind : MessageKind) (front bytes : List ℕ) (o : Option A) (make : A → Message) (text : A → List ℕ) (P : A → Type 0) (said : Message) → ((x : A) → o ≡ Some x → (bytes ≡ text x) × P x)
    → ((x : A) → message_kind (make x) ≡ kind) → ((x : A) → message_fields (make x) ≡ front ++ text x) → ((x : A) → P x → IsMessage (make x)) → (o >>= λ x. Some (make x)) ≡ Some said → Reads kind (front ++ bytes) said
part_takes kind front bytes o make text P said takes kinds_are fields are e =
    let a = bind_some o (λ x. Some (make x)) said e in
    let t = takes a.0 a.1 in
    let whole : front ++ bytes ≡ message_fields (make a.0) = ap (λ (t : List ℕ). front ++ t) t.0 ∙ sym (fields a.0) in
    subst (λ (m : Message). Reads kind (front ++ bytes) m) (some_is (make a.0) said a.2) (record { kind_is = kinds_are a.0; fields = whole; is = are a.0 t.1 })

-- a message that has none
none_takes : (kind : MessageKind) (front bytes : List ℕ) (said other : Message) → message_kind said ≡ kind → message_fields said ≡ front → IsMessage said → ended said bytes ≡ Some other → Reads kind (front ++ bytes) other
none_takes kind front bytes said other kind_is fields is e =
    let last = ended_is said other bytes e in
    let whole : front ++ bytes ≡ message_fields said = ap (λ (t : List ℕ). front ++ t) last.1 ∙ append-nil front ∙ sym fields in
    subst (λ (m : Message). Reads kind (front ++ bytes) m) last.0 (record { kind_is = kind_is; fields = whole; is = is })

abbrev operation_text : Operation → List ℕ
operation_text o = operation_bytes o.client o.op o.key

ask_takes : (kind : AskKind) (o : Operation) (bytes : List ℕ) (said : Message) → IsOperation o.client o.op o.key → IsBytes bytes → ask_in kind o bytes ≡ Some said → Reads (kinds.Ask kind) (operation_text o ++ bytes) said
unfolding ask_in
ask_takes ask_kinds.Read o bytes said is fits e = none_takes (kinds.Ask ask_kinds.Read) (operation_text o) bytes (Ask (asks.Read o.client o.op o.key)) said refl refl is e
ask_takes ask_kinds.Update o bytes said is fits e =
    part_takes (kinds.Ask ask_kinds.Update) (operation_text o) bytes (record_in bytes) (λ rec. Ask (asks.Update o.client o.op o.key rec)) record_bytes IsRecord said (λ rec found. rec_takes bytes rec fits found) (λ rec. refl) (λ rec. refl) (λ rec ruled. (is, ruled)) e
ask_takes ask_kinds.Watch o bytes said is fits e =
    part_takes (kinds.Ask ask_kinds.Watch) (operation_text o) bytes (stamp_in bytes) (λ stamp. Ask (asks.Watch o.client o.op o.key stamp)) stamp_bytes IsStamp said (λ stamp found. stamp_takes bytes stamp fits found) (λ stamp. refl) (λ stamp. refl) (λ stamp ranged. (is, ranged)) e
ask_takes ask_kinds.Olds o bytes said is fits e = none_takes (kinds.Ask ask_kinds.Olds) (operation_text o) bytes (Ask (asks.Olds o.client o.op o.key)) said refl refl is e
ask_takes ask_kinds.Forget o bytes said is fits e =
    part_takes (kinds.Ask ask_kinds.Forget) (operation_text o) bytes (stamps_in bytes) (λ stamps. Ask (asks.Forget o.client o.op o.key stamps)) stamps_bytes AreStamps said (λ stamps found. list_takes bytes stamps fits found) (λ stamps. refl) (λ stamps. refl) (λ stamps are. (is, are)) e

say_takes : (kind : SayKind) (o : Operation) (bytes : List ℕ) (said : Message) → IsOperation o.client o.op o.key → IsBytes bytes → say_in kind o bytes ≡ Some said → Reads (kinds.Say kind) (operation_text o ++ bytes) said
unfolding say_in
say_takes say_kinds.Has o bytes said is fits e =
    part_takes (kinds.Say say_kinds.Has) (operation_text o) bytes (found_in bytes) (λ rec. Say (says.Has o.client o.op o.key rec)) found_bytes IsRecordIfAny said (λ rec found. found_takes bytes rec fits found) (λ rec. refl) (λ rec. refl) (λ rec ruled. (is, ruled)) e
say_takes say_kinds.Applied o bytes said is fits e =
    part_takes (kinds.Say say_kinds.Applied) (operation_text o) bytes (stamp_in bytes) (λ stamp. Say (says.Applied o.client o.op o.key stamp)) stamp_bytes IsStamp said (λ stamp found. stamp_takes bytes stamp fits found) (λ stamp. refl) (λ stamp. refl) (λ stamp ranged. (is, ranged)) e
say_takes say_kinds.Kept o bytes said is fits e =
    part_takes (kinds.Say say_kinds.Kept) (operation_text o) bytes (stamp_in bytes) (λ stamp. Say (says.Kept o.client o.op o.key stamp)) stamp_bytes IsStamp said (λ stamp found. stamp_takes bytes stamp fits found) (λ stamp. refl) (λ stamp. refl) (λ stamp ranged. (is, ranged)) e
say_takes say_kinds.Fired o bytes said is fits e =
    part_takes (kinds.Say say_kinds.Fired) (operation_text o) bytes (stamp_in bytes) (λ stamp. Say (says.Fired o.client o.op o.key stamp)) stamp_bytes IsStamp said (λ stamp found. stamp_takes bytes stamp fits found) (λ stamp. refl) (λ stamp. refl) (λ stamp ranged. (is, ranged)) e
say_takes say_kinds.OldList o bytes said is fits e =
    part_takes (kinds.Say say_kinds.OldList) (operation_text o) bytes (stamps_in bytes) (λ stamps. Say (says.OldList o.client o.op o.key stamps)) stamps_bytes AreStamps said (λ stamps found. list_takes bytes stamps fits found) (λ stamps. refl) (λ stamps. refl) (λ stamps are. (is, are)) e
say_takes say_kinds.Forgot o bytes said is fits e = none_takes (kinds.Say say_kinds.Forgot) (operation_text o) bytes (Say (says.Forgot o.client o.op o.key)) said refl refl is e

regrouped_reads : (kind : MessageKind) (bytes front rest : List ℕ) (said : Message) → bytes ≡ front ++ rest → Reads kind (front ++ rest) said → Reads kind bytes said
regrouped_reads kind bytes front rest said parts reads = subst (λ (t : List ℕ). Reads kind t said) (sym parts) reads

message_reads : (kind : MessageKind) (bytes : List ℕ) (said : Message) → IsBytes bytes → message_in kind bytes ≡ Some said → Reads kind bytes said
unfolding message_in
message_reads kinds.Join bytes said fits e = whole_takes kinds.Join Join said bytes refl refl tt e
message_reads kinds.Joined bytes said fits e = joined_takes bytes said fits e
message_reads kinds.Full bytes said fits e = whole_takes kinds.Full Full said bytes refl refl tt e
message_reads (kinds.Ask kind) bytes said fits e =
    let a = bind_some (operation_at bytes) (λ o. ask_in kind o.0 o.1) said e in
    let o = operation_takes bytes a.0 fits a.1 in
    regrouped_reads (kinds.Ask kind) bytes (operation_text a.0.0) a.0.1 said o.0.parts (ask_takes kind a.0.0 a.0.1 said o.1 o.0.rest_fits a.2)
message_reads (kinds.Say kind) bytes said fits e =
    let a = bind_some (operation_at bytes) (λ o. say_in kind o.0 o.1) said e in
    let o = operation_takes bytes a.0 fits a.1 in
    regrouped_reads (kinds.Say kind) bytes (operation_text a.0.0) a.0.1 said o.0.parts (say_takes kind a.0.0 a.0.1 said o.1 o.0.rest_fits a.2)

-- a message that is read has this kind and these fields
pub message_takes : (kind : MessageKind) (bytes : List ℕ) (said : Message) → IsBytes bytes → message_in kind bytes ≡ Some said → (message_kind said ≡ kind) × (bytes ≡ message_fields said) × IsMessage said
message_takes kind bytes said fits e = let r = message_reads kind bytes said fits e in (r.kind_is, r.fields, r.is)

-- ---- and back

ask_parts : (kind : AskKind) (o : Operation) (bytes rest : List ℕ) (said : Message) → operation_at bytes ≡ Some (o, rest) → ask_in kind o rest ≡ Some said → message_in (kinds.Ask kind) bytes ≡ Some said
unfolding message_in
ask_parts kind o bytes rest said first second = rw first second

say_parts : (kind : SayKind) (o : Operation) (bytes rest : List ℕ) (said : Message) → operation_at bytes ≡ Some (o, rest) → say_in kind o rest ≡ Some said → message_in (kinds.Say kind) bytes ≡ Some said
unfolding message_in
say_parts kind o bytes rest said first second = rw first second

alone : (client op : ℕ) (key : List ℕ) → IsOperation client op key → operation_at (operation_bytes client op key) ≡ Some (record { client = client; op = op; key = key }, [])
alone client op key is = ap operation_at (sym (append-nil (operation_bytes client op key))) ∙ operation_again client op key [] is

-- the step that reads one part
one_part : {A : Type 0} (o : Option A) (x : A) (make : A → Message) → o ≡ Some x → (o >>= λ y. Some (make y)) ≡ Some (make x)
one_part {A = A} o x make is = ap (λ (p : Option A). p >>= λ y. Some (make y)) is

ask_again : (ask : MetaAsk) → IsAsk ask → message_in (kinds.Ask (ask_kind ask)) (ask_fields ask) ≡ Some (Ask ask)
unfolding ask_in
ask_again (asks.Read client op key) is = ask_parts ask_kinds.Read _ (operation_bytes client op key) [] (Ask (asks.Read client op key)) (alone client op key is) refl
ask_again (asks.Update client op key rec) is =
    ask_parts ask_kinds.Update _ (operation_bytes client op key ++ record_bytes rec) (record_bytes rec) (Ask (asks.Update client op key rec)) (operation_again client op key (record_bytes rec) is.0)
    (one_part (record_in (record_bytes rec)) rec (λ r. Ask (asks.Update client op key r)) (rec_again rec is.1))
ask_again (asks.Watch client op key stamp) is =
    ask_parts ask_kinds.Watch _ (operation_bytes client op key ++ stamp_bytes stamp) (stamp_bytes stamp) (Ask (asks.Watch client op key stamp)) (operation_again client op key (stamp_bytes stamp) is.0)
    (one_part (stamp_in (stamp_bytes stamp)) stamp (λ s. Ask (asks.Watch client op key s)) (stamp_again stamp is.1))
ask_again (asks.Olds client op key) is = ask_parts ask_kinds.Olds _ (operation_bytes client op key) [] (Ask (asks.Olds client op key)) (alone client op key is) refl
ask_again (asks.Forget client op key stamps) is =
    ask_parts ask_kinds.Forget _ (operation_bytes client op key ++ stamps_bytes stamps) (stamps_bytes stamps) (Ask (asks.Forget client op key stamps)) (operation_again client op key (stamps_bytes stamps) is.0)
    (one_part (stamps_in (stamps_bytes stamps)) stamps (λ s. Ask (asks.Forget client op key s)) (list_again stamps is.1))
ask_again (asks.Swap client op key expected rec) is = absurd is

say_again : (say : MetaSay) → IsSay say → message_in (kinds.Say (say_kind say)) (say_fields say) ≡ Some (Say say)
unfolding say_in
say_again (says.Has client op key rec) is =
    say_parts say_kinds.Has _ (operation_bytes client op key ++ found_bytes rec) (found_bytes rec) (Say (says.Has client op key rec)) (operation_again client op key (found_bytes rec) is.0)
    (one_part (found_in (found_bytes rec)) rec (λ r. Say (says.Has client op key r)) (found_again rec is.1))
say_again (says.Applied client op key stamp) is =
    say_parts say_kinds.Applied _ (operation_bytes client op key ++ stamp_bytes stamp) (stamp_bytes stamp) (Say (says.Applied client op key stamp)) (operation_again client op key (stamp_bytes stamp) is.0)
    (one_part (stamp_in (stamp_bytes stamp)) stamp (λ s. Say (says.Applied client op key s)) (stamp_again stamp is.1))
say_again (says.Kept client op key stamp) is =
    say_parts say_kinds.Kept _ (operation_bytes client op key ++ stamp_bytes stamp) (stamp_bytes stamp) (Say (says.Kept client op key stamp)) (operation_again client op key (stamp_bytes stamp) is.0)
    (one_part (stamp_in (stamp_bytes stamp)) stamp (λ s. Say (says.Kept client op key s)) (stamp_again stamp is.1))
say_again (says.Fired client op key stamp) is =
    say_parts say_kinds.Fired _ (operation_bytes client op key ++ stamp_bytes stamp) (stamp_bytes stamp) (Say (says.Fired client op key stamp)) (operation_again client op key (stamp_bytes stamp) is.0)
    (one_part (stamp_in (stamp_bytes stamp)) stamp (λ s. Say (says.Fired client op key s)) (stamp_again stamp is.1))
say_again (says.OldList client op key stamps) is =
    say_parts say_kinds.OldList _ (operation_bytes client op key ++ stamps_bytes stamps) (stamps_bytes stamps) (Say (says.OldList client op key stamps)) (operation_again client op key (stamps_bytes stamps) is.0)
    (one_part (stamps_in (stamps_bytes stamps)) stamps (λ s. Say (says.OldList client op key s)) (list_again stamps is.1))
say_again (says.Forgot client op key) is = say_parts say_kinds.Forgot _ (operation_bytes client op key) [] (Say (says.Forgot client op key)) (alone client op key is) refl
say_again (says.Swapped client op key stamp) is = absurd is
say_again (says.Changed client op key stamp) is = absurd is

-- a message is read from its fields
pub message_again : (said : Message) → IsMessage said → message_in (message_kind said) (message_fields said) ≡ Some said
unfolding message_in
message_again Join is = refl
message_again (Joined client) is = joined_again client is.0 is.1
message_again Full is = refl
message_again (Ask ask) is = ask_again ask is
message_again (Say say) is = say_again say is
