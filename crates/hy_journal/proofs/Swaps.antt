-- The entry of a swap, written and read.
use Rattle.std.proofs.Common.{◌≡◌, ◌≢◌, ℕ, ◌+◌, ◌-◌, ◌<◌, ◌≤◌, ◌^◌, List, [], ◌∷◌, ◌++◌, length, get_or, take, drop, Some, None, refl, sym, ◌∙◌, ap, subst, arith, length-append, append_assoc}
use Rattle.std.proofs.lemmas.List.{take_at, drop_more, drop-drop, length-take-le, length-drop, take-append-drop, append-nil, append_cancel_left, drop_all, get_or_append_left, get_or-take, get_or-drop}
use Rattle.byteorder.specs.Endian.{big_bytes, big_number}
use Rattle.byteorder.specs.Numbers.{big_number-reads_back}
use Rattle.hy_record.specs.declared.message.MetaAsk.TheVariants as asks
use Rattle.hy_record.specs.Record.{RecordValue}
use Rattle.hy_record.specs.Spelling.{record_bytes, SpellsRecord}
use Rattle.hy_record.specs.Stamp.{Timestamp}
use Rattle.hy_record.proofs.Numbers.{IsBytes, bytes_high_first-big_from}
use Rattle.hy_record.proofs.Records.{record_spells, record_spelled, record_prefix}
use Rattle.hy_mwire.specs.declared.message.Message.{Message}
use Rattle.hy_mwire.specs.declared.message.Message.TheVariants as messages
use Rattle.hy_mwire.specs.declared.fault.FrameFault.{FrameFault}
use Rattle.hy_mwire.specs.declared.fault.FrameFault.TheVariants.{BadKind}
use Rattle.hy_mwire.specs.Message.{IsAsk, IsMessage}
use Rattle.hy_mwire.specs.Frames.{ask_fields, frame_of}
use Rattle.hy_mwire.specs.Front.{partial, message, fault, front_at, AreBytes}
use Rattle.hy_mwire.proofs.Fronts.{body_front}
use Rattle.hy_mwire.proofs.Lengths.{key_size, record_size}
use Rattle.hy_journal.specs.declared.entry.Entry.TheVariants.{Ask}
use Rattle.hy_journal.specs.declared.swap.Watched.{Watched}
use Rattle.hy_journal.specs.Entry.{is_kept, IsSwap, IsEntry, entry_bytes, swap_block, swap_bytes, HasEntry}
use Rattle.hy_journal.specs.Swap.{AreLong, HasBlock, LacksBlock, LacksSwap, watch_frame, watch_in, HasWatch, LacksWatch, HasFields, LacksFields, LacksRecord}

-- ---- a watch

pub frame_is : (client op : ℕ) (key : List ℕ) (stamp : Timestamp)
    → frame_of (messages.Ask (asks.Watch client op key stamp)) ≡ watch_frame (ask_fields (asks.Watch client op key stamp))
unfolding frame_of
frame_is client op key stamp =
    let fields = ask_fields (asks.Watch client op key stamp) in
    let size : length (4 ∷ fields) ≡ length fields + 1 = omega arith in
    ap (λ (n : ℕ). big_bytes 4 n ++ (4 ∷ fields)) size

pub frame_size : (fields : List ℕ) → length (watch_frame fields) ≡ 5 + length fields
frame_size fields = omega arith

pub frame_fields : (fields : List ℕ) → drop 5 (watch_frame fields) ≡ fields
frame_fields fields = refl

pub fields_long : (client op : ℕ) (key : List ℕ) (stamp : Timestamp) → AreLong (ask_fields (asks.Watch client op key stamp))
fields_long client op key stamp = omega (arith, length-append key (big_bytes 4 stamp.sn ++ big_bytes 4 stamp.cid))

pub fields_few : (client op : ℕ) (key : List ℕ) (stamp : Timestamp) → IsAsk (asks.Watch client op key stamp)
    → length (ask_fields (asks.Watch client op key stamp)) ≤ 81
fields_few client op key stamp is = omega (arith, key_size key is.0.spelled, fields_long client op key stamp)

-- what stands behind the kind of its frame
pub behind_kind : (frame : List ℕ) (client op : ℕ) (key : List ℕ) (stamp : Timestamp) → frame ≡ frame_of (messages.Ask (asks.Watch client op key stamp))
    → drop 5 frame ≡ ask_fields (asks.Watch client op key stamp)
behind_kind frame client op key stamp is = ap (drop 5) (is ∙ frame_is client op key stamp)

pub frame_few : (frame : List ℕ) (client op : ℕ) (key : List ℕ) (stamp : Timestamp) → frame ≡ frame_of (messages.Ask (asks.Watch client op key stamp))
    → IsAsk (asks.Watch client op key stamp) → (5 ≤ length frame) × (length frame ≤ 86)
frame_few frame client op key stamp is known =
    let size = ap (length {A = ℕ}) (is ∙ frame_is client op key stamp) in
    (omega (arith, size), omega (arith, size, fields_few client op key stamp known))

-- ---- a block

pub block_size : (fields spelled : List ℕ) → length (swap_block fields spelled) ≡ 5 + length fields + length spelled
unfolding swap_block
block_size fields spelled = omega (arith, length-append fields spelled)

pub block_rest : (fields spelled x : List ℕ) → drop 4 (swap_block fields spelled ++ x) ≡ 7 ∷ ((fields ++ spelled) ++ x)
unfolding swap_block
block_rest fields spelled x = refl

pub block_number : (fields spelled x : List ℕ) → 1 + length fields + length spelled < 2 ^ 32
    → big_number 4 (swap_block fields spelled ++ x) ≡ 1 + length fields + length spelled
unfolding swap_block
block_number fields spelled x few =
    let body = 7 ∷ fields ++ spelled in
    let size : length body ≡ 1 + length fields + length spelled = omega (arith, length-append fields spelled) in
    ap (big_number 4) (append_assoc (big_bytes 4 (length body)) body x)
    ∙ big_number-reads_back 4 (length body) (body ++ x) (omega (arith, size))
    ∙ size

-- what is known of bytes in front of which a block stands
pub record Front (bytes fields spelled x : List ℕ) : Type 0 where
  pub number : big_number 4 bytes ≡ 1 + length fields + length spelled
  pub kind : get_or (drop 4 bytes) 0 0 ≡ 7
  pub at : 17 + get_or (drop 4 bytes) 9 0 ≡ length fields
  pub size : length bytes ≡ 5 + length fields + length spelled + length x
  pub behind : drop 5 bytes ≡ fields ++ (spelled ++ x)

pub front_block : (bytes fields spelled x : List ℕ) → AreLong fields → 1 + length fields + length spelled < 2 ^ 32
    → bytes ≡ swap_block fields spelled ++ x → Front bytes fields spelled x
front_block bytes fields spelled x long few is =
    let rest : drop 4 bytes ≡ 7 ∷ ((fields ++ spelled) ++ x) = ap (drop 4) is ∙ block_rest fields spelled x in
    let key : get_or ((fields ++ spelled) ++ x) 8 0 ≡ get_or fields 8 0 =
    ap (λ (l : List ℕ). get_or l 8 0) (append_assoc fields spelled x)
    ∙ get_or_append_left fields (spelled ++ x) 0 8 (omega (arith, long)) in
    record {
      number = ap (big_number 4) is ∙ block_number fields spelled x few;
      kind = ap (λ (l : List ℕ). get_or l 0 0) rest;
      at = omega (arith, long, ap (λ (l : List ℕ). get_or l 9 0) rest, key);
      size = ap (length {A = ℕ}) is ∙ length-append (swap_block fields spelled) x ∙ omega (arith, block_size fields spelled);
      behind = sym (drop-drop 1 4 bytes) ∙ ap (drop 1) rest ∙ append_assoc fields spelled x;
    }

same_front : (a b x y : List ℕ) → length a ≡ length b → a ++ x ≡ b ++ y → (a ≡ b) × (x ≡ y)
same_front a b x y long same =
    let front : a ≡ b = sym (take_at a x (length b) long) ∙ ap (take (length b)) same ∙ take_at b y (length b) refl in
    (front, append_cancel_left a x y (same ∙ ap (λ (l : List ℕ). l ++ y) (sym front)))

-- bytes begin with one block at most
pub one_block : (bytes f s x g t y : List ℕ) → Front bytes f s x → Front bytes g t y → (f ≡ g) × (s ≡ t) × (x ≡ y)
one_block bytes f s x g t y one other =
    let first = same_front f g (s ++ x) (t ++ y) (sym one.at ∙ other.at) (sym one.behind ∙ other.behind) in
    let long : length s ≡ length t = omega (arith, one.number, other.number, one.at, other.at) in
    let second = same_front s t x y long first.1 in
    (first.0, second.0, second.1)

-- the parts that the length and that of the key give are a block
pub block_there : (bytes parts : List ℕ) (n long : ℕ) → IsBytes bytes → n ≡ big_number 4 bytes → n < length (drop 4 bytes)
    → n < 2 ^ 32 → get_or (drop 4 bytes) 0 0 ≡ 7 → long ≡ 17 + get_or (drop 4 bytes) 9 0 → 1 + long ≤ n → long ≤ 272
    → parts ≡ take (n - 1) (drop 1 (drop 4 bytes)) → HasBlock bytes (take long parts) (drop long parts)
unfolding swap_block
block_there bytes parts n long are number room narrow kind at within most is =
    let rest = drop 4 bytes in
    let room_behind : length bytes ≡ 4 + length rest = omega (arith, length-drop 4 bytes, room) in
    let long_rest : n - 1 ≤ length (drop 1 rest) = omega (arith, length-drop 1 rest, room) in
    let size : length parts ≡ n - 1 = ap (length {A = ℕ}) is ∙ length-take-le (n - 1) (drop 1 rest) long_rest in
    let front_size : length (take long parts) ≡ long = length-take-le long parts (omega (arith, size, within)) in
    let back_size : length (drop long parts) ≡ n - 1 - long = length-drop long parts ∙ omega (arith, size) in
    let whole : take long parts ++ drop long parts ≡ parts = take-append-drop long parts in
    let key : get_or (take long parts) 8 0 ≡ get_or rest 9 0 =
    get_or-take long parts 8 0 (omega (arith, at))
    ∙ ap (λ (l : List ℕ). get_or l 8 0) is
    ∙ get_or-take (n - 1) (drop 1 rest) 8 0 (omega (arith, at, within))
    ∙ get_or-drop 1 rest 8 0 in
    let four : big_bytes 4 n ≡ take 4 bytes =
    ap (big_bytes 4) number ∙ bytes_high_first-big_from 4 0 bytes are (omega (arith, room_behind)) in
    let first : rest ≡ 7 ∷ drop 1 rest = drop_more rest 0 0 (omega (arith, room)) ∙ ap (λ (b : ℕ). b ∷ drop 1 rest) kind in
    let body : 7 ∷ parts ++ drop n rest ≡ rest =
    ap (λ (l : List ℕ). 7 ∷ (l ++ drop n rest)) is
    ∙ ap (λ (l : List ℕ). 7 ∷ (take (n - 1) (drop 1 rest) ++ l))
    (ap (λ (m : ℕ). drop m rest) (omega (arith, within)) ∙ sym (drop-drop (n - 1) 1 rest))
    ∙ ap (λ (l : List ℕ). 7 ∷ l) (take-append-drop (n - 1) (drop 1 rest))
    ∙ sym first in
    let count : length (7 ∷ take long parts ++ drop long parts) ≡ n =
    omega (arith, length-append (take long parts) (drop long parts), front_size, back_size, within) in
    let block : swap_block (take long parts) (drop long parts) ≡ take 4 bytes ++ (7 ∷ parts) =
    ap (λ (m : ℕ). big_bytes 4 m ++ (7 ∷ take long parts ++ drop long parts)) count
    ∙ ap (λ (l : List ℕ). l ++ (7 ∷ take long parts ++ drop long parts)) four
    ∙ ap (λ (l : List ℕ). take 4 bytes ++ (7 ∷ l)) whole in
    let past : drop (5 + length (take long parts) + length (drop long parts)) bytes ≡ drop n rest =
    ap (λ (m : ℕ). drop m bytes) (omega (arith, front_size, back_size, within)) ∙ sym (drop-drop n 4 bytes) in
    record {
      long = front_size ∙ at ∙ ap (λ (b : ℕ). 17 + b) (sym key);
      front = sym (ap (λ (l : List ℕ). l ++ drop (5 + length (take long parts) + length (drop long parts)) bytes) block
          ∙ ap (λ (l : List ℕ). (take 4 bytes ++ (7 ∷ parts)) ++ l) past
          ∙ append_assoc (take 4 bytes) (7 ∷ parts) (drop n rest)
          ∙ ap (λ (l : List ℕ). take 4 bytes ++ l) body
          ∙ take-append-drop 4 bytes);
      gate = omega (arith, front_size, back_size, within, room, room_behind);
      few = omega (arith, front_size, most);
      small = omega (arith, front_size, back_size, within, narrow);
    }

-- ---- a swap

pub swap_few : (client op : ℕ) (key : List ℕ) (expected : Timestamp) (rec : RecordValue) → IsSwap client op key expected rec
    → 1 + length (ask_fields (asks.Watch client op key expected)) + length (record_bytes rec) ≤ 420
swap_few client op key expected rec is = omega (arith, fields_few client op key expected is.0, record_size rec is.1)

pub swap_there : (bytes : List ℕ) (client op : ℕ) (key : List ℕ) (expected : Timestamp) (rec : RecordValue) (x : List ℕ) → IsSwap client op key expected rec
    → bytes ≡ swap_bytes client op key expected rec ++ x → Front bytes (ask_fields (asks.Watch client op key expected)) (record_bytes rec) x
swap_there bytes client op key expected rec x known is =
    front_block bytes (ask_fields (asks.Watch client op key expected)) (record_bytes rec) x (fields_long client op key expected)
    (omega (arith, swap_few client op key expected rec known)) is

-- no frame begins so
pub swap_front : (client op : ℕ) (key : List ℕ) (expected : Timestamp) (rec : RecordValue) (x : List ℕ) → IsSwap client op key expected rec
    → front_at 0 (swap_bytes client op key expected rec ++ x) ≡ fault (BadKind 7 0)
unfolding swap_block
swap_front client op key expected rec x known =
    let fields = ask_fields (asks.Watch client op key expected) in
    let body = 7 ∷ fields ++ record_bytes rec in
    let few : length body ≤ 4096 = omega (arith, length-append fields (record_bytes rec), swap_few client op key expected rec known) in
    body_front 0 (swap_bytes client op key expected rec ++ x) body
    (record { size = few; begins = (x, append_assoc (big_bytes 4 (length body)) body x) })

watched : (said : Message) (watch : Watched) → watch_in said ≡ Some watch
    → said ≡ messages.Ask (asks.Watch watch.client watch.op watch.key watch.stamp)
watched messages.Join watch is = absurd (cc)
watched (messages.Joined client) watch is = absurd (cc)
watched messages.Full watch is = absurd (cc)
watched (messages.Say say) watch is = absurd (cc)
watched (messages.Ask (asks.Read client op key)) watch is = absurd (cc)
watched (messages.Ask (asks.Update client op key rec)) watch is = absurd (cc)
watched (messages.Ask (asks.Watch client op key stamp)) watch is =
    let same : record { client = client; op = op; key = key; stamp = stamp } ≡ watch = cc in
    λ i. messages.Ask (asks.Watch (same i).client (same i).op (same i).key (same i).stamp)
watched (messages.Ask (asks.Olds client op key)) watch is = absurd (cc)
watched (messages.Ask (asks.Forget client op key stamps)) watch is = absurd (cc)
watched (messages.Ask (asks.Swap client op key expected rec)) watch is = absurd (cc)

-- frames are read back
module _ (again : (place : ℕ) (said : Message) (rest : List ℕ) → IsMessage said
    → front_at place (frame_of said ++ rest) ≡ message said (length (frame_of said))) where
  sees_watch : (frame : List ℕ) (client op : ℕ) (key : List ℕ) (stamp : Timestamp) → IsAsk (asks.Watch client op key stamp)
      → frame ≡ frame_of (messages.Ask (asks.Watch client op key stamp))
      → front_at 0 frame ≡ message (messages.Ask (asks.Watch client op key stamp)) (length frame)
  sees_watch frame client op key stamp known is =
      let watch = messages.Ask (asks.Watch client op key stamp) in
      ap (front_at 0) (is ∙ sym (append-nil (frame_of watch)))
      ∙ again 0 watch [] known
      ∙ ap (λ (l : List ℕ). message watch (length l)) (sym is)

  pub no_partial : (frame : List ℕ) → front_at 0 frame ≡ partial → LacksWatch frame
  no_partial frame front client op key stamp known is = let no = sym front ∙ sees_watch frame client op key stamp known is in cc

  pub no_fault : (frame : List ℕ) (wrong : FrameFault) → front_at 0 frame ≡ fault wrong → LacksWatch frame
  no_fault frame wrong front client op key stamp known is = let no = sym front ∙ sees_watch frame client op key stamp known is in cc

  pub no_size : (frame : List ℕ) (said : Message) (size : ℕ) → front_at 0 frame ≡ message said size → size ≢ length frame → LacksWatch frame
  no_size frame said size front other client op key stamp known is =
      let same = sym front ∙ sees_watch frame client op key stamp known is in
      let long : size ≡ length frame = cc in
      other long

  pub no_watch : (frame : List ℕ) (said : Message) (size : ℕ) → front_at 0 frame ≡ message said size → watch_in said ≡ None → LacksWatch frame
  no_watch frame said size front none client op key stamp known is =
      let same = sym front ∙ sees_watch frame client op key stamp known is in
      let said_is : said ≡ messages.Ask (asks.Watch client op key stamp) = cc in
      let no = sym none ∙ ap watch_in said_is in
      cc

pub has_watch : (only : (place : ℕ) (bytes : List ℕ) (said : Message) (size : ℕ) → AreBytes bytes → front_at place bytes ≡ message said size
    → IsMessage said × (size ≡ length (frame_of said)) × (bytes ≡ frame_of said ++ drop size bytes))
    → (frame : List ℕ) (said : Message) (size : ℕ) (watch : Watched) → AreBytes frame → front_at 0 frame ≡ message said size → size ≡ length frame
    → watch_in said ≡ Some watch → HasWatch frame watch
has_watch only frame said size watch are front all is =
    let whole = only 0 frame said size are front in
    let named = watched said watch is in
    let none : drop size frame ≡ [] = drop_all size frame (omega (arith, all)) in
    let exact : frame ≡ frame_of said = whole.2 ∙ ap (λ (l : List ℕ). frame_of said ++ l) none ∙ append-nil (frame_of said) in
    (subst IsMessage named whole.0, exact ∙ ap frame_of named)

pub has_fields : (frame fields : List ℕ) (watch : Watched) → frame ≡ watch_frame fields → HasWatch frame watch → HasFields fields watch
has_fields frame fields watch is has =
    (has.0, ap (drop 5) (sym is ∙ has.1 ∙ frame_is watch.client watch.op watch.key watch.stamp))

pub lacks_fields : (frame fields : List ℕ) → frame ≡ watch_frame fields → LacksWatch frame → LacksFields fields
lacks_fields frame fields is lacks client op key stamp known same =
    lacks client op key stamp known (is ∙ ap watch_frame same ∙ sym (frame_is client op key stamp))

-- ---- a swap in front of bytes

pub has_swap : (bytes fields spelled : List ℕ) (watch : Watched) (rec : RecordValue) → HasBlock bytes fields spelled → HasFields fields watch
    → SpellsRecord spelled rec
    → HasEntry bytes (Ask (asks.Swap watch.client watch.op watch.key watch.stamp rec)) (5 + length fields + length spelled)
unfolding IsEntry entry_bytes is_kept
has_swap bytes fields spelled watch rec block has spells =
    let record_is = record_spelled spelled rec spells in
    let whole : swap_block fields spelled ≡ swap_bytes watch.client watch.op watch.key watch.stamp rec =
    λ i. swap_block (has.1 i) (record_is.1 i) in
    record {
      known = (refl, (has.0, record_is.0));
      long = sym (block_size fields spelled) ∙ ap (length {A = ℕ}) whole;
      front = block.front ∙ ap (λ (l : List ℕ). l ++ drop (5 + length fields + length spelled) bytes) whole;
      gate = block.gate;
    }

pub lacks_block : (bytes : List ℕ) → LacksBlock bytes → LacksSwap bytes
lacks_block bytes lacks client op key expected rec gate more known is =
    lacks (ask_fields (asks.Watch client op key expected)) (record_bytes rec) gate more (fields_long client op key expected)
    (omega (arith, swap_few client op key expected rec known)) is

block_front : (bytes fields spelled : List ℕ) → HasBlock bytes fields spelled
    → Front bytes fields spelled (drop (5 + length fields + length spelled) bytes)
block_front bytes fields spelled block =
    front_block bytes fields spelled (drop (5 + length fields + length spelled) bytes) block.long block.small block.front

pub lacks_watch : (bytes fields spelled : List ℕ) → HasBlock bytes fields spelled → LacksFields fields → LacksSwap bytes
lacks_watch bytes fields spelled block lacks client op key expected rec gate more known is =
    let same = one_block bytes fields spelled (drop (5 + length fields + length spelled) bytes)
    (ask_fields (asks.Watch client op key expected)) (record_bytes rec) (gate ∷ more) (block_front bytes fields spelled block)
    (swap_there bytes client op key expected rec (gate ∷ more) known is) in
    lacks client op key expected known.0 same.0

pub lacks_record : (bytes fields spelled : List ℕ) → HasBlock bytes fields spelled → LacksRecord spelled → LacksSwap bytes
lacks_record bytes fields spelled block lacks client op key expected rec gate more known is =
    let same = one_block bytes fields spelled (drop (5 + length fields + length spelled) bytes)
    (ask_fields (asks.Watch client op key expected)) (record_bytes rec) (gate ∷ more) (block_front bytes fields spelled block)
    (swap_there bytes client op key expected rec (gate ∷ more) known is) in
    lacks rec (subst (λ (l : List ℕ). SpellsRecord l rec) (sym same.1) (record_spells rec known.1))

-- no swap begins another
pub swaps_apart : (c o : ℕ) (k : List ℕ) (e : Timestamp) (r : RecordValue) (client op : ℕ) (key : List ℕ) (expected : Timestamp) (rec : RecordValue)
    (x y : List ℕ) → IsSwap c o k e r → IsSwap client op key expected rec → swap_bytes c o k e r ++ x ≡ swap_bytes client op key expected rec ++ y
    → (frame_of (messages.Ask (asks.Watch c o k e)) ≡ frame_of (messages.Ask (asks.Watch client op key expected))) × (r ≡ rec) × (x ≡ y)
swaps_apart c o k e r client op key expected rec x y known other is =
    let same = one_block (swap_bytes c o k e r ++ x) (ask_fields (asks.Watch c o k e)) (record_bytes r) x
    (ask_fields (asks.Watch client op key expected)) (record_bytes rec) y
    (swap_there (swap_bytes c o k e r ++ x) c o k e r x known refl) (swap_there (swap_bytes c o k e r ++ x) client op key expected rec y other is) in
    let spelled = record_prefix (record_bytes r) (record_bytes rec) [] [] r rec (record_spells r known.1) (record_spells rec other.1)
    (ap (λ (l : List ℕ). l ++ []) same.1) in
    (frame_is c o k e ∙ ap watch_frame same.0 ∙ sym (frame_is client op key expected), spelled.0, same.2)
