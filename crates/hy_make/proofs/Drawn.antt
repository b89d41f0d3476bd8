-- Each event that is drawn is one that a schedule can have, and the drawer passes at most one message.
use Rattle.std.proofs.Common.{◌≡◌, ℕ, zero, suc, ◌+◌, ◌<◌, ◌≤◌, ◌==◌, Bool, true, false, cond, List, [], ◌∷◌, refl, sym, ap, ◌∙◌, arith, IsTrue, lit<, lit≤}
use Rattle.std.specs.Prelude.{nat_lt, nat_le, not, codes}
use Rattle.hex.specs.Hex.{IsBytes}
use Rattle.hy_base.specs.declared.limits.TheConstants.{MAX_COUNT}
use Rattle.hy_record.specs.Key.{is_key, is_cell}
use Rattle.hy_record.specs.declared.action.Action.TheVariants.{Put, Get, Delete, Collect}
use Rattle.hy_record.specs.declared.cloud.CloudSay.TheVariants.{Stored, Missing, Body}
use Rattle.hy_sched.specs.Ranges.{is_join, IsTextRequest, IsTextEvent}
use Rattle.hy_sched.specs.Say.{IsTextSay}
use Rattle.hy_sched.specs.declared.event.Event.{Event}
use Rattle.hy_sched.specs.declared.event.Event.TheVariants.{Give}
use Rattle.hy_make.specs.declared.drawer.Drawer.{Drawer}
use Rattle.hy_make.specs.Drawing.{draw, key_drawn, action_drawn, say_drawn, passed, invocation, timeout, next_delivery, any_delivery, loss, forgery, event_of_row, next_event}
use Rattle.hy_make.specs.Making.{made_store}

-- what holds of both holds of the one that a test takes
either : {X : Type 0} (P : X → Type 0) (b : Bool) (x y : X) → P x → P y → P (cond b x y)
either P true x y holds other = holds
either P false x y other holds = holds

draw-below : (limit : ℕ) (drawer : Drawer) → 0 < limit → (draw limit drawer).0 < limit
unfolding draw
draw-below limit drawer some = omega arith

draw-cursor : (limit : ℕ) (drawer : Drawer) → (draw limit drawer).1.cursor ≡ drawer.cursor
unfolding draw
draw-cursor limit drawer = refl

-- a list of one byte
one_byte : (byte : ℕ) → byte < 256 → IsBytes (byte ∷ [])
one_byte byte small zero = small
one_byte byte small (suc place) = lit< tt

key-text : (number : ℕ) → IsTrue (is_key (key_drawn number))
unfolding key_drawn
key-text number = either (λ key. IsTrue (is_key key)) (number == 0) (codes "a") (codes "b") refl refl

key-plain : (number : ℕ) → is_cell (key_drawn number) ≡ false
unfolding key_drawn
key-plain number = either (λ key. is_cell key ≡ false) (number == 0) (codes "a") (codes "b") refl refl

action-text : (number : ℕ) (key : List ℕ) (byte : ℕ) → IsTrue (is_key key) → is_cell key ≡ false → byte < 256 → IsTextRequest (action_drawn number key byte)
unfolding action_drawn
action-text number key byte is plain small =
    let kind : not (is_cell key) ≡ true = ap not plain in
    either IsTextRequest (nat_le number 2) (Put key (byte ∷ [])) _
    (record { key = is; kind = kind }, record { short = lit≤ tt; bytes = one_byte byte small })
    (either IsTextRequest (nat_le number 5) (Get key) _ (record { key = is; kind = refl })
    (either IsTextRequest (number == 6) (Delete key) (Collect key) (record { key = is; kind = kind }) (record { key = is; kind = refl })))

say-text : (number : ℕ) → IsTextSay (say_drawn number)
unfolding say_drawn
say-text number =
    either IsTextSay (number == 0) (Stored true) _ refl
    (either IsTextSay (number == 1) Missing _ tt
    (either IsTextSay (number == 2) (Body (0 ∷ [])) (Body (1 ∷ [])) (record { short = lit≤ tt; bytes = one_byte 0 (lit< tt) }) (record { short = lit≤ tt; bytes = one_byte 1 (lit< tt) })))

-- the event is one that a schedule can have, nobody joins by it, and the drawer passes at most one message
pub record IsNext (drawer : Drawer) (next : Event × Drawer) : Type 0 where
  pub text : IsTextEvent made_store next.0
  pub other : is_join next.0 ≡ false
  pub cursor : next.1.cursor ≤ drawer.cursor + 1

passed-cursor : (sent : ℕ) (drawer : Drawer) → (passed sent drawer).cursor ≤ drawer.cursor + 1
unfolding passed
passed-cursor sent drawer =
    either (λ cursor. cursor ≤ drawer.cursor + 1) (nat_lt drawer.cursor sent) (drawer.cursor + 1) drawer.cursor (omega arith) (omega arith)

invocation-next : (drawer : Drawer) → IsNext drawer (invocation drawer)
unfolding invocation
invocation-next drawer =
    let client = draw 4 drawer in
    let key = draw 2 client.1 in
    let kind = draw 8 key.1 in
    record {
      text = ((omega arith, omega (arith, draw-below 4 drawer (lit< tt))), action-text kind.0 (key_drawn key.0) (draw 256 kind.1).0 (key-text key.0) (key-plain key.0) (draw-below 256 kind.1 (lit< tt)));
      other = refl;
      cursor = omega (arith, draw-cursor 4 drawer, draw-cursor 2 client.1, draw-cursor 8 key.1, draw-cursor 256 kind.1);
    }

timeout-next : (drawer : Drawer) → IsNext drawer (timeout drawer)
unfolding timeout
timeout-next drawer = record {
  text = (omega arith, omega (arith, draw-below 4 drawer (lit< tt)));
  other = refl;
  cursor = omega (arith, draw-cursor 4 drawer);
}

timeout-cursor : (drawer : Drawer) → (timeout drawer).1.cursor ≡ drawer.cursor
unfolding timeout
timeout-cursor drawer = draw-cursor 4 drawer

next_delivery-next : (sent : ℕ) (drawer : Drawer) → drawer.cursor < MAX_COUNT → IsNext drawer (next_delivery sent drawer)
unfolding next_delivery
next_delivery-next sent drawer few =
    let other = timeout-next drawer in
    record {
      text = either (IsTextEvent made_store) (nat_lt drawer.cursor sent) _ _ (omega arith, omega arith) other.text;
      other = either (λ event. is_join event ≡ false) (nat_lt drawer.cursor sent) _ _ refl other.other;
      cursor = omega (arith, passed-cursor sent (timeout drawer).1, timeout-cursor drawer);
    }

-- what is delivered is the message that was passed
pub delivers-passed : (sent : ℕ) (drawer after : Drawer) → nat_lt after.cursor sent ≡ true → after.cursor ≡ drawer.cursor → Give (passed sent after).cursor ≡ (next_delivery sent drawer).0
unfolding passed next_delivery
delivers-passed sent drawer after more same =
    ap (λ b. Give (cond b (after.cursor + 1) after.cursor)) more
    ∙ ap (λ n. Give (n + 1)) same
    ∙ sym (ap (λ b. cond b (Give (drawer.cursor + 1)) (timeout drawer).0) (ap (λ n. nat_lt n sent) (sym same) ∙ more))

any_delivery-next : (drawer : Drawer) → IsNext drawer (any_delivery drawer)
unfolding any_delivery
any_delivery-next drawer = record {
  text = (omega arith, omega (arith, draw-below 65536 drawer (lit< tt)));
  other = refl;
  cursor = omega (arith, draw-cursor 65536 drawer);
}

loss-next : (sent : ℕ) (drawer : Drawer) → IsNext drawer (loss sent drawer)
unfolding loss
loss-next sent drawer =
    let other = timeout-next drawer in
    record {
      text = other.text;
      other = other.other;
      cursor = omega (arith, passed-cursor sent (timeout drawer).1, timeout-cursor drawer);
    }

forgery-next : (drawer : Drawer) → IsNext drawer (forgery drawer)
unfolding forgery
forgery-next drawer =
    let client = draw 4 drawer in
    let op = draw 8 client.1 in
    let key = draw 2 op.1 in
    let sn = draw 8 key.1 in
    let cid = draw 4 sn.1 in
    record {
      text = record {
        liar = refl;
        addressee = (omega arith, omega (arith, draw-below 4 drawer (lit< tt)));
        number = (omega arith, omega (arith, draw-below 8 client.1 (lit< tt)));
        object = key-text key.0;
        version = record {
          number_low = omega arith;
          number_high = omega (arith, draw-below 8 key.1 (lit< tt));
          client_low = omega arith;
          client_high = omega (arith, draw-below 4 sn.1 (lit< tt));
        };
        answer = say-text (draw 4 cid.1).0;
      };
      other = refl;
      cursor = omega (arith, draw-cursor 4 drawer, draw-cursor 8 client.1, draw-cursor 2 op.1, draw-cursor 8 key.1, draw-cursor 4 sn.1, draw-cursor 4 cid.1);
    }

row-next : (row sent : ℕ) (drawer : Drawer) → drawer.cursor < MAX_COUNT → IsNext drawer (event_of_row row sent drawer)
unfolding event_of_row
row-next row sent drawer few =
    either (IsNext drawer) (nat_le row 2) _ _ (invocation-next drawer)
    (either (IsNext drawer) (nat_le row 11) _ _ (next_delivery-next sent drawer few)
    (either (IsNext drawer) (row == 12) _ _ (any_delivery-next drawer)
    (either (IsNext drawer) (row == 13) _ _ (loss-next sent drawer)
    (either (IsNext drawer) (row == 14) _ _ (timeout-next drawer) (forgery-next drawer)))))

pub next-next : (sent : ℕ) (drawer : Drawer) → drawer.cursor < MAX_COUNT → IsNext drawer (next_event sent drawer)
unfolding next_event
next-next sent drawer few =
    let row = draw 16 drawer in
    let same : row.1.cursor ≡ drawer.cursor = draw-cursor 16 drawer in
    let next = row-next row.0 sent row.1 (omega (arith, same)) in
    record { text = next.text; other = next.other; cursor = omega (arith, next.cursor, same) }
