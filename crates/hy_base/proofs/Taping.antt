-- Lemmas on a net in memory.
use Rattle.std.proofs.Common.{◌≡◌, ◌<◌, ◌==◌, ℕ, not, Bool, true, false, List, [], ◌∷◌, ◌++◌, Some, None, length, refl, sym, ap, subst, ◌∙◌, ◌&&◌, arith}
use Rattle.std.specs.Prelude.{if◌then◌else◌}
use Rattle.hy_base.specs.declared.net_call.NetCall.TheVariants.{Send}
use Rattle.std.proofs.lemmas.Bool.{cond-true, cond-false, cases_Bool}
use Rattle.std.proofs.Math.Logic.{⊎_elim}
use Rattle.std.proofs.lemmas.List.{append-nil}
use Rattle.hy_base.proofs.Runs.{not-equal}
use Rattle.hy_base.specs.declared.arrival.Arrived.{Arrived}
use Rattle.hy_base.specs.declared.net_call.NetCall.{NetCall}
use Rattle.hy_base.specs.declared.net_script.Script.{Script}
use Rattle.hy_base.specs.declared.net_tape.NetTape.{NetTape}
use Rattle.hy_base.specs.Moves.{Move, Call, arrived, called, listen, dial, send, close, bytes_sent, sent_by, is_dialled}
use Rattle.hy_base.specs.Net.{Calls, Moves}
use Rattle.hy_base.specs.Outbox.{Done, bytes_on, has_room}
use Rattle.hy_base.specs.Script.{Leaves, Gives, rest_of}
use Rattle.hy_base.specs.NetTape.{TellsTape, IsTold, AddsCall, calls_of, kept}

-- a number that neither this call nor one before it dialled
still-fresh : (conn : ℕ) (call : Call) (before : List Move) → is_dialled conn (called call ∷ []) ≡ false → is_dialled conn before ≡ false → is_dialled conn (called call ∷ before) ≡ false
unfolding is_dialled
still-fresh conn (listen port done) before here earlier = earlier
still-fresh conn (dial port None) before here earlier = earlier
still-fresh conn (dial port (Some number)) before here earlier =
    ⊎_elim (λ y. absurd (let no : true ≡ false = sym (cond-true (number == conn) true false y) ∙ here in cc)) (λ n. cond-false (number == conn) true _ n ∙ earlier) (cases_Bool (number == conn))
still-fresh conn (send c piece done) before here earlier = earlier
still-fresh conn (close c) before here earlier = earlier

-- a call that was kept is told
pub tape-called : (old new : NetTape) (call : Call) → (IsTold new → AddsCall old new call) → Calls IsTold TellsTape old new call
unfolding Leaves calls_of bytes_sent
tape-called old new call adds = record {
  was = λ told. (adds told).was;
  adds = λ told before is.
      let a = adds told in record {
        moves = called call ∷ [];
        holds = refl;
        told = record {
          script = subst (λ (s : Script). Leaves s.all.items before (rest_of s)) (sym a.script) is.script;
          calls = a.calls ∙ ap (λ (l : List NetCall). l ++ kept call ∷ []) is.calls;
          sent = λ conn. a.sent conn ∙ ap (λ (l : List ℕ). l ++ sent_by conn call) (is.sent conn);
          fresh = λ conn above. still-fresh conn call before (a.dialled conn above).1 (is.fresh conn (a.dialled conn above).0);
        };
      };
}

-- an arrival that was given is told
pub tape-took : (old new : NetTape) (a : Arrived) → new.outbox ≡ old.outbox → new.dialled ≡ old.dialled → new.script.all ≡ old.script.all
    → Gives (rest_of old.script) a (rest_of new.script) → Moves IsTold TellsTape old new (arrived a)
unfolding Leaves calls_of bytes_sent is_dialled
tape-took old new a outbox dialled all gives = record {
  was = λ told. ap (λ o. o.overrun) (sym outbox) ∙ told;
  adds = λ told before is. record {
    moves = arrived a ∷ [];
    holds = refl;
    told = record {
      script = (rest_of old.script, subst (λ v. Leaves v.items before (rest_of old.script)) (sym all) is.script, gives);
      calls = ap (λ o. o.calls) outbox ∙ is.calls;
      sent = λ conn. ap (λ o. bytes_on o conn) outbox ∙ is.sent conn;
      fresh = λ conn above. is.fresh conn (subst (λ n. n < conn) dialled above);
    };
  };
}

-- there was room, so the tape told
told-before : (overrun : Bool) (p q : Bool) → (not overrun && p && q) ≡ true → overrun ≡ false
told-before true p q room = absurd (let no : false ≡ true = room in cc)
told-before false p q room = refl

-- a number above the last one was not dialled
pub above-apart : (n conn : ℕ) → n < conn → (n == conn) ≡ false
above-apart n conn above = not-equal n conn (λ is. absurd (omega (arith, is, above)))

-- a call that sends nothing was kept
pub call-kept : (old new : NetTape) (reserved : Done) (size : ℕ) (fits : Bool) (call : Call) (form : NetCall)
    → fits ≡ has_room old.outbox size → fits ≡ true → reserved ≡ record old.outbox { overrun = not fits }
    → new.outbox ≡ record reserved { calls = reserved.calls ++ form ∷ [] } → form ≡ kept call
    → ((conn : ℕ) → sent_by conn call ≡ []) → new.script ≡ old.script
    → ((conn : ℕ) → new.dialled < conn → (old.dialled < conn) × (is_dialled conn (called call ∷ []) ≡ false)) → AddsCall old new call
call-kept old new reserved size fits call form room fit after keeps is sends script dialled = record {
  was = told-before old.outbox.overrun _ _ (sym room ∙ fit);
  script = script;
  calls = ap (λ (o : Done). o.calls) keeps ∙ ap (λ (o : Done). o.calls ++ form ∷ []) after ∙ ap (λ (k : NetCall). old.outbox.calls ++ k ∷ []) is;
  sent = λ conn. ap (λ (o : Done). bytes_on o conn) keeps ∙ ap (λ (o : Done). bytes_on o conn) after ∙ sym (ap (λ (l : List ℕ). bytes_on old.outbox conn ++ l) (sends conn) ∙ append-nil (bytes_on old.outbox conn));
  dialled = dialled;
}

-- a send that was done was kept
pub send-kept : (old new : NetTape) (reserved : Done) (fits : Bool) (conn : ℕ) (piece : List ℕ)
    → fits ≡ has_room old.outbox (length piece) → fits ≡ true → reserved ≡ record old.outbox { overrun = not fits }
    → new.outbox.calls ≡ reserved.calls ++ Send conn (length piece) true ∷ []
    → ((c : ℕ) → bytes_on new.outbox c ≡ bytes_on reserved c ++ (if conn == c then piece else []))
    → new.script ≡ old.script → new.dialled ≡ old.dialled → AddsCall old new (send conn piece true)
unfolding is_dialled
send-kept old new reserved fits conn piece room fit after calls bytes script dialled = record {
  was = told-before old.outbox.overrun _ _ (sym room ∙ fit);
  script = script;
  calls = calls ∙ ap (λ (o : Done). o.calls ++ Send conn (length piece) true ∷ []) after;
  sent = λ c. bytes c ∙ ap (λ (o : Done). bytes_on o c ++ (if conn == c then piece else [])) after;
  dialled = λ c above. (subst (λ n. n < c) dialled above, refl);
}

-- no dial, no number
pub none-dialled : (last : ℕ) (call : Call) → ((conn : ℕ) → is_dialled conn (called call ∷ []) ≡ false)
    → (conn : ℕ) → last < conn → (last < conn) × (is_dialled conn (called call ∷ []) ≡ false)
none-dialled last call none conn above = (above, none conn)
