-- Lemmas on reads, one after another.
use Rattle.std.proofs.Common.{◌≡◌, ◌≢◌, ℕ, ◌+◌, ◌-◌, ◌<◌, ◌≤◌, min, List, [], ◌++◌, length, take, drop, Option, Some, None, Result, Ok, Err, IfSome, refl, sym, ap, ◌∙◌, append-nil, subst, arith, length-append, length-drop, take-append-drop}
use Rattle.std.proofs.lemmas.List.{take_at, take_all, length-take-le, nil_from_length, drop-drop}
use Rattle.std.proofs.KnownBytes.{Consumes-trans}
use Rattle.std.specs.Io.KnownBytes.{Consumes, ReadConsumes, IsAtEnd}
use Rattle.hy_base.specs.declared.blob.Blob.{Blob}
use Rattle.hy_base.specs.declared.failure.Failed.{Failed}
use Rattle.hy_base.specs.declared.reading.ReadAllFault.{ReadAllFault}
use Rattle.hy_base.specs.declared.reading.ReadAllFault.TheVariants.{ReadFault, TooLong, NoMemory}
use Rattle.hy_base.specs.Source.{Reading, ReadsText}

-- what a call took, where the next one took no byte
pub Consumes-none : (old between new : Option (List ℕ)) (taken : List ℕ) → Consumes old between taken → Consumes between new [] → Consumes old new taken
Consumes-none old between new taken p q = subst (Consumes old new) (append-nil taken) (Consumes-trans old between new taken [] p q)

-- a read into the front of a buffer, which gives as much as the cut, the buffer and the rest allow
pub ReadConsumes-front : (bytes buffer given : List ℕ) (at cut count : ℕ) → at ≤ length bytes → 1 ≤ cut
    → count ≡ min cut (min (length buffer) (length (take (length bytes - at) (drop at bytes))))
    → given ≡ take count (take (length bytes - at) (drop at bytes))
    → ReadConsumes {E = Failed} (Some (drop at bytes)) (Some (drop (at + count) bytes)) (Ok count) (given ++ drop count buffer)
ReadConsumes-front bytes buffer given at cut count in_range positive is gives =
    let rest = drop at bytes in
    let whole : take (length bytes - at) rest ≡ rest = take_all (length bytes - at) rest (omega (arith, length-drop at bytes)) in
    let fits : count ≡ min cut (min (length buffer) (length rest)) = is ∙ ap (λ piece. min cut (min (length buffer) (length piece))) whole in
    let inside : count ≤ length rest = omega arith in
    let front : given ≡ take count rest = gives ∙ ap (take count) whole in
    let size : length given ≡ count = ap length front ∙ length-take-le count rest inside in
    let same : take count (given ++ drop count buffer) ≡ take count rest = take_at given (drop count buffer) count size ∙ front in
    let after : drop (at + count) bytes ≡ drop count rest = sym (drop-drop count at bytes) in (
      sym (ap (λ piece. piece ++ drop (at + count) bytes) same ∙ ap (λ piece. take count rest ++ piece) after ∙ take-append-drop count rest),
      λ none some. nil_from_length (drop (at + count) bytes)
          (omega (arith, length-drop (at + count) bytes, length-drop at bytes, length-append given (drop count buffer), length-drop count buffer)),
    )

-- a source that was read up to a limit failed otherwise
pub Reading-stopped : (old new : Option (List ℕ)) (limit : ℕ) (fault : ReadAllFault) (taken : List ℕ)
    → fault ≢ TooLong → Consumes old new taken → length taken ≤ limit → Reading old new limit (Err fault)
Reading-stopped old new limit fault taken other takes within = record {
  taken = taken;
  takes = takes;
  too_long = (λ is. absurd (other (let same : fault ≡ TooLong = cc in same)), λ over. absurd (omega arith));
  whole = tt;
}

-- a source that was read up to a limit has bytes past it
pub Reading-over : (old new : Option (List ℕ)) (limit : ℕ) (taken : List ℕ)
    → Consumes old new taken → limit < length taken → Reading old new limit (Err TooLong)
Reading-over old new limit taken takes over = record {
  taken = taken;
  takes = takes;
  too_long = (λ is. over, λ past. refl);
  whole = tt;
}

-- a source that was read up to a limit is at its end
pub Reading-ended : (old new : Option (List ℕ)) (limit : ℕ) (taken : List ℕ)
    → Consumes old new taken → length taken ≤ limit → IsAtEnd new → Reading old new limit (Ok taken)
Reading-ended old new limit taken takes within end = record {
  taken = taken;
  takes = takes;
  too_long = (λ is. absurd (let no : ⊥ = cc in no), λ over. absurd (omega arith));
  whole = (refl, end);
}

-- where a source told its text before it was read up to a limit, the answer is about that text
pub Reading-told : (old new : Option (List ℕ)) (limit : ℕ) (result : Result Blob ReadAllFault)
    → Reading old new limit result → IfSome old (λ text. ReadsText text limit result)
Reading-told None new limit result reading = tt
Reading-told (Some text) None limit result reading = absurd reading.takes
Reading-told (Some text) (Some rest) limit (Ok blob) reading =
    let taken = reading.taken in
    let all : text ≡ taken = reading.takes ∙ ap (λ piece. taken ++ piece) reading.whole.1 ∙ append-nil taken in
    let fits : limit < length taken → ⊥ = λ over. let too_long : Ok blob ≡ Err TooLong = reading.too_long.1 over in cc in
    (reading.whole.0 ∙ sym all, omega (arith, fits, ap length reading.whole.0))
Reading-told (Some text) (Some rest) limit (Err ReadFault) reading = tt
Reading-told (Some text) (Some rest) limit (Err TooLong) reading =
    let over : limit < length reading.taken = reading.too_long.0 refl in
    rw reading.takes (omega (arith, over, length-append reading.taken rest))
Reading-told (Some text) (Some rest) limit (Err NoMemory) reading = tt
