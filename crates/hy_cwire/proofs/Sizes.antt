-- What the head of a request comes to: a body of at most the bytes of a value, or a fault that needs no end of the connection.
use Rattle.std.proofs.Common.{◌≡◌, ◌≢◌, ℕ, ◌≤◌, nat_lt, Bool, true, false, List, [], ◌∷◌, Option, Some, None, Result, Ok, Err, sym, subst, arith, map, codes}
use Rattle.httparse.specs.Spans.{name_and_value}
use Rattle.std.proofs.Math.Logic.{⊎_elim}
use Rattle.std.proofs.lemmas.Bool.{cases_Bool}
use Rattle.std.proofs.lemmas.Bool.Decides.{nat_tests}
use Rattle.httparse.specs.Grammar.{RequestHead}
use Rattle.hy_base.specs.declared.limits.TheConstants.{MAX_VALUE}
use Rattle.hy_record.specs.Stamp.{Timestamp}
use Rattle.hy_cwire.specs.declared.ask_head.AskHead.{AskHead}
use Rattle.hy_cwire.specs.declared.fault.HttpFault.{HttpFault}
use Rattle.hy_cwire.specs.declared.fault.HttpFault.TheVariants.{Cut, Coding, LengthTwice, NoLength, BodyTooLong, NotHead, BadMethod, BadTarget}
use Rattle.hy_cwire.specs.declared.kind.WishKind.{WishKind}
use Rattle.hy_cwire.specs.declared.kind.WishKind.TheVariants.{Put, Get, Delete}
use Rattle.hy_cwire.specs.Lengths.{values_named, unless_coded, size_by, at_most, length_of}
use Rattle.hy_cwire.specs.Asks.{kind_named, has_body, most_bytes, ask_size, with_size, ask_of, JudgesKind, AskComesTo}

-- a fault that is not that of a message cut short
abbrev pub IsUncut : HttpFault → Type 0
IsUncut wrong = (have want : ℕ) → wrong ≢ Cut have want

abbrev pub IsWithin : ℕ → Result ℕ HttpFault → Type 0
IsWithin limit (Ok size) = size ≤ limit
IsWithin limit (Err wrong) = IsUncut wrong

at-most : (limit size : ℕ) → IsWithin limit (at_most limit (Some size))
at-most limit size = ⊎_elim
    (λ y. rw y (λ have want is. absurd (let no : BodyTooLong size ≡ Cut have want = is in cc)))
    (λ n. rw n (let fits : size ≤ limit = grind (arith, nat_tests) in fits))
    (cases_Bool (nat_lt limit size))

at-most-any : (limit : ℕ) (size : Option ℕ) → IsWithin limit (at_most limit size)
at-most-any limit None = λ have want is. absurd (let no : NoLength ≡ Cut have want = is in cc)
at-most-any limit (Some size) = at-most limit size

size-within : (coded lengths : List (List ℕ)) (needed : Bool) (limit : ℕ) → IsWithin limit (unless_coded coded (size_by needed limit lengths))
size-within (coding ∷ more) lengths needed limit = λ have want is. absurd (let no : Coding ≡ Cut have want = is in cc)
size-within [] [] true limit = λ have want is. absurd (let no : NoLength ≡ Cut have want = is in cc)
size-within [] [] false limit = omega arith
size-within [] (value ∷ []) needed limit = at-most-any limit (length_of value)
size-within [] (value ∷ other ∷ more) needed limit = λ have want is. absurd (let no : LengthTwice ≡ Cut have want = is in cc)

abbrev pub IsFit : Result AskHead HttpFault → Type 0
IsFit (Ok head) = head.size ≤ MAX_VALUE
IsFit (Err wrong) = IsUncut wrong

most-fits : (kind : WishKind) → most_bytes kind ≤ MAX_VALUE
most-fits Put = omega arith
most-fits Get = omega arith
most-fits Delete = omega arith

sized-fits : (kind : WishKind) (name : List ℕ × Timestamp) (size : Result ℕ HttpFault) → IsWithin (most_bytes kind) size → IsFit (with_size kind name size)
sized-fits kind name (Ok size) within = omega (arith, within, most-fits kind)
sized-fits kind name (Err wrong) within = within

named-fits : (kind : WishKind) (name : Option (List ℕ × Timestamp)) (h : RequestHead) → IsFit (ask_of kind name h)
named-fits kind None h = λ have want is. absurd (let no : BadTarget ≡ Cut have want = is in cc)
named-fits kind (Some name) h = sized-fits kind name (ask_size kind h)
    (size-within (values_named (codes "transfer-encoding") (map name_and_value h.fields)) (values_named (codes "content-length") (map name_and_value h.fields)) (has_body kind) (most_bytes kind))

kind-fits : (kind : Option WishKind) (h : RequestHead) (result : Result AskHead HttpFault) → JudgesKind kind h result → IsFit result
kind-fits None h result is = subst IsFit (sym is) (λ have want e. absurd (let no : BadMethod ≡ Cut have want = e in cc))
kind-fits (Some kind) h result (name, named, is) = subst IsFit (sym is) (named-fits kind name h)

-- a request that was read has a body of at most the bytes of a value
pub ask-fits : (block : List ℕ) (result : Result AskHead HttpFault) → AskComesTo block result → IsFit result
ask-fits block result = ⊎_elim
    (λ (h, reads, judges). kind-fits (kind_named h.method) h result judges)
    (λ (none, is). subst IsFit (sym is) (λ have want e. absurd (let no : NotHead _ ≡ Cut have want = e in cc)))
