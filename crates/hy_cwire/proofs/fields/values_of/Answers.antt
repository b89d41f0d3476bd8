-- One more field.
use Rattle.std.proofs.Common.{◌≡◌, ℕ, ◌+◌, ◌<◌, List, [], ◌∷◌, ◌++◌, length, map, take, drop, get_or, true, false, sym, ap, subst, ◌∙◌, Bor}
use Rattle.std.proofs.lemmas.List.{take_more, take-append-drop, map-append}
use Rattle.httparse.specs.declared.spans.HeaderSpan.{HeaderSpan}
use Rattle.httparse.specs.Spans.{header_bytes}
use Rattle.hy_cwire.specs.declared.fields.Named.{Named}
use Rattle.hy_cwire.specs.declared.fields.Named.TheVariants.{None, One}
use Rattle.hy_cwire.specs.Lengths.{Pair, has_name, values_named}
use Rattle.hy_cwire.specs.Named.{IsNamed}
use Rattle.hy_cwire.proofs.Values.{values-nil, values-push, values-other, two-values}
use Rattle.hy_cwire.proofs.fields.values_of.Goals as goal
use Rattle.hy_cwire.proofs.fields.values_of.Goals.{then-has_this_name+in-None, else-has_this_name}

abbrev empty_header : HeaderSpan
empty_header = record { name = record { start = 0; end = 0 }; value = record { start = 0; end = 0 } }

abbrev pairs : List ℕ → List HeaderSpan → List Pair
pairs block headers = map (header_bytes block) headers

-- the fields before one, and that one
one_more : (block : List ℕ) (headers : List HeaderSpan) (i : ℕ) → i < length headers → pairs block (take (i + 1) headers) ≡ pairs block (take i headers) ++ header_bytes block (get_or headers i empty_header) ∷ []
one_more block headers i inside = ap (map (header_bytes block)) (take_more headers i empty_header inside) ∙ map-append (header_bytes block) (take i headers) (get_or headers i empty_header ∷ [])

all_parts : (block : List ℕ) (headers : List HeaderSpan) (i : ℕ) → i < length headers → pairs block headers ≡ (pairs block (take i headers) ++ header_bytes block (get_or headers i empty_header) ∷ []) ++ pairs block (drop (i + 1) headers)
all_parts block headers i inside =
    ap (map (header_bytes block)) (sym (take-append-drop (i + 1) headers)) ∙ map-append (header_bytes block) (take (i + 1) headers) (drop (i + 1) headers) ∙ ap (λ (t : List Pair). t ++ pairs block (drop (i + 1) headers)) (one_more block headers i inside)

-- the first field of the name
found_one : (name : List ℕ) (before fields : List Pair) (one : Pair) (found after : Named) (value : Bor (List ℕ)) → fields ≡ before ++ one ∷ [] → has_name name one ≡ true → IsNamed (values_named name before) found → found ≡ None → value.now ≡ one.1 → after ≡ One value → IsNamed (values_named name fields) after
found_one name before fields one found after value parts is named none value_is after_is =
    let nothing : values_named name before ≡ [] = subst (λ (f : Named). IsNamed (values_named name before) f) none named in
    let values : values_named name fields ≡ value.now ∷ [] = ap (values_named name) parts ∙ values-push name before one is ∙ ap (λ (v : List (List ℕ)). v ++ one.1 ∷ []) nothing ∙ ap (λ (v : List ℕ). v ∷ []) (sym value_is) in
    subst (λ (f : Named). IsNamed (values_named name fields) f) (sym after_is) values

-- another field
same_found : (name : List ℕ) (before fields : List Pair) (one : Pair) (found after : Named) → fields ≡ before ++ one ∷ [] → has_name name one ≡ false → IsNamed (values_named name before) found → after ≡ found → IsNamed (values_named name fields) after
same_found name before fields one found after parts is named after_is =
    let values : values_named name fields ≡ values_named name before = ap (values_named name) parts ∙ values-other name before one is in
    subst (λ (f : Named). IsNamed (values_named name fields) f) (sym after_is) (subst (λ (v : List (List ℕ)). IsNamed v found) (sym values) named)

pub loop-header-init : goal.loop-header-init
loop-header-init c = values-nil c.args.name.now

pub returns-in_default : goal.returns-in_default
returns-in_default c =
    let i = c.loop-header.header-index in
    let one = header_bytes c.args.block.now (get_or c.args.headers.now i empty_header) in
    two-values c.args.name.now (pairs c.args.block.now c.args.headers.now) (pairs c.args.block.now (take i c.args.headers.now)) one (pairs c.args.block.now (drop (i + 1) c.args.headers.now)) c.loop-header.found
    (all_parts c.args.block.now c.args.headers.now i c.loop-header-test.true) (sym c.has_this_name.ensures ∙ c.if-has_this_name.true) c.loop-header.invariant c.in_default.not-None

pub loop-header-preserved : goal.loop-header-preserved
loop-header-preserved c =
    let i = c.loop-header.header-index in
    let block = c.args.block.now in
    let headers = c.args.headers.now in
    let one = header_bytes block (get_or headers i empty_header) in
    let more = one_more block headers i c.loop-header-test.true in
    elim c.if-has_this_name.branch [
      | then-has_this_name+in-None w ↦
          found_one c.args.name.now (pairs block (take i headers)) (pairs block (take (i + 1) headers)) one c.loop-header.found c.if-has_this_name.found w.of.result more (sym c.has_this_name.ensures ∙ w.if-has_this_name.true) c.loop-header.invariant w.in-None.is w.of.ensures w.found-is
      | else-has_this_name w ↦
          same_found c.args.name.now (pairs block (take i headers)) (pairs block (take (i + 1) headers)) one c.loop-header.found c.if-has_this_name.found more (sym c.has_this_name.ensures ∙ w.if-has_this_name.false) c.loop-header.invariant w.found-is
    ]
