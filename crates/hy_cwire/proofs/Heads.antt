-- A head whose lines end in CR LF ends at its first CR LF CR LF, whatever follows.
use Rattle.std.proofs.Common.{◌≡◌, ◌≢◌, ℕ, zero, suc, ◌+◌, ◌-◌, ◌<◌, ◌≤◌, Bool, true, false, List, [], ◌∷◌, ◌++◌, length, take, All, refl, sym, ap, subst, ◌∙◌, append_assoc, arith, inl, inr}
use Rattle.std.specs.List.{flat_map}
use Rattle.std.proofs.Math.Seq.{take-append-add}
use Rattle.std.proofs.lemmas.Bool.{cases_lt, false≢true}
use Rattle.std.proofs.lemmas.List.{append-nil, take_at, take-append-le, length-append}
use Rattle.std.proofs.lemmas.List.Elements.{All-cons, All-head, All-tail, All-append, All-weaker}
use Rattle.hy_record.proofs.Names.{split_end}
use Rattle.httparse.specs.Grammar.{is_token_byte, is_value_byte, AllPass, LineEnd, crlf, Field, IsField, print_field, print_section}
use Rattle.hy_cwire.specs.declared.block.TheConstants.{MAX_HEAD}
use Rattle.hy_cwire.specs.Block.{end_of_head, ends_head, IsBlock}
use Rattle.hy_cwire.proofs.Blocks.{head_ends, ends-head, no_end, no_head_yet}

-- the text has no line feed
abbrev pub HasNoFeed : List ℕ → Type 0
HasNoFeed text = All (λ b. b ≢ 10) text

-- behind the front no head ends in the text
abbrev pub IsQuiet : List ℕ → List ℕ → Type 0
IsQuiet front text = (n : ℕ) → 0 < n → n ≤ length text → ends_head (front ++ take n text) ≡ false

quiet-append : (front a b : List ℕ) → IsQuiet front a → IsQuiet (front ++ a) b → IsQuiet front (a ++ b)
quiet-append front a b one other n some within =
    elim (cases_lt (length a) n) [
      | inl more ↦
          let m = n - length a in
          let is : length a + m ≡ n = omega arith in
          let cut : front ++ take n (a ++ b) ≡ (front ++ a) ++ take m b = ap (λ (k : ℕ). front ++ take k (a ++ b)) (sym is) ∙ ap (λ (t : List ℕ). front ++ t) (take-append-add a b m) ∙ sym (append_assoc front a (take m b)) in
          ap ends_head cut ∙ other m (omega arith) (omega (arith, length-append a b))
      | inr less ↦ ap (λ (t : List ℕ). ends_head (front ++ t)) (take-append-le n a b less) ∙ one n some less
    ]

quiet-byte : (front : List ℕ) (b : ℕ) → b ≢ 10 → IsQuiet front (b ∷ [])
quiet-byte front b other n some within =
    let one : n ≡ 1 = omega (arith, within) in
    ap (λ (k : ℕ). ends_head (front ++ take k (b ∷ []))) one ∙ no_end front b other

-- a line feed behind a CR ends no head where no line feed stands before them
no-end-of-line : (front : List ℕ) (x : ℕ) → x ≢ 10 → ends_head (front ++ x ∷ 13 ∷ 10 ∷ []) ≡ false
no-end-of-line front x other = at (ends_head (front ++ x ∷ 13 ∷ 10 ∷ [])) refl
  where
    at : (b : Bool) → ends_head (front ++ x ∷ 13 ∷ 10 ∷ []) ≡ b → ends_head (front ++ x ∷ 13 ∷ 10 ∷ []) ≡ false
    at true is =
        let bytes = front ++ x ∷ 13 ∷ 10 ∷ [] in
        let before = take (length bytes - 4) bytes in
        let parts : front ++ x ∷ 13 ∷ 10 ∷ [] ≡ (before ++ 13 ∷ []) ++ 10 ∷ 13 ∷ 10 ∷ [] = head_ends bytes is ∙ sym (append_assoc before (13 ∷ []) (10 ∷ 13 ∷ 10 ∷ [])) in
        let same = (split_end front (x ∷ 13 ∷ 10 ∷ []) (before ++ 13 ∷ []) (10 ∷ 13 ∷ 10 ∷ []) parts refl).1 in
        absurd (other (let e = same in cc))
    at false is = is

quiet-line_end : (front : List ℕ) (x : ℕ) → x ≢ 10 → IsQuiet (front ++ x ∷ []) (13 ∷ 10 ∷ [])
quiet-line_end front x other n some within =
    elim (cases_lt 1 n) [
      | inl more ↦
          let two : n ≡ 2 = omega (arith, within) in
          ap (λ (k : ℕ). ends_head ((front ++ x ∷ []) ++ take k (13 ∷ 10 ∷ []))) two ∙ ap ends_head (append_assoc front (x ∷ []) (13 ∷ 10 ∷ [])) ∙ no-end-of-line front x other
      | inr less ↦
          let one : n ≡ 1 = omega arith in
          let cr : 13 ≢ 10 = λ e. omega (arith, e) in
          ap (λ (k : ℕ). ends_head ((front ++ x ∷ []) ++ take k (13 ∷ 10 ∷ []))) one ∙ no_end (front ++ x ∷ []) 13 cr
    ]

-- a line that is not empty
quiet-line : (front line : List ℕ) → 0 < length line → HasNoFeed line → IsQuiet front (line ++ 13 ∷ 10 ∷ [])
quiet-line front [] some none = absurd (omega (arith, some))
quiet-line front (x ∷ []) some none =
    let other = All-head (λ b. b ≢ 10) x [] none in
    quiet-append front (x ∷ []) (13 ∷ 10 ∷ []) (quiet-byte front x other) (quiet-line_end front x other)
quiet-line front (x ∷ y ∷ line) some none =
    let P : ℕ → Type 0 = λ b. b ≢ 10 in
    quiet-append front (x ∷ []) ((y ∷ line) ++ 13 ∷ 10 ∷ []) (quiet-byte front x (All-head P x (y ∷ line) none))
    (quiet-line (front ++ x ∷ []) (y ∷ line) (omega arith) (All-tail P x (y ∷ line) none))

-- ---- what the grammar lets into a line

pub passes-no-feed : (test : ℕ → Bool) (text : List ℕ) → test 10 ≡ false → AllPass test text → HasNoFeed text
passes-no-feed test text fails all =
    All-weaker (λ (b : ℕ). test b ≡ true) (λ (b : ℕ). b ≢ 10) (λ b is same. false≢true (sym fails ∙ ap test (sym same) ∙ is)) text all

pub token-no-feed : (text : List ℕ) → AllPass is_token_byte text → HasNoFeed text
unfolding is_token_byte
token-no-feed text all = passes-no-feed is_token_byte text refl all

pub one-no-feed : (b : ℕ) (text : List ℕ) → b ≢ 10 → HasNoFeed text → HasNoFeed (b ∷ text)
one-no-feed b text other none = All-cons (λ (x : ℕ). x ≢ 10) b text other none

pub both-no-feed : (a b : List ℕ) → HasNoFeed a → HasNoFeed b → HasNoFeed (a ++ b)
both-no-feed a b one other = All-append (λ (x : ℕ). x ≢ 10) a b one other

-- ---- fields

-- a field of the grammar whose line ends in CR LF
pub record IsPlain (f : Field) : Type 0 where
  pub field : IsField f
  pub end : f.end ≡ crlf

abbrev pub ArePlain : List Field → Type 0
ArePlain [] = Unit {0}
ArePlain (f ∷ fs) = IsPlain f × ArePlain fs

line_of : Field → List ℕ
line_of f = f.name ++ 58 ∷ f.raw

field-line : (f : Field) → IsPlain f → print_field f ≡ line_of f ++ 13 ∷ 10 ∷ []
unfolding line_of
field-line f plain = ap (λ (e : LineEnd). print_field (record f { end = e })) plain.end

line-fits : (f : Field) → IsPlain f → (0 < length (line_of f)) × HasNoFeed (line_of f)
unfolding line_of
line-fits f plain =
    let colon : 58 ≢ 10 = λ e. omega (arith, e) in
    let raw : HasNoFeed f.raw = passes-no-feed is_value_byte f.raw refl plain.field.raw in (
      omega (arith, length-append f.name (58 ∷ f.raw)),
      both-no-feed f.name (58 ∷ f.raw) (token-no-feed f.name plain.field.name.1) (one-no-feed 58 f.raw colon raw),
    )

quiet-fields : (front : List ℕ) (fs : List Field) → ArePlain fs → IsQuiet front (flat_map print_field fs)
quiet-fields front [] plain = λ n some within. absurd (omega (arith, some, within))
quiet-fields front (f ∷ fs) plain =
    let fits = line-fits f plain.0 in
    let line : IsQuiet front (print_field f) = subst (IsQuiet front) (sym (field-line f plain.0)) (quiet-line front (line_of f) fits.0 fits.1) in
    quiet-append front (print_field f) (flat_map print_field fs) line (quiet-fields (front ++ print_field f) fs plain.1)

-- the last line ends in CR LF
ends-line : (start : List ℕ) (fs : List Field) → ArePlain fs → (front : List ℕ) × ((start ++ 13 ∷ 10 ∷ []) ++ flat_map print_field fs ≡ front ++ 13 ∷ 10 ∷ [])
ends-line start [] plain = (start, append-nil (start ++ 13 ∷ 10 ∷ []))
ends-line start (f ∷ fs) plain =
    let head = start ++ 13 ∷ 10 ∷ [] in
    let later = ends-line (head ++ line_of f) fs plain.1 in
    let regrouped : head ++ (print_field f ++ flat_map print_field fs) ≡ ((head ++ line_of f) ++ 13 ∷ 10 ∷ []) ++ flat_map print_field fs =
    sym (append_assoc head (print_field f) (flat_map print_field fs)) ∙ ap (λ (t : List ℕ). (head ++ t) ++ flat_map print_field fs) (field-line f plain.0)
    ∙ ap (λ (t : List ℕ). t ++ flat_map print_field fs) (sym (append_assoc head (line_of f) (13 ∷ 10 ∷ []))) in
    (later.0, regrouped ∙ later.1)

-- ---- heads

-- a start line and a section
abbrev pub plain_head : List ℕ → List Field → List ℕ
plain_head start fs = (start ++ 13 ∷ 10 ∷ []) ++ print_section fs crlf

quiet-head : (start : List ℕ) (fs : List Field) → 0 < length start → HasNoFeed start → ArePlain fs → (n : ℕ) → n < length (plain_head start fs) → ends_head (take n (plain_head start fs)) ≡ false
quiet-head start fs some none plain zero short = no_head_yet
quiet-head start fs some none plain (suc m) short =
    let lines = (start ++ 13 ∷ 10 ∷ []) ++ flat_map print_field fs in
    let cr : 13 ≢ 10 = λ e. omega (arith, e) in
    let front : IsQuiet [] lines = quiet-append [] (start ++ 13 ∷ 10 ∷ []) (flat_map print_field fs) (quiet-line [] start some none) (quiet-fields (start ++ 13 ∷ 10 ∷ []) fs plain) in
    let all : IsQuiet [] (lines ++ 13 ∷ []) = quiet-append [] lines (13 ∷ []) front (quiet-byte lines 13 cr) in
    let parts : plain_head start fs ≡ (lines ++ 13 ∷ []) ++ 10 ∷ [] = sym (append_assoc (start ++ 13 ∷ 10 ∷ []) (flat_map print_field fs) (13 ∷ 10 ∷ [])) ∙ sym (append_assoc lines (13 ∷ []) (10 ∷ [])) in
    let within : suc m ≤ length (lines ++ 13 ∷ []) = omega (arith, short, ap (length {A = ℕ}) parts, length-append (lines ++ 13 ∷ []) (10 ∷ [])) in
    ap (λ (t : List ℕ). ends_head (take (suc m) t)) parts ∙ ap ends_head (take-append-le (suc m) (lines ++ 13 ∷ []) (10 ∷ []) within) ∙ all (suc m) (omega arith) within

head-is-end : (start : List ℕ) (fs : List Field) → ArePlain fs → ends_head (plain_head start fs) ≡ true
head-is-end start fs plain =
    let last = ends-line start fs plain in
    let parts : plain_head start fs ≡ last.0 ++ end_of_head = sym (append_assoc (start ++ 13 ∷ 10 ∷ []) (flat_map print_field fs) (13 ∷ 10 ∷ [])) ∙ ap (λ (t : List ℕ). t ++ 13 ∷ 10 ∷ []) last.1 ∙ append_assoc last.0 (13 ∷ 10 ∷ []) (13 ∷ 10 ∷ []) in
    ends-head (plain_head start fs) last.0 parts

-- the block of such a head is the head
pub head-block : (start : List ℕ) (fs : List Field) (behind : List ℕ) → 0 < length start → HasNoFeed start → ArePlain fs → length (plain_head start fs) ≤ MAX_HEAD → IsBlock (plain_head start fs ++ behind) (length (plain_head start fs))
head-block start fs behind some none plain small =
    let block = plain_head start fs in
    record {
      within = omega (arith, length-append block behind);
      small = small;
      ends = ap ends_head (take_at block behind (length block) refl) ∙ head-is-end start fs plain;
      first = λ n less. ap ends_head (take-append-le n block behind (omega (arith, less))) ∙ quiet-head start fs some none plain n less;
    }
