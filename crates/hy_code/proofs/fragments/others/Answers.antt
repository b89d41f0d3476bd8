use Rattle.std.proofs.Common.{◌≡◌, ◌-◌, ◌∙◌, ℕ, List, sym, ap, arith, length}
use Rattle.std.specs.List.{flat_map, range_with_len}
use Rattle.hy_base.specs.Shape.{fragment_size}
use Rattle.hy_code.specs.declared.pick.Pick.{Pick}
use Rattle.hy_code.specs.Fragments.{fragment_of, row_at, parts_of}
use Rattle.hy_code.proofs.Blocks.{joined_from, length-joined, rows_of-joined}
use Rattle.hy_code.proofs.FragmentLaws.{length-fragment_of}
use Rattle.hy_code.proofs.fragments.others.Goals as goal

row_is : (value : List ℕ) (k size cloud : ℕ) (picks : List Pick) → size ≡ fragment_size (length value) k → picks ≡ parts_of value k → row_at size picks cloud ≡ fragment_of value k cloud
unfolding fragment_of
row_is value k size cloud picks size_is all =
    ap (λ s. row_at s picks cloud) size_is ∙ ap (λ p. row_at (fragment_size (length value) k) p cloud) all

pub loop-cloud-init : goal.loop-cloud-init
loop-cloud-init c =
    let none : 0 ≡ c.args.k - c.args.k = omega arith in
    c.in_ok-bytes.ensures.items ∙ ap (λ n. flat_map (fragment_of c.args.value.now c.args.k) (range_with_len c.args.k n)) none

pub loop-cloud-preserved : goal.loop-cloud-preserved
loop-cloud-preserved c =
    let value = c.args.value.now in
    let size = c.fragment_size-size.result in
    let row = row_at size c.args.parts.now c.loop-cloud.cloud in
    let appended = c.in_ok-append_row.ensures in
    let through = c.in_ok-polynomials.ensures in
    let view = c.polynomials.view_is in
    joined_from (fragment_of value c.args.k) c.args.k c.loop-cloud.cloud c.loop-cloud.bytes.items c.append_row.new.out.items row
    c.loop-cloud.auto.cloud c.loop-cloud.invariant (cc) (row_is value c.args.k size c.loop-cloud.cloud c.args.parts.now c.fragment_size-size.ensures c.requires.parts)

-- the rows that were made
made : (c : goal.After-loop-cloud) → c.loop-cloud.bytes.items ≡ flat_map (fragment_of c.args.value.now c.args.k) (range_with_len c.args.k (c.args.n - c.args.k))
made c =
    let all : c.loop-cloud.cloud ≡ c.args.n = omega (arith, c.loop-cloud.auto.cloud-end c.requires.parts_fit) in
    c.loop-cloud.invariant ∙ ap (λ m. flat_map (fragment_of c.args.value.now c.args.k) (range_with_len c.args.k (m - c.args.k))) all

sized : (value : List ℕ) (k size : ℕ) → size ≡ fragment_size (length value) k → (cloud : ℕ) → length (fragment_of value k cloud) ≡ size
sized value k size is cloud = length-fragment_of value k cloud ∙ sym is

pub of-requires : goal.of-requires
of-requires c =
    let value = c.args.value.now in
    let size = c.fragment_size-size.result in
    ap length (made c) ∙ length-joined (fragment_of value c.args.k) size (sized value c.args.k size c.fragment_size-size.ensures) c.args.k (c.args.n - c.args.k)

pub returns : goal.returns
returns c =
    let value = c.args.value.now in
    let size = c.fragment_size-size.result in
    let all : c.loop-cloud.cloud ≡ c.args.n = omega (arith, c.loop-cloud.auto.cloud-end c.requires.parts_fit) in
    c.of.ensures
    ∙ rows_of-joined (fragment_of value c.args.k) size (sized value c.args.k size c.fragment_size-size.ensures) c.args.k (c.args.n - c.args.k) c.loop-cloud.bytes.items
    (c.loop-cloud.invariant ∙ ap (λ m. flat_map (fragment_of value c.args.k) (range_with_len c.args.k (m - c.args.k))) all)
