use Rattle.std.proofs.Common.{◌∷◌, ◌+◌, ◌-◌, ℕ, List, length, take, drop, get_or, sym, ap, ◌∙◌, arith, length-drop}
use Rattle.std.proofs.lemmas.List.{get_or-drop}
use Rattle.hy_journal.proofs.Swaps.{front_block, block_there}
use Rattle.hy_journal.proofs.swap.block_at.Goals as goal

pub returns-then-bytes-lt4 : goal.returns-then-bytes-lt4
returns-then-bytes-lt4 c fields spelled gate more long few is =
    let f = front_block c.args.bytes.now fields spelled (gate ∷ more) long few is in
    omega (arith, f.size, c.if-bytes-lt4.true)

pub returns-then-rest-size : goal.returns-then-rest-size
returns-then-rest-size c fields spelled gate more long few is =
    let f = front_block c.args.bytes.now fields spelled (gate ∷ more) long few is in
    let room = ap (length {A = ℕ}) c.split_at.ensures.back ∙ length-drop 4 c.args.bytes.now in
    omega (arith, f.size, f.number, room, c.read_u32-size.ensures, c.if-rest-size.true)

pub returns-then-size-lt10 : goal.returns-then-size-lt10
returns-then-size-lt10 c fields spelled gate more long few is =
    let f = front_block c.args.bytes.now fields spelled (gate ∷ more) long few is in
    omega (arith, f.size, f.number, long, c.read_u32-size.ensures, c.if-size-lt10.true)

pub returns-then-rest-ne-SWAP : goal.returns-then-rest-ne-SWAP
returns-then-rest-ne-SWAP c fields spelled gate more long few is =
    let f = front_block c.args.bytes.now fields spelled (gate ∷ more) long few is in
    c.if-rest-ne-SWAP.true (ap (λ (l : List ℕ). get_or l 0 0) c.split_at.ensures.back ∙ f.kind)

pub returns-then-size-long : goal.returns-then-size-long
returns-then-size-long c fields spelled gate more long few is =
    let f = front_block c.args.bytes.now fields spelled (gate ∷ more) long few is in
    let key = ap (λ (l : List ℕ). get_or l 9 0) c.split_at.ensures.back in
    omega (arith, f.size, f.number, f.at, long, key, c.read_u32-size.ensures, c.if-size-long.true)

pub returns : goal.returns
returns c =
    let bytes = c.args.bytes.now in
    let room = ap (length {A = ℕ}) c.split_at.ensures.back in
    let kind = sym (ap (λ (l : List ℕ). get_or l 0 0) c.split_at.ensures.back) ∙ c.if-rest-ne-SWAP.false in
    let key = ap (λ (l : List ℕ). 17 + get_or l 9 0) c.split_at.ensures.back in
    let long = 17 + get_or c.split_at.result.1.now 9 0 in
    let parts = take (c.read_u32-size.result - 1) (drop 1 c.split_at.result.1.now) in
    let has = block_there bytes parts c.read_u32-size.result long (λ i. omega (arith, c.type_inv.bytes i)) c.read_u32-size.ensures (omega (arith, room, c.if-rest-size.false))
    c.read_u32-size.type_inv kind key c.if-size-long.false (omega (arith, c.type_inv.bytes 13, get_or-drop 4 bytes 9 0, key))
    (ap (λ (l : List ℕ). take (c.read_u32-size.result - 1) (drop 1 l)) c.split_at.ensures.back) in
    rw (c.split_at-2.ensures.front, c.split_at-2.ensures.back) has
