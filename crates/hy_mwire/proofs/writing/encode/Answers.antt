-- The length is written over the four bytes that were left for it.
use Rattle.std.proofs.Common.{◌≡◌, ◌∙◌, length, arith}
use Rattle.hy_mwire.specs.Frames.{body_of, frame_of}
use Rattle.hy_mwire.proofs.Lengths.{body_size, room_length, lengthened}
use Rattle.hy_mwire.proofs.writing.encode.Goals as goal

pub write_length-requires-clause-room : goal.write_length-requires-clause-room
write_length-requires-clause-room c =
    let four : length c.in_ok-frame.frame.items ≡ 4 = omega (arith, c.in_ok-frame.ensures.len, c.in_ok-frame.frame.ok.0) in
    omega (arith, room_length c.in_ok-frame.frame.items c.push_body.new.out.items (body_of c.args.message.now) four c.in_ok-push_body.ensures.bytes)

pub write_length-requires-clause-few : goal.write_length-requires-clause-few
write_length-requires-clause-few c =
    let four : length c.in_ok-frame.frame.items ≡ 4 = omega (arith, c.in_ok-frame.ensures.len, c.in_ok-frame.frame.ok.0) in
    let total = room_length c.in_ok-frame.frame.items c.push_body.new.out.items (body_of c.args.message.now) four c.in_ok-push_body.ensures.bytes in
    omega (arith, total, body_size c.args.message.now c.in_ok-push_body.ensures.known)

pub returns-clause-frame : goal.returns-clause-frame
unfolding frame_of
returns-clause-frame c =
    let four : length c.in_ok-frame.frame.items ≡ 4 = omega (arith, c.in_ok-frame.ensures.len, c.in_ok-frame.frame.ok.0) in
    c.of.ensures ∙ c.write_length.ensures
    ∙ lengthened c.in_ok-frame.frame.items c.push_body.new.out.items (body_of c.args.message.now) four c.in_ok-push_body.ensures.bytes
