use Rattle.hy_code.proofs.polynomials.known.Goals as goal

pub returns : goal.returns
returns c = λ place. (c.type_inv.bytes place).fits
