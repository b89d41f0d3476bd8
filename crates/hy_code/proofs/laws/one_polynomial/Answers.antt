use Rattle.hy_code.proofs.Bytes.{only_polynomial}
use Rattle.hy_code.proofs.laws.one_polynomial.Goals as goal

pub returns : goal.returns
returns c = only_polynomial
