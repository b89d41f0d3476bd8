use Rattle.hy_code.proofs.AnyParts.{any_parts}
use Rattle.hy_code.proofs.laws.any_parts_rebuild.Goals as goal

pub returns : goal.returns
returns c = any_parts
