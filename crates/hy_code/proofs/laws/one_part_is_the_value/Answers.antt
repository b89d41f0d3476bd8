use Rattle.hy_code.proofs.FragmentLaws.{fragment_of-one}
use Rattle.hy_code.proofs.laws.one_part_is_the_value.Goals as goal

pub returns : goal.returns
returns c = fragment_of-one
