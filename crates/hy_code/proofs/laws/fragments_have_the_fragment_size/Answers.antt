use Rattle.hy_code.proofs.FragmentLaws.{length-fragment_of}
use Rattle.hy_code.proofs.laws.fragments_have_the_fragment_size.Goals as goal

pub returns : goal.returns
returns c = length-fragment_of
