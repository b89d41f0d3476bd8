-- The clouds after the first are led by commas.
use Rattle.hy_text.proofs.WrittenClouds.{cloud_word_joined}
use Rattle.hy_text.proofs.clouds.push_cloud_list.Goals as goal

pub returns : goal.returns
returns c =
    cloud_word_joined _ _ _ _ _ _ c.in-Some.ensures.cases.0
    (rw c.from.ensures at c.in_ok-push_number_word.ensures) c.in_ok-push_numbers.ensures
