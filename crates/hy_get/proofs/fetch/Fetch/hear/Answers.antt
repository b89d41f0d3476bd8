use Rattle.hy_get.proofs.fetch.Fetch.hear.Goals as goal

pub returns-in-Some-clause-hears : goal.returns-in-Some-clause-hears
returns-in-Some-clause-hears c = c.keep.ensures.keeps _
