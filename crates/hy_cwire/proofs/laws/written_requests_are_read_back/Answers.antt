use Rattle.std.proofs.Common.{◌≡◌, ◌++◌, ap, ◌∙◌, Ok}
use Rattle.hy_cwire.specs.declared.ask_head.AskHead.{AskHead}
use Rattle.hy_cwire.specs.declared.progress.Progress.{Progress}
use Rattle.hy_cwire.specs.declared.progress.Progress.TheVariants.{Body}
use Rattle.hy_cwire.specs.Asks.{AskComesTo, wish_in}
use Rattle.hy_cwire.specs.Readers.{ask_body_size}
use Rattle.hy_cwire.specs.Stages.{next_answer}
use Rattle.hy_cwire.specs.Writing.{ask_bytes}
use Rattle.hy_cwire.proofs.Once.{ask-one, stage-one}
use Rattle.hy_cwire.proofs.Requests.{ask_head_of, body_in, ask-stage, ask-given}
use Rattle.hy_cwire.proofs.laws.written_requests_are_read_back.Goals as goal

pub returns : goal.returns
returns c = λ wish port behind at fits small live here.
    let stage : Progress AskHead = Body (ask_head_of wish) (body_in wish.act) in
    let same : at ≡ stage = stage-one AskComesTo ask_body_size (ask_bytes wish port ++ behind) at stage ask-one live tt here (ask-stage wish port behind fits small) in
    ap (next_answer wish_in) same ∙ ap Ok (ask-given wish)
