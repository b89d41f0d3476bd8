use Rattle.hy_serve.proofs.Sendable.{say-sendable}
use Rattle.hy_serve.proofs.cloud_server.CloudServer.answer.Goals as goal

pub answer_with-requires : goal.answer_with-requires
answer_with-requires c = say-sendable c.args.self.now.cloud c.in-Asks.wish c.in_ok-say-in-Asks.say c.requires.stocked
    (λ wishes stocks. c.in_ok-say-in-Asks.ensures.says wishes stocks.stands)
