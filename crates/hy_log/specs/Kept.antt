-- What messages are that are kept.
use Rattle.std.specs.Prelude.{ℕ}
use Rattle.hy_record.specs.declared.cloud.CloudAct.{CloudAct}
use Rattle.hy_record.specs.declared.cloud.CloudAct.TheVariants as acts
use Rattle.hy_record.specs.declared.cloud.CloudAsk.{CloudAsk}
use Rattle.hy_log.specs.declared.kept.KeptAct.{KeptAct}
use Rattle.hy_log.specs.declared.kept.KeptAct.TheVariants as kept_acts
use Rattle.hy_log.specs.declared.kept.KeptRequest.{KeptRequest}
use Rattle.hy_log.specs.declared.kept.KeptPost.{KeptPost}
use Rattle.hy_log.specs.declared.kept.KeptPost.TheVariants as kept_posts
use Rattle.hy_log.specs.declared.post.Post.{Post}
use Rattle.hy_log.specs.declared.post.Post.TheVariants as posts

-- a message, and the step at which it was sent
pub record Posted : Type 0 where
  pub step : ℕ
  pub post : Post

abbrev pub act_in : KeptAct → CloudAct
act_in (kept_acts.Put bytes) = acts.Put bytes.value
act_in kept_acts.Get = acts.Get
act_in kept_acts.Delete = acts.Delete

abbrev pub request_in : KeptRequest → CloudAsk
request_in r = record {
  client = r.client;
  op = r.op;
  cloud = r.cloud;
  wish = record {
    key = r.key.value;
    stamp = r.stamp;
    act = act_in r.act;
  };
}

-- the message that is kept so
abbrev pub post_in : KeptPost → Post
post_in (kept_posts.Ask ask) = posts.Ask ask.value
post_in (kept_posts.Request request) = posts.Request (request_in request)
post_in (kept_posts.Answer cue) = posts.Answer cue.value
