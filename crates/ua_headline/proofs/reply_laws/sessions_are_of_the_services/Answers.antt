use Rattle.ua_server.specs.Served.{channel_in}
use Rattle.ua_headline.proofs.SessionMade.{made}
use Rattle.ua_headline.proofs.reply_laws.sessions_are_of_the_services.Goals as goal

pub returns : goal.returns
returns c = record {
  begun = λ e deeds policy_id moment x y read written before after token h k j sound.
      made c.ends_connect.ensures e deeds (channel_in c.args.server.now) x y read written h before after k.sent k.moves k.same j sound policy_id moment token
      (k.answers h.done.did.last h.at);
}
