use Rattle.std.proofs.Common.{map, sym, subst}
use Rattle.ua_headline.specs.Clients.{turn_of}
use Rattle.ua_headline.specs.EachCall.{operations_of}
use Rattle.ua_headline.proofs.AsAnswered.{AreEncodable, each_after, rounds_encodable}
use Rattle.ua_headline.proofs.reply_laws.connected_replies_are_the_responses.Goals as goal

pub returns : goal.returns
returns g c = record {
  replied = λ replies e deeds requests x y read written before after found h k j sound.
      let a = k.answers h.done.did.last h.at in
      each_after e j.can sound (operations_of (map turn_of deeds)) requests (replies found)
      (subst AreEncodable (sym a.parts) (rounds_encodable a.rounds))
      (c.connected_calls_are_answered.ensures.replied replies e deeds requests x y read written before after found h k j);
}
