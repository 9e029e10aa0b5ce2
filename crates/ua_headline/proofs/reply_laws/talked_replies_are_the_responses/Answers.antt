use Rattle.std.proofs.Common.{sym, ◌∙◌, subst, Ok}
use Rattle.ua_loopback.specs.Replies.{lane_back_by_token}
use Rattle.ua_loopback.specs.Talking.{answers_in, newest_in, state_in}
use Rattle.ua_headline.specs.AsAnswered.{replies_of_services}
use Rattle.ua_headline.proofs.AsAnswered.{AreEncodable, all_given, rounds_encodable, same_there, sound_turns}
use Rattle.ua_headline.proofs.reply_laws.talked_replies_are_the_responses.Goals as goal

pub returns : goal.returns
returns g c = record {
  replied = λ replies t requests x y before after found talks k sound.
      let dated = talks.talks.dated in
      let a = k.answers talks.site talks.talks.talking.served.serving.together.stands in
      same_there (replies found)
      (replies_of_services (lane_back_by_token t.server t.limits t.url (newest_in t)) (state_in t) t.server.moments (answers_in t) requests)
      (c.calls_go_on.ensures.replied replies t requests x y before after (Ok found) talks k
      ∙ all_given (lane_back_by_token t.server t.limits t.url (newest_in t)) (state_in t) t.server.moments (answers_in t) requests
      (sound_turns t.server.first t.server.moments 1 t.turns sound dated) dated (subst AreEncodable (sym a.parts) (rounds_encodable a.rounds)));
}
