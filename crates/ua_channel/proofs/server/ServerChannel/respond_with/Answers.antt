use Rattle.std.proofs.Common.{refl, ap, inl}
use Rattle.ua_channel.specs.Received.{received}
use Rattle.ua_channel.specs.ServerStands.{limits_of, channel_of}
use Rattle.ua_channel.specs.declared.end_core.EndCore.{EndCore}
use Rattle.ua_channel.specs.declared.server.Phase.{Phase}
use Rattle.ua_channel.specs.declared.server_rules.ServerRules.{ServerRules}
use Rattle.ua_channel.proofs.Replies.{goes_there, token_there, opening_there, no_opening, sent_is_no_fault, starved_is_open, closed_is_fed}
use Rattle.ua_channel.proofs.server.ServerChannel.respond_with.Goals as goal

pub returns-in_default-clause-not_open : goal.returns-in_default-clause-not_open
returns-in_default-clause-not_open c = (λ e. c.in_default.ensures.lane, λ none. refl)

pub returns-in_default-clause-unchanged : goal.returns-in_default-clause-unchanged
returns-in_default-clause-unchanged c = λ e. refl

pub returns-in_default-clause-before : goal.returns-in_default-clause-before
returns-in_default-clause-before c = λ octets frames rest s.
    (λ e. no_opening (limits_of c.args.self.now) c.args.self.now.end.phase (received frames) s.phase_is c.in_default.ensures.lane, λ none. refl)

pub returns-in_default-clause-failed : goal.returns-in_default-clause-failed
returns-in_default-clause-failed c = closed_is_fed

pub reply_in_place-requires-clause-room : goal.reply_in_place-requires-clause-room
reply_in_place-requires-clause-room c = c.in-Some.ensures.room

pub reply_in_place-requires-clause-size : goal.reply_in_place-requires-clause-size
reply_in_place-requires-clause-size c = c.in-Some.ensures.size

pub reply_in_place-requires-clause-body : goal.reply_in_place-requires-clause-body
reply_in_place-requires-clause-body c = c.requires

pub returns-in-Ok-clause-stands : goal.returns-in-Ok-clause-stands
returns-in-Ok-clause-stands c = λ octets frames rest s.
    record { run = s.run; placed = s.placed; reader_is = s.reader_is; phase_is = s.phase_is; bound_is = s.bound_is }

pub returns-in-Ok-clause-sent : goal.returns-in-Ok-clause-sent
returns-in-Ok-clause-sent c = λ octets frames rest s. (
  c.in-Some.lane,
  goes_there (limits_of c.args.self.now) (channel_of c.args.self.now) c.args.self.now.end.phase (received frames) c.in-Some.lane s.phase_is
      c.in-Some.ensures.lane,
  c.in-Ok.ensures.octets,
  c.in-Ok.ensures.abort,
)

pub returns-in-Ok-clause-not_open : goal.returns-in-Ok-clause-not_open
returns-in-Ok-clause-not_open c =
    (sent_is_no_fault _ _, token_there (channel_of c.args.self.now) c.args.self.now.end.phase c.in-Some.lane c.in-Some.ensures.lane)

pub returns-in-Ok-clause-unchanged : goal.returns-in-Ok-clause-unchanged
returns-in-Ok-clause-unchanged c = sent_is_no_fault _ _

pub returns-in-Ok-clause-before : goal.returns-in-Ok-clause-before
returns-in-Ok-clause-before c = λ octets frames rest s. (
  sent_is_no_fault _ _,
  opening_there (limits_of c.args.self.now) (channel_of c.args.self.now) c.args.self.now.end.phase (received frames) c.in-Some.lane s.phase_is
      c.in-Some.ensures.lane,
)

pub returns-in-Ok-clause-failed : goal.returns-in-Ok-clause-failed
returns-in-Ok-clause-failed c = sent_is_no_fault _ _

pub returns-in_default-clause-left : goal.returns-in_default-clause-left
returns-in_default-clause-left c = inl refl

pub returns-in-Ok-clause-left : goal.returns-in-Ok-clause-left
returns-in-Ok-clause-left c = c.in-Ok.ensures.left

pub returns-in-Err-clause-left : goal.returns-in-Err-clause-left
returns-in-Err-clause-left c = c.in-Err.ensures.left

pub returns-in-Err-clause-kept : goal.returns-in-Err-clause-kept
returns-in-Err-clause-kept c = c.in-Err.ensures.kept

pub returns-in-Err-clause-not_open : goal.returns-in-Err-clause-not_open
returns-in-Err-clause-not_open c = (starved_is_open, token_there (channel_of c.args.self.now) c.args.self.now.end.phase c.in-Some.lane c.in-Some.ensures.lane)

pub returns-in-Err-clause-unchanged : goal.returns-in-Err-clause-unchanged
returns-in-Err-clause-unchanged c = starved_is_open

pub returns-in-Err-clause-before : goal.returns-in-Err-clause-before
returns-in-Err-clause-before c = λ octets frames rest s. (
  starved_is_open,
  opening_there (limits_of c.args.self.now) (channel_of c.args.self.now) c.args.self.now.end.phase (received frames) c.in-Some.lane s.phase_is
      c.in-Some.ensures.lane,
)

pub returns-in-Err-clause-failed : goal.returns-in-Err-clause-failed
returns-in-Err-clause-failed c = λ e. c.fail.ensures.done

pub returns-in-Err-clause-bound : goal.returns-in-Err-clause-bound
returns-in-Err-clause-bound c = ap (λ (x : EndCore ServerRules Phase). x.bound) c.fail.ensures.kept

pub returns-in-Err-clause-limits : goal.returns-in-Err-clause-limits
returns-in-Err-clause-limits c = ap (λ (x : EndCore ServerRules Phase). x.rules.limits) c.fail.ensures.kept

pub returns-in-Err-clause-channel : goal.returns-in-Err-clause-channel
returns-in-Err-clause-channel c = ap (λ (x : EndCore ServerRules Phase). x.rules.channel) c.fail.ensures.kept
