use Rattle.std.proofs.Common.{refl}
use Rattle.ua_server.proofs.serving.Serving.new.Goals as goal

pub returns : goal.returns
returns c = record {
  limits_is = c.new.ensures.limits;
  channel_is = c.new.ensures.channel;
  stands = c.new.ensures.history;
  none_kept = refl;
  not_greeted = refl;
  none_written = refl;
}
