-- A server's channel before any octet, and what it then holds.
use Rattle.std.proofs.Common.{◌≡◌, [], refl, sym, ◌∙◌, ap, subst}
use Rattle.ua_frame.specs.After.{each_after}
use Rattle.ua_frame.specs.Hello.{hello_gate}
use Rattle.ua_frame.specs.Reader.{open_reader}
use Rattle.ua_frame.proofs.Streams.{run_nil}
use Rattle.ua_channel.specs.declared.server.Phase.{Phase}
use Rattle.ua_channel.specs.declared.server.Phase.TheVariants.{Waiting}
use Rattle.ua_channel.specs.declared.server.ServerChannel.{ServerChannel}
use Rattle.ua_channel.specs.Received.{Received, received}
use Rattle.ua_channel.specs.ServerRules.{server_gate}
use Rattle.ua_channel.specs.ServerStands.{limits_of, rules_of, InServerPhase, bound_after, ChannelStands, Goes}
use Rattle.ua_channel.proofs.OneFrameMore.{received-nil}

pub stands_first : (x : ServerChannel) → x.end.reader ≡ open_reader hello_gate [] → x.end.phase ≡ Waiting → x.end.bound ≡ 8192 → ChannelStands x [] [] []
stands_first x reader phase bound = record {
  run = run_nil (rules_of x) (ap (λ (b : Received). b.closed) received-nil);
  reader_is = reader ∙ ap (λ (b : Received). open_reader (server_gate (limits_of x) b) []) (sym received-nil);
  placed = tt;
  phase_is = subst (λ (p : Phase). InServerPhase (limits_of x) p (received [])) (sym phase) received-nil;
  bound_is = bound ∙ sym (ap (bound_after (limits_of x)) received-nil);
}

pub goes_first : (x : ServerChannel) → ChannelStands x [] [] [] → Goes x [] []
unfolding each_after
goes_first x s = record { frames = []; rest = []; stands = s; told_is = refl }
