use Rattle.std.proofs.Common.{◌≡◌, None, length, take, drop}
use Rattle.ua_channel.specs.Client.{phase_of}
use Rattle.ua_client.specs.Sent.{bodies_of, group_refusal}
use Rattle.ua_client.proofs.group.judge_group.Given as goal

abbrev pub invariant-loop-message : goal.invariant-loop-message
invariant-loop-message l = record {
  refusal : group_refusal (phase_of l.channel) 0 l.requests ≡ group_refusal (phase_of l.channel) l.message-index (drop l.message-index l.requests);
  none : group_refusal (phase_of l.channel) 0 (take l.message-index l.requests) ≡ None;
  bodies : l.bodies.items ≡ bodies_of (take l.message-index l.requests);
  count : length l.bodies.items ≡ l.message-index;
}
