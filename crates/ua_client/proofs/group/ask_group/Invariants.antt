use Rattle.std.proofs.Common.{◌≤◌, ◌+◌, length, take}
use Rattle.ua_client.specs.Sent.{asked_len, last_len}
use Rattle.ua_client.proofs.Askings.{Asked}
use Rattle.ua_client.proofs.group.ask_group.Given as goal

abbrev pub invariant-loop-body : goal.invariant-loop-body
invariant-loop-body l = record {
  asked : Asked (take l.body-index l.bodies) l.fn.channel l.channel l.octets.items l.first;
  len : asked_len l.calls.items + last_len l.last ≤ length l.octets.items;
}
