use Rattle.std.proofs.Common.{◌≡◌, drop}
use Rattle.ua_judge.specs.Begun.{begun_kind}
use Rattle.ua_judge.proofs.requests.message_kind.Given as goal

abbrev pub invariant-loop-message : goal.invariant-loop-message
invariant-loop-message l = begun_kind l.number l.begun l.own ≡ begun_kind l.number (drop l.message-index l.begun) l.own
