use Rattle.std.proofs.Common.{◌≡◌, take, false}
use Rattle.std.specs.List.{list_any}
use Rattle.ua_server.specs.Endpoint.{is_served}
use Rattle.ua_server.proofs.endpoint.has_own.Given as goal

abbrev pub invariant-loop-profile : goal.invariant-loop-profile
invariant-loop-profile l = list_any is_served (take l.profile-index l.profiles) ≡ false
