use Rattle.std.proofs.Common.{◌≡◌, true, take}
use Rattle.std.specs.List.{list_all}
use Rattle.ua_node_files.specs.Namespaces.{is_of_uri}
use Rattle.ua_node_files.proofs.namespace.are_of_uri.Given as goal

-- the octets so far are each one of a URI
abbrev pub invariant-loop-octet : goal.invariant-loop-octet
invariant-loop-octet l = list_all is_of_uri (take l.octet-index l.octets) ≡ true
