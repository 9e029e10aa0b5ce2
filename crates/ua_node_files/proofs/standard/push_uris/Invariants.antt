use Rattle.std.proofs.Common.{◌≡◌, ◌++◌, string_bytes, map, take}
use Rattle.ua_node_files.specs.Standard.{more_uris}
use Rattle.ua_node_files.proofs.standard.push_uris.Given as goal

-- the URIs so far were added
abbrev pub invariant-loop-uri : goal.invariant-loop-uri
invariant-loop-uri l = string_bytes l.out ≡ string_bytes l.fn.out ++ more_uris (map (λ uri. uri.now) (take l.uri-index l.uris))
