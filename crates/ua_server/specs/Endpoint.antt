-- How a server describes itself (OPC 10000-4, 5.5.4 and 7.14).
use Rattle.std.specs.Prelude.{ℕ, pos, List, [], ◌∷◌, Bool, true, false, ◌||◌, IsTrue, Option, Some, None, codes}
use Rattle.std.specs.List.{list_any}
use Rattle.std.specs.Str.{bytes_eq}
use Rattle.ua_builtin.specs.Counted.{text}
use Rattle.ua_structures.specs.Plain.{application_of}
use Rattle.ua_structures.specs.declared.discovery.EndpointDescription.{EndpointDescription}
use Rattle.ua_structures.specs.declared.discovery.UserTokenPolicy.{UserTokenPolicy}
use Rattle.ua_nodes.specs.Write.{has_none}
use Rattle.ua_server.specs.declared.endpoint.Endpoint.{Endpoint}

-- the SecurityPolicy None (OPC 10000-7, 6.2)
abbrev pub none_security_policy : List ℕ
none_security_policy = codes "http://opcfoundation.org/UA/SecurityPolicy#None"

-- UA TCP with secure conversation and binary encoding (OPC 10000-7, 6.6)
abbrev pub transport_profile : List ℕ
transport_profile = codes "http://opcfoundation.org/UA-Profile/Transport/uatcp-uasc-uabinary"

-- the one token policy: without a name; its type is 0, Anonymous (OPC 10000-4, 7.42)
abbrev pub anonymous : UserTokenPolicy
anonymous = record {
  policy_id = Some (codes "anonymous");
  token_type = pos 0;
  issued_token_type = None;
  issuer_endpoint_url = None;
  security_policy_uri = None;
}

-- the one endpoint: a server that is found at its one address, with the security mode 1, None, and
-- all else null
abbrev pub description_of : Endpoint → EndpointDescription
description_of e = record {
  endpoint_url = e.url;
  server = application_of (pos 0) e.application_uri e.name (Some (e.url ∷ []));
  server_certificate = None;
  security_mode = pos 1;
  security_policy_uri = Some none_security_policy;
  user_identity_tokens = Some (anonymous ∷ []);
  transport_profile_uri = Some transport_profile;
  security_level = 0;
}

-- a profile is that of the endpoint
abbrev pub is_served : Option (List ℕ) → Bool
is_served None = false
is_served (Some profile) = bytes_eq profile transport_profile

-- profiles request the endpoint if there are none, or one of them is its own (OPC 10000-4, 5.5.4)
abbrev pub are_served : Option (List (Option (List ℕ))) → Bool
are_served None = true
are_served (Some profiles) = has_none profiles || list_any is_served profiles

-- the texts of the endpoint can be encoded
pub record IsEndpointEncodable (e : Endpoint) : Type 0 where
  pub url : IsTrue (text.encodable e.url)
  pub application_uri : IsTrue (text.encodable e.application_uri)
  pub name : IsTrue (text.encodable e.name)
