-- Which token policy of a server's endpoints a client uses.
use Rattle.std.specs.Prelude.{◌&&◌, ℕ, pos, Bool, false, List, [], Option, Some, None, option_map, is_some, codes}
use Rattle.std.specs.Ordering.{int_eq}
use Rattle.std.specs.List.{find}
use Rattle.std.specs.Str.{bytes_eq}
use Rattle.ua_structures.specs.declared.discovery.EndpointDescription.{EndpointDescription}
use Rattle.ua_structures.specs.declared.discovery.UserTokenPolicy.{UserTokenPolicy}

-- the items of an array, none if it is null
abbrev pub array_items : {A : Type 0} → Option (List A) → List A
array_items None = []
array_items (Some items) = items

-- a text that is not null is these bytes
abbrev pub is_text_of : List ℕ → Option (List ℕ) → Bool
is_text_of octets None = false
is_text_of octets (Some text) = bytes_eq text octets

-- an endpoint without security: the SecurityPolicy None, and the MessageSecurityMode None, 1 (OPC
-- 10000-4, 7.14 and 7.20)
abbrev pub is_unsecured : EndpointDescription → Bool
is_unsecured endpoint = int_eq endpoint.security_mode (pos 1) && is_text_of (codes "http://opcfoundation.org/UA/SecurityPolicy#None")
    endpoint.security_policy_uri

-- an endpoint that is reached by UA TCP: its transport profile is that of UA TCP,
-- UA-SecureConversation and UA Binary (OPC 10000-4, 7.14)
abbrev pub is_tcp : EndpointDescription → Bool
is_tcp endpoint = is_text_of (codes "http://opcfoundation.org/UA-Profile/Transport/uatcp-uasc-uabinary") endpoint.transport_profile_uri

-- a token policy for users without a name: the UserTokenType Anonymous, 0 (OPC 10000-4, 7.42 and
-- 7.43)
abbrev pub is_anonymous : UserTokenPolicy → Bool
is_anonymous policy = int_eq policy.token_type (pos 0)

-- the PolicyId of the first anonymous token policy of an endpoint, which may be null
abbrev pub anonymous_id_in : Option EndpointDescription → Option (Option (List ℕ))
anonymous_id_in None = None
anonymous_id_in (Some endpoint) = option_map (λ (policy : UserTokenPolicy). policy.policy_id) (find is_anonymous (array_items endpoint.user_identity_tokens))

-- an endpoint by which a session can be begun: without security, by UA TCP, and with an anonymous
-- token policy
abbrev pub is_fit : EndpointDescription → Bool
is_fit endpoint = is_unsecured endpoint && (is_tcp endpoint && is_some (anonymous_id_in (Some endpoint)))

-- the PolicyId of the first anonymous token policy of the first such endpoint
unfoldable pub chosen_id : List EndpointDescription → Option (Option (List ℕ))
chosen_id endpoints = anonymous_id_in (find is_fit endpoints)
