-- The fields of a ChannelSecurityToken, and of the response that holds them.
use Rattle.std.specs.Prelude.{[], ◌∷◌, codes}
use Rattle.ua_opening.specs.declared.secure_channel.OpenResponse.{OpenResponse}
use Rattle.ua_fields.specs.declared.security_token.SecurityToken.{SecurityToken}
use Rattle.ua_fields.specs.Tree.{Fields, structure, named}
use Rattle.ua_fields.specs.Leaves.{number_tree, byte_string_tree, date_time_tree}
use Rattle.ua_fields.specs.Header.{response_header_entries}

-- ChannelSecurityToken, a structure within the response (OPC 10000-4, 5.6.2)
unfoldable pub security_token_entries : SecurityToken → Fields
security_token_entries t = named (
    (codes "channel_id", number_tree t.channel_id)
    ∷ (codes "token_id", number_tree t.token_id)
    ∷ (codes "created_at", date_time_tree t.created_at)
    ∷ (codes "revised_lifetime", number_tree t.revised_lifetime)
    ∷ [])

-- the ChannelSecurityToken of a response
abbrev pub security_token_of : OpenResponse → SecurityToken
security_token_of m = record { channel_id = m.channel_id; token_id = m.token_id; created_at = m.created_at; revised_lifetime = m.revised_lifetime }

-- the response of OpenSecureChannel (OPC 10000-4, 5.6.2)
unfoldable pub open_response_entries : OpenResponse → Fields
open_response_entries m = named (
    (codes "response_header", structure (response_header_entries m.response_header))
    ∷ (codes "server_protocol_version", number_tree m.server_protocol_version)
    ∷ (codes "security_token", structure (security_token_entries (security_token_of m)))
    ∷ (codes "server_nonce", byte_string_tree m.server_nonce)
    ∷ [])
