-- The StatusCodes of the errors of requests (OPC 10000-4, 7.39; OPC 10000-6, A.2).
use Rattle.std.specs.Prelude.{ℕ}

-- BadDecodingError: the bytes are no request
abbrev pub bad_decoding_error : ℕ
bad_decoding_error = 0x8007_0000

-- BadServiceUnsupported: their NodeId announces no request of these services
abbrev pub bad_service_unsupported : ℕ
bad_service_unsupported = 0x800B_0000

-- BadNothingToDo: there are no items
abbrev pub bad_nothing_to_do : ℕ
bad_nothing_to_do = 0x800F_0000

-- BadTooManyOperations: there are more items than the greatest number
abbrev pub bad_too_many_operations : ℕ
bad_too_many_operations = 0x8010_0000

-- BadIdentityTokenRejected: the identity is neither none nor anonymous
abbrev pub bad_identity_token_rejected : ℕ
bad_identity_token_rejected = 0x8021_0000

-- BadSessionIdInvalid: there is no session, or the token is not its own
abbrev pub bad_session_id_invalid : ℕ
bad_session_id_invalid = 0x8025_0000

-- BadSessionNotActivated: the session is not activated
abbrev pub bad_session_not_activated : ℕ
bad_session_not_activated = 0x8027_0000

-- BadTimestampsToReturnInvalid: the number names no timestamps
abbrev pub bad_timestamps_to_return_invalid : ℕ
bad_timestamps_to_return_invalid = 0x802B_0000

-- BadTooManySessions: there is a session, or the most sessions were made
abbrev pub bad_too_many_sessions : ℕ
bad_too_many_sessions = 0x8056_0000

-- BadMaxAgeInvalid: the bit pattern of the age is above that of -0
abbrev pub bad_max_age_invalid : ℕ
bad_max_age_invalid = 0x8070_0000

-- BadResponseTooLarge: the client takes no such body
abbrev pub bad_response_too_large : ℕ
bad_response_too_large = 0x80B9_0000
